use Rattle.std.proofs.Common.{replicate, sym, ◌∙◌}
use Rattle.std.proofs.lemmas.Slice.Eq.{slice_eq-Decides}
use Rattle.inspect.proofs.Rewritten.{written_again}
use Rattle.inspect.proofs.datagram.same_again.Goals as goal
use Rattle.std.proofs.lemmas.Bool.Decides.{Decides-eqb}

pub returns-in-Ok : goal.returns-in-Ok
returns-in-Ok c =
    let w = written_again c.args.datagram.now (replicate 480 0) c.transcribe.new.out c.in-Ok.size c.in-Ok.ensures.answer c.transcribe.ensures.buffer in
    (slice_eq-Decides Decides-eqb _ _ _ c.eq.ensures).1 w.1 ∙ sym w.0
