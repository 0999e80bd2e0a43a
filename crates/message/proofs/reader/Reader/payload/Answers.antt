use Rattle.std.proofs.Common.{length, Ok, Err, sym, ap, ◌∙◌, arith}
use Rattle.std.proofs.lemmas.Result.{err_from_is_err_and}
use Rattle.message.specs.Reading.{read_option, options_of, read_answer, payload_after}
use Rattle.message.proofs.Walks.{turn, Drew, payload_more}
use Rattle.message.proofs.reader.Reader.payload.Goals as goal

-- what `next` found
_option : (c : goal.In-Some) → Drew c.loop-option.rest c.next.new.self (read_option c.in-Some._option)
_option c = turn c.loop-option.rest c.next.new.self _ (ap (λ o. read_answer (Ok o)) (sym c.in-Some.is) ∙ c.in_ok-_option.ensures.answer) c.next.ensures.after

pub returns-in_err-_option : goal.returns-in_err-_option
returns-in_err-_option c =
    let p = err_from_is_err_and c.from_residual.result c.from_residual.ensures.1 in
    let f = turn c.loop-option.rest c.next.new.self _ c.in_err-_option.ensures.answer c.next.ensures.after in
    rw (p.1, p.2) (sym c.loop-option.invariant.1 ∙ ap (payload_after c.args.self.now.datagram.now) f.1 ∙ ap Err (sym f.2))

pub loop-option-smaller : goal.loop-option-smaller
loop-option-smaller c = let o = _option c in omega (arith, o.forward, o.inside, ap (λ r. length r.now) c.loop-option.invariant.0)

pub loop-option-preserved : goal.loop-option-preserved
loop-option-preserved c =
    let o = _option c in
    let d = c.args.self.now.datagram.now in
    (o.same ∙ c.loop-option.invariant.0, payload_more d (read_option c.in-Some._option) (options_of c.next.new.self) ∙ ap (payload_after d) (sym o.left) ∙ c.loop-option.invariant.1)
