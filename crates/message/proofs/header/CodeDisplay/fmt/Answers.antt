use Rattle.std.proofs.Common.{arith, ◌%◌, ◌/◌, refl}
use Rattle.std.proofs.Output.{has_written_of_eq}
use Rattle.std.proofs.lemmas.Fmt.{decimal_digit}
use Rattle.message.proofs.Printed.{two_digits}
use Rattle.message.proofs.header.CodeDisplay.fmt.Goals as goal

pub returns-clause-writes : goal.returns-clause-writes
returns-clause-writes g c = λ plain ok.
    let code = c.args.self.now.0 in
    has_written_of_eq g.W.Write.write_str_gives _ _ _ _ (rw (c.class-class.ensures.value, c.detail-detail.ensures, c.laid_out.ensures, decimal_digit (code / 32) (omega arith), two_digits (code % 32) (omega arith)) refl) (c.write.ensures.writes plain ok)
