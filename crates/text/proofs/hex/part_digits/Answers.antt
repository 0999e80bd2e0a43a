use Rattle.std.proofs.Common.{arith, rules}
use Rattle.std.proofs.lemmas.List.{length-set}
use Rattle.text.proofs.Digits.{ascii_text, pair_written}
use Rattle.text.proofs.hex.part_digits.Goals as goal

pub loop-i-preserved : goal.loop-i-preserved
loop-i-preserved c = (
  search (rules, length-set),
  pair_written c.args.bytes.now c.loop-i.text c.loop-i.i _ _ c.loop-i-test.true (omega arith) (search rules) (search rules) c.loop-i.invariant.1,
)

pub returns-clause-ascii : goal.returns-clause-ascii
returns-clause-ascii c = ascii_text c.args.bytes.now (λ k. omega (arith, c.type_inv.bytes k))
