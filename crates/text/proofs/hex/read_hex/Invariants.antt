use Rattle.std.proofs.Common.{vec_items}
use Rattle.text.proofs.Pairs.{Sofar}
use Rattle.text.proofs.hex.read_hex.Given as goal

abbrev pub invariant-loop-c : goal.invariant-loop-c
invariant-loop-c l = Sofar l.line l.c-index (vec_items l.bytes) l.high
