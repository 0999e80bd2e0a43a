use Rattle.std.proofs.Common.{◌≡◌, ◌+◌, ◌-◌, ◌≤◌, ◌++◌, length, drop, vec_items, vec_len, vec_capacity, decimal}
use Rattle.text.proofs.decimal.push_decimal.Given as goal

abbrev pub invariant-loop-digit : goal.invariant-loop-digit
invariant-loop-digit l = (vec_items l.out ++ drop l.digit-index l.digit-items ≡ vec_items l.initial.out ++ decimal l.n) × (vec_len l.out + (length l.digit-items - l.digit-index) ≤ vec_capacity l.out)
