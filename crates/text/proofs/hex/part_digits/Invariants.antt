use Rattle.std.proofs.Common.{◌≡◌, ◌*◌, ◌++◌, length, take, drop}
use Rattle.text.proofs.hex.part_digits.Given as goal
use Rattle.text.specs.Hex.{hex_text}

abbrev pub invariant-loop-i : goal.invariant-loop-i
invariant-loop-i l = (length l.text ≡ 64) × (take (2 * l.i) l.text ++ hex_text (drop l.i l.bytes) ≡ hex_text l.bytes)
