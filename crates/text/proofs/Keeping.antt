-- What stays at the front of a text.
use Rattle.std.proofs.Common.{◌≡◌, ℕ, List, ◌++◌, length, take, refl, arith}
use Rattle.std.proofs.lemmas.List.{take_at, take_all}

pub kept_whole : (old : List ℕ) → take (length old) old ≡ old
kept_whole old = take_all (length old) old (omega arith)

pub kept_before : (old more : List ℕ) → take (length old) (old ++ more) ≡ old
kept_before old more = take_at old more (length old) refl
