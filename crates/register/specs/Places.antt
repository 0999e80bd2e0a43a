-- The place rule, by which a table chooses the place for a new row: the first of those with the least expiry.
use Rattle.std.specs.Prelude.{ℕ, ◌+◌, min, Bool, cond, List, [], ◌∷◌, nat_eq}

-- the place of the first that passes a test, or the length where none does
abbrev pub first : {A : Type 0} → (A → Bool) → List A → ℕ
first p [] = 0
first p (x ∷ xs) = cond (p x) 0 (first p xs + 1)

abbrev pub least_from : ℕ → List ℕ → ℕ
least_from x [] = x
least_from x (y ∷ ys) = min x (least_from y ys)

abbrev pub least : List ℕ → ℕ
least [] = 0
least (x ∷ xs) = least_from x xs

abbrev pub place_in : List ℕ → ℕ
place_in expiries = first (λ x. nat_eq x (least expiries)) expiries
