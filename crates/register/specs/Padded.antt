-- Room for a number of things, of which some lie first, and a filler behind them.
use Rattle.std.specs.Prelude.{◌≡◌, ℕ, ◌-◌, ◌≤◌, List, [], ◌∷◌, ◌++◌, length, take, replicate}

-- the things, and the filler up to n
abbrev pub pad : {A : Type 0} → A → ℕ → List A → List A
pad filler n xs = xs ++ replicate (n - length xs) filler

-- the first `count` of the room are held, and the rest is filler
pub record IsPadded {A : Type 0} (filler : A) (n count : ℕ) (room : List A) : Type 0 where
  pub size : length (take count room) ≡ count
  pub within : count ≤ n
  pub padded : pad filler n (take count room) ≡ room

-- the segment behind those that a path holds
abbrev pub filler : List ℕ
filler = 0 ∷ []
