-- An input as lines.
use Rattle.std.specs.Prelude.{ℕ, cond, List, [], ◌∷◌, ◌++◌, ◌==◌}

-- The lines that end in these bytes, where the bytes `begun` of the first line came before.
abbrev pub lines_in : List ℕ → List ℕ → List (List ℕ)
lines_in begun [] = []
lines_in begun (b ∷ bs) = cond (b == 10) (begun ∷ lines_in [] bs) (lines_in (begun ++ b ∷ []) bs)

-- The bytes of the line that has not ended then.
abbrev pub line_after : List ℕ → List ℕ → List ℕ
line_after begun [] = begun
line_after begun (b ∷ bs) = cond (b == 10) (line_after [] bs) (line_after (begun ++ b ∷ []) bs)

-- At the end of the input these bytes are a line too, unless there are none.
abbrev pub last_line : List ℕ → List (List ℕ)
last_line [] = []
last_line (b ∷ bs) = (b ∷ bs) ∷ []

-- All the lines of an input.
abbrev pub all_lines : List ℕ → List (List ℕ)
all_lines input = lines_in [] input ++ last_line (line_after [] input)
