-- Lines of text.
use Rattle.std.specs.Prelude.{ℕ, List, [], ◌∷◌}

-- What ends a line.
abbrev pub line_feed : List ℕ
line_feed = 10 ∷ []
