-- The output for an input, and what is written of an input that comes in pieces.
use Rattle.std.specs.Prelude.{ℕ, List, [], ◌∷◌, ◌++◌, vec_items}
use Rattle.std.specs.List.{flat_map}
use Rattle.inspect.specs.declared.stream.Stream.{Stream}
use Rattle.inspect.specs.declared.stream.Tally.{Tally}
use Rattle.inspect.specs.Line.{line_text, line_kind}
use Rattle.inspect.specs.Lines.{lines_in, line_after, last_line, all_lines}
use Rattle.inspect.specs.Counts.{counted, counted_all, tally_of, totals}

-- The output for an input: the answer to each line, and the counts.
abbrev pub report : List ℕ → List ℕ
report input = flat_map line_text (all_lines input) ++ totals (tally_of (all_lines input))

-- What is kept between pieces: the bytes of the line that has not ended, and the counts.
pub record State : Type 0 where
  pub line : List ℕ
  pub tally : Tally

abbrev pub state_of : Stream → State
state_of s = record { line = vec_items s.line; tally = s.tally }

-- What is kept before the first piece.
abbrev pub fresh : State
fresh = record { line = []; tally = record { messages = 0; faults = 0; others = 0 } }

-- What is kept once the line has ended.
abbrev pub line_ended : State → State
line_ended s = record { line = []; tally = counted (line_kind s.line) s.tally }

-- What is kept after a piece.
abbrev pub fed : State → List ℕ → State
fed s piece = record { line = line_after s.line piece; tally = counted_all s.tally (lines_in s.line piece) }

-- What is written of a piece: the answers to the lines that end in it.
abbrev pub answers : State → List ℕ → List ℕ
answers s piece = flat_map line_text (lines_in s.line piece)

-- What is written after the last piece: the answer to a line that no line feed ended, and the counts.
abbrev pub closing : State → List ℕ
closing s = flat_map line_text (last_line s.line) ++ totals (counted_all s.tally (last_line s.line))

-- All that is written of an input that comes in these pieces.
abbrev pub told : State → List (List ℕ) → List ℕ
told s [] = closing s
told s (piece ∷ pieces) = answers s piece ++ told (fed s piece) pieces
