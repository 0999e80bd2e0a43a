-- The line that answers a line of input.
use Rattle.std.specs.Prelude.{ℕ, List, ◌++◌, Some, None, codes, Option}
use Rattle.text.specs.Hex.{hex_bytes}
use Rattle.inspect.specs.declared.datagram.LineKind.{LineKind}
use Rattle.inspect.specs.declared.datagram.LineKind.TheVariants.{Other}
use Rattle.text.specs.Lines.{line_feed}
use Rattle.inspect.specs.Datagram.{datagram_text, datagram_kind}

-- The answer to the bytes that a line of input writes, where it writes any, and what the line is.
abbrev pub answer_text : Option (List ℕ) → List ℕ
answer_text None = codes "not hex" ++ line_feed
answer_text (Some d) = datagram_text d

abbrev pub answer_kind : Option (List ℕ) → LineKind
answer_kind None = Other
answer_kind (Some d) = datagram_kind d

abbrev pub line_text : List ℕ → List ℕ
line_text line = answer_text (hex_bytes line)

abbrev pub line_kind : List ℕ → LineKind
line_kind line = answer_kind (hex_bytes line)
