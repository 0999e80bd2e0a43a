-- What is true of the lines of answers.
use Rattle.std.specs.Prelude.{◌≡◌, ◌^◌, ◌<◌}
use Rattle.std.specs.List.{AllByRecursion}
use Rattle.server.specs.Calls.{Answer, Reply, Silent, Refused, Tallied}
use Rattle.lines.specs.Lines.{answer_line}

-- Bytes are below 256, and numbers have at most 64 bits.
abbrev pub Fitting : Answer → Type 0
Fitting (Reply reply) = AllByRecursion (λ b. b < 256) reply
Fitting (Silent number) = number < 2 ^ 64
Fitting (Refused number) = number < 2 ^ 64
Fitting (Tallied counts) = (counts.done < 2 ^ 64) × (counts.repeated < 2 ^ 64) × (counts.silenced < 2 ^ 64) × (counts.dropped < 2 ^ 64)

-- Different answers never have the same line.
abbrev pub LinesTellAnswersApart : Type 0
LinesTellAnswersApart = (a b : Answer) → Fitting a → Fitting b → answer_line a ≡ answer_line b → a ≡ b
