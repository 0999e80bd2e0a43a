-- How many lines of each kind there are.
use Rattle.std.specs.Prelude.{ℕ, ◌+◌, ◌-◌, ◌^◌, min, List, [], ◌∷◌, ◌++◌, codes, decimal}
use Rattle.inspect.specs.declared.datagram.LineKind.{LineKind}
use Rattle.inspect.specs.declared.datagram.LineKind.TheVariants.{Message, Fault, Other}
use Rattle.inspect.specs.declared.stream.Tally.{Tally}
use Rattle.text.specs.Lines.{line_feed}
use Rattle.inspect.specs.Line.{line_kind}

-- A count has 64 bits, and stays at the largest number once it is there.
abbrev pub at_most : ℕ → ℕ
at_most n = min n (2 ^ 64 - 1)

-- The counts with a line of this kind more.
abbrev pub counted : LineKind → Tally → Tally
counted Message t = record { messages = at_most (t.messages + 1); faults = t.faults; others = t.others }
counted Fault t = record { messages = t.messages; faults = at_most (t.faults + 1); others = t.others }
counted Other t = record { messages = t.messages; faults = t.faults; others = at_most (t.others + 1) }

-- The counts with these lines more.
abbrev pub counted_all : Tally → List (List ℕ) → Tally
counted_all t [] = t
counted_all t (line ∷ lines) = counted_all (counted (line_kind line) t) lines

-- 1 where two kinds are the same, and else 0.
abbrev pub same_kind : LineKind → LineKind → ℕ
same_kind Message Message = 1
same_kind Message Fault = 0
same_kind Message Other = 0
same_kind Fault Message = 0
same_kind Fault Fault = 1
same_kind Fault Other = 0
same_kind Other Message = 0
same_kind Other Fault = 0
same_kind Other Other = 1

-- How many of these lines are of a kind.
abbrev pub how_many : LineKind → List (List ℕ) → ℕ
how_many kind [] = 0
how_many kind (line ∷ lines) = same_kind kind (line_kind line) + how_many kind lines

abbrev pub tally_of : List (List ℕ) → Tally
tally_of lines = record { messages = at_most (how_many Message lines); faults = at_most (how_many Fault lines); others = at_most (how_many Other lines) }

-- The last line of the output.
abbrev pub totals : Tally → List ℕ
totals t = codes "messages " ++ decimal t.messages ++ codes " faults " ++ decimal t.faults ++ codes " others " ++ decimal t.others ++ line_feed
