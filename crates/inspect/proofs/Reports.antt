-- All that is written of the pieces of an input is the report on the input.
use Rattle.std.proofs.Common.{◌≡◌, ℕ, ◌+◌, ◌-◌, ◌^◌, ◌≤◌, List, [], ◌∷◌, ◌++◌, sym, refl, ap, ◌∙◌, append_assoc, zero-add, arith}
use native.Mathlib.Nat.{min-le_right}
use Rattle.std.proofs.lemmas.List.Concat.{flat_map-append}
use Rattle.std.specs.List.{flat_map}
use Rattle.inspect.specs.declared.datagram.LineKind.{LineKind}
use Rattle.inspect.specs.declared.datagram.LineKind.TheVariants.{Message, Fault, Other}
use Rattle.inspect.specs.declared.stream.Tally.{Tally}
use Rattle.inspect.specs.Line.{line_text, line_kind}
use Rattle.inspect.specs.Lines.{lines_in, line_after, last_line, all_lines}
use Rattle.inspect.specs.Counts.{at_most, counted, counted_all, same_kind, how_many, tally_of, totals}
use Rattle.inspect.specs.Stream.{State, report, fed, fresh, answers, closing, told}
use Rattle.inspect.specs.Laws.{WholeReport}
use Rattle.inspect.proofs.Pieces.{counted_all_append, fed_append, answers_append}

-- The pieces one after the other.
abbrev whole : List (List ℕ) → List ℕ
whole pieces = flat_map (λ piece. piece) pieces

told_whole : (s : State) (pieces : List (List ℕ)) → told s pieces ≡ answers s (whole pieces) ++ closing (fed s (whole pieces))
told_whole s [] = refl
told_whole s (piece ∷ pieces) =
    let rest = whole pieces in
    ap (λ l. answers s piece ++ l) (told_whole (fed s piece) pieces)
    ∙ sym (append_assoc (answers s piece) (answers (fed s piece) rest) (closing (fed (fed s piece) rest)))
    ∙ sym (λ i. answers_append s piece rest i ++ closing (fed_append s piece rest i))

-- The count of a kind.
abbrev count : LineKind → Tally → ℕ
count Message t = t.messages
count Fault t = t.faults
count Other t = t.others

abbrev Small : ℕ → Type 0
Small n = n ≤ 2 ^ 64 - 1

small_stays : (n : ℕ) → Small n → n ≡ at_most (n + 0)
small_stays n h = omega arith

counted_one : (kind other : LineKind) (t : Tally) → Small (count kind t) → count kind (counted other t) ≡ at_most (count kind t + same_kind kind other)
counted_one Message Message t h = refl
counted_one Message Fault t h = small_stays t.messages h
counted_one Message Other t h = small_stays t.messages h
counted_one Fault Message t h = small_stays t.faults h
counted_one Fault Fault t h = refl
counted_one Fault Other t h = small_stays t.faults h
counted_one Other Message t h = small_stays t.others h
counted_one Other Fault t h = small_stays t.others h
counted_one Other Other t h = refl

at_most_twice : (a b c : ℕ) → at_most (at_most (a + b) + c) ≡ at_most (a + (b + c))
at_most_twice a b c = omega arith

counted_many : (kind : LineKind) (t : Tally) (lines : List (List ℕ)) → Small (count kind t) → count kind (counted_all t lines) ≡ at_most (count kind t + how_many kind lines)
counted_many kind t [] h = small_stays (count kind t) h
counted_many kind t (line ∷ lines) h =
    let one = counted_one kind (line_kind line) t h in
    let small : Small (count kind (counted (line_kind line) t)) = rw one (min-le_right _ _) in
    counted_many kind (counted (line_kind line) t) lines small
    ∙ ap (λ n. at_most (n + how_many kind lines)) one
    ∙ at_most_twice (count kind t) (same_kind kind (line_kind line)) (how_many kind lines)

none_yet : (kind : LineKind) → count kind fresh.tally ≡ 0
none_yet Message = refl
none_yet Fault = refl
none_yet Other = refl

counted_from_none : (kind : LineKind) (lines : List (List ℕ)) → count kind (counted_all fresh.tally lines) ≡ at_most (how_many kind lines)
counted_from_none kind lines =
    counted_many kind fresh.tally lines (omega (arith, none_yet kind)) ∙ ap (λ n. at_most (n + how_many kind lines)) (none_yet kind) ∙ ap at_most (zero-add (how_many kind lines))

tallied : (lines : List (List ℕ)) → counted_all fresh.tally lines ≡ tally_of lines
tallied lines = λ i. record { messages = counted_from_none Message lines i; faults = counted_from_none Fault lines i; others = counted_from_none Other lines i }

report_closed : (input : List ℕ) → answers fresh input ++ closing (fed fresh input) ≡ report input
report_closed input =
    let ended = lines_in [] input in
    let last = last_line (line_after [] input) in
    sym (append_assoc (flat_map line_text ended) (flat_map line_text last) (totals (counted_all (counted_all fresh.tally ended) last)))
    ∙ (λ i. sym (flat_map-append line_text ended last) i ++ totals ((sym (counted_all_append fresh.tally ended last) ∙ tallied (all_lines input)) i))

pub whole_report : WholeReport
whole_report pieces = told_whole fresh pieces ∙ report_closed (whole pieces)
