-- An input that comes in pieces.
use Rattle.std.proofs.Common.{◌≡◌, ℕ, true, false, cond, eqb, List, [], ◌∷◌, ◌++◌, refl, ap, ◌∙◌}
use Rattle.std.proofs.lemmas.List.Concat.{flat_map-append}
use Rattle.std.specs.List.{flat_map}
use Rattle.inspect.specs.declared.stream.Tally.{Tally}
use Rattle.inspect.specs.Line.{line_text, line_kind}
use Rattle.inspect.specs.Lines.{lines_in, line_after}
use Rattle.inspect.specs.Counts.{counted, counted_all}
use Rattle.inspect.specs.Stream.{State, fed, answers}
use Rattle.inspect.specs.Laws.{FedInParts}

lines_in_append : (begun a b : List ℕ) → lines_in begun (a ++ b) ≡ lines_in begun a ++ lines_in (line_after begun a) b
lines_in_append begun [] b = refl
lines_in_append begun (x ∷ a) b =
    elim (eqb x 10) as (λ t. cond t (begun ∷ lines_in [] (a ++ b)) (lines_in (begun ++ x ∷ []) (a ++ b)) ≡ cond t (begun ∷ lines_in [] a) (lines_in (begun ++ x ∷ []) a) ++ lines_in (cond t (line_after [] a) (line_after (begun ++ x ∷ []) a)) b) [
      | true ↦ ap (λ ls. begun ∷ ls) (lines_in_append [] a b)
      | false ↦ lines_in_append (begun ++ x ∷ []) a b
    ]

line_after_append : (begun a b : List ℕ) → line_after begun (a ++ b) ≡ line_after (line_after begun a) b
line_after_append begun [] b = refl
line_after_append begun (x ∷ a) b =
    elim (eqb x 10) as (λ t. cond t (line_after [] (a ++ b)) (line_after (begun ++ x ∷ []) (a ++ b)) ≡ line_after (cond t (line_after [] a) (line_after (begun ++ x ∷ []) a)) b) [
      | true ↦ line_after_append [] a b
      | false ↦ line_after_append (begun ++ x ∷ []) a b
    ]

pub counted_all_append : (t : Tally) (xs ys : List (List ℕ)) → counted_all t (xs ++ ys) ≡ counted_all (counted_all t xs) ys
counted_all_append t [] ys = refl
counted_all_append t (x ∷ xs) ys = counted_all_append (counted (line_kind x) t) xs ys

pub fed_append : (s : State) (a b : List ℕ) → fed s (a ++ b) ≡ fed (fed s a) b
fed_append s a b = λ i. record {
  line = line_after_append s.line a b i;
  tally = (ap (counted_all s.tally) (lines_in_append s.line a b) ∙ counted_all_append s.tally (lines_in s.line a) (lines_in (line_after s.line a) b)) i;
}

pub answers_append : (s : State) (a b : List ℕ) → answers s (a ++ b) ≡ answers s a ++ answers (fed s a) b
answers_append s a b = ap (flat_map line_text) (lines_in_append s.line a b) ∙ flat_map-append line_text (lines_in s.line a) (lines_in (line_after s.line a) b)

pub fed_in_parts : FedInParts
fed_in_parts = record { state = fed_append; text = answers_append }
