-- The lines of an input are what stands between its line feeds.
use Rattle.std.proofs.Common.{◌≡◌, ℕ, eqb, List, [], ◌∷◌, ◌++◌, sym, ap, ◌∙◌, ⊎_elim, append_assoc, append-nil}
use Rattle.std.specs.List.{flat_map, AllByRecursion}
use Rattle.std.proofs.ByRecursion.{All-push}
use Rattle.std.proofs.lemmas.Bool.{cases_Bool, eqb-true, eqb-false}
use Rattle.text.specs.Lines.{line_feed}
use Rattle.inspect.specs.Lines.{lines_in, line_after}
use Rattle.inspect.specs.Laws.{SplitAtLineFeeds}

-- Lines with their line feeds, and what is left.
abbrev whole : List (List ℕ) → List ℕ → List ℕ
whole lines rest = flat_map (λ line. line ++ line_feed) lines ++ rest

whole_again : (begun input : List ℕ) → whole (lines_in begun input) (line_after begun input) ≡ begun ++ input
whole_again begun [] = sym (append-nil begun)
whole_again begun (x ∷ xs) = ⊎_elim
    (λ t. rw t (append_assoc (begun ++ line_feed) (flat_map (λ line. line ++ line_feed) (lines_in [] xs)) (line_after [] xs)
    ∙ ap (λ l. (begun ++ line_feed) ++ l) (whole_again [] xs)
    ∙ append_assoc begun line_feed xs
    ∙ ap (λ b. begun ++ (b ∷ xs)) (sym (eqb-true x 10 t))))
    (λ t. rw t (whole_again (begun ++ x ∷ []) xs ∙ append_assoc begun (x ∷ []) xs))
    (cases_Bool (eqb x 10))

abbrev Plain : List ℕ → Type 0
Plain line = AllByRecursion (λ b. b ≡ 10 → ⊥) line

plain : (begun input : List ℕ) → Plain begun → AllByRecursion Plain (lines_in begun input) × Plain (line_after begun input)
plain begun [] p = (tt, p)
plain begun (x ∷ xs) p = ⊎_elim
    (λ t. let more = plain [] xs tt in rw t ((p, more.0), more.1))
    (λ t. rw t (plain (begun ++ x ∷ []) xs (All-push (λ b. b ≡ 10 → ⊥) begun x p (eqb-false x 10 t))))
    (cases_Bool (eqb x 10))

pub split_at_line_feeds : SplitAtLineFeeds
split_at_line_feeds = record { again = whole_again []; lines = λ input. (plain [] input tt).0; rest = λ input. (plain [] input tt).1 }
