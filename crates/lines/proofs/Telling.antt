-- Different answers have different lines.
use Rattle.std.proofs.Common.{◌≡◌, ℕ, ◌+◌, ◌%◌, ◌^◌, ◌<◌, ◌≤◌, List, [], ◌∷◌, ◌++◌, get_or, Some, codes, decimal, sym, refl, ap, ◌∙◌, append_assoc, arith}
use Rattle.std.proofs.lemmas.Fmt.{decimal_by_steps, decimal_injective}
use Rattle.std.proofs.ByRecursion.{All-push}
use Rattle.std.proofs.lemmas.List.{append_cancel_left, append_cancel_right}
use Rattle.std.specs.List.{AllByRecursion}
use Rattle.text.proofs.Trips.{hex_round_trip}
use Rattle.text.specs.Hex.{hex_bytes, hex_text}
use Rattle.server.specs.Calls.{Reply, Silent, Refused, Tallied, Counts}
use Rattle.text.specs.Lines.{line_feed}
use Rattle.lines.specs.Lines.{number_text, answer_line}
use Rattle.lines.specs.Laws.{Fitting, LinesTellAnswersApart}

-- No character comes before the digit 0, so none is a blank or a line feed.
abbrev Dark : List ℕ → Type 0
Dark text = AllByRecursion (λ c. 48 ≤ c) text

dark_decimal : (n : ℕ) → n < 2 ^ 64 → Dark (decimal n)
dark_decimal =
    decimal_by_steps
    (λ _ text. Dark text)
    (λ n small. (omega arith, tt))
    (λ n text large dark. All-push (λ c. 48 ≤ c) text (48 + n % 10) dark (omega arith))

-- Where two lines are the same, so are their texts up to a first blank or line feed, and what follows it.
parted : (s : ℕ) → s < 48 → (a b r q : List ℕ) → Dark a → Dark b → a ++ s ∷ r ≡ b ++ s ∷ q → (a ≡ b) × (r ≡ q)
parted s low [] [] r q da db e = (refl, cc)
parted s low [] (y ∷ b) r q da db e = let h : s ≡ y = cc in absurd (omega (arith, db.0))
parted s low (x ∷ a) [] r q da db e = let h : x ≡ s = cc in absurd (omega (arith, da.0))
parted s low (x ∷ a) (y ∷ b) r q da db e =
    let h : x ≡ y = cc in
    let t : a ++ s ∷ r ≡ b ++ s ∷ q = cc in
    let p = parted s low a b r q da.1 db.1 t in
    ((λ i. h i ∷ p.0 i), p.1)

-- The same for a number and what follows it.
number_parted : (s : ℕ) → s < 48 → (m n : ℕ) (r q : List ℕ) → m < 2 ^ 64 → n < 2 ^ 64 → decimal m ++ s ∷ r ≡ decimal n ++ s ∷ q → (m ≡ n) × (r ≡ q)
number_parted s low m n r q fm fn e =
    let p = parted s low (decimal m) (decimal n) r q (dark_decimal m fm) (dark_decimal n fn) e in
    (decimal_injective m n fm fn p.0, p.1)

same_reply : (a b : List ℕ) → AllByRecursion (λ c. c < 256) a → AllByRecursion (λ c. c < 256) b → answer_line (Reply a) ≡ answer_line (Reply b) → a ≡ b
same_reply a b fa fb e =
    let t = append_cancel_right (hex_text a) (hex_text b) line_feed (append_cancel_left (codes "reply ") (hex_text a ++ line_feed) (hex_text b ++ line_feed) e) in
    let same : Some a ≡ Some b = sym (hex_round_trip a fa) ∙ ap hex_bytes t ∙ hex_round_trip b fb in
    cc

same_number : (word : List ℕ) (m n : ℕ) → m < 2 ^ 64 → n < 2 ^ 64 → number_text word m ++ line_feed ≡ number_text word n ++ line_feed → m ≡ n
same_number word m n fm fn e = (number_parted 10 (omega arith) m n [] [] fm fn (append_cancel_left word (decimal m ++ line_feed) (decimal n ++ line_feed) (simp append_assoc at e))).0

-- A tally's line after its word.
abbrev counts_text : Counts → List ℕ
counts_text c = decimal c.done ++ 32 ∷ (decimal c.repeated ++ 32 ∷ (decimal c.silenced ++ 32 ∷ (decimal c.dropped ++ line_feed)))

tally_line_is : (c : Counts) → answer_line (Tallied c) ≡ codes "tally " ++ counts_text c
tally_line_is c = simp append_assoc

same_counts : (a b : Counts) → Fitting (Tallied a) → Fitting (Tallied b) → answer_line (Tallied a) ≡ answer_line (Tallied b) → a ≡ b
same_counts a b fa fb e =
    let counts = append_cancel_left (codes "tally ") (counts_text a) (counts_text b) (sym (tally_line_is a) ∙ e ∙ tally_line_is b) in
    let done = number_parted 32 (omega arith) a.done b.done _ _ fa.0 fb.0 counts in
    let repeated = number_parted 32 (omega arith) a.repeated b.repeated _ _ fa.1 fb.1 done.1 in
    let silenced = number_parted 32 (omega arith) a.silenced b.silenced _ _ fa.2 fb.2 repeated.1 in
    let dropped = number_parted 10 (omega arith) a.dropped b.dropped [] [] fa.3 fb.3 silenced.1 in
    λ i. record { done = done.0 i; repeated = repeated.0 i; silenced = silenced.0 i; dropped = dropped.0 i }

-- The first and the third character of a line, added: no two words have the same sum.
abbrev mark : List ℕ → ℕ
mark line = get_or line 0 0 + get_or line 2 0

pub lines_tell_answers_apart : LinesTellAnswersApart
lines_tell_answers_apart (Reply a) (Reply b) fa fb e = ap Reply (same_reply a b fa fb e)
lines_tell_answers_apart (Silent m) (Silent n) fa fb e = ap Silent (same_number (codes "silent ") m n fa fb e)
lines_tell_answers_apart (Refused m) (Refused n) fa fb e = ap Refused (same_number (codes "refused ") m n fa fb e)
lines_tell_answers_apart (Tallied a) (Tallied b) fa fb e = ap Tallied (same_counts a b fa fb e)
lines_tell_answers_apart (Reply a) (Silent b) fa fb e = absurd (omega (arith, ap mark e))
lines_tell_answers_apart (Reply a) (Refused b) fa fb e = absurd (omega (arith, ap mark e))
lines_tell_answers_apart (Reply a) (Tallied b) fa fb e = absurd (omega (arith, ap mark e))
lines_tell_answers_apart (Silent a) (Reply b) fa fb e = absurd (omega (arith, ap mark e))
lines_tell_answers_apart (Silent a) (Refused b) fa fb e = absurd (omega (arith, ap mark e))
lines_tell_answers_apart (Silent a) (Tallied b) fa fb e = absurd (omega (arith, ap mark e))
lines_tell_answers_apart (Refused a) (Reply b) fa fb e = absurd (omega (arith, ap mark e))
lines_tell_answers_apart (Refused a) (Silent b) fa fb e = absurd (omega (arith, ap mark e))
lines_tell_answers_apart (Refused a) (Tallied b) fa fb e = absurd (omega (arith, ap mark e))
lines_tell_answers_apart (Tallied a) (Reply b) fa fb e = absurd (omega (arith, ap mark e))
lines_tell_answers_apart (Tallied a) (Silent b) fa fb e = absurd (omega (arith, ap mark e))
lines_tell_answers_apart (Tallied a) (Refused b) fa fb e = absurd (omega (arith, ap mark e))
