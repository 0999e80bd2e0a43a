-- Where a piece leads to, and what is written at the end.
use Rattle.std.proofs.Common.{◌≡◌, ℕ, ◌<◌, List, [], ◌∷◌, ◌++◌, length, drop, refl, ap, append-nil, arith}
use Rattle.std.specs.List.{flat_map}
use Rattle.inspect.specs.declared.stream.Tally.{Tally}
use Rattle.inspect.specs.Line.{line_text, line_kind}
use Rattle.inspect.specs.Lines.{last_line}
use Rattle.inspect.specs.Counts.{counted, counted_all, totals}
use Rattle.inspect.specs.Stream.{State, fed, answers}

-- What is kept and what is written before the byte i of a piece leads to what the whole piece leads to.
pub record Leads (s : State) (out piece : List ℕ) (i : ℕ) (end : State) (all : List ℕ) : Type 0 where
  pub state : fed s (drop i piece) ≡ end
  pub text : out ++ answers s (drop i piece) ≡ all

-- What is written at the end, with a line that has begun and with none.
pub closed_line : (line : List ℕ) (t : Tally) → 0 < length line → flat_map line_text (last_line line) ++ totals (counted_all t (last_line line)) ≡ line_text line ++ totals (counted (line_kind line) t)
closed_line [] t some = absurd (omega arith)
closed_line (b ∷ bs) t some = ap (λ l. l ++ totals (counted (line_kind (b ∷ bs)) t)) (append-nil (line_text (b ∷ bs)))

pub closed_none : (line : List ℕ) (t : Tally) → length line ≡ 0 → flat_map line_text (last_line line) ++ totals (counted_all t (last_line line)) ≡ totals t
closed_none [] t none = refl
closed_none (b ∷ bs) t none = absurd (omega arith)
