-- A run first call first, and the history that it makes.
use Rattle.std.proofs.Common.{◌≡◌, ℕ, List, [], ◌∷◌, ◌++◌, refl, ap}
use Rattle.register.specs.Meaning.{Meaning}
use Rattle.server.specs.Calls.{Call}
use Rattle.server.specs.Messages.{Messages}
use Rattle.server.specs.Serving.{answer, served, run, end, onto}
use Rattle.server.specs.Ledger.{calls, feed}

pub end_is : (m : Meaning) (ms : Messages) (s : m.State) (past cs : List Call) → end m ms (served m ms s past) cs ≡ served m ms s (onto past cs)
end_is m ms s past [] = refl
end_is m ms s past (c ∷ cs) = end_is m ms s (c ∷ past) cs

-- the answer at a place of a run is the answer after the history before it
pub run_at : (m : Meaning) (ms : Messages) (s : m.State) (past before : List Call) (c : Call) (later : List Call) →
    run m ms (served m ms s past) (before ++ (c ∷ later)) ≡ run m ms (served m ms s past) before ++ (answer m ms (served m ms s (onto past before)) c ∷ run m ms (served m ms s (c ∷ onto past before)) later)
run_at m ms s past [] c later = refl
run_at m ms s past (b ∷ bs) c later = ap (λ xs. answer m ms (served m ms s past) b ∷ xs) (run_at m ms s (b ∷ past) bs c later)

pub calls_feed : (g : ℕ → ℕ) (past : List Call) → calls (feed g past) ≡ past
calls_feed g [] = refl
calls_feed g (c ∷ past) = ap (λ xs. c ∷ xs) (calls_feed g past)
