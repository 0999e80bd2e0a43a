-- A list of calls that a running server answers.
use Rattle.std.specs.Prelude.{◌≡◌, List, [], ◌∷◌}
use Rattle.register.specs.Meaning.{Meaning}
use Rattle.server.specs.Calls.{Answer, Call}
use Rattle.server.specs.Requests.{coap}
use Rattle.server.specs.Serving.{Server, fresh, run, onto}
use Rattle.server.specs.Ledger.{Grouped, calls, admitted, Premises}
use Rattle.server.specs.Promises.{Promises, answer_at}
use Rattle.serving.specs.View.{Led}

-- calls that came after the history, the first first, got these answers: each is the one that the promises speak of
abbrev pub Given : (m : Meaning) → m.State → List Grouped → List Grouped → List Answer → Type 0
Given m s history [] answers = answers ≡ []
Given m s history (g ∷ gs) [] = ⊥
Given m s history (g ∷ gs) (a ∷ answers) = (answer_at m coap s history g ≡ a) × Given m s (g ∷ history) gs answers

-- the promises hold of the history with these calls after it, for these answers, and all of them led to the server w
pub record KeptByAll (m : Meaning) (s : m.State) (history gs : List Grouped) (answers : List Answer) (w : Server m.State) : Type 0 where
  pub promises : Promises m coap s (onto history gs)
  pub given : Given m s history gs answers
  pub led : Led m s (onto history gs) w

-- whatever history led to v, and whichever requests the calls are counted to
abbrev pub KeepsAll : (m : Meaning) → (v w : Server m.State) → List Call → List Answer → Type 0
KeepsAll m v w cs answers =
    (s : m.State) (history gs : List Grouped) → calls gs ≡ cs → Led m s history v → Premises (admitted coap (onto history gs)) → KeptByAll m s history gs answers w

-- a whole session of a server that was made over a stack in the state s: what each call is answered, and the promises
-- of the calls, counted to whichever requests
pub record Session (m : Meaning) (s : m.State) (cs : List Call) (answers : List Answer) : Type 0 where
  pub answered : answers ≡ run m coap (fresh s) cs
  pub promised : (gs : List Grouped) → calls gs ≡ cs → Premises (admitted coap (onto [] gs)) → Promises m coap s (onto [] gs) × Given m s [] gs answers
