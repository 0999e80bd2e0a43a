-- The server of the code in the words of the definitions.
use Rattle.std.specs.Prelude.{◌≡◌, ℕ, ◌≤◌, List, ◌∷◌}
use Rattle.register.specs.declared.values.ChangeRequest.{ChangeRequest}
use Rattle.register.specs.Values.{Bytes}
use Rattle.register.specs.Meaning.{Meaning}
use Rattle.register.specs.Model.{change_of}
use Rattle.calls.specs.declared.answer.Answer as code
use Rattle.calls.specs.declared.answer.Refusal.{Refusal}
use Rattle.server.specs.Calls.{Answer, Call}
use Rattle.server.specs.Replies.{Exchange, saying_to}
use Rattle.server.specs.Requests.{coap}
use Rattle.calls.specs.Judging.{exchange}
use Rattle.calls.specs.Numbers.{refusal_number}
use Rattle.server.specs.Settling.{Admitted, Event}
use Rattle.server.specs.Serving as serving
use Rattle.server.specs.Ledger.{Grouped, calls, admitted, Premises}
use Rattle.server.specs.Promises.{Promises, answer_at}
use Rattle.calls.specs.Model.{counts_of, Gives, buffer_with}
use Rattle.serving.specs.Records.{records_of, record_for, recorded_in}
use Rattle.serving.specs.declared.state.Server.{Server}

abbrev pub view : {R : Type 0} (m : Meaning) → (R → m.State) → Server R → serving.Server m.State
view m state v = record { stack = state v.stack; last = v.last; accepted = v.accepted; records = records_of v.records; counts = counts_of v.counts }

-- this history leads from the making over the sound stack s to the server v
pub record Led (m : Meaning) (s : m.State) (history : List Grouped) (v : serving.Server m.State) : Type 0 where
  pub sound : m.Sound s
  pub ran : v ≡ serving.served m coap s (calls history)

-- what holds of a call that v answers with `given`: whatever history led to v, and whichever request this call is
-- counted to, the promises hold of that history with this call after it, and the answer that they speak of is `given`
pub record Kept (m : Meaning) (s : m.State) (history : List Grouped) (g : Grouped) (given : Answer) : Type 0 where
  pub promises : Promises m coap s (g ∷ history)
  pub answered : answer_at m coap s history g ≡ given

abbrev pub Keeps : (m : Meaning) → serving.Server m.State → Call → Answer → Type 0
Keeps m v c given =
    (s : m.State) (history : List Grouped) (g : Grouped) → g.call ≡ c → Led m s history v → Premises (admitted coap (g ∷ history)) → Kept m s history g given

-- ## One call

-- an admitted changing arrival, as the code has it
abbrev pub admitting : (t peer : ℕ) → Bytes → ChangeRequest → Admitted
admitting t peer d c = record { moment = t; peer = peer; datagram = d; con = (exchange d).con; id = (exchange d).id; change = change_of c }

-- the server v after it has done the change c at t, for the peer and the exchange x: the reply is recorded where the
-- place rule says, for the exchange lifetime
abbrev pub performed : (m : Meaning) → serving.Server m.State → Exchange → (peer t : ℕ) → ChangeRequest → serving.Server m.State
performed m v x peer t c = record {
  stack = m.after_change v.stack (change_of c) t;
  last = v.last;
  accepted = v.accepted;
  records = recorded_in v.records (record_for peer x.id t (saying_to x (m.answers v.stack (change_of c) t)));
  counts = v.counts;
}

-- what an arrival that comes to the event e gives: the answer r, the reply buffer from `before` to `after`, and the
-- server from v to w
pub record Ends (m : Meaning) (v w : serving.Server m.State) (e : Event) (r : code.Answer) (before after : Bytes) : Type 0 where
  pub answer : Gives (serving.answer_event m coap v e) r
  pub buffer : after ≡ buffer_with (serving.answer_event m coap v e) before
  pub next : w ≡ serving.next_event m coap v e

-- one arrival too many is refused, and the server stays as it was
pub record TurnsAway (m : Meaning) (v w : serving.Server m.State) (why : Refusal) : Type 0 where
  pub number : refusal_number why ≡ 4
  pub full : 4294967295 ≤ v.accepted
  pub same : w ≡ v
