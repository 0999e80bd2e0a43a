-- The theorem at a call of a running server.
use Rattle.std.proofs.Common.{◌≡◌, List, [], ◌∷◌, Ok, Err, Result, sym, refl, ap, ◌∙◌, subst}
use Rattle.register.specs.Meaning.{Meaning, Laws}
use Rattle.server.specs.Calls.{Answer, Call}
use Rattle.server.specs.Requests.{coap}
use Rattle.server.specs.Serving.{Server, answer, next, fresh, served, run, end, onto}
use Rattle.server.specs.Ledger.{Grouped, calls}
use Rattle.server.proofs.Keeping.{each_change_is_once}
use Rattle.server.proofs.Framed.{coap_framing}
use Rattle.serving.specs.View.{Keeps}
use Rattle.serving.specs.Sessions.{Given, KeepsAll, Session}

pub keeps : (m : Meaning) → Laws m → (v : Server m.State) (c : Call) (given : Answer) → given ≡ answer m coap v c → Keeps m v c given
keeps m law v c given e s history g is led p = record {
  promises = each_change_is_once coap coap_framing m law s led.sound (g ∷ history) p;
  answered = ap (answer m coap (served m coap s (calls history))) is ∙ ap (λ (w : Server m.State). answer m coap w c) (sym led.ran) ∙ sym e;
}

-- ## A list of calls

given_run : (m : Meaning) (s : m.State) (history gs : List Grouped) (v : Server m.State) → v ≡ served m coap s (calls history) → Given m s history gs (run m coap v (calls gs))
given_run m s history [] v e = refl
given_run m s history (g ∷ gs) v e = (
  ap (λ (w : Server m.State). answer m coap w g.call) (sym e),
  given_run m s (g ∷ history) gs (next m coap v g.call) (ap (λ (w : Server m.State). next m coap w g.call) e),
)

end_served : (m : Meaning) (s : m.State) (history gs : List Grouped) (v : Server m.State) → v ≡ served m coap s (calls history) → end m coap v (calls gs) ≡ served m coap s (calls (onto history gs))
end_served m s history [] v e = e
end_served m s history (g ∷ gs) v e = end_served m s (g ∷ history) gs (next m coap v g.call) (ap (λ (w : Server m.State). next m coap w g.call) e)

pub keeps_all : (m : Meaning) → Laws m → (v w : Server m.State) (cs : List Call) (answers : List Answer) → answers ≡ run m coap v cs → w ≡ end m coap v cs → KeepsAll m v w cs answers
keeps_all m law v w cs answers ran ended s history gs is led p = record {
  promises = each_change_is_once coap coap_framing m law s led.sound (onto history gs) p;
  given = subst (Given m s history gs) (ap (run m coap v) is ∙ sym ran) (given_run m s history gs v led.ran);
  led = record { sound = led.sound; ran = ended ∙ ap (end m coap v) (sym is) ∙ end_served m s history gs v led.ran };
}

-- a session from the making
pub session : (m : Meaning) → (s : m.State) → m.Sound s → (v w : Server m.State) (cs : List Call) (answers : List Answer) → v ≡ fresh s → answers ≡ run m coap v cs → KeepsAll m v w cs answers → Session m s cs answers
session m s sound v w cs answers new ran kept = record {
  answered = ran ∙ ap (λ (x : Server m.State). run m coap x cs) new;
  promised = λ gs is p. let k = kept s [] gs is (record { sound = sound; ran = new }) p in (k.promises, k.given);
}

-- the same of what a call over a list gave, where `answers` reads the answers off
pub session_of : {V E : Type 0} (answers : V → List Answer) (m : Meaning) (s : m.State) (v w : Server m.State) (cs : List Call) (r : Result V E) → v ≡ fresh s →
    elim r as (λ _. Type 0) [ Ok x ↦ answers x ≡ run m coap v cs | Err _ ↦ Unit {0} ] →
    elim r as (λ _. Type 0) [ Ok x ↦ KeepsAll m v w cs (answers x) | Err _ ↦ Unit {0} ] →
    elim r as (λ _. Type 0) [ Ok x ↦ (m.Sound s → Session m s cs (answers x)) | Err _ ↦ Unit {0} ]
session_of answers m s v w cs (Ok x) new ran kept = λ sound. session m s sound v w cs (answers x) new ran kept
session_of answers m s v w cs (Err why) new ran kept = tt

-- of a stack whose maker gives its first state, which is sound
pub session_made : {V E : Type 0} (answers : V → List Answer) (m : Meaning) (s made : m.State) (cs : List Call) (r : Result V E) → s ≡ made → m.Sound s →
    elim r as (λ _. Type 0) [ Ok x ↦ (m.Sound s → Session m s cs (answers x)) | Err _ ↦ Unit {0} ] →
    elim r as (λ _. Type 0) [ Ok x ↦ Session m made cs (answers x) | Err _ ↦ Unit {0} ]
session_made answers m s made cs (Ok x) first sound kept = subst (λ y. Session m y cs (answers x)) first (kept sound)
session_made answers m s made cs (Err why) first sound kept = tt
