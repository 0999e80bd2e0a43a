-- The ledger. It names no record, no cache and no step of the program: it is fed the calls in order, refused ones too,
-- and a grouping of the admitted changing arrivals into requests.
use Rattle.std.specs.Prelude.{◌≡◌, ℕ, ◌+◌, ◌-◌, ◌<◌, ◌≤◌, Bool, true, false, cond, not, ◌&&◌, ◌||◌, ◌⊎◌, List, [], ◌∷◌, map, length, ◌==◌, ◌≢◌}
use Rattle.register.specs.Values.{Bytes}
use Rattle.register.specs.Meaning.{Meaning}
use Rattle.server.specs.Calls.{Call}
use Rattle.server.specs.Messages.{Messages}
use Rattle.server.specs.Settling.{Admitted, Ending, Repeated, Silenced, Dropped, Done, Event, TurnedAway, Settles, Reading, Changing, Tallying, event_at}

-- a call, and the number of the request that the grouping counts it to; at calls that are no admitted changing arrival
-- the number means nothing
pub record Grouped : Type 0 where
  pub call : Call
  pub request : ℕ

abbrev pub calls : List Grouped → List Call
calls history = map (λ g. g.call) history

-- what a call that comes after the history `before` is
abbrev pub event_in : Messages → List Grouped → Grouped → Event
event_in ms before g = event_at ms (calls before) g.call

-- a request that got a reply, and the bytes of its first reply
pub record FirstReply : Type 0 where
  pub request : ℕ
  pub bytes : Bytes

-- the register, and the first replies, latest first
pub record Ledger (R : Type 0) : Type 0 where
  pub register : R
  pub firsts : List FirstReply

abbrev pub is_answered : List FirstReply → ℕ → Bool
is_answered [] r = false
is_answered (n ∷ ns) r = n.request == r || is_answered ns r

-- whether an arrival that ends so gets a reply
abbrev pub replied : Ending → Bool
replied Repeated = true
replied Silenced = false
replied Dropped = false
replied Done = true

-- at a request's first arrival with a reply the ledger replies with what its register says, framed, and its register
-- becomes what that leaves
abbrev pub entered : (m : Meaning) → Messages → Ledger m.Register → ℕ → Admitted → Ledger m.Register
entered m ms l r a = record {
  register = m.leaves l.register a.change a.moment;
  firsts = record { request = r; bytes = ms.saying a.datagram (m.says l.register a.change a.moment) } ∷ l.firsts;
}

abbrev pub booked : (m : Meaning) → Messages → Ledger m.Register → ℕ → Event → Ledger m.Register
booked m ms l r (TurnedAway n) = l
booked m ms l r (Settles t d a) = l
booked m ms l r (Reading t d p) = l
booked m ms l r (Changing a e) = cond (replied e && not (is_answered l.firsts r)) (entered m ms l r a) l
booked m ms l r Tallying = l

-- the ledger after a history, from the register that the stack has when the server is made
abbrev pub ledger : (m : Meaning) → Messages → m.Register → List Grouped → Ledger m.Register
ledger m ms r [] = record { register = r; firsts = [] }
ledger m ms r (g ∷ past) = booked m ms (ledger m ms r past) g.request (event_in ms past g)

-- ## The premises

-- an admitted changing arrival and its request
pub record Arrived : Type 0 where
  pub request : ℕ
  pub arrival : Admitted

abbrev pub listed : List Arrived → ℕ → Event → List Arrived
listed es r (TurnedAway n) = es
listed es r (Settles t d a) = es
listed es r (Reading t d p) = es
listed es r (Changing a e) = record { request = r; arrival = a } ∷ es
listed es r Tallying = es

abbrev pub admitted : Messages → List Grouped → List Arrived
admitted ms [] = []
admitted ms (g ∷ past) = listed (admitted ms past) g.request (event_in ms past g)

abbrev pub In : {X : Type 0} → X → List X → Type 0
In x [] = ⊥
In x (y ∷ ys) = (x ≡ y) ⊎ In x ys

-- how far two moments lie apart
abbrev pub apart : ℕ → ℕ → ℕ
apart t u = (t - u) + (u - t)

pub record Premises (es : List Arrived) : Type 0 where
  -- a request is of one peer and one datagram
  pub one : (x y : Arrived) → In x es → In y es → x.request ≡ y.request → (x.arrival.peer ≡ y.arrival.peer) × (x.arrival.datagram ≡ y.arrival.datagram)
  -- two arrivals of one request lie less than 247 seconds apart
  pub near : (x y : Arrived) → In x es → In y es → x.request ≡ y.request → apart x.arrival.moment y.arrival.moment < 247000
  -- those of two requests that share peer and Message ID lie 247 seconds or more apart
  pub far : (x y : Arrived) → In x es → In y es → (x.request ≢ y.request) → x.arrival.peer ≡ y.arrival.peer → x.arrival.id ≡ y.arrival.id → 247000 ≤ apart x.arrival.moment y.arrival.moment

-- a history with a grouping by places: the call after k others is of request g k
abbrev pub feed : (ℕ → ℕ) → List Call → List Grouped
feed g [] = []
feed g (c ∷ past) = record { call = c; request = g (length past) } ∷ feed g past
