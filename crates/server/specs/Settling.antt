-- What each call comes to: settled from the calls alone. A history is a list of calls, the latest first.
use Rattle.std.specs.Prelude.{ℕ, ◌+◌, ◌^◌, Bool, false, cond, ◌&&◌, ◌||◌, List, [], ◌∷◌, length, Some, None, Option, ◌==◌, nat_le, nat_lt}
use Rattle.register.specs.Values.{Bytes, Path, Change}
use Rattle.server.specs.Calls.{Counts, Answer, Call, Arrival, Tally}
use Rattle.server.specs.Messages.{Asked, Settled, Reads, Changes, Messages}

-- an admitted changing arrival
pub record Admitted : Type 0 where
  pub moment : ℕ
  pub peer : ℕ
  pub datagram : Bytes
  pub con : Bool
  pub id : ℕ
  pub change : Change

-- how it ends: its change is done, the first reply is repeated to a copy, a copy is met with silence, or it is dropped
-- for want of a record
pub data Ending : Type 0 where
  Repeated : Ending
  Silenced : Ending
  Dropped : Ending
  Done : Ending

-- what a call comes to, with its moment where it is accepted
pub data Event : Type 0 where
  TurnedAway : ℕ → Event
  Settles : (t : ℕ) → Bytes → Answer → Event
  Reading : (t : ℕ) → Bytes → Path → Event
  Changing : Admitted → Ending → Event
  Tallying : Event

-- The host's refusals, in their order: a moment before the last accepted one or from 2^48 on, a reply buffer under 320
-- bytes, a datagram over 480 bytes, and 4,294,967,295 arrivals accepted already.
abbrev pub refusal : (last accepted t room len : ℕ) → Option ℕ
refusal last accepted t room len =
    cond (nat_lt t last || nat_le (2 ^ 48) t) (Some 1)
    (cond (nat_lt room 320) (Some 2)
    (cond (nat_lt 480 len) (Some 3)
    (cond (nat_le 4294967295 accepted) (Some 4) None)))

abbrev pub unless : Option ℕ → Event → Event
unless (Some n) e = TurnedAway n
unless None e = e

-- what an accepted arrival comes to, where `ends` says how an admitted change ends
abbrev pub event_of : (Admitted → Ending) → (t peer : ℕ) → Bytes → Asked → Event
event_of ends t peer d (Settled a) = Settles t d a
event_of ends t peer d (Reads p) = Reading t d p
event_of ends t peer d (Changes con id c) =
    let a : Admitted = record { moment = t; peer = peer; datagram = d; con = con; id = id; change = c } in Changing a (ends a)

abbrev pub event_with : Messages → (last accepted : ℕ) → (Admitted → Ending) → Call → Event
event_with ms last accepted ends (Arrival t peer d room) = unless (refusal last accepted t room (length d)) (event_of ends t peer d (ms.asks d))
event_with ms last accepted ends Tally = Tallying

-- The exchange lifetime is 247 seconds. A done change is remembered for that long.
abbrev pub remembered : ℕ → Admitted → Bool
remembered t x = nat_lt t (x.moment + 247000)

-- a is a copy of x: the same peer and Message ID, while x is remembered
abbrev pub copies : Admitted → Admitted → Bool
copies a x = (x.peer == a.peer && x.id == a.id) && remembered a.moment x

abbrev pub copies_any : Admitted → List Admitted → Bool
copies_any a [] = false
copies_any a (x ∷ xs) = copies a x || copies_any a xs

abbrev pub how_many : ℕ → List Admitted → ℕ
how_many t [] = 0
how_many t (x ∷ xs) = cond (remembered t x) 1 0 + how_many t xs

-- how an arrival ends after the changes `done` were done: at most 32 can be remembered
abbrev pub ending : List Admitted → Admitted → Ending
ending done a = cond (copies_any a done) (cond a.con Repeated Silenced) (cond (nat_le 32 (how_many a.moment done)) Dropped Done)

-- the last accepted moment, how many arrivals were accepted, and the changes done, latest first
pub record Progress : Type 0 where
  pub last : ℕ
  pub accepted : ℕ
  pub done : List Admitted

abbrev pub event_after : Messages → Progress → Call → Event
event_after ms g c = event_with ms g.last g.accepted (ending g.done) c

abbrev pub done_after : List Admitted → Admitted → Ending → List Admitted
done_after done a Repeated = done
done_after done a Silenced = done
done_after done a Dropped = done
done_after done a Done = a ∷ done

abbrev pub accepting : Progress → ℕ → List Admitted → Progress
accepting g t done = record { last = t; accepted = g.accepted + 1; done = done }

abbrev pub moved : Progress → Event → Progress
moved g (TurnedAway n) = g
moved g (Settles t d a) = accepting g t g.done
moved g (Reading t d p) = accepting g t g.done
moved g (Changing a e) = accepting g a.moment (done_after g.done a e)
moved g Tallying = g

abbrev pub progress : Messages → List Call → Progress
progress ms [] = record { last = 0; accepted = 0; done = [] }
progress ms (c ∷ past) = moved (progress ms past) (event_after ms (progress ms past) c)

-- what a call comes to after a history
abbrev pub event_at : Messages → List Call → Call → Event
event_at ms past c = event_after ms (progress ms past) c

-- how many arrivals ended in each way
abbrev pub count : Counts → Ending → Counts
count n Repeated = record { done = n.done; repeated = n.repeated + 1; silenced = n.silenced; dropped = n.dropped }
count n Silenced = record { done = n.done; repeated = n.repeated; silenced = n.silenced + 1; dropped = n.dropped }
count n Dropped = record { done = n.done; repeated = n.repeated; silenced = n.silenced; dropped = n.dropped + 1 }
count n Done = record { done = n.done + 1; repeated = n.repeated; silenced = n.silenced; dropped = n.dropped }

abbrev pub counted : Counts → Event → Counts
counted n (TurnedAway k) = n
counted n (Settles t d a) = n
counted n (Reading t d p) = n
counted n (Changing a e) = count n e
counted n Tallying = n

abbrev pub none : Counts
none = record { done = 0; repeated = 0; silenced = 0; dropped = 0 }

abbrev pub ended : Messages → List Call → Counts
ended ms [] = none
ended ms (c ∷ past) = counted (ended ms past) (event_at ms past c)
