-- Each change is made once, and no answer's age is hidden.
use Rattle.std.specs.Prelude.{◌≡◌, ℕ, ◌+◌, ◌*◌, ◌<◌, ◌≤◌, Bool, true, false, cond, List, [], ◌∷◌, ◌++◌, map, length, Some}
use Rattle.register.specs.declared.values.ReadCode.TheVariants.{Content}
use Rattle.register.specs.Values.{Bytes, Path, IsMoment, Change, Read, Said, IsBody, IsRead}
use Rattle.register.specs.Meaning.{Meaning}
use Rattle.server.specs.Calls.{Answer, Reply, Silent, Refused, Tallied, Tally}
use Rattle.server.specs.Messages.{Settled, Reads, Changes, Seen, Messages, is_content}
use Rattle.server.specs.Settling.{Admitted, Ending, Repeated, Silenced, Dropped, Done, Event, TurnedAway, Settles, Reading, Changing, Tallying, ended}
use Rattle.server.specs.Serving.{event_by, answer, served}
use Rattle.server.specs.Ledger.{Grouped, calls, event_in, FirstReply, is_answered, Ledger, ledger, admitted, In, Premises}

-- ## At a point of a run, of a server made over a stack in the state s

abbrev pub answer_at : (m : Meaning) → Messages → m.State → List Grouped → Grouped → Answer
answer_at m ms s before g = answer m ms (served m ms s (calls before)) g.call

abbrev pub register_at : (m : Meaning) → Messages → m.State → List Grouped → m.Register
register_at m ms s past = m.register (served m ms s (calls past)).stack

abbrev pub ledger_at : (m : Meaning) → Messages → m.State → List Grouped → Ledger m.Register
ledger_at m ms s past = ledger m ms (m.register s) past

-- ## What a run gives

-- the first replies of a run, by its answers alone, latest first
abbrev pub noting : List FirstReply → ℕ → Event → Answer → List FirstReply
noting ns r (TurnedAway n) o = ns
noting ns r (Settles t d a) o = ns
noting ns r (Reading t d p) o = ns
noting ns r (Changing a e) (Reply b) = cond (is_answered ns r) ns (record { request = r; bytes = b } ∷ ns)
noting ns r (Changing a e) (Silent n) = ns
noting ns r (Changing a e) (Refused n) = ns
noting ns r (Changing a e) (Tallied n) = ns
noting ns r Tallying o = ns

abbrev pub first_replies : (m : Meaning) → Messages → m.State → List Grouped → List FirstReply
first_replies m ms s [] = []
first_replies m ms s (g ∷ past) = noting (first_replies m ms s past) g.request (event_in ms past g) (answer_at m ms s past g)

-- what a call comes to as the server finds it, by its records
abbrev pub found_at : (m : Meaning) → Messages → m.State → List Grouped → Grouped → Event
found_at m ms s before g = event_by ms (served m ms s (calls before)) g.call

-- whether a call does a change
abbrev pub is_done : Ending → Bool
is_done Repeated = false
is_done Silenced = false
is_done Dropped = false
is_done Done = true

abbrev pub does : Event → Bool
does (TurnedAway n) = false
does (Settles t d a) = false
does (Reading t d p) = false
does (Changing a e) = is_done e
does Tallying = false

-- the requests whose changes the server does, once for each time, latest first
abbrev pub done_requests : (m : Meaning) → Messages → m.State → List Grouped → List ℕ
done_requests m ms s [] = []
done_requests m ms s (g ∷ past) = cond (does (found_at m ms s past g)) (g.request ∷ done_requests m ms s past) (done_requests m ms s past)

abbrev pub requests : List FirstReply → List ℕ
requests ns = map (λ n. n.request) ns

-- no request stands twice
abbrev pub Distinct : List FirstReply → Type 0
Distinct [] = Unit {0}
Distinct (n ∷ ns) = (is_answered ns n.request ≡ false) × Distinct ns

-- at no call of `between`, made after `before`, the server does a change
abbrev pub Quiet : (m : Meaning) → Messages → m.State → List Grouped → List Grouped → Type 0
Quiet m ms s [] before = Unit {0}
Quiet m ms s (g ∷ gs) before = (does (found_at m ms s (gs ++ before) g) ≡ false) × Quiet m ms s gs before

-- ## The promises

-- a 2.05 in which a client reads `seen`, which g got after `before`, and after which `later` came
pub record Current (m : Meaning) (ms : Messages) (s : m.State) (later : List Grouped) (g : Grouped) (before : List Grouped) (seen : Seen) : Type 0 where
  -- it answers a GET of a path
  pub moment : ℕ
  pub datagram : Bytes
  pub path : Path
  pub asked : event_in ms before g ≡ Reading moment datagram path
  -- code and body are what the register shows for the path at that moment
  pub shown : m.shows (register_at m ms s before) path moment ≡ record { code = Content; body = seen.body }
  -- and it shows the same from then on, before Max-Age seconds are over, as long as no change is done
  pub lasting : (rest between : List Grouped) → later ≡ rest ++ between → Quiet m ms s between (g ∷ before) →
      (u : ℕ) → IsMoment u → moment ≤ u → u < moment + 1000 * seen.max_age →
      m.shows (register_at m ms s (between ++ (g ∷ before))) path u ≡ record { code = Content; body = seen.body }

-- of a server made over a stack in the state s, after a history in which each call has its request
pub record Promises (m : Meaning) (ms : Messages) (s : m.State) (history : List Grouped) : Type 0 where
  -- register and first replies are the ledger's
  pub register : register_at m ms s history ≡ (ledger_at m ms s history).register
  pub firsts : first_replies m ms s history ≡ (ledger_at m ms s history).firsts
  -- each changing request that got a reply is done once, in the order of first replies
  pub once : done_requests m ms s history ≡ requests (ledger_at m ms s history).firsts
  pub distinct : Distinct (ledger_at m ms s history).firsts
  -- each later admitted arrival of it gets the first reply's bytes if confirmable, and silence if not
  pub copies : (later : List Grouped) (g : Grouped) (before : List Grouped) (a : Admitted) (e : Ending) (b : Bytes) → history ≡ later ++ (g ∷ before) →
      event_in ms before g ≡ Changing a e →
      In (record { request = g.request; bytes = b }) (ledger_at m ms s before).firsts →
      answer_at m ms s before g ≡ cond a.con (Reply b) (Silent 15)
  -- every reply in which a client reads a 2.05 has what the register shows, and a true Max-Age
  pub content : (later : List Grouped) (g : Grouped) (before : List Grouped) (b : Bytes) (seen : Seen) → history ≡ later ++ (g ∷ before) →
      answer_at m ms s before g ≡ Reply b → ms.seen_in b ≡ Some seen → seen.code ≡ 69 →
      Current m ms s later g before seen
  -- each tally gives how many arrivals ended in each way
  pub tallies : (later : List Grouped) (g : Grouped) (before : List Grouped) → history ≡ later ++ (g ∷ before) → g.call ≡ Tally →
      answer_at m ms s before g ≡ Tallied (ended ms (calls before))
  -- which are all the admitted changing arrivals, and done counts the requests that got a reply
  pub sum : length (admitted ms history) ≡ (ended ms (calls history)).done + (ended ms (calls history)).repeated + (ended ms (calls history)).silenced + (ended ms (calls history)).dropped
  pub done_count : (ended ms (calls history)).done ≡ length (ledger_at m ms s history).firsts

-- what a client reads in a reply to a GET: Max-Age stands in a 2.05 alone
abbrev pub seen_from : Read → Seen
seen_from r = record { code = 69; max_age = r.max_age; body = r.shown.body }

-- what the theorem needs of the messages
pub record Framing (ms : Messages) : Type 0 where
  -- the body of an admitted change fits
  pub change_fits : (d : Bytes) (con : Bool) (id : ℕ) (c : Change) → ms.asks d ≡ Changes con id c → IsBody c.body
  -- a 2.05 is read back as it was shown, and no other reply to a GET is a 2.05
  pub shown_back : (d : Bytes) (p : Path) (r : Read) (seen : Seen) → ms.asks d ≡ Reads p → IsRead r → ms.seen_in (ms.showing d r) ≡ Some seen → seen.code ≡ 69 →
      (r.shown.code ≡ Content) × (seen ≡ seen_from r)
  -- no reply to a change, and none that is settled by itself, is a 2.05
  pub not_said : (d : Bytes) (s : Said) → is_content (ms.seen_in (ms.saying d s)) ≡ false
  pub not_settled : (d b : Bytes) → ms.asks d ≡ Settled (Reply b) → is_content (ms.seen_in b) ≡ false

-- over every resource that keeps the meaning, for every history and every grouping that meets the premises
abbrev pub EachChangeOnce : Messages → Meaning → Type 0
EachChangeOnce ms m = (s : m.State) → m.Sound s → (history : List Grouped) → Premises (admitted ms history) → Promises m ms s history
