-- The promises, from the invariant.
use Rattle.std.proofs.Common.{◌≡◌, ℕ, suc, ◌+◌, ◌*◌, ◌<◌, true, false, cond, List, [], ◌∷◌, ◌++◌, length, Some, Option, sym, refl, ap, ◌∙◌, subst, arith}
use Rattle.std.specs.List.{AllByRecursion}
use Rattle.std.proofs.lemmas.Bool.{both_ways, true≢false, eq-eqb}
use Rattle.register.specs.declared.values.ReadCode.TheVariants.{Content}
use Rattle.register.specs.Values.{Bytes, IsMoment, IsBody}
use Rattle.register.specs.Meaning.{Meaning, Laws}
use Rattle.server.specs.Calls.{Counts, Reply, Silent, Tallied, Call}
use Rattle.server.specs.Messages.{Settled, Seen, Messages, is_content}
use Rattle.server.specs.Settling.{Admitted, Ending, Repeated, Silenced, Dropped, Done, Event, TurnedAway, Settles, Reading, Changing, Tallying, count, counted, ended}
use Rattle.server.specs.Serving.{Server, keys, event_by, recorded, reply_to, answer_change, answer_event, next_change, next_event, answer, served}
use Rattle.server.specs.Ledger.{Grouped, calls, event_in, Ledger, booked, ledger, Arrived, listed, admitted, In, Premises}
use Rattle.server.specs.Promises.{noting, first_replies, is_done, does, done_requests, requests, Distinct, Quiet, Framing, Current, EachChangeOnce}
use Rattle.server.proofs.Finding.{all_in, first_of, in_knows, same_bytes}
use Rattle.server.proofs.Events.{same_event, Apt, event_apt}
use Rattle.server.proofs.Invariant.{book, book_again, book_done, Inv, Known, known, premises_before, invariant}

same : {a b : Bytes} → Reply a ≡ Reply b → a ≡ b
same e = cc e

-- a reply in which the code of a 2.05 is read
content_is : (o : Option Seen) (seen : Seen) → o ≡ Some seen → seen.code ≡ 69 → is_content o ≡ true
content_is o seen e c = ap is_content e ∙ eq-eqb seen.code 69 c

-- ## Counting

abbrev total : Counts → ℕ
total n = n.done + n.repeated + n.silenced + n.dropped

count_more : (n : Counts) (f : Ending) → suc (total n) ≡ total (count n f)
count_more n Repeated = omega arith
count_more n Silenced = omega arith
count_more n Dropped = omega arith
count_more n Done = omega arith

sum_step : (es : List Arrived) (n : Counts) (r : ℕ) (k : Event) → length es ≡ total n → length (listed es r k) ≡ total (counted n k)
sum_step es n r (TurnedAway x) e = e
sum_step es n r (Settles t d a) e = e
sum_step es n r (Reading t d p) e = e
sum_step es n r (Changing a x) e = ap suc e ∙ count_more n x
sum_step es n r Tallying e = e

sums : (ms : Messages) (history : List Grouped) → length (admitted ms history) ≡ total (ended ms (calls history))
sums ms [] = refl
sums ms (f ∷ past) =
    sum_step (admitted ms past) (ended ms (calls past)) f.request (event_in ms past f) (sums ms past)

module _ (m : Meaning) (ms : Messages) where
  change_counts : (v : Server m.State) (a : Admitted) (f : Ending) → (next_change m ms v a f).counts ≡ count v.counts f
  change_counts v a Repeated = refl
  change_counts v a Silenced = refl
  change_counts v a Dropped = refl
  change_counts v a Done = refl

  kind_counts : (v : Server m.State) (k : Event) → (next_event m ms v k).counts ≡ counted v.counts k
  kind_counts v (TurnedAway x) = refl
  kind_counts v (Settles t d a) = refl
  kind_counts v (Reading t d p) = refl
  kind_counts v (Changing a e) = change_counts v a e
  kind_counts v Tallying = refl

  -- the server's tallies are how many arrivals ended so
  pub counts_are : (s : m.State) (past : List Call) → (served m ms s past).counts ≡ ended ms past
  counts_are s [] = refl
  counts_are s (c ∷ past) =
      let v = served m ms s past in
      kind_counts v (event_by ms v c) ∙ ap (λ n. counted n (event_by ms v c)) (counts_are s past) ∙ ap (counted (ended ms past)) (same_event m ms s past c)

-- ## One step of the ledger and of the run

module _ (m : Meaning) (law : Laws m) (ms : Messages) (sep : Framing ms) where
  module _ (v : Server m.State) (l : Ledger m.Register) (r : ℕ) (a : Admitted) where
    -- the answer of a request that has its reply
    copy_answer : (b : Bytes) → Distinct l.firsts → In (first_of r b) l.firsts → (f : Ending) → Known m ms v l r a f → answer_change m ms v a f ≡ cond a.con (Reply b) (Silent 15)
    copy_answer b d i Repeated k = ap Reply (same_bytes l.firsts r _ b d k.1 i) ∙ ap (λ t. cond t (Reply b) (Silent 15)) (sym k.0)
    copy_answer b d i Silenced k = ap (λ t. cond t (Reply b) (Silent 15)) (sym k.0)
    copy_answer b d i Dropped k = absurd (both_ways _ k (in_knows l.firsts r b i))
    copy_answer b d i Done k = absurd (both_ways _ k.0 (in_knows l.firsts r b i))

    first_change : (f : Ending) → Known m ms v l r a f → noting l.firsts r (Changing a f) (answer_change m ms v a f) ≡ (book m ms l r a f).firsts
    first_change Repeated k =
        let e = in_knows l.firsts r _ k.1 in
        ap (λ t. cond t l.firsts (first_of r (recorded v.records a) ∷ l.firsts)) e ∙ ap (λ (x : Ledger m.Register). x.firsts) (book_again m ms l r a e)
    first_change Silenced k = refl
    first_change Dropped k = refl
    first_change Done k =
        ap (λ t. cond t l.firsts (first_of r (reply_to m ms v.stack a) ∷ l.firsts)) k.0 ∙ ap (λ b. first_of r b ∷ l.firsts) k.3 ∙ ap (λ (x : Ledger m.Register). x.firsts) (book_done m ms l r a k.0)

    once_change : (f : Ending) → Known m ms v l r a f → cond (is_done f) (r ∷ requests l.firsts) (requests l.firsts) ≡ requests (book m ms l r a f).firsts
    once_change Repeated k = ap (λ (x : Ledger m.Register). requests x.firsts) (book_again m ms l r a (in_knows l.firsts r _ k.1))
    once_change Silenced k = refl
    once_change Dropped k = refl
    once_change Done k = ap (λ (x : Ledger m.Register). requests x.firsts) (book_done m ms l r a k.0)

    done_change : (n : Counts) → n.done ≡ length l.firsts → (f : Ending) → Known m ms v l r a f → (count n f).done ≡ length (book m ms l r a f).firsts
    done_change n e Repeated k = e ∙ ap (λ (x : Ledger m.Register). length x.firsts) (book_again m ms l r a (in_knows l.firsts r _ k.1))
    done_change n e Silenced k = e
    done_change n e Dropped k = e
    done_change n e Done k = let h : n.done + 1 ≡ suc (length l.firsts) = omega arith in h ∙ ap (λ (x : Ledger m.Register). length x.firsts) (book_done m ms l r a k.0)

    -- the bytes of a change's reply are no 2.05
    plain_change : AllByRecursion (λ n. is_content (ms.seen_in n.bytes) ≡ false) l.firsts → (f : Ending) → Known m ms v l r a f → (b : Bytes) → answer_change m ms v a f ≡ Reply b → is_content (ms.seen_in b) ≡ false
    plain_change q Repeated k b e =
        let same : recorded v.records a ≡ b = cc e in
        subst (λ x. is_content (ms.seen_in x) ≡ false) same (all_in (λ n. is_content (ms.seen_in n.bytes) ≡ false) l.firsts (first_of r (recorded v.records a)) q k.1)
    plain_change q Silenced k b e = cc e
    plain_change q Dropped k b e = cc e
    plain_change q Done k b e =
        let same : reply_to m ms v.stack a ≡ b = cc e in
        subst (λ x. is_content (ms.seen_in x) ≡ false) same (sep.not_said a.datagram _)

  -- what holds at a call, of each kind
  module _ (v : Server m.State) (l : Ledger m.Register) (es : List Arrived) (r : ℕ) (h : Inv m ms v l es) where
    first_step : (k : Event) → Apt ms v.last (keys v.records) k → Premises (listed es r k) → noting l.firsts r k (answer_event m ms v k) ≡ (booked m ms l r k).firsts
    first_step (TurnedAway n) apt p = refl
    first_step (Settles t d a) apt p = refl
    first_step (Reading t d q) apt p = refl
    first_step (Changing a e) apt p = first_change v l r a e (known m law ms sep v l es r a e h p apt)
    first_step Tallying apt p = refl

    once_step : (k : Event) → Apt ms v.last (keys v.records) k → Premises (listed es r k) → cond (does k) (r ∷ requests l.firsts) (requests l.firsts) ≡ requests (booked m ms l r k).firsts
    once_step (TurnedAway n) apt p = refl
    once_step (Settles t d a) apt p = refl
    once_step (Reading t d q) apt p = refl
    once_step (Changing a e) apt p = once_change v l r a e (known m law ms sep v l es r a e h p apt)
    once_step Tallying apt p = refl

    done_step : (n : Counts) → n.done ≡ length l.firsts → (k : Event) → Apt ms v.last (keys v.records) k → Premises (listed es r k) → (counted n k).done ≡ length (booked m ms l r k).firsts
    done_step n e (TurnedAway x) apt p = e
    done_step n e (Settles t d a) apt p = e
    done_step n e (Reading t d q) apt p = e
    done_step n e (Changing a x) apt p = done_change v l r a n e x (known m law ms sep v l es r a x h p apt)
    done_step n e Tallying apt p = e

  -- ## The stack between changes

  change_sound : (v : Server m.State) (a : Admitted) → m.Sound v.stack → IsMoment a.moment → IsBody a.change.body → (f : Ending) → m.Sound (next_change m ms v a f).stack
  change_sound v a h t w Repeated = h
  change_sound v a h t w Silenced = h
  change_sound v a h t w Dropped = h
  change_sound v a h t w Done = law.change_sound v.stack a.change a.moment h t w

  kind_sound : (v : Server m.State) → m.Sound v.stack → (k : Event) → Apt ms v.last (keys v.records) k → m.Sound (next_event m ms v k).stack
  kind_sound v h (TurnedAway n) apt = h
  kind_sound v h (Settles t d a) apt = h
  kind_sound v h (Reading t d p) apt = law.read_sound v.stack p t h apt.1
  kind_sound v h (Changing a e) apt = change_sound v a h apt.1 (sep.change_fits a.datagram a.con a.id a.change apt.2) e
  kind_sound v h Tallying apt = h

  sound : (s : m.State) → m.Sound s → (past : List Call) → m.Sound (served m ms s past).stack
  sound s h [] = h
  sound s h (c ∷ past) = let v = served m ms s past in kind_sound v (sound s h past) (event_by ms v c) (event_apt ms v c)

  quiet_change : (v : Server m.State) (a : Admitted) (f : Ending) → is_done f ≡ false → m.register (next_change m ms v a f).stack ≡ m.register v.stack
  quiet_change v a Repeated e = refl
  quiet_change v a Silenced e = refl
  quiet_change v a Dropped e = refl
  quiet_change v a Done e = absurd (true≢false e)

  quiet_step : (v : Server m.State) → m.Sound v.stack → (k : Event) → Apt ms v.last (keys v.records) k → does k ≡ false → m.register (next_event m ms v k).stack ≡ m.register v.stack
  quiet_step v h (TurnedAway n) apt e = refl
  quiet_step v h (Settles t d a) apt e = refl
  quiet_step v h (Reading t d p) apt e = law.kept v.stack p t h apt.1
  quiet_step v h (Changing a x) apt e = quiet_change v a x e
  quiet_step v h Tallying apt e = refl

  -- a call that does no change leaves the register
  quiet_call : (s : m.State) → m.Sound s → (past : List Call) (c : Call) → does (event_by ms (served m ms s past) c) ≡ false → m.register (served m ms s (c ∷ past)).stack ≡ m.register (served m ms s past).stack
  quiet_call s h past c e =
      let v = served m ms s past in
      quiet_step v (sound s h past) (event_by ms v c) (event_apt ms v c) e

  quiet : (s : m.State) → m.Sound s → (between before : List Grouped) → Quiet m ms s between before → m.register (served m ms s (calls (between ++ before))).stack ≡ m.register (served m ms s (calls before)).stack
  quiet s h [] before q = refl
  quiet s h (f ∷ fs) before q = quiet_call s h (calls (fs ++ before)) f.call q.0 ∙ quiet s h fs before q.1

  -- ## At one call of a history

  module _ (s : m.State) (ok : m.Sound s) where
    prefix : (later rest : List Grouped) → Premises (admitted ms (later ++ rest)) → Premises (admitted ms rest)
    prefix [] rest p = p
    prefix (f ∷ fs) rest p =
        prefix fs rest (premises_before m law ms sep (admitted ms (fs ++ rest)) f.request (event_in ms (fs ++ rest) f) p)

    module _ (f : Grouped) (before : List Grouped) (p : Premises (admitted ms (f ∷ before))) where
      abbrev v : Server m.State
      v = served m ms s (calls before)

      abbrev l : Ledger m.Register
      l = ledger m ms (m.register s) before

      abbrev es : List Arrived
      es = admitted ms before

      inv : Inv m ms v l es
      inv = invariant m law ms sep s ok before (premises_before m law ms sep es f.request (event_in ms before f) p)

      -- as the server sees the call
      abbrev event : Event
      event = event_by ms v f.call

      apt : Apt ms v.last (keys v.records) event
      apt = event_apt ms v f.call

      prem : Premises (listed es f.request event)
      prem = subst (λ x. Premises (listed es f.request x)) (sym (same_event m ms s (calls before) f.call)) p

      copy : (a : Admitted) (x : Ending) (bytes : Bytes) → event_in ms before f ≡ Changing a x → In (first_of f.request bytes) l.firsts → answer m ms v f.call ≡ cond a.con (Reply bytes) (Silent 15)
      copy a x bytes e i =
          let e' : event ≡ Changing a x = same_event m ms s (calls before) f.call ∙ e in
          ap (answer_event m ms v) e' ∙
          copy_answer v l f.request a bytes inv.distinct i x
          (known m law ms sep v l es f.request a x inv (subst (λ y. Premises (listed es f.request y)) e' prem) (subst (Apt ms v.last (keys v.records)) e' apt))

      -- a reply in which a client reads a 2.05 is one to a GET
      current : (later : List Grouped) (b : Bytes) (seen : Seen) (x : Event) → event ≡ x → Apt ms v.last (keys v.records) x → Premises (listed es f.request x) → answer_event m ms v x ≡ Reply b → ms.seen_in b ≡ Some seen → seen.code ≡ 69 → Current m ms s later f before seen
      current later b seen (TurnedAway n) e a q w t c = absurd (let z : ◌≡◌ {A = ℕ} 0 1 = cc w in omega arith)
      current later b seen (Settles u d o) e a q w t c = absurd (both_ways _ (sep.not_settled d b (a.2 ∙ ap Settled w)) (content_is (ms.seen_in b) seen t c))
      current later b seen (Reading u d path) e a q w t c =
          let ok-here = sound s ok (calls before) in
          let read = m.reads v.stack path u in
          let back = sep.shown_back d path read seen a.2 (law.read_fits v.stack path u ok-here a.1) (ap ms.seen_in (same w) ∙ t) c in
          let body : read.shown ≡ record { code = Content; body = seen.body } =
          (λ i. record { code = back.0 i; body = ap (λ (y : Seen). y.body) (sym back.1) i }) in
          let age : read.max_age ≡ seen.max_age = ap (λ (y : Seen). y.max_age) (sym back.1) in
          record {
            moment = u;
            datagram = d;
            path = path;
            asked = sym (same_event m ms s (calls before) f.call) ∙ e;
            shown = sym (law.shown v.stack path u ok-here a.1) ∙ body;
            lasting = λ rest between _ still y z lo hi.
                ap (λ g. m.shows g path y) (quiet s ok between (f ∷ before) still ∙ ap (λ x. m.register (next_event m ms v x).stack) e ∙ law.kept v.stack path u ok-here a.1)
                ∙ law.truth v.stack path u ok-here a.1 y z lo (subst (λ n. y < u + 1000 * n) (sym age) hi) ∙ body;
          }
      current later b seen (Changing x o) e a q w t c = absurd (both_ways _ (plain_change v l f.request x inv.plain o (known m law ms sep v l es f.request x o inv q a) b w) (content_is (ms.seen_in b) seen t c))
      current later b seen Tallying e a q w t c = absurd (let z : ◌≡◌ {A = ℕ} 0 1 = cc w in omega arith)

    -- ## Along a history

    abbrev L : List Grouped → Ledger m.Register
    L history = ledger m ms (m.register s) history

    firsts_are : (history : List Grouped) → Premises (admitted ms history) → first_replies m ms s history ≡ (L history).firsts
    firsts_are [] p = refl
    firsts_are (f ∷ past) p =
        let before = premises_before m law ms sep (admitted ms past) f.request (event_in ms past f) p in
        let v = served m ms s (calls past) in
        ap (λ ns. noting ns f.request (event_in ms past f) (answer m ms v f.call)) (firsts_are past before) ∙
        subst (λ event. Premises (listed (admitted ms past) f.request event) → noting (L past).firsts f.request event (answer m ms v f.call) ≡ (booked m ms (L past) f.request event).firsts)
        (same_event m ms s (calls past) f.call)
        (first_step v (L past) (admitted ms past) f.request (invariant m law ms sep s ok past before) (event_by ms v f.call) (event_apt ms v f.call))
        p

    once : (history : List Grouped) → Premises (admitted ms history) → done_requests m ms s history ≡ requests (L history).firsts
    once [] p = refl
    once (f ∷ past) p =
        let before = premises_before m law ms sep (admitted ms past) f.request (event_in ms past f) p in
        let v = served m ms s (calls past) in
        let found = event_by ms v f.call in
        ap (λ rs. cond (does found) (f.request ∷ rs) rs) (once past before) ∙
        subst (λ event. Premises (listed (admitted ms past) f.request event) → cond (does found) (f.request ∷ requests (L past).firsts) (requests (L past).firsts) ≡ requests (booked m ms (L past) f.request event).firsts)
        (same_event m ms s (calls past) f.call)
        (once_step v (L past) (admitted ms past) f.request (invariant m law ms sep s ok past before) (event_by ms v f.call) (event_apt ms v f.call))
        p

    done_is : (history : List Grouped) → Premises (admitted ms history) → (ended ms (calls history)).done ≡ length (L history).firsts
    done_is [] p = refl
    done_is (f ∷ past) p =
        let before = premises_before m law ms sep (admitted ms past) f.request (event_in ms past f) p in
        let v = served m ms s (calls past) in
        subst (λ event. Premises (listed (admitted ms past) f.request event) → (counted (ended ms (calls past)) event).done ≡ length (booked m ms (L past) f.request event).firsts)
        (same_event m ms s (calls past) f.call)
        (done_step v (L past) (admitted ms past) f.request (invariant m law ms sep s ok past before) (ended ms (calls past)) (done_is past before) (event_by ms v f.call) (event_apt ms v f.call))
        p

-- ## The theorem

pub each_change_is_once : (ms : Messages) → Framing ms → (m : Meaning) → Laws m → EachChangeOnce ms m
each_change_is_once ms sep m law s ok history p =
    let h = invariant m law ms sep s ok history p in
    let split : (later : List Grouped) (f : Grouped) (before : List Grouped) → history ≡ later ++ (f ∷ before) → Premises (admitted ms (f ∷ before)) =
    λ later f before e. prefix m law ms sep s ok later (f ∷ before) (subst (λ x. Premises (admitted ms x)) e p) in
    record {
      register = h.register;
      firsts = firsts_are m law ms sep s ok history p;
      once = once m law ms sep s ok history p;
      distinct = h.distinct;
      copies = λ later f before a x b e. copy m law ms sep s ok f before (split later f before e) a x b;
      content = λ later f before b seen e w.
          let q = split later f before e in
          current m law ms sep s ok f before q later b seen (event_by ms (served m ms s (calls before)) f.call) refl (apt m law ms sep s ok f before q) (prem m law ms sep s ok f before q) w;
      tallies = λ later f before e c.
          ap (answer m ms (served m ms s (calls before))) c ∙ ap Tallied (counts_are m ms s (calls before));
      sum = sums ms history;
      done_count = done_is m law ms sep s ok history p;
    }
