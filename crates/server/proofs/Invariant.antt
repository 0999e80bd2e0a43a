-- What holds of server and ledger after every history that meets the premises.
use Rattle.std.proofs.Common.{◌≡◌, ℕ, ◌+◌, ◌<◌, ◌≤◌, true, false, cond, not, ◌⊎◌, List, [], ◌∷◌, length, get_or, set, sym, refl, ap, ◌∙◌, subst, inl, inr, ⊎_elim, arith}
use Rattle.std.specs.List.{AllByRecursion}
use Rattle.std.proofs.ByRecursion.{All-weaker, All-set}
use Rattle.std.proofs.lemmas.Bool.{both_ways, cases_Bool, cases_eq}
use Rattle.register.specs.Places.{place_in}
use Rattle.register.specs.Values.{Bytes, IsBody}
use Rattle.register.specs.Meaning.{Meaning, Laws}
use Rattle.server.specs.Calls.{Counts}
use Rattle.server.specs.Messages.{Changes, Messages, is_content}
use Rattle.server.specs.Settling.{Admitted, Ending, Repeated, Silenced, Dropped, Done, Event, TurnedAway, Settles, Reading, Changing, Tallying}
use Rattle.server.specs.Serving.{Key, Record, Server, keys, event_by, expiries, key_of, recorded, reply_to, next_change, next_event, next, served, fresh, no_record}
use Rattle.server.specs.Ledger.{Grouped, calls, event_in, FirstReply, Ledger, is_answered, entered, booked, ledger, Arrived, listed, admitted, In, apart, Premises}
use Rattle.server.specs.Promises.{Distinct, Framing}
use Rattle.server.proofs.Finding.{matches, live, all_in, all_replicate, set_keeps, set_has, length_keys, get_d_keys, place_expired, match_parts, match_from, Found, live_found, live_none, first_of, in_knows, knows_in}
use Rattle.server.proofs.Events.{same_event, Apt, event_apt, Tells}

abbrev pub arrived : ℕ → Admitted → Arrived
arrived r a = record { request = r; arrival = a }

-- the done request that a record is of
pub record Owner (es : List Arrived) (ns : List FirstReply) (r : Record) : Type 0 where
  pub of : Arrived
  pub listed : In of es
  pub key_is : r.key ≡ key_of of.arrival
  pub reply_is : In (first_of of.request r.reply) ns

-- a record is empty, or that of a done request
abbrev pub Owned : List Arrived → List FirstReply → Record → Type 0
Owned es ns r = (r.key.expiry ≡ 0) ⊎ Owner es ns r

-- the arrival at which a request was done: its record stands until its expiry
pub record Memory (es : List Arrived) (rs : List Record) (last : ℕ) (n : FirstReply) : Type 0 where
  pub at : Admitted
  pub listed : In (arrived n.request at) es
  pub stands : (at.moment + 247000 ≤ last) ⊎ ((r : Record) × In r rs × (r.key ≡ key_of at))

-- an admitted arrival lies in the past, and its datagram says what it asks for
abbrev pub Past : Messages → ℕ → Arrived → Type 0
Past ms last e = (e.arrival.moment ≤ last) × (ms.asks e.arrival.datagram ≡ Changes e.arrival.con e.arrival.id e.arrival.change)

pub record Inv (m : Meaning) (ms : Messages) (v : Server m.State) (l : Ledger m.Register) (es : List Arrived) : Type 0 where
  pub sound : m.Sound v.stack
  pub register : m.register v.stack ≡ l.register
  pub owned : AllByRecursion (Owned es l.firsts) v.records
  pub memory : AllByRecursion (Memory es v.records v.last) l.firsts
  pub past : AllByRecursion (Past ms v.last) es
  pub distinct : Distinct l.firsts
  pub plain : AllByRecursion (λ n. is_content (ms.seen_in n.bytes) ≡ false) l.firsts

-- ## Weakening

owned_entry : (es : List Arrived) (ns : List FirstReply) (e : Arrived) (r : Record) → Owned es ns r → Owned (e ∷ es) ns r
owned_entry es ns e r (inl h) = inl h
owned_entry es ns e r (inr o) = inr (record { of = o.of; listed = inr o.listed; key_is = o.key_is; reply_is = o.reply_is })

owned_more : (es : List Arrived) (ns : List FirstReply) (n : FirstReply) (r : Record) → Owned es ns r → Owned es (n ∷ ns) r
owned_more es ns n r (inl h) = inl h
owned_more es ns n r (inr o) = inr (record { of = o.of; listed = o.listed; key_is = o.key_is; reply_is = inr o.reply_is })

memory_entry : (es : List Arrived) (rs : List Record) (last : ℕ) (e : Arrived) (n : FirstReply) → Memory es rs last n → Memory (e ∷ es) rs last n
memory_entry es rs last e n h = record { at = h.at; listed = inr h.listed; stands = h.stands }

memory_later : (es : List Arrived) (rs : List Record) (last t : ℕ) → last ≤ t → (n : FirstReply) → Memory es rs last n → Memory es rs t n
memory_later es rs last t k n h = record { at = h.at; listed = h.listed; stands = ⊎_elim (λ x. inl (omega arith)) inr h.stands }

-- a write to a expired record takes no memory away
memory_set : (es : List Arrived) (rs : List Record) (t i : ℕ) (y : Record) → (get_or rs i no_record).key.expiry ≤ t → (n : FirstReply) → Memory es rs t n → Memory es (set rs i y) t n
memory_set es rs t i y h n k = record { at = k.at; listed = k.listed; stands = ⊎_elim inl go k.stands }
  where
    go : ((r : Record) × In r rs × (r.key ≡ key_of k.at)) → (k.at.moment + 247000 ≤ t) ⊎ ((r : Record) × In r (set rs i y) × (r.key ≡ key_of k.at))
    go q =
        ⊎_elim (λ j. inr (q.0, j, q.2))
        (λ e. inl (omega (arith, ap (λ (r : Record). r.key.expiry) e, ap (λ (s : Key). s.expiry) q.2)))
        (set_keeps rs i y no_record q.0 q.1)

module _ (m : Meaning) (ms : Messages) where
  -- the clock goes on, and the stack is one with the same register
  later : (v : Server m.State) (l : Ledger m.Register) (es : List Arrived) (stack : m.State) (t acc : ℕ) (n : Counts) → Inv m ms v l es → v.last ≤ t → m.Sound stack → m.register stack ≡ l.register →
      Inv m ms (record { stack = stack; last = t; accepted = acc; records = v.records; counts = n }) l es
  later v l es stack t acc n h k s e = record {
    sound = s;
    register = e;
    owned = h.owned;
    memory = All-weaker (Memory es v.records v.last) (Memory es v.records t) (memory_later es v.records v.last t k) l.firsts h.memory;
    past = All-weaker (Past ms v.last) (Past ms t) (λ x p. (omega (arith, p.0), p.1)) es h.past;
    distinct = h.distinct;
    plain = h.plain;
  }

  -- one more admitted arrival
  more : (v : Server m.State) (l : Ledger m.Register) (es : List Arrived) (e : Arrived) → Inv m ms v l es → Past ms v.last e → Inv m ms v l (e ∷ es)
  more v l es e h p = record {
    sound = h.sound;
    register = h.register;
    owned = All-weaker (Owned es l.firsts) (Owned (e ∷ es) l.firsts) (owned_entry es l.firsts e) v.records h.owned;
    memory = All-weaker (Memory es v.records v.last) (Memory (e ∷ es) v.records v.last) (memory_entry es v.records v.last e) l.firsts h.memory;
    past = (p, h.past);
    distinct = h.distinct;
    plain = h.plain;
  }

  -- ## What a live record, or none, says of an arrival's request

  module _ (v : Server m.State) (l : Ledger m.Register) (es : List Arrived) (r : ℕ) (a : Admitted) (e : Ending) (h : Inv m ms v l es) (p : Premises (arrived r a ∷ es)) (apt : Apt ms v.last (keys v.records) (Changing a e)) where
    -- a live record of this peer and Message ID is of this request
    live_known : live (keys v.records) a ≡ true → In (first_of r (recorded v.records a)) l.firsts
    live_known on = go f.holds
      where
        f : Found (Owned es l.firsts) v.records a
        f = live_found (Owned es l.firsts) v.records a h.owned on

        at : (f.one.key.peer ≡ a.peer) × (f.one.key.id ≡ a.id) × (a.moment < f.one.key.expiry)
        at = match_parts f.one.key a f.matching

        same : (o : Owner es l.firsts f.one) → r ≡ o.of.request
        same o =
            let q = all_in (Past ms v.last) es o.of h.past o.listed in
            let expiry = ap (λ (s : Key). s.expiry) o.key_is in
            ⊎_elim (λ x. x)
            (λ ne. absurd (omega (
              arith,
              at.2,
              q.0,
              apt.0,
              expiry,
              p.far (arrived r a) o.of (inl refl) (inr o.listed) ne (sym at.0 ∙ ap (λ (s : Key). s.peer) o.key_is) (sym at.1 ∙ ap (λ (s : Key). s.id) o.key_is),
            )))
            (cases_eq r o.of.request)

        go : Owned es l.firsts f.one → In (first_of r (recorded v.records a)) l.firsts
        go (inl z) = absurd (omega (arith, at.2, z))
        go (inr o) = subst (λ n. In n l.firsts) (ap (λ q. first_of q f.one.reply) (sym (same o)) ∙ ap (first_of r) (sym f.reply_is)) o.reply_is

    -- a request that was done has a live record
    known_live : (b : Bytes) → In (first_of r b) l.firsts → live (keys v.records) a ≡ true
    known_live b i = ⊎_elim (λ x. x) (λ none. absurd (no_way none k.stands)) (cases_Bool (live (keys v.records) a))
      where
        k : Memory es v.records v.last (first_of r b)
        k = all_in (Memory es v.records v.last) l.firsts (first_of r b) h.memory i

        q : Past ms v.last (arrived r k.at)
        q = all_in (Past ms v.last) es (arrived r k.at) h.past k.listed

        one : (k.at.peer ≡ a.peer) × (k.at.datagram ≡ a.datagram)
        one = p.one (arrived r k.at) (arrived r a) (inr k.listed) (inl refl) refl

        near : apart k.at.moment a.moment < 247000
        near = p.near (arrived r k.at) (arrived r a) (inr k.listed) (inl refl) refl

        same_ask : Changes k.at.con k.at.id k.at.change ≡ Changes a.con a.id a.change
        same_ask = sym q.1 ∙ ap ms.asks one.1 ∙ apt.2

        same_id : k.at.id ≡ a.id
        same_id = cc same_ask

        no_way : live (keys v.records) a ≡ false → (k.at.moment + 247000 ≤ v.last) ⊎ ((x : Record) × In x v.records × (x.key ≡ key_of k.at)) → ⊥
        no_way none (inl x) = omega (arith, near, x, apt.0)
        no_way none (inr x) =
            both_ways (matches x.0.key a) (live_none v.records a x.0 none x.1)
            (match_from x.0.key a (ap (λ (s : Key). s.peer) x.2 ∙ one.0) (ap (λ (s : Key). s.id) x.2 ∙ same_id) (omega (arith, near, apt.0, ap (λ (s : Key). s.expiry) x.2)))

    not_known : live (keys v.records) a ≡ false → is_answered l.firsts r ≡ false
    not_known none = ⊎_elim (λ t. absurd (both_ways _ none (go t))) (λ x. x) (cases_Bool (is_answered l.firsts r))
      where
        go : is_answered l.firsts r ≡ true → live (keys v.records) a ≡ true
        go t = let k = knows_in l.firsts r t in known_live k.0 k.1

-- ## What an arrival's fate says of its request

-- what the ledger does with an arrival that ends so
module _ (m : Meaning) (ms : Messages) (l : Ledger m.Register) (r : ℕ) (a : Admitted) where
  abbrev pub book : Ending → Ledger m.Register
  book f = booked m ms l r (Changing a f)

  pub book_again : is_answered l.firsts r ≡ true → l ≡ book Repeated
  book_again e = ap (λ t. cond (not t) (entered m ms l r a) l) (sym e)

  pub book_done : is_answered l.firsts r ≡ false → entered m ms l r a ≡ book Done
  book_done e = ap (λ t. cond (not t) (entered m ms l r a) l) (sym e)

-- the reply that the ledger gives at a request's first arrival with a reply
abbrev pub books : (m : Meaning) → Messages → Ledger m.Register → Admitted → Bytes
books m ms l a = ms.saying a.datagram (m.says l.register a.change a.moment)

abbrev pub Known : (m : Meaning) → Messages → Server m.State → Ledger m.Register → ℕ → Admitted → Ending → Type 0
Known m ms v l r a Repeated = (a.con ≡ true) × In (first_of r (recorded v.records a)) l.firsts
Known m ms v l r a Silenced = (a.con ≡ false) × In (first_of r (recorded v.records a)) l.firsts
Known m ms v l r a Dropped = is_answered l.firsts r ≡ false
Known m ms v l r a Done = (is_answered l.firsts r ≡ false) × (place_in (expiries (keys v.records)) < length v.records) × ((get_or v.records (place_in (expiries (keys v.records))) no_record).key.expiry ≤ a.moment) × (reply_to m ms v.stack a ≡ books m ms l a)

module _ (m : Meaning) (law : Laws m) (ms : Messages) (sep : Framing ms) where
  -- the body of an admitted change fits
  fits : (a : Admitted) → ms.asks a.datagram ≡ Changes a.con a.id a.change → IsBody a.change.body
  fits a e = sep.change_fits a.datagram a.con a.id a.change e

  module _ (v : Server m.State) (l : Ledger m.Register) (es : List Arrived) (r : ℕ) (a : Admitted) (e : Ending) (h : Inv m ms v l es) (p : Premises (arrived r a ∷ es)) (apt : Apt ms v.last (keys v.records) (Changing a e)) where
    tells_known : (f : Ending) → Tells (keys v.records) a f → Known m ms v l r a f
    tells_known Repeated t = (t.1, live_known m ms v l es r a e h p apt t.0)
    tells_known Silenced t = (t.1, live_known m ms v l es r a e h p apt t.0)
    tells_known Dropped t = not_known m ms v l es r a e h p apt t
    tells_known Done t =
        let k = place_expired (keys v.records) a.moment t.1 in
        let j = place_in (expiries (keys v.records)) in
        let n : j < length v.records = omega (arith, k.0, length_keys v.records) in
        let o : (get_or v.records j no_record).key.expiry ≤ a.moment = omega (arith, k.1, ap (λ (s : Key). s.expiry) (get_d_keys v.records j)) in (
          not_known m ms v l es r a e h p apt t.0,
          n,
          o,
          ap (ms.saying a.datagram) (law.said v.stack a.change a.moment h.sound apt.1 (fits a apt.2) ∙ ap (λ x. m.says x a.change a.moment) h.register),
        )

    pub known : Known m ms v l r a e
    known = tells_known e apt.3

    -- ## One step

    at_once : Past ms a.moment (arrived r a)
    at_once = (omega arith, apt.2)

    stay : (acc : ℕ) (n : Counts) → Inv m ms (record { stack = v.stack; last = a.moment; accepted = acc; records = v.records; counts = n }) l (arrived r a ∷ es)
    stay acc n = more m ms _ l es (arrived r a) (later m ms v l es v.stack a.moment acc n h apt.0 h.sound h.register) at_once

    done_step : Known m ms v l r a Done → Inv m ms (next_change m ms v a Done) (entered m ms l r a) (arrived r a ∷ es)
    done_step k =
        let i = place_in (expiries (keys v.records)) in
        let s = stay 0 v.counts in
        let y : Record = record { key = key_of a; reply = reply_to m ms v.stack a } in
        let n = first_of r (books m ms l a) in
        let E = arrived r a ∷ es in
        record {
          sound = law.change_sound v.stack a.change a.moment h.sound apt.1 (fits a apt.2);
          register = law.left v.stack a.change a.moment h.sound apt.1 (fits a apt.2) ∙ ap (λ x. m.leaves x a.change a.moment) h.register;
          owned = All-set (Owned E (n ∷ l.firsts)) v.records i y
              (inr (record { of = arrived r a; listed = inl refl; key_is = refl; reply_is = inl (ap (first_of r) k.3) }))
              (All-weaker (Owned E l.firsts) (Owned E (n ∷ l.firsts)) (owned_more E l.firsts n) v.records s.owned);
          memory = (
            record { at = a; listed = inl refl; stands = inr (y, set_has v.records i y k.1, refl) },
            All-weaker (Memory E v.records a.moment) (Memory E (set v.records i y) a.moment) (memory_set E v.records a.moment i y k.2) l.firsts s.memory,
          );
          past = s.past;
          distinct = (k.0, h.distinct);
          plain = (sep.not_said a.datagram _, h.plain);
        }

    change_step : (f : Ending) → Known m ms v l r a f → Inv m ms (next_change m ms v a f) (book m ms l r a f) (arrived r a ∷ es)
    change_step Repeated k = subst (λ x. Inv m ms (next_change m ms v a Repeated) x (arrived r a ∷ es)) (book_again m ms l r a (in_knows l.firsts r _ k.1)) (stay _ _)
    change_step Silenced k = stay _ _
    change_step Dropped k = stay _ _
    change_step Done k = subst (λ x. Inv m ms (next_change m ms v a Done) x (arrived r a ∷ es)) (book_done m ms l r a k.0) (done_step k)

  event_step : (v : Server m.State) (l : Ledger m.Register) (es : List Arrived) (r : ℕ) (k : Event) → Inv m ms v l es → Apt ms v.last (keys v.records) k → Premises (listed es r k) →
      Inv m ms (next_event m ms v k) (booked m ms l r k) (listed es r k)
  event_step v l es r (TurnedAway n) h apt p = h
  event_step v l es r (Settles t d a) h apt p = later m ms v l es v.stack t _ _ h apt.0 h.sound h.register
  event_step v l es r (Reading t d q) h apt p =
      later m ms v l es (m.after_read v.stack q t) t _ _ h apt.0 (law.read_sound v.stack q t h.sound apt.1) (law.kept v.stack q t h.sound apt.1 ∙ h.register)
  event_step v l es r (Changing a e) h apt p = change_step v l es r a e h p apt e (known v l es r a e h p apt)
  event_step v l es r Tallying h apt p = h

  -- ## Every history

  premises_tail : (e : Arrived) (es : List Arrived) → Premises (e ∷ es) → Premises es
  premises_tail e es p = record {
    one = λ x y i j. p.one x y (inr i) (inr j);
    near = λ x y i j. p.near x y (inr i) (inr j);
    far = λ x y i j. p.far x y (inr i) (inr j);
  }

  pub premises_before : (es : List Arrived) (r : ℕ) (k : Event) → Premises (listed es r k) → Premises es
  premises_before es r (TurnedAway n) p = p
  premises_before es r (Settles t d a) p = p
  premises_before es r (Reading t d q) p = p
  premises_before es r (Changing a e) p = premises_tail (arrived r a) es p
  premises_before es r Tallying p = p

  new : (s : m.State) → m.Sound s → Inv m ms (fresh s) (record { register = m.register s; firsts = [] }) []
  new s k = record {
    sound = k;
    register = refl;
    owned = all_replicate (Owned [] []) 32 no_record (inl refl);
    memory = tt;
    past = tt;
    distinct = tt;
    plain = tt;
  }

  pub invariant : (s : m.State) → m.Sound s → (history : List Grouped) → Premises (admitted ms history) → Inv m ms (served m ms s (calls history)) (ledger m ms (m.register s) history) (admitted ms history)
  invariant s k [] p = new s k
  invariant s k (f ∷ past) p =
      let v = served m ms s (calls past) in
      let l = ledger m ms (m.register s) past in
      let es = admitted ms past in
      let h = invariant s k past (premises_before es f.request (event_in ms past f) p) in
      subst (λ x. Premises (listed es f.request x) → Inv m ms (next m ms v f.call) (booked m ms l f.request x) (listed es f.request x))
      (same_event m ms s (calls past) f.call)
      (event_step v l es f.request (event_by ms v f.call) h (event_apt ms v f.call))
      p
