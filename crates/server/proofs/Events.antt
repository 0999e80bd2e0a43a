-- The server's events come from the calls alone, and what an event tells.
use Rattle.std.proofs.Common.{◌≡◌, ℕ, zero, suc, ◌+◌, ◌^◌, ◌<◌, ◌≤◌, Bool, true, false, cond, ◌&&◌, ◌||◌, eqb, ltb, leb, List, [], ◌∷◌, length, get_or, set, replicate, Some, None, Option, sym, refl, ap, ◌∙◌, subst, arith, length-set}
use Rattle.std.proofs.lemmas.Bool.{cond_both, or_parts, and_right, ltb-false, leb-false, le-ltb, lt-leb}
use Rattle.std.proofs.lemmas.Bool.Decides.{nat_tests}
use Rattle.register.specs.Places.{place_in}
use Rattle.register.specs.Values.{Bytes, IsMoment}
use Rattle.register.specs.Meaning.{Meaning}
use Rattle.server.specs.Calls.{Call, Arrival, Tally}
use Rattle.server.specs.Messages.{Asked, Settled, Reads, Changes, Messages}
use Rattle.server.specs.Settling.{Admitted, Ending, Repeated, Silenced, Dropped, Done, Event, TurnedAway, Settles, Reading, Changing, Tallying, refusal, unless, event_of, remembered, copies, copies_any, how_many, ending, Progress, event_after, moved, progress, event_at}
use Rattle.server.specs.Serving.{Key, Server, keys, full, ending_by, event_by, expiries, key_of, next_change, next_event, next, served, no_key}
use Rattle.server.proofs.Finding.{matches, live, keys_set, keys_replicate, place_expired}

-- ## What an event tells

abbrev pub Tells : List Key → Admitted → Ending → Type 0
Tells ks a Repeated = (live ks a ≡ true) × (a.con ≡ true)
Tells ks a Silenced = (live ks a ≡ true) × (a.con ≡ false)
Tells ks a Dropped = live ks a ≡ false
Tells ks a Done = (live ks a ≡ false) × (full ks a.moment ≡ false)

ending_tells : (ks : List Key) (a : Admitted) → Tells ks a (ending_by ks a)
ending_tells ks a =
    let P : Ending → Type 0 = Tells ks a in
    cond_both (live ks a) _ _ P
    (λ l. cond_both a.con _ _ P (λ c. (l, c)) (λ c. (l, c)))
    (λ l. cond_both (full ks a.moment) _ _ P (λ _. l) (λ f. (l, f)))

abbrev pub Apt : Messages → ℕ → List Key → Event → Type 0
Apt ms last ks (TurnedAway n) = Unit {0}
Apt ms last ks (Settles t d a) = (last ≤ t) × IsMoment t × (ms.asks d ≡ Settled a)
Apt ms last ks (Reading t d p) = (last ≤ t) × IsMoment t × (ms.asks d ≡ Reads p)
Apt ms last ks (Changing a e) = (last ≤ a.moment) × IsMoment a.moment × (ms.asks a.datagram ≡ Changes a.con a.id a.change) × Tells ks a e
Apt ms last ks Tallying = Unit {0}

event_of_apt : (ms : Messages) (last t peer : ℕ) (ks : List Key) (d : Bytes) (q : Asked) → last ≤ t → IsMoment t → ms.asks d ≡ q → Apt ms last ks (event_of (ending_by ks) t peer d q)
event_of_apt ms last t peer ks d (Settled a) l k e = (l, k, e)
event_of_apt ms last t peer ks d (Reads p) l k e = (l, k, e)
event_of_apt ms last t peer ks d (Changes con id c) l k e = (l, k, e, ending_tells ks (record { moment = t; peer = peer; datagram = d; con = con; id = id; change = c }))

unless_apt : (ms : Messages) (last : ℕ) (ks : List Key) (o : Option ℕ) (k : Event) → (o ≡ None → Apt ms last ks k) → Apt ms last ks (unless o k)
unless_apt ms last ks (Some n) k h = tt
unless_apt ms last ks None k h = h refl

-- what is not turned away comes in time
in_time : (last accepted t room len : ℕ) → refusal last accepted t room len ≡ None → (last ≤ t) × IsMoment t
in_time last accepted t room len =
    let P : Option ℕ → Type 0 = λ o. o ≡ None → (last ≤ t) × IsMoment t in
    cond_both (ltb t last || leb (2 ^ 48) t) _ _ P (λ _ e. absurd (some_none e)) (λ f _.
    let h = or_parts (ltb t last) (leb (2 ^ 48) t) f in (ltb-false t last h.0, leb-false (2 ^ 48) t h.1))
  where
    some_none : {n : ℕ} → Some n ≡ None → ⊥
    some_none e = let z : ◌≡◌ {A = ℕ} 0 1 = cc e in omega arith

pub event_apt : {S : Type 0} (ms : Messages) (v : Server S) (c : Call) → Apt ms v.last (keys v.records) (event_by ms v c)
event_apt ms v (Arrival t peer d room) = unless_apt ms v.last (keys v.records) (refusal v.last v.accepted t room (length d)) _
    (λ e. let h = in_time v.last v.accepted t room (length d) e in event_of_apt ms v.last t peer (keys v.records) d (ms.asks d) h.0 h.1 refl)
event_apt ms v Tally = tt

-- ## The records agree with the changes done

abbrev live_count : ℕ → List Key → ℕ
live_count t [] = 0
live_count t (k ∷ ks) = cond (ltb t k.expiry) 1 0 + live_count t ks

count_most : (t : ℕ) (ks : List Key) → live_count t ks ≤ length ks
count_most t [] = omega arith
count_most t (k ∷ ks) = let h = count_most t ks in grind (arith, nat_tests)

leb_suc : (n c : ℕ) → leb n c ≡ leb (suc n) (1 + c)
leb_suc n c = grind (arith, nat_tests)

-- full just where every record is live
full_count : (t : ℕ) (ks : List Key) → full ks t ≡ leb (length ks) (live_count t ks)
full_count t [] = refl
full_count t (k ∷ ks) = go (ltb t k.expiry) (full_count t ks) (count_most t ks)
  where
    go : (b : Bool) → full ks t ≡ leb (length ks) (live_count t ks) → live_count t ks ≤ length ks → (b && full ks t) ≡ leb (suc (length ks)) (cond b 1 0 + live_count t ks)
    go true e h = e ∙ leb_suc (length ks) (live_count t ks)
    go false e h = sym (lt-leb (suc (length ks)) (0 + live_count t ks) (omega arith))

-- a write to an expired record adds the new one to those that are live
expired_counts : (t : ℕ) (k : Key) → k.expiry ≤ t → ◌≡◌ {A = ℕ} (cond (ltb t k.expiry) 1 0) 0
expired_counts t k h = ap (λ b. cond {A = ℕ} b 1 0) (le-ltb t k.expiry h)

set_count : (t : ℕ) (ks : List Key) (i : ℕ) (k : Key) → i < length ks → (get_or ks i no_key).expiry ≤ t → live_count t (set ks i k) ≡ cond (ltb t k.expiry) 1 0 + live_count t ks
set_count t [] i k l h = absurd (omega arith)
set_count t (x ∷ xs) zero k l h = ap (λ n. cond (ltb t k.expiry) 1 0 + n) (let z : live_count t xs ≡ cond (ltb t x.expiry) 1 0 + live_count t xs = omega (arith, expired_counts t x h) in z)
set_count t (x ∷ xs) (suc i) k l h = let z = set_count t xs i k (omega arith) h in omega (arith, z)

expired_misses : (k : Key) (a : Admitted) → k.expiry ≤ a.moment → matches k a ≡ false
expired_misses k a h = and_right (eqb k.peer a.peer && eqb k.id a.id) (ltb a.moment k.expiry) (le-ltb a.moment k.expiry h)

or_swap : (x y z : Bool) → (x || (y || z)) ≡ (y || (x || z))
or_swap true true z = refl
or_swap true false z = refl
or_swap false y z = refl

set_live : (ks : List Key) (i : ℕ) (k : Key) (a : Admitted) → i < length ks → (get_or ks i no_key).expiry ≤ a.moment → live (set ks i k) a ≡ (matches k a || live ks a)
set_live [] i k a l h = absurd (omega arith)
set_live (x ∷ xs) zero k a l h = ap (λ b. matches k a || (b || live xs a)) (sym (expired_misses x a h))
set_live (x ∷ xs) (suc i) k a l h = ap (λ b. matches x a || b) (set_live xs i k a (omega arith) h) ∙ or_swap (matches x a) (matches k a) (live xs a)

-- at every moment from `last` on, as many records are live as changes are remembered, for the same peers and IDs
pub record Agrees (last : ℕ) (ks : List Key) (done : List Admitted) : Type 0 where
  pub long : length ks ≡ 32
  pub same_count : (t : ℕ) → last ≤ t → live_count t ks ≡ how_many t done
  pub same_live : (a : Admitted) → last ≤ a.moment → live ks a ≡ copies_any a done

agrees_later : (last t : ℕ) (ks : List Key) (done : List Admitted) → last ≤ t → Agrees last ks done → Agrees t ks done
agrees_later last t ks done l g = record { long = g.long; same_count = λ u h. g.same_count u (omega arith); same_live = λ a h. g.same_live a (omega arith) }

agrees_done : (last : ℕ) (ks : List Key) (done : List Admitted) (a : Admitted) → Agrees last ks done → last ≤ a.moment → full ks a.moment ≡ false → Agrees a.moment (set ks (place_in (expiries ks)) (key_of a)) (a ∷ done)
agrees_done last ks done a g l f =
    let p = place_expired ks a.moment f in
    let i = place_in (expiries ks) in
    record {
      long = length-set ks i (key_of a) ∙ g.long;
      same_count = λ t h. set_count t ks i (key_of a) p.0 (omega (arith, p.1)) ∙ ap (λ n. cond (remembered t a) 1 0 + n) (g.same_count t (omega arith));
      same_live = λ b h. set_live ks i (key_of a) b p.0 (omega (arith, p.1)) ∙ ap (λ x. copies b a || x) (g.same_live b (omega arith));
    }

none_count : (t n : ℕ) → live_count t (replicate n no_key) ≡ 0
none_count t zero = refl
none_count t (suc n) = omega (arith, none_count t n, expired_counts t no_key (omega arith))

none_live : (a : Admitted) (n : ℕ) → live (replicate n no_key) a ≡ false
none_live a zero = refl
none_live a (suc n) = ap (λ b. b || live (replicate n no_key) a) (expired_misses no_key a (omega arith)) ∙ none_live a n

agrees_new : Agrees 0 (replicate 32 no_key) []
agrees_new = record { long = refl; same_count = λ t h. none_count t 32; same_live = λ a h. none_live a 32 }

-- so they end an arrival alike
same_ending : (last : ℕ) (ks : List Key) (done : List Admitted) (a : Admitted) → Agrees last ks done → last ≤ a.moment → ending_by ks a ≡ ending done a
same_ending last ks done a g l =
    let f : full ks a.moment ≡ leb 32 (how_many a.moment done) = full_count a.moment ks ∙ (λ i. leb (g.long i) (g.same_count a.moment l i)) in
    λ i. cond (g.same_live a l i) (cond a.con Repeated Silenced) (cond (f i) Dropped Done)

-- ## The server's progress is the progress of the calls

pub record Follows {S : Type 0} (v : Server S) (g : Progress) : Type 0 where
  pub last : v.last ≡ g.last
  pub accepted : v.accepted ≡ g.accepted
  pub agrees : Agrees g.last (keys v.records) g.done

same_of : (last t peer : ℕ) (ks : List Key) (done : List Admitted) (d : Bytes) (q : Asked) → Agrees last ks done → last ≤ t → event_of (ending_by ks) t peer d q ≡ event_of (ending done) t peer d q
same_of last t peer ks done d (Settled a) g l = refl
same_of last t peer ks done d (Reads p) g l = refl
same_of last t peer ks done d (Changes con id c) g l =
    let a : Admitted = record { moment = t; peer = peer; datagram = d; con = con; id = id; change = c } in
    ap (Changing a) (same_ending last ks done a g l)

same_unless : (o : Option ℕ) (x y : Event) → (o ≡ None → x ≡ y) → unless o x ≡ unless o y
same_unless (Some n) x y h = refl
same_unless None x y h = h refl

same_after : {S : Type 0} (ms : Messages) (v : Server S) (g : Progress) (c : Call) → Follows v g → event_by ms v c ≡ event_after ms g c
same_after ms v g (Arrival t peer d room) f =
    (λ i. unless (refusal (f.last i) (f.accepted i) t room (length d)) (event_of (ending_by (keys v.records)) t peer d (ms.asks d)))
    ∙ same_unless (refusal g.last g.accepted t room (length d)) _ _ (λ e. same_of g.last t peer (keys v.records) g.done d (ms.asks d) f.agrees (in_time g.last g.accepted t room (length d) e).0)
same_after ms v g Tally f = refl

module _ (m : Meaning) (ms : Messages) where
  follows_change : (v : Server m.State) (g : Progress) (a : Admitted) (e : Ending) → Follows v g → v.last ≤ a.moment → Tells (keys v.records) a e → Follows (next_change m ms v a e) (moved g (Changing a e))
  follows_change v g a Repeated f l t = record { last = refl; accepted = ap (λ n. n + 1) f.accepted; agrees = agrees_later g.last a.moment _ _ (omega (arith, f.last)) f.agrees }
  follows_change v g a Silenced f l t = record { last = refl; accepted = ap (λ n. n + 1) f.accepted; agrees = agrees_later g.last a.moment _ _ (omega (arith, f.last)) f.agrees }
  follows_change v g a Dropped f l t = record { last = refl; accepted = ap (λ n. n + 1) f.accepted; agrees = agrees_later g.last a.moment _ _ (omega (arith, f.last)) f.agrees }
  follows_change v g a Done f l t = record {
    last = refl;
    accepted = ap (λ n. n + 1) f.accepted;
    agrees = subst (λ ks. Agrees a.moment ks (a ∷ g.done)) (sym (keys_set v.records (place_in (expiries (keys v.records))) _)) (agrees_done g.last (keys v.records) g.done a f.agrees (omega (arith, f.last)) t.1);
  }

  follows_event : (v : Server m.State) (g : Progress) (k : Event) → Follows v g → Apt ms v.last (keys v.records) k → Follows (next_event m ms v k) (moved g k)
  follows_event v g (TurnedAway n) f apt = f
  follows_event v g (Settles t d a) f apt = record { last = refl; accepted = ap (λ n. n + 1) f.accepted; agrees = agrees_later g.last t _ _ (omega (arith, f.last, apt.0)) f.agrees }
  follows_event v g (Reading t d p) f apt = record { last = refl; accepted = ap (λ n. n + 1) f.accepted; agrees = agrees_later g.last t _ _ (omega (arith, f.last, apt.0)) f.agrees }
  follows_event v g (Changing a e) f apt = follows_change v g a e f apt.0 apt.3
  follows_event v g Tallying f apt = f

  follows : (s : m.State) (past : List Call) → Follows (served m ms s past) (progress ms past)
  follows s [] = record { last = refl; accepted = refl; agrees = subst (λ ks. Agrees 0 ks []) (sym (keys_replicate 32)) agrees_new }
  follows s (c ∷ past) =
      let v = served m ms s past in
      let g = progress ms past in
      let f = follows s past in
      subst (λ k. Follows (next m ms v c) (moved g k)) (same_after ms v g c f) (follows_event v g (event_by ms v c) f (event_apt ms v c))

  -- what a call comes to is settled by the calls alone
  pub same_event : (s : m.State) (past : List Call) (c : Call) → event_by ms (served m ms s past) c ≡ event_at ms past c
  same_event s past c = same_after ms (served m ms s past) (progress ms past) c (follows s past)
