-- Lists of records: what stands in one, what a write leaves, where the place rule points, what a live record is.
use Rattle.std.proofs.Common.{◌≡◌, ℕ, zero, suc, ◌+◌, ◌<◌, ◌≤◌, min, Bool, true, false, cond, ◌&&◌, ◌||◌, eqb, ltb, ◌⊎◌, List, [], ◌∷◌, length, get_or, set, replicate, sym, refl, ap, ◌∙◌, subst, inl, inr, ⊎_elim, add-one, arith}
use lib.ListN.{length-map}
use Rattle.std.specs.List.{AllByRecursion}
use Rattle.std.proofs.lemmas.Bool.{both_ways, and_parts, and_from, and_cases, or_cases, or_parts, cases_lt, eqb-true, eq-eqb, ltb-true, ltb-false, lt-ltb, true≢false, false≢true}
use Rattle.register.specs.Places.{first, least_from, least, place_in}
use Rattle.register.specs.Values.{Bytes}
use Rattle.server.specs.Settling.{Admitted}
use Rattle.server.specs.Serving.{Key, matches_at, live_at, full, expiries, Record, keys, recorded, no_key, no_record}
use Rattle.server.specs.Ledger.{FirstReply, is_answered, In}
use Rattle.server.specs.Promises.{Distinct}

-- ## Membership

pub all_in : {X : Type 0} (P : X → Type 0) (xs : List X) (x : X) → AllByRecursion P xs → In x xs → P x
all_in P [] x a i = absurd i
all_in P (y ∷ ys) x a (inl e) = subst P (sym e) a.0
all_in P (y ∷ ys) x a (inr i) = all_in P ys x a.1 i

pub all_replicate : {X : Type 0} (P : X → Type 0) (n : ℕ) (x : X) → P x → AllByRecursion P (replicate n x)
all_replicate P zero x p = tt
all_replicate P (suc n) x p = (p, all_replicate P n x p)

-- what a write leaves of what stood there
pub set_keeps : {X : Type 0} (xs : List X) (i : ℕ) (y d x : X) → In x xs → In x (set xs i y) ⊎ (x ≡ get_or xs i d)
set_keeps [] i y d x h = absurd h
set_keeps (z ∷ zs) zero y d x (inl e) = inr e
set_keeps (z ∷ zs) zero y d x (inr h) = inl (inr h)
set_keeps (z ∷ zs) (suc i) y d x (inl e) = inl (inl e)
set_keeps (z ∷ zs) (suc i) y d x (inr h) = ⊎_elim (λ k. inl (inr k)) inr (set_keeps zs i y d x h)

pub set_has : {X : Type 0} (xs : List X) (i : ℕ) (y : X) → i < length xs → In y (set xs i y)
set_has [] i y h = absurd (omega arith)
set_has (z ∷ zs) zero y h = inl refl
set_has (z ∷ zs) (suc i) y h = inr (set_has zs i y (omega arith))

-- ## The records without their replies

pub keys_set : (rs : List Record) (i : ℕ) (r : Record) → keys (set rs i r) ≡ set (keys rs) i r.key
keys_set [] i r = refl
keys_set (x ∷ xs) zero r = refl
keys_set (x ∷ xs) (suc i) r = ap (λ ys. x.key ∷ ys) (keys_set xs i r)

pub keys_replicate : (n : ℕ) → keys (replicate n no_record) ≡ replicate n no_key
keys_replicate zero = refl
keys_replicate (suc n) = ap (λ ys. no_key ∷ ys) (keys_replicate n)

pub length_keys : (rs : List Record) → length (keys rs) ≡ length rs
length_keys [] = refl
length_keys (r ∷ rs) = ap suc (length_keys rs)

pub get_d_keys : (rs : List Record) (i : ℕ) → get_or (keys rs) i no_key ≡ (get_or rs i no_record).key
get_d_keys [] i = refl
get_d_keys (r ∷ rs) zero = refl
get_d_keys (r ∷ rs) (suc i) = get_d_keys rs i

-- ## The place rule

cases_le : (a b : ℕ) → (a ≤ b) ⊎ (b ≤ a)
cases_le a b = ⊎_elim (λ h. inl (omega arith)) inr (cases_lt a b)

first_fits : (p : ℕ → Bool) (xs : List ℕ) (i : ℕ) → i < length xs → p (get_or xs i 0) ≡ true → (first p xs < length xs) × (p (get_or xs (first p xs) 0) ≡ true)
first_fits p [] i h t = absurd (omega arith)
first_fits p (x ∷ xs) i h t = go (p x) refl i h t (first_fits p xs)
  where
    go : (b : Bool) → p x ≡ b → (i : ℕ) → i < suc (length xs) → p (get_or (x ∷ xs) i 0) ≡ true → ((k : ℕ) → k < length xs → p (get_or xs k 0) ≡ true → (first p xs < length xs) × (p (get_or xs (first p xs) 0) ≡ true)) →
        (cond b 0 (first p xs + 1) < suc (length xs)) × (p (get_or (x ∷ xs) (cond b 0 (first p xs + 1)) 0) ≡ true)
    go true e i h t ih = (omega arith, e)
    go false e zero h t ih = absurd (both_ways _ e t)
    go false e (suc i) h t ih =
        let k = ih i (omega arith) t in
        (omega (arith, k.0), subst (λ n. p (get_or (x ∷ xs) n 0) ≡ true) (sym (add-one (first p xs))) k.1)

-- the least stands somewhere
least_at : (x : ℕ) (xs : List ℕ) → (i : ℕ) × (i < length (x ∷ xs)) × (get_or (x ∷ xs) i 0 ≡ least_from x xs)
least_at x [] = (0, omega arith, refl)
least_at x (y ∷ ys) = let k = least_at y ys in go (cases_le x (least_from y ys)) k
  where
    go : (x ≤ least_from y ys) ⊎ (least_from y ys ≤ x) → (i : ℕ) × (i < length (y ∷ ys)) × (get_or (y ∷ ys) i 0 ≡ least_from y ys) → (i : ℕ) × (i < length (x ∷ (y ∷ ys))) × (get_or (x ∷ (y ∷ ys)) i 0 ≡ min x (least_from y ys))
    go (inl h) k = (0, omega arith, omega arith)
    go (inr h) k = (suc k.0, omega (arith, k.1), k.2 ∙ omega arith)

-- the place rule's place is in the list, and none there is less
pub place_least : (xs : List ℕ) → 0 < length xs → (place_in xs < length xs) × (get_or xs (place_in xs) 0 ≡ least xs)
place_least [] h = absurd (omega arith)
place_least (x ∷ xs) h =
    let k = least_at x xs in
    let f = first_fits (λ y. eqb y (least_from x xs)) (x ∷ xs) k.0 k.1 (eq-eqb _ _ k.2) in
    (f.0, eqb-true _ _ f.1)

-- one record that is expired or empty has the least below its expiry
expired_least : (s : Key) (ss : List Key) (t : ℕ) → full (s ∷ ss) t ≡ false → least_from s.expiry (expiries ss) ≤ t
expired_least s [] t e = ⊎_elim (λ a. ltb-false t s.expiry a) (λ b. absurd (true≢false b)) (and_cases (ltb t s.expiry) true e)
expired_least s (u ∷ us) t e =
    ⊎_elim (λ a. let h = ltb-false t s.expiry a in omega arith) (λ b. let h = expired_least u us t b in omega arith) (and_cases (ltb t s.expiry) (full (u ∷ us) t) e)

get_d_expiries : (ss : List Key) (i : ℕ) → get_or (expiries ss) i 0 ≡ (get_or ss i no_key).expiry
get_d_expiries [] i = refl
get_d_expiries (s ∷ ss) zero = refl
get_d_expiries (s ∷ ss) (suc i) = get_d_expiries ss i

-- where some record is expired or empty, the place rule's is
pub place_expired : (ss : List Key) (t : ℕ) → full ss t ≡ false → (place_in (expiries ss) < length ss) × ((get_or ss (place_in (expiries ss)) no_key).expiry ≤ t)
place_expired [] t e = absurd (true≢false e)
place_expired (s ∷ ss) t e =
    let k = place_least (expiries (s ∷ ss)) (omega arith) in
    let n = length-map (s ∷ ss) (λ (x : Key). x.expiry) in
    (omega (arith, k.0, n), omega (arith, sym (get_d_expiries (s ∷ ss) (place_in (expiries (s ∷ ss)))), k.1, expired_least s ss t e))

-- ## Live records

abbrev pub matches : Key → Admitted → Bool
matches s a = matches_at a.moment a.peer a.id s

abbrev pub live : List Key → Admitted → Bool
live ss a = live_at a.moment a.peer a.id ss

pub match_parts : (s : Key) (a : Admitted) → matches s a ≡ true → (s.peer ≡ a.peer) × (s.id ≡ a.id) × (a.moment < s.expiry)
match_parts s a e =
    let p = and_parts (eqb s.peer a.peer && eqb s.id a.id) (ltb a.moment s.expiry) e in
    let q = and_parts (eqb s.peer a.peer) (eqb s.id a.id) p.0 in
    (eqb-true _ _ q.0, eqb-true _ _ q.1, ltb-true _ _ p.1)

pub match_from : (s : Key) (a : Admitted) → s.peer ≡ a.peer → s.id ≡ a.id → a.moment < s.expiry → matches s a ≡ true
match_from s a p i l = and_from _ _ (and_from _ _ (eq-eqb _ _ p) (eq-eqb _ _ i)) (lt-ltb _ _ l)

-- a live record, with what holds of each, and the reply in it
pub record Found (P : Record → Type 0) (rs : List Record) (a : Admitted) : Type 0 where
  pub one : Record
  pub holds : P one
  pub matching : matches one.key a ≡ true
  pub reply_is : recorded rs a ≡ one.reply

pub live_found : (P : Record → Type 0) (rs : List Record) (a : Admitted) → AllByRecursion P rs → live (keys rs) a ≡ true → Found P rs a
live_found P [] a h e = absurd (false≢true e)
live_found P (r ∷ rs) a h e = go (matches r.key a) refl (live_found P rs a h.1)
  where
    go : (b : Bool) → matches r.key a ≡ b → (live (keys rs) a ≡ true → Found P rs a) → Found P (r ∷ rs) a
    go true n ih = record { one = r; holds = h.0; matching = n; reply_is = ap (λ b. cond b r.reply (recorded rs a)) n }
    go false n ih =
        let f = ih (⊎_elim (λ x. absurd (both_ways _ n x)) (λ y. y) (or_cases (matches r.key a) (live (keys rs) a) e)) in
        record { one = f.one; holds = f.holds; matching = f.matching; reply_is = ap (λ b. cond b r.reply (recorded rs a)) n ∙ f.reply_is }

pub live_none : (rs : List Record) (a : Admitted) (r : Record) → live (keys rs) a ≡ false → In r rs → matches r.key a ≡ false
live_none [] a r e h = absurd h
live_none (x ∷ xs) a r e (inl k) = ap (λ y. matches y.key a) k ∙ (or_parts (matches x.key a) (live (keys xs) a) e).0
live_none (x ∷ xs) a r e (inr h) = live_none xs a r (or_parts (matches x.key a) (live (keys xs) a) e).1 h

-- ## The ledger's requests

abbrev pub first_of : ℕ → Bytes → FirstReply
first_of r b = record { request = r; bytes = b }

pub in_knows : (ns : List FirstReply) (r : ℕ) (b : Bytes) → In (first_of r b) ns → is_answered ns r ≡ true
in_knows [] r b h = absurd h
in_knows (n ∷ ns) r b (inl e) = ap (λ t. t || is_answered ns r) (eq-eqb n.request r (ap (λ (x : FirstReply). x.request) (sym e)))
in_knows (n ∷ ns) r b (inr h) = go (eqb n.request r) (in_knows ns r b h)
  where
    go : (t : Bool) → is_answered ns r ≡ true → (t || is_answered ns r) ≡ true
    go true k = refl
    go false k = k

pub knows_in : (ns : List FirstReply) (r : ℕ) → is_answered ns r ≡ true → (b : Bytes) × In (first_of r b) ns
knows_in [] r e = absurd (false≢true e)
knows_in (n ∷ ns) r e = ⊎_elim
    (λ x. (n.bytes, inl (ap (λ q. first_of q n.bytes) (sym (eqb-true n.request r x)))))
    (λ y. let k = knows_in ns r y in (k.0, inr k.1))
    (or_cases (eqb n.request r) (is_answered ns r) e)

pub same_bytes : (ns : List FirstReply) (r : ℕ) (b c : Bytes) → Distinct ns → In (first_of r b) ns → In (first_of r c) ns → b ≡ c
same_bytes [] r b c d h k = absurd h
same_bytes (n ∷ ns) r b c d (inl e) (inl f) = ap (λ (x : FirstReply). x.bytes) (e ∙ sym f)
same_bytes (n ∷ ns) r b c d (inl e) (inr k) = absurd (both_ways _ d.0 (subst (λ q. is_answered ns q ≡ true) (ap (λ (x : FirstReply). x.request) e) (in_knows ns r c k)))
same_bytes (n ∷ ns) r b c d (inr h) (inl f) = absurd (both_ways _ d.0 (subst (λ q. is_answered ns q ≡ true) (ap (λ (x : FirstReply). x.request) f) (in_knows ns r b h)))
same_bytes (n ∷ ns) r b c d (inr h) (inr k) = same_bytes ns r b c d.1 h k
