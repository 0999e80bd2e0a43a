-- What a search of the records finds.
use Rattle.std.proofs.Common.{◌≡◌, ℕ, Bool, true, false, cond, ◌&&◌, ◌||◌, nat_lt, List, [], ◌∷◌, map, Some, None, Option, Bor, sym, refl, ap, ◌∙◌, subst}
use Rattle.std.specs.List.{list_all, find}
use Rattle.std.specs.Option.{MatchOption, IsSomeAnd, option_map}
use Rattle.register.specs.Values.{Bytes}
use Rattle.register.specs.Model.{bytes_of}
use Rattle.server.specs.Serving.{keys, matches_at, live_at, full, recorded_at, expiries}
use Rattle.serving.specs.Records.{key_in, records_of}
use Rattle.serving.specs.declared.record.Record.{Record}

module _ (t peer id : ℕ) where
  abbrev pub live : Record → Bool
  live r = matches_at t peer id (key_in r)

  -- the record that was found is live, and its reply is the one that is recorded
  abbrev pub Finds : Option Record → List Record → Type 0
  Finds (Some r) rs = (live_at t peer id (keys (records_of rs)) ≡ true) × (bytes_of r.reply ≡ recorded_at t peer id (records_of rs))
  Finds None rs = live_at t peer id (keys (records_of rs)) ≡ false

  module _ (r : Record) (rs : List Record) where
    found_later : (o : Option Record) → false ≡ live r → Finds o rs → Finds o (r ∷ rs)
    found_later (Some x) is later = (
      ap (λ b. b || live_at t peer id (keys (records_of rs))) (sym is) ∙ later.0,
      later.1 ∙ ap (λ b. cond b (bytes_of r.reply) (recorded_at t peer id (records_of rs))) is,
    )
    found_later None is later = ap (λ b. b || live_at t peer id (keys (records_of rs))) (sym is) ∙ later

    found_by : (b : Bool) → b ≡ live r → Finds (find live rs) rs → Finds (cond b (Some r) (find live rs)) (r ∷ rs)
    found_by true is later = (
      ap (λ b. b || live_at t peer id (keys (records_of rs))) (sym is),
      ap (λ b. cond b (bytes_of r.reply) (recorded_at t peer id (records_of rs))) is,
    )
    found_by false is later = found_later (find live rs) is later

  pub found : (rs : List Record) → Finds (find live rs) rs
  found [] = refl
  found (r ∷ rs) = found_by r rs (live r) refl (found rs)

  module _ {B : Type 0} (read : B → Bytes) where
    -- and so is the reply of a search that reads it off the record
    module _ {P : Bor Record → B → Type 0} (reads : (x : Bor Record) (b : B) → P x b → read b ≡ bytes_of x.now.reply) where
      pub found_reply : (o : Option (Bor Record)) (r : Option B) (rs : List Record) → option_map (λ x. x.now) o ≡ find live rs → MatchOption o (r ≡ None) (λ x. IsSomeAnd r (P x)) →
          elim r as (λ _. Type 0) [ Some b ↦ (live_at t peer id (keys (records_of rs)) ≡ true) × (read b ≡ recorded_at t peer id (records_of rs)) | None ↦ live_at t peer id (keys (records_of rs)) ≡ false ]
      found_reply None None rs is said = subst (λ x. Finds x rs) (sym is) (found rs)
      found_reply None (Some b) rs is said = let no : ⊥ = cc in absurd no
      found_reply (Some x) None rs is said = absurd said
      found_reply (Some x) (Some b) rs is said = let f : Finds (Some x.now) rs = subst (λ x. Finds x rs) (sym is) (found rs) in (f.0, reads x b said ∙ f.1)

pub all_live : (t : ℕ) (rs : List Record) → list_all (λ (r : Record). nat_lt t r.expiry) rs ≡ full (keys (records_of rs)) t
all_live t [] = refl
all_live t (r ∷ rs) = ap (λ x. nat_lt t r.expiry && x) (all_live t rs)

pub same_expiries : (rs : List Record) → map (λ (r : Record). r.expiry) rs ≡ expiries (keys (records_of rs))
same_expiries [] = refl
same_expiries (r ∷ rs) = ap (λ xs. r.expiry ∷ xs) (same_expiries rs)
