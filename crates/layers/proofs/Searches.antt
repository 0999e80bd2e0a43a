-- What a search of the entries of a cache found.
use Rattle.std.proofs.Common.{◌≡◌, ℕ, ◌+◌, ◌<◌, ◌≤◌, Bool, true, false, cond, ◌&&◌, ◌||◌, leb, ltb, List, [], ◌∷◌, map, length, set, Some, None, Option, sym, refl, ap, ◌∙◌, subst, arith}
use Rattle.std.specs.List.{find, AllWithin, HoldsAt}
use Rattle.std.specs.Option.{MatchOption, unwrap_or}
use Rattle.std.proofs.lemmas.Iterator.{index_from_first}
use Rattle.std.proofs.lemmas.List.{map-set, length-map}
use Rattle.std.proofs.lemmas.Bool.{cond-true, cond-false, lt-ltb, le-ltb}
use Rattle.std.proofs.lemmas.Bool.Decides.{nat_tests}
use Rattle.register.specs.Values.{Path, Read}
use Rattle.register.specs.Cached.{Entry, answers_at, hit, from_entry, from_entries, holds, holds_any, entry_place, is_content, entry_for, kept_after}
use Rattle.register.specs.Places.{first, place_in}
use Rattle.layers.specs.Entries.{entry_of, entries_of}
use Rattle.layers.specs.declared.entry.CacheEntry.{CacheEntry}

-- there is an entry that answers, which gives what is read, or there is none
abbrev pub Told : Option CacheEntry → ℕ → Bool → Read → Type 0
Told o t there read = elim o [ Some e ↦ (there ≡ true) × (read ≡ from_entry (entry_of e) t) | None ↦ there ≡ false ]

abbrev Found : Path → ℕ → List Entry → Option CacheEntry → Type 0
Found p t es o = Told o t (hit p t es) (from_entries p t es)

pub found : (p : Path) (t : ℕ) (es : List CacheEntry) (o : Option CacheEntry) → o ≡ find (λ e. answers_at p t (entry_of e)) es → Told o t (hit p t (entries_of es)) (from_entries p t (entries_of es))
found p t es o is = subst (Found p t (entries_of es)) (sym is) (all es)
  where
    by : (e : CacheEntry) (es : List CacheEntry) (rest : Option CacheEntry) → Found p t (entries_of es) rest → (b : Bool) →
        Told (cond b (Some e) rest) t (b || hit p t (entries_of es)) (cond b (from_entry (entry_of e) t) (from_entries p t (entries_of es)))
    by e es rest h true = (refl, refl)
    by e es rest h false = h

    all : (es : List CacheEntry) → Found p t (entries_of es) (find (λ e. answers_at p t (entry_of e)) es)
    all [] = refl
    all (e ∷ es) = by e es (find (λ x. answers_at p t (entry_of x)) es) (all es) (answers_at p t (entry_of e))

-- an entry of the path is there just where the first of them is
holds_any_is : (p : Path) (es : List Entry) → holds_any p es ≡ ltb (first (holds p) es) (length es)
holds_any_is p [] = refl
holds_any_is p (e ∷ es) = go (holds p e) (holds_any_is p es)
  where
    go : (b : Bool) → holds_any p es ≡ ltb (first (holds p) es) (length es) → (b || holds_any p es) ≡ ltb (cond b 0 (first (holds p) es + 1)) (length (e ∷ es))
    go true h = grind (arith, nat_tests)
    go false h = grind (arith, nat_tests)

-- the test gives b at e
abbrev pub Is : Path → Bool → CacheEntry → Type 0
Is p b e = b ≡ holds p (entry_of e)

module _ (p : Path) (es : List CacheEntry) where
  -- what a search for the first entry of the path found
  abbrev pub Searched : Option ℕ → Type 0
  Searched r = MatchOption r (AllWithin (Is p false) es 0 (length es)) (λ i. (i < length es) × HoldsAt (Is p true) es i × AllWithin (Is p false) es 0 i)

  counted : (r : Option ℕ) → Searched r → first (holds p) (entries_of es) ≡ unwrap_or r (length es)
  counted r h = index_from_first (λ xs. first (holds p) (entries_of xs)) (Is p true) (Is p false) refl (λ x xs y. sym (ap (λ b. cond b 0 (first (holds p) (entries_of xs) + 1)) y)) (λ x xs n. sym (ap (λ b. cond b 0 (first (holds p) (entries_of xs) + 1)) n)) es r h

  pub place_found : (i : ℕ) → Searched (Some i) → i ≡ entry_place p (entries_of es)
  place_found i h =
      let at : first (holds p) (entries_of es) ≡ i = counted (Some i) h in
      let within : first (holds p) (entries_of es) < length (entries_of es) = omega (arith, at, h.0, length-map es entry_of) in
      sym (cond-true _ _ _ (holds_any_is p (entries_of es) ∙ lt-ltb _ _ within) ∙ at)

  pub place_left : Searched None → place_in (map (λ e. e.expiry) (entries_of es)) ≡ entry_place p (entries_of es)
  place_left h =
      let at : first (holds p) (entries_of es) ≡ length es = counted None h in
      let past : length (entries_of es) ≤ first (holds p) (entries_of es) = omega (arith, at, length-map es entry_of) in
      sym (cond-false _ _ _ (holds_any_is p (entries_of es) ∙ le-ltb _ _ past))

pub same_expiries : (es : List CacheEntry) → map (λ (e : CacheEntry). e.expiry) es ≡ map (λ (e : Entry). e.expiry) (entries_of es)
same_expiries [] = refl
same_expiries (e ∷ es) = ap (λ xs. e.expiry ∷ xs) (same_expiries es)

-- a kept answer is the entry at its place
pub set_kept : (p : Path) (t : ℕ) (r : Read) (es : List CacheEntry) (i : ℕ) (e : CacheEntry) →
    (is_content r.shown.code && leb 1 r.max_age) ≡ true → i ≡ entry_place p (entries_of es) → entry_of e ≡ entry_for p t r →
    entries_of (set es i e) ≡ kept_after p t r (entries_of es)
set_kept p t r es i e kept at is =
    map-set entry_of es i e
    ∙ ap (λ j. set (entries_of es) j (entry_of e)) at
    ∙ ap (set (entries_of es) (entry_place p (entries_of es))) is
    ∙ sym (cond-true _ _ _ kept)
