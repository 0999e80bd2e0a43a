-- A cache keeps the meaning over whatever keeps it.
use Rattle.std.proofs.Common.{◌≡◌, ℕ, zero, suc, Bool, true, false, cond, ◌&&◌, ltb, leb, List, [], ◌∷◌, replicate, Decides, sym, refl, ap, ◌∙◌, subst, ⊎_elim, arith}
use Rattle.std.specs.List.{AllByRecursion}
use Rattle.std.specs.Str.{bytes_eq}
use Rattle.std.proofs.ByRecursion.{All-set}
use Rattle.std.proofs.lemmas.Slice.Eq.{bytes_eq-Decides}
use Rattle.std.proofs.lemmas.Bool.{both_ways, and_parts, or_cases, leb-true, ltb-true, cond_both, false≢true}
use Rattle.register.specs.declared.values.ReadCode.{ReadCode}
use Rattle.register.specs.declared.values.ReadCode.TheVariants.{Content, NotFound}
use Rattle.register.specs.Values.{Path, same_path, IsMoment, Shown, Read, IsBody, IsRead}
use Rattle.register.specs.Meaning.{TrueAge, Meaning, Laws}
use Rattle.register.specs.Cached.{Entry, Cached, answers_at, hit, from_entries, from_entry, entry_place, is_content, kept_after, no_entry, Fresh, cached}
use Rattle.register.proofs.Conds.{cond_one, Zero}

pub all_replicate : {X : Type 0} (P : X → Type 0) (n : ℕ) (x : X) → P x → AllByRecursion P (replicate n x)
all_replicate P zero x p = tt
all_replicate P (suc n) x p = (p, all_replicate P n x p)

pub path_same : (a b : Path) → same_path a b ≡ true → a ≡ b
path_same [] [] e = refl
path_same [] (y ∷ ys) e = absurd (false≢true e)
path_same (x ∷ xs) [] e = absurd (false≢true e)
path_same (x ∷ xs) (y ∷ ys) e =
    let h = and_parts (bytes_eq x y) (same_path xs ys) e in
    ap (λ z. z ∷ xs) ((bytes_eq-Decides x y).0 h.0) ∙ ap (λ zs. y ∷ zs) (path_same xs ys h.1)

-- an entry that answers shows what the register does, and for as long as it says
abbrev Says : (Path → ℕ → Shown) → Path → ℕ → Read → Type 0
Says f p t g = (g.shown ≡ f p t) × TrueAge (f p) t g

hit_true : (f : Path → ℕ → Shown) (p : Path) (t : ℕ) (es : List Entry) → AllByRecursion (Fresh f) es → hit p t es ≡ true → IsMoment t →
    ((from_entries p t es).shown ≡ f p t) × TrueAge (f p) t (from_entries p t es)
hit_true f p t [] a e h = absurd (false≢true e)
hit_true f p t (x ∷ xs) a e h = go (answers_at p t x) refl (hit_true f p t xs a.1)
  where
    go : (b : Bool) → answers_at p t x ≡ b → (hit p t xs ≡ true → IsMoment t → Says f p t (from_entries p t xs)) → Says f p t (cond b (from_entry x t) (from_entries p t xs))
    go true n ih =
        let k = and_parts (same_path x.path p) (leb x.stored t && ltb t x.expiry) n in
        let j = and_parts (leb x.stored t) (ltb t x.expiry) k.1 in
        let lo = leb-true x.stored t j.0 in
        let hi = ltb-true t x.expiry j.1 in
        let w = path_same x.path p k.0 in (
          sym (subst (λ q. f q t ≡ record { code = Content; body = x.body }) w (a.0.1 t h lo hi)),
          λ u mu from to. subst (λ q. f q u ≡ record { code = Content; body = x.body }) w (a.0.1 u mu (omega arith) (omega arith)),
        )
    go false n ih = ih (⊎_elim (λ y. absurd (both_ways _ n y)) (λ y. y) (or_cases (answers_at p t x) (hit p t xs) e)) h

hit_content : (p : Path) (t : ℕ) (es : List Entry) → hit p t es ≡ true → (from_entries p t es).shown.code ≡ Content
hit_content p t [] e = absurd (false≢true e)
hit_content p t (x ∷ xs) e = go (answers_at p t x) refl (hit_content p t xs)
  where
    go : (b : Bool) → answers_at p t x ≡ b → (hit p t xs ≡ true → (from_entries p t xs).shown.code ≡ Content) → (cond b (from_entry x t) (from_entries p t xs)).shown.code ≡ Content
    go true n ih = refl
    go false n ih = ih (⊎_elim (λ y. absurd (both_ways _ n y)) (λ y. y) (or_cases (answers_at p t x) (hit p t xs) e))

hit_fits : (p : Path) (t : ℕ) (es : List Entry) (f : Path → ℕ → Shown) → AllByRecursion (Fresh f) es → IsRead (from_entries p t es)
hit_fits p t [] f a = (omega arith, omega arith)
hit_fits p t (x ∷ xs) f a = cond_one IsRead (answers_at p t x) _ _ (a.0.0, omega arith) (hit_fits p t xs f a.1)

-- what is kept is fresh
keeps_fresh : (f : Path → ℕ → Shown) (p : Path) (t : ℕ) (g : Read) (es : List Entry) → TrueAge (f p) t g → IsBody g.shown.body → AllByRecursion (Fresh f) es → AllByRecursion (Fresh f) (kept_after p t g es)
keeps_fresh f p t g es h f-fits a = cond_both (is_content g.shown.code && leb 1 g.max_age) _ _ (AllByRecursion (Fresh f))
    (λ e. All-set (Fresh f) es (entry_place p es) _ (f-fits, λ u mu lo hi. h u mu lo hi ∙ content g.shown.code refl (and_parts _ (leb 1 g.max_age) e).0) a)
    (λ _. a)
  where
    content : (c : ReadCode) → g.shown.code ≡ c → is_content c ≡ true → g.shown ≡ record { code = Content; body = g.shown.body }
    content Content e t = ap (λ (c : ReadCode). let w : Shown = record { code = c; body = g.shown.body } in w) e
    content NotFound e t = absurd (false≢true t)

pub cached_laws : (m : Meaning) → Laws m → Laws (cached m)
cached_laws m l = record {
  shown = λ s p t k h. cond_both (hit p t s.entries) _ _ (λ (g : Read). g.shown ≡ m.shows (m.register s.below) p t)
      (λ e. (hit_true (m.shows (m.register s.below)) p t s.entries k.1 e h).0) (λ _. l.shown s.below p t k.0 h);
  truth = λ s p t k h. cond_both (hit p t s.entries) _ _ (TrueAge (m.shows (m.register s.below) p) t)
      (λ e. (hit_true (m.shows (m.register s.below)) p t s.entries k.1 e h).1) (λ _. l.truth s.below p t k.0 h);
  none = λ s p t k h. cond_both (hit p t s.entries) _ _ Zero (λ e n. let z : ◌≡◌ {A = ℕ} 0 1 = cc (hit_content p t s.entries e, n) in absurd (omega arith)) (λ _. l.none s.below p t k.0 h);
  kept = λ s p t k h. cond_one (λ (x : Cached m.State). m.register x.below ≡ m.register s.below) (hit p t s.entries) _ _ refl (l.kept s.below p t k.0 h);
  read_fits = λ s p t k h. cond_both (hit p t s.entries) _ _ IsRead (λ e. hit_fits p t s.entries (m.shows (m.register s.below)) k.1) (λ _. l.read_fits s.below p t k.0 h);
  said_fits = λ s c t k h w. l.said_fits s.below c t k.0 h w;
  read_sound = λ s p t k h. cond_one (cached m).Sound (hit p t s.entries) _ _ k (
    l.read_sound s.below p t k.0 h,
    subst (λ r. AllByRecursion (Fresh (m.shows r)) (kept_after p t (m.reads s.below p t) s.entries)) (sym (l.kept s.below p t k.0 h))
        (keeps_fresh (m.shows (m.register s.below)) p t (m.reads s.below p t) s.entries (l.truth s.below p t k.0 h) (l.read_fits s.below p t k.0 h).0 k.1),
  );
  read_fixed = λ s p t. cond_one (λ (x : Cached m.State). m.fixed x.below ≡ m.fixed s.below) (hit p t s.entries) _ _ refl (l.read_fixed s.below p t);
  change_fixed = λ s c t. l.change_fixed s.below c t;
  said = λ s c t k h w. l.said s.below c t k.0 h w;
  left = λ s c t k h w. l.left s.below c t k.0 h w;
  change_sound = λ s c t k h w. (l.change_sound s.below c t k.0 h w, all_replicate (Fresh (m.shows (m.register (m.after_change s.below c t)))) 8 no_entry (omega arith, λ u mu lo hi. absurd (omega arith)));
}

pub same_path_self : (a : Path) → same_path a a ≡ true
same_path_self [] = refl
same_path_self (x ∷ xs) = ap (λ b. b && same_path xs xs) ((bytes_eq-Decides x x).1 refl) ∙ same_path_self xs

pub same_path_decides : (a b : Path) → Decides (same_path a b) (a ≡ b)
same_path_decides a b = (path_same a b, λ e. subst (λ c. same_path a c ≡ true) e (same_path_self a))
