-- The item that `min_by_key` gives of numbered ones stands at the first place of those with the least number.
use Rattle.std.proofs.Common.{◌≡◌, ℕ, ◌+◌, ◌<◌, ◌≤◌, Bool, true, false, cond, eqb, ltb, List, [], ◌∷◌, map, Option, Some, None, Bor, sym, refl, ap, ◌∙◌, ⊎_elim, arith}
use Rattle.std.specs.Ordering.{nat_cmp, min_by_ordering}
use Rattle.std.proofs.Common.{Less, Equal, Greater}
use Rattle.std.specs.Option.{MatchOption}
use Rattle.std.specs.List.{FoldsTo, enumerate_from}
use Rattle.std.specs.Fn.{CalledAt}
use Rattle.std.specs.Iterator.{KeyTurn, PicksMinByKey, DrainsIf}
use Rattle.std.proofs.lemmas.Iterator.{YieldsList, items_from_drains}
use Rattle.std.proofs.lemmas.Bool.{ltb-true, ltb-false, lt-ltb, le-ltb, eq-eqb, ne_eqb, cond-true, cond-false, cases_Bool}
use Rattle.std.proofs.lemmas.Bool.Decides.{Decides-eqb, not_from_Decides}
use denote.Param.Members.{Mut}
use Rattle.register.specs.Places.{first, least_from, place_in}

-- the place of the best, with its number, of one and those that come after it
abbrev best_of : ℕ × ℕ → List (ℕ × ℕ) → ℕ
best_of p [] = p.0
best_of p (q ∷ qs) = cond (ltb q.1 p.1) (best_of q qs) (best_of p qs)

abbrev best : List (ℕ × ℕ) → ℕ
best [] = 0
best (p ∷ ps) = best_of p ps

least_of_two : (x y : ℕ) (ys : List ℕ) → x ≤ y → least_from x (y ∷ ys) ≡ least_from x ys
least_of_two x y [] h = omega arith
least_of_two x y (w ∷ ws) h = omega arith

least_below : (y : ℕ) (ys : List ℕ) → least_from y ys ≤ y
least_below y [] = omega arith
least_below y (w ∷ ws) = omega arith

later : (c : Bool) (n k : ℕ) → cond c n (k + (n + 1)) ≡ cond c 0 (k + 1) + n
later true n k = omega arith
later false n k = omega arith

abbrev Best : (b e n : ℕ) → List ℕ → Type 0
Best b e n ys = best_of (b, e) (enumerate_from n ys) ≡ cond (eqb e (least_from e ys)) b (first (λ x. eqb x (least_from e ys)) ys + n)

best_less : (b e n y : ℕ) (ys : List ℕ) → ltb y e ≡ true → Best n y (n + 1) ys → Best b e n (y ∷ ys)
best_less b e n y ys t rest =
    let under : y < e = ltb-true _ _ t in
    let below = least_below y ys in
    let same : least_from y ys ≡ least_from e (y ∷ ys) = omega arith in
    let other : eqb e (least_from e (y ∷ ys)) ≡ false = ne_eqb _ _ (λ q. omega arith) in
    cond-true _ _ _ t
    ∙ (rest
    ∙ ((λ i. cond (eqb y (same i)) n (first (λ x. eqb x (same i)) ys + (n + 1)))
    ∙ (later (eqb y (least_from e (y ∷ ys))) n (first (λ x. eqb x (least_from e (y ∷ ys))) ys)
    ∙ sym (cond-false _ _ _ other))))

best_more : (b e n y : ℕ) (ys : List ℕ) → ltb y e ≡ false → Best b e (n + 1) ys → Best b e n (y ∷ ys)
best_more b e n y ys f rest =
    let over : e ≤ y = ltb-false _ _ f in
    let m = least_from e (y ∷ ys) in
    let k = first (λ x. eqb x (least_from e (y ∷ ys))) ys in
    let same : least_from e ys ≡ least_from e (y ∷ ys) = sym (least_of_two e y ys over) in
    cond-false _ _ _ f
    ∙ (rest
    ∙ ((λ i. cond (eqb e (same i)) b (first (λ x. eqb x (same i)) ys + (n + 1)))
    ∙ ⊎_elim (λ t. cond-true _ _ _ t ∙ sym (cond-true _ _ _ t))
    (λ u.
    let below = least_below e (y ∷ ys) in
    let apart = not_from_Decides _ (Decides-eqb e m) u in
    let differs : eqb y m ≡ false = ne_eqb _ _ (λ q. absurd (apart (omega arith))) in
    let w = cond-false (eqb y m) 0 (k + 1) differs in
    let on : k + (n + 1) ≡ cond (eqb y m) 0 (k + 1) + n = omega arith in
    cond-false _ _ _ u ∙ (on ∙ sym (cond-false _ _ _ u)))
    (cases_Bool (eqb e m))))

best_is : (b e n : ℕ) (ys : List ℕ) → Best b e n ys
best_is b e n [] = sym (cond-true _ _ _ (eq-eqb e e refl))
best_is b e n (y ∷ ys) = ⊎_elim (λ t. best_less b e n y ys t (best_is n y (n + 1) ys)) (λ f. best_more b e n y ys f (best_is b e (n + 1) ys)) (cases_Bool (ltb y e))

best_first : (es : List ℕ) → best (enumerate_from 0 es) ≡ place_in es
best_first [] = refl
best_first (e ∷ es) = best_is 0 e 1 es

picks : {A : Type 0} (k j : ℕ) (x z : A) → min_by_ordering (nat_cmp k j) x z ≡ cond (ltb j k) z x
picks k j x z =
    ⊎_elim
    (λ t. let under : k < j = ltb-true _ _ t in (λ i. min_by_ordering (cond-true (ltb k j) Less (cond (eqb k j) Equal Greater) t i) x z) ∙ sym (cond-false _ _ _ (le-ltb j k (omega arith))))
    (λ f.
    let over : j ≤ k = ltb-false _ _ f in
    ⊎_elim
    (λ t. let same : k ≡ j = (Decides-eqb k j).0 t in (λ i. min_by_ordering ((cond-false (ltb k j) Less (cond (eqb k j) Equal Greater) f ∙ cond-true (eqb k j) Equal Greater t) i) x z) ∙ sym (cond-false _ _ _ (le-ltb j k (omega arith))))
    (λ u. let differs = not_from_Decides _ (Decides-eqb k j) u in let under : j < k = omega arith in (λ i. min_by_ordering ((cond-false (ltb k j) Less (cond (eqb k j) Equal Greater) f ∙ cond-false (eqb k j) Equal Greater u) i) x z) ∙ sym (cond-true _ _ _ (lt-ltb _ _ under)))
    (cases_Bool (eqb k j)))
    (cases_Bool (ltb k j))

cond_in : {A B : Type 0} (b : Bool) (f : A → B) (x y : A) → cond b (f x) (f y) ≡ f (cond b x y)
cond_in true f x y = refl
cond_in false f x y = refl

enumerated : {X : Type 0} (key : X → ℕ) (n : ℕ) (xs : List X) → map (λ (p : ℕ × X). (p.0, key p.1)) (enumerate_from n xs) ≡ enumerate_from n (map key xs)
enumerated key n [] = refl
enumerated key n (x ∷ xs) = ap (λ ps. (n, key x) ∷ ps) (enumerated key (n + 1) xs)

module _ {A F : Type 0} (g : Mut F (Bor A × Unit {0}) ℕ) (pair : A → ℕ × ℕ) (calls : (f : F) (x : A) (k : ℕ) (f' : F) → CalledAt g f x k f' → k ≡ (pair x).1) where
  folded : (xs : List A) (f : F) (k : ℕ) (x : A) (q : F × ℕ) (y : A) → k ≡ (pair x).1 → FoldsTo {P = (F × ℕ) × A} (KeyTurn min_by_ordering min_by_ordering g nat_cmp) ((f, k), x) xs (q, y) → (pair y).0 ≡ best_of (pair x) (map pair xs)
  folded [] f k x q y e h = let back : (q, y) ≡ ((f, k), x) = sym h in (λ i. (pair (back i).1).0)
  folded (z ∷ zs) f k x q y e h =
      let j = h.0 in
      let k' = h.1.0 in
      let b = ltb k' k in
      let called : k' ≡ (pair z).1 = calls _ _ _ _ h.1.2 in
      let order = h.1.3 in
      let number : j.0.1 ≡ cond b k' k = h.1.4 ∙ ((λ i. min_by_ordering (sym order i) k k') ∙ picks k k' k k') in
      let item : j.1 ≡ cond b z x = h.1.5 ∙ ((λ i. min_by_ordering (sym order i) x z) ∙ picks k k' x z) in
      let still : j.0.1 ≡ (pair j.1).1 = number ∙ ((λ i. cond b (called i) (e i)) ∙ (cond_in b (λ a. (pair a).1) z x ∙ ap (λ a. (pair a).1) (sym item))) in
      folded zs j.0.0 j.0.1 j.1 q y still h.2
      ∙ ((λ i. best_of (pair (item i)) (map pair zs))
      ∙ (sym (cond_in b (λ a. best_of (pair a) (map pair zs)) z x)
      ∙ (λ i. cond (ltb (called i) (e i)) (best_of (pair z) (map pair zs)) (best_of (pair x) (map pair zs)))))

  module _ {S X : Type 0} (key : X → ℕ) (steps : S → Option A → S → Type 0) (v : A → ℕ × X) (numbered : (x : A) → pair x ≡ ((v x).0, key (v x).1)) where
    by_items : (zs : List A) → best (map pair zs) ≡ best (map (λ (p : ℕ × X). (p.0, key p.1)) (map v zs))
    by_items zs = ap best (each zs)
      where
        each : (ws : List A) → map pair ws ≡ map (λ (p : ℕ × X). (p.0, key p.1)) (map v ws)
        each [] = refl
        each (w ∷ ws) = λ i. numbered w i ∷ each ws i

    pub chosen : (s : S) (f : F) (rows : List X) (o : Option A) (r : ℕ) → PicksMinByKey steps g nat_cmp s f o → YieldsList steps v s (enumerate_from 0 rows) → {told : A → Type 0} → MatchOption o (r ≡ 0) told → ((y : A) → told y → r ≡ (v y).0) → r ≡ place_in (map key rows)
    chosen s f rows None r picked chain is place =
        let d : DrainsIf steps (Unit {0}) s [] = (picked.1.0, picked.1.1, λ _. (picked.0, picked.1.2)) in
        is ∙ (ap (λ ps. best (map (λ (p : ℕ × X). (p.0, key p.1)) ps)) (items_from_drains [] d chain) ∙ (ap best (enumerated key 0 rows) ∙ best_first (map key rows)))
    chosen s f rows (Some y) r picked chain is place =
        let x = picked.0 in
        let xs = picked.1 in
        let drained = picked.5 in
        let called = picked.6 in
        let folds = picked.7 in
        let d : DrainsIf steps (Unit {0}) s (x ∷ xs) = (drained.1.0, drained.1.1, λ _. (drained.0, drained.1.2)) in
        let items = items_from_drains (x ∷ xs) d chain in
        place y is ∙ (sym (ap (λ (p : ℕ × ℕ). p.0) (numbered y)) ∙ (folded xs picked.3 picked.2 x picked.4 y (calls _ _ _ _ called) folds
        ∙ (by_items (x ∷ xs) ∙ (ap (λ ps. best (map (λ (p : ℕ × X). (p.0, key p.1)) ps)) items ∙ (ap best (enumerated key 0 rows) ∙ best_first (map key rows))))))
