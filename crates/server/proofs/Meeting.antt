-- Whether the premises of the theorem are met by a run can be computed.
use Rattle.std.proofs.Common.{◌≡◌, Bool, true, false, cond, not, ◌&&◌, ◌||◌, eqb, ltb, leb, List, [], ◌∷◌, sym, refl, ap, ◌∙◌, inl, inr}
use Rattle.std.specs.Str.{bytes_eq}
use Rattle.std.proofs.lemmas.Slice.Eq.{bytes_eq-Decides}
use Rattle.std.proofs.lemmas.Bool.{ltb-true, leb-true, eqb-true, eq-eqb, ne_eqb, and_parts}
use Rattle.server.specs.Ledger.{Arrived, In, apart, Premises}

abbrev of_one : Arrived → Arrived → Bool
of_one x y = (eqb x.arrival.peer y.arrival.peer && bytes_eq x.arrival.datagram y.arrival.datagram) && ltb (apart x.arrival.moment y.arrival.moment) 247000

abbrev of_two : Arrived → Arrived → Bool
of_two x y = not (eqb x.arrival.peer y.arrival.peer && eqb x.arrival.id y.arrival.id) || leb 247000 (apart x.arrival.moment y.arrival.moment)

abbrev agree : Arrived → Arrived → Bool
agree x y = cond (eqb x.request y.request) (of_one x y) (of_two x y)

abbrev all : {X : Type 0} → (X → Bool) → List X → Bool
all p [] = true
all p (x ∷ xs) = p x && all p xs

abbrev pub meets : List Arrived → Bool
meets es = all (λ x. all (agree x) es) es

all_in : {X : Type 0} (p : X → Bool) (x : X) (xs : List X) → all p xs ≡ true → In x xs → p x ≡ true
all_in p x [] a i = absurd i
all_in p x (y ∷ ys) a (inl e) = ap p e ∙ (and_parts (p y) (all p ys) a).0
all_in p x (y ∷ ys) a (inr i) = all_in p x ys (and_parts (p y) (all p ys) a).1 i

agreeing : (es : List Arrived) → meets es ≡ true → (x y : Arrived) → In x es → In y es → agree x y ≡ true
agreeing es m x y i j = all_in (agree x) y es (all_in (λ z. all (agree z) es) x es m i) j

one_request : (es : List Arrived) → meets es ≡ true → (x y : Arrived) → In x es → In y es → x.request ≡ y.request → of_one x y ≡ true
one_request es m x y i j e = let t : eqb x.request y.request ≡ true = eq-eqb _ _ e in sym (let c : agree x y ≡ of_one x y = rw t refl in c) ∙ agreeing es m x y i j

two_requests : (es : List Arrived) → meets es ≡ true → (x y : Arrived) → In x es → In y es → (x.request ≡ y.request → ⊥) → of_two x y ≡ true
two_requests es m x y i j e = let t : eqb x.request y.request ≡ false = ne_eqb _ _ e in sym (let c : agree x y ≡ of_two x y = rw t refl in c) ∙ agreeing es m x y i j

far_apart : (p q b : Bool) → p ≡ true → q ≡ true → (not (p && q) || b) ≡ true → b ≡ true
far_apart true true b e f h = h
far_apart true false b e f h = cc f
far_apart false q b e f h = cc e

pub met : (es : List Arrived) → meets es ≡ true → Premises es
met es m = record {
  one = λ x y i j e.
      let both = and_parts _ _ (and_parts _ _ (one_request es m x y i j e)).0 in
      (eqb-true _ _ both.0, (bytes_eq-Decides _ _).0 both.1);
  near = λ x y i j e. ltb-true _ _ (and_parts _ _ (one_request es m x y i j e)).1;
  far = λ x y i j e peer id. leb-true _ _ (far_apart _ _ _ (eq-eqb _ _ peer) (eq-eqb _ _ id) (two_requests es m x y i j e));
}
