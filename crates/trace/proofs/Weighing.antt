-- The bytes of a block, each with its weight.
use Rattle.std.proofs.Common.{◌≡◌, ℕ, ◌+◌, ◌-◌, ◌*◌, ◌^◌, ◌≤◌, ◌<◌, List, [], ◌∷◌, zero, suc, get_or, length, sum_by, Some, None, Option, Bor, refl, sym, ap, ◌∙◌, subst, arith}
use mathlib.Core.Logic.{inl, inr}
use Rattle.std.specs.Option.{MatchOption}
use Rattle.std.specs.declared.slice.Iter.{Iter}
use Rattle.std.specs.declared.iter.Zip.{Zip}
use Rattle.std.specs.declared.ops.RangeFrom.{RangeFrom}
use Rattle.std.specs.Slice.Iter.{iter_rest}
use Rattle.std.specs.Iterator.Adapters.{zip_first, zip_second}
use Rattle.std.proofs.iter.Yields.{fronts}
use Rattle.std.proofs.lemmas.Iterator.{YieldsList, zips}
use Rattle.std.proofs.lemmas.Iterator.Splits.{YieldsList-from_shown_while}
use Rattle.std.proofs.lemmas.Nat.{mul-le}
use Rattle.std.proofs.lemmas.List.Sums.{sum_by-cons}
use Rattle.trace.specs.Blocks.{weighted}

-- bytes with their weights
abbrev pub weighed : ℕ → List ℕ → List (ℕ × ℕ)
weighed weight [] = []
weighed weight (b ∷ bs) = (b, weight) ∷ weighed (weight + 1) bs

length-weighed : (weight : ℕ) (bytes : List ℕ) → length (weighed weight bytes) ≡ length bytes
length-weighed weight [] = refl
length-weighed weight (b ∷ bs) = ap (λ n. suc n) (length-weighed (weight + 1) bs)

pub sum-weighed : (weight : ℕ) (bytes : List ℕ) → sum_by (λ (p : ℕ × ℕ). p.0 * p.1) (weighed weight bytes) ≡ weighted weight bytes
sum-weighed weight [] = refl
sum-weighed weight (b ∷ bs) = sum_by-cons (λ (p : ℕ × ℕ). p.0 * p.1) (b, weight) (weighed (weight + 1) bs) ∙ ap (λ n. b * weight + n) (sum-weighed (weight + 1) bs)

-- each byte adds at most 255 * 510
pub weighted-le : (weight : ℕ) (bytes : List ℕ) → ((i : ℕ) → get_or bytes i 0 < 256) → weight + length bytes ≤ 511 → weighted weight bytes ≤ 130050 * length bytes
weighted-le weight [] small few = omega arith
weighted-le weight (b ∷ bs) small few =
    let first = mul-le b weight 255 510 (omega (arith, small 0)) (omega (arith, few)) in
    let rest = weighted-le (weight + 1) bs (λ i. small (suc i)) (omega (arith, few)) in
    omega (arith, first, rest)

get_or-weighed : (weight : ℕ) (bytes : List ℕ) (k : ℕ) (d : ℕ × ℕ) → k < length (weighed weight bytes) → get_or (weighed weight bytes) k d ≡ (get_or bytes k 0, weight + k)
get_or-weighed weight [] k d within = absurd (omega (arith, within))
get_or-weighed weight (b ∷ bs) zero d within = ap (λ n. (b, n)) (omega arith)
get_or-weighed weight (b ∷ bs) (suc k) d within = get_or-weighed (weight + 1) bs k d (omega (arith, within)) ∙ ap (λ n. (get_or bs k 0, n)) (omega arith)

-- a byte times its weight
pub product-lt : (bytes : List ℕ) → ((i : ℕ) → get_or bytes i 0 < 256) → length bytes ≤ 510 → (b w k : ℕ) → k < length (weighed 1 bytes) → (b, w) ≡ get_or (weighed 1 bytes) k (b, w) → b * w < 2 ^ 32
product-lt bytes small few b w k within is =
    let at = is ∙ get_or-weighed 1 bytes k (b, w) within in
    let p = mul-le b w 255 511 (omega (arith, small k, ap (λ (q : ℕ × ℕ). q.0) at)) (omega (arith, within, length-weighed 1 bytes, few, ap (λ (q : ℕ × ℕ). q.1) at)) in
    omega (arith, p)

-- one step of `1..`
abbrev upward : RangeFrom ℕ → Option ℕ → RangeFrom ℕ → Type 0
upward s r t = MatchOption r ((4294967295 - s.start ≡ 0) × (t ≡ s)) (λ x. (x ≡ s.start) × (t.start ≡ x + 1))

abbrev left : Zip (Iter ℕ) (RangeFrom ℕ) → List (ℕ × ℕ)
left s = weighed (zip_second s).start (iter_rest (zip_first s))

-- there is a weight for each byte that is left
abbrev HasWeights : Zip (Iter ℕ) (RangeFrom ℕ) → Type 0
HasWeights s = (zip_second s).start + length (iter_rest (zip_first s)) ≤ 4294967294

none : (s t : Zip (Iter ℕ) (RangeFrom ℕ)) → HasWeights s → zips fronts upward s None t → length (left s) ≡ 0
none s t room (inl e) = length-weighed (zip_second s).start (iter_rest (zip_first s)) ∙ e.1.0
none s t room (inr e) = absurd (omega (arith, room, e.1.0))

some : (s : Zip (Iter ℕ) (RangeFrom ℕ)) (x : Bor ℕ × ℕ) (t : Zip (Iter ℕ) (RangeFrom ℕ)) → HasWeights s → zips fronts upward s (Some x) t → HasWeights t × (left s ≡ (x.0.now, x.1) ∷ left t)
some s x t room e = (
  omega (arith, room, ap length e.0, e.1.0, e.1.1),
  ap (weighed (zip_second s).start) e.0
      ∙ ap (λ w. (x.0.now, w) ∷ weighed (w + 1) (iter_rest (zip_first t))) (sym e.1.0)
      ∙ ap (λ w. (x.0.now, x.1) ∷ weighed w (iter_rest (zip_first t))) (sym e.1.1),
)

-- the bytes of a slice beside `1..`
pub YieldsList-from_weights : {s : Zip (Iter ℕ) (RangeFrom ℕ)} (bytes : List ℕ) → iter_rest (zip_first s) ≡ bytes → (zip_second s).start ≡ 1 → length bytes ≤ 510 → YieldsList (zips fronts upward) (λ (p : Bor ℕ × ℕ). (p.0.now, p.1)) s (weighed 1 bytes)
YieldsList-from_weights {s} bytes rest start few =
    subst (YieldsList (zips fronts upward) (λ (p : Bor ℕ × ℕ). (p.0.now, p.1)) s) (λ i. weighed (start i) (rest i))
    (YieldsList-from_shown_while (zips fronts upward) (λ (p : Bor ℕ × ℕ). (p.0.now, p.1)) left HasWeights none some s (omega (arith, start, ap length rest, few)))
