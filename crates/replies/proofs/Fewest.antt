-- How many bytes a number needs, by its leading zeros.
use Rattle.std.proofs.Common.{◌≡◌, ℕ, suc, ◌+◌, ◌*◌, ◌-◌, ◌/◌, ◌^◌, ◌<◌, ◌≤◌, eqb, ltb, List, length, ⊎_elim, pow-suc, arith}
use Rattle.std.specs.Int.Count.{count_leading_zeros}
use Rattle.std.proofs.Math.Pow.{pow_mono}
use Rattle.std.proofs.lemmas.Bool.{cond_both, cases_Bool, eqb-true, eqb-false, ltb-true, ltb-false}
use Rattle.std.proofs.lemmas.Nat.{leading_length}
use Rattle.server.specs.Replies.{fewest}

-- a number of m binary digits has more than k where it is 2 ^ k or more, and at most k where it is less
over : (n m k : ℕ) → n < 2 ^ m → 2 ^ k ≤ n → k < m
over n m k below above = ⊎_elim (ltb-true k m) (λ f. let p : 2 ^ m ≤ 2 ^ k = pow_mono (ltb-false k m f) in absurd (omega (arith, p))) (cases_Bool (ltb k m))

within : (n m k : ℕ) → 2 ^ m ≤ 2 * n + 1 → n < 2 ^ k → m ≤ k
within n m k most below = ⊎_elim (λ t. let p : 2 ^ suc k ≤ 2 ^ m = pow_mono (ltb-true k m t) in absurd (omega (arith, p, pow-suc 2 k))) (ltb-false k m) (cases_Bool (ltb k m))

pub fewest_by_zeros : (n : ℕ) → n < 2 ^ 32 → 4 - count_leading_zeros 32 n / 8 ≡ length (fewest n)
fewest_by_zeros n small =
    let d = leading_length 32 n small in
    let m = d.0 in
    let up : (k : ℕ) → n < 2 ^ k → m ≤ k = λ k h. within n m k d.3 h in
    let down : (k : ℕ) → 2 ^ k ≤ n → k < m = λ k h. over n m k d.2 h in
    let P : List ℕ → Type 0 = λ bs. 4 - count_leading_zeros 32 n / 8 ≡ length bs in
    cond_both (eqb n 0) _ _ P (λ e. let z = eqb-true n 0 e in omega (arith, d.1, up 0 (omega (arith, z)))) (λ e.
    let some = eqb-false n 0 e in
    cond_both (ltb n 256) _ _ P (λ a. omega (arith, d.1, up 8 (ltb-true n 256 a), down 0 (omega (arith, some)))) (λ a.
    cond_both (ltb n 65536) _ _ P (λ b. omega (arith, d.1, up 16 (ltb-true n 65536 b), down 8 (ltb-false n 256 a))) (λ b.
    cond_both (ltb n 16777216) _ _ P (λ h. omega (arith, d.1, up 24 (ltb-true n 16777216 h), down 16 (ltb-false n 65536 b)))
    (λ h. omega (arith, d.1, up 32 small, down 24 (ltb-false n 16777216 h))))))
