-- Numbers as they are printed.
use Rattle.std.proofs.Common.{ℕ, ◌+◌, ◌-◌, ◌/◌, ◌%◌, ◌^◌, ◌<◌, false, [], ◌∷◌, ◌≡◌, ltb, arith, ⊎_elim}
use Rattle.std.specs.Fmt.{decimal, padded_integral, format_spec, char_count}
use Rattle.std.proofs.lemmas.Bool.{cases_Bool, ltb-true, ltb-false}
use Rattle.std.proofs.lemmas.Fmt.{decimal_digit, decimal_step}

-- what `{:02}` writes of a number of at most two digits
pub two_digits : (n : ℕ) → n < 100
    → padded_integral (format_spec 32 0 4 2 (2 ^ 64 - 1)) false [] (decimal n) ≡ (48 + n / 10) ∷ (48 + n % 10) ∷ []
unfolding padded_integral char_count
two_digits n small = ⊎_elim
    (λ test. let one = ltb-true n 10 test in let high : n / 10 ≡ 0 = omega arith in let low : n % 10 ≡ n = omega arith in rw (decimal_digit n one, high, low))
    (λ test. let two = ltb-false n 10 test in rw (decimal_step n two (omega arith), decimal_digit (n / 10) (omega arith)))
    (cases_Bool (ltb n 10))
