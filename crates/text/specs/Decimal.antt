-- What is true of numbers written in decimal.
use Rattle.std.specs.Prelude.{◌≡◌, ℕ, ◌^◌, ◌<◌, decimal, slice_index}
use Rattle.std.specs.Str.Parse.{digits_value}

-- The decimal digits of a number give that number, and begin with no zero unless the number is zero.
abbrev pub DecimalReadsBack : Type 0
DecimalReadsBack = (n : ℕ) → n < 2 ^ 64 → (digits_value 10 (decimal n) ≡ n) × (0 < n → 48 < slice_index (decimal n) 0)
