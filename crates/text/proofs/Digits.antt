-- The digits of bytes, one pair after another.
use Rattle.std.proofs.Common.{◌≡◌, ℕ, ◌+◌, ◌*◌, ◌/◌, ◌%◌, ◌<◌, zero, suc, List, [], ◌∷◌, ◌++◌, length, take, drop, slice_index, slice_set, refl, ap, append_assoc, arith}
use Rattle.std.proofs.lemmas.Bool.Decides.{nat_tests}
use Rattle.std.proofs.lemmas.List.{at_drop_more, length-set, take_more_set}
use Rattle.std.specs.Str.{IsAscii}
use Rattle.text.specs.Hex.{hex_digit, hex_text}

digit_small : (d : ℕ) → d < 16 → hex_digit d < 128
digit_small d small = grind (arith, nat_tests)

pub ascii_text : (bs : List ℕ) → ((k : ℕ) → slice_index bs k < 256) → IsAscii (hex_text bs)
ascii_text [] small i = omega arith
ascii_text (b ∷ bs) small zero = digit_small (b / 16) (omega (arith, small 0))
ascii_text (b ∷ bs) small (suc zero) = digit_small (b % 16) (omega arith)
ascii_text (b ∷ bs) small (suc (suc i)) = ascii_text bs (λ k. small (suc k)) i

pub text_append : (bs cs : List ℕ) → hex_text (bs ++ cs) ≡ hex_text bs ++ hex_text cs
text_append [] cs = refl
text_append (b ∷ bs) cs = ap (λ ds. hex_digit (b / 16) ∷ hex_digit (b % 16) ∷ ds) (text_append bs cs)

-- Two writes in a row, seen from the front.
two_written : (xs : List ℕ) (o x y : ℕ) → o + 1 < length xs → take (o + 2) (slice_set (slice_set xs o x) (o + 1) y) ≡ take o xs ++ x ∷ y ∷ []
two_written xs o x y within =
    let len : length (slice_set xs o x) ≡ length xs = length-set xs o x in
    let two : o + 2 ≡ o + 1 + 1 = omega arith in
    let second = take_more_set (slice_set xs o x) (o + 1) y (omega (arith, len)) in
    let first = take_more_set xs o x (omega arith) in
    rw (two, second, first) (append_assoc (take o xs) (x ∷ []) (y ∷ []))

-- The digits of one byte more are written.
pub pair_written : (bs xs : List ℕ) (i high low : ℕ) → i < length bs → 2 * i + 1 < length xs → high ≡ hex_digit (slice_index bs i / 16) → low ≡ hex_digit (slice_index bs i % 16)
    → take (2 * i) xs ++ hex_text (drop i bs) ≡ hex_text bs
    → take (2 * (i + 1)) (slice_set (slice_set xs (2 * i) high) (2 * i + 1) low) ++ hex_text (drop (i + 1) bs) ≡ hex_text bs
pair_written bs xs i high low within fits h l so =
    let two : 2 * (i + 1) ≡ 2 * i + 2 = omega arith in
    let front = two_written xs (2 * i) high low fits in
    let rest = at_drop_more hex_text bs i 0 within in
    rw (two, front, append_assoc, h, l) (rw rest at so)
