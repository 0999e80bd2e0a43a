-- What is written is read again.
use Rattle.std.proofs.Common.{◌≡◌, ℕ, ◌+◌, ◌*◌, ◌/◌, ◌%◌, ◌<◌, false, List, [], ◌∷◌, Some, refl, ap, ◌∙◌, arith}
use Rattle.std.proofs.lemmas.Fmt.{decimal_is_IsNumeral, first_decimal}
use Rattle.std.proofs.lemmas.Bool.Decides.{nat_tests}
use Rattle.text.proofs.Pairs.{unblanked_other}
use Rattle.text.specs.Decimal.{DecimalReadsBack}
use Rattle.text.specs.Hex.{blank, byte_then, digit_of, hex_bytes, hex_digit, hex_text, paired, HexRoundTrip}

pub decimal_reads_back : DecimalReadsBack
decimal_reads_back n small = ((decimal_is_IsNumeral n small).1, λ some. first_decimal n some small)

digit_back : (d : ℕ) → d < 16 → digit_of (hex_digit d) ≡ Some d
digit_back d small = grind (arith, nat_tests)

digit_dark : (d : ℕ) → d < 16 → blank (hex_digit d) ≡ false
digit_dark d small = grind (arith, nat_tests)

two_digits : (h l : ℕ) (cs bs : List ℕ) → h < 16 → l < 16 → hex_bytes cs ≡ Some bs → hex_bytes (hex_digit h ∷ hex_digit l ∷ cs) ≡ Some ((16 * h + l) ∷ bs)
two_digits h l cs bs p q e =
    ap paired (unblanked_other (hex_digit h) (hex_digit l ∷ cs) (digit_dark h p) ∙ ap (λ r. hex_digit h ∷ r) (unblanked_other (hex_digit l) cs (digit_dark l q)))
    ∙ (λ i. byte_then (digit_back h p i) (digit_back l q i) (e i))

pub hex_round_trip : HexRoundTrip
hex_round_trip [] small = refl
hex_round_trip (b ∷ bs) small =
    two_digits (b / 16) (b % 16) (hex_text bs) bs (omega (arith, small.0)) (omega arith) (hex_round_trip bs small.1) ∙ ap (λ n. Some (n ∷ bs)) (omega arith)
