-- Bytes written in hexadecimal: what a line of text says, and the text of bytes.
use Rattle.std.specs.Prelude.{◌≡◌, ℕ, ◌+◌, ◌-◌, ◌*◌, ◌/◌, ◌%◌, ◌<◌, Bool, cond, ◌&&◌, ◌||◌, List, [], ◌∷◌, Some, None, Option, ◌==◌, nat_le, nat_lt}
use Rattle.std.specs.List.{AllByRecursion}

-- The value of one digit, of either case.
abbrev pub digit_of : ℕ → Option ℕ
digit_of c = cond (nat_le 48 c && nat_le c 57) (Some (c - 48)) (cond (nat_le 65 c && nat_le c 70) (Some (c - 65 + 10)) (cond (nat_le 97 c && nat_le c 102) (Some (c - 97 + 10)) None))

-- A space, a tab or a carriage return.
abbrev pub blank : ℕ → Bool
blank c = c == 32 || (c == 9 || c == 13)

-- The characters of a line without its blanks.
abbrev pub unblanked : List ℕ → List ℕ
unblanked [] = []
unblanked (c ∷ cs) = cond (blank c) (unblanked cs) (c ∷ unblanked cs)

-- The byte of two digits in front of more bytes, where all three are there.
abbrev pub byte_then : Option ℕ → Option ℕ → Option (List ℕ) → Option (List ℕ)
byte_then None low more = None
byte_then (Some h) None more = None
byte_then (Some h) (Some l) None = None
byte_then (Some h) (Some l) (Some bs) = Some ((16 * h + l) ∷ bs)

-- The bytes of digits that are taken two by two.
abbrev pub paired : List ℕ → Option (List ℕ)
paired [] = Some []
paired (h ∷ []) = None
paired (h ∷ l ∷ cs) = byte_then (digit_of h) (digit_of l) (paired cs)

-- The bytes that a line writes.
abbrev pub hex_bytes : List ℕ → Option (List ℕ)
hex_bytes cs = paired (unblanked cs)

-- The capital digit of a value below sixteen.
abbrev pub hex_digit : ℕ → ℕ
hex_digit d = cond (nat_lt d 10) (48 + d) (65 + (d - 10))

-- The text of bytes, two digits to a byte.
abbrev pub hex_text : List ℕ → List ℕ
hex_text [] = []
hex_text (b ∷ bs) = hex_digit (b / 16) ∷ hex_digit (b % 16) ∷ hex_text bs

-- Bytes that are written and read again are the same bytes.
abbrev pub HexRoundTrip : Type 0
HexRoundTrip = (bs : List ℕ) → AllByRecursion (λ b. b < 256) bs → hex_bytes (hex_text bs) ≡ Some bs
