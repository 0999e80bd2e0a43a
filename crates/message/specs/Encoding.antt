-- The bytes of a message: each delta, each length and so each message has one encoding.
use Rattle.std.specs.Prelude.{ℕ, ◌+◌, ◌-◌, ◌*◌, ◌/◌, ◌%◌, cond, List, [], ◌∷◌, ◌++◌, length, nat_lt}
use Rattle.message.specs.Header.{Head, type_bits}

-- an option as its number and its value
pub record Field : Type 0 where
  pub number : ℕ
  pub value : List ℕ

-- the fields of a message
pub record Message : Type 0 where
  pub head : Head
  pub options : List Field
  pub payload : List ℕ

-- the nibble that stands for n, and the further bytes that go with it
abbrev pub nibble : ℕ → ℕ
nibble n = cond (nat_lt n 13) n (cond (nat_lt n 269) 13 14)

abbrev pub further : ℕ → List ℕ
further n = cond (nat_lt n 13) [] (cond (nat_lt n 269) ((n - 13) ∷ []) ((n - 269) / 256 ∷ ((n - 269) % 256 ∷ [])))

-- an option after one of number `before`: its delta and its length, and then its value
abbrev pub option_bytes : ℕ → Field → List ℕ
option_bytes before o =
    (nibble (o.number - before) * 16 + nibble (length o.value)) ∷ (further (o.number - before) ++ (further (length o.value) ++ o.value))

abbrev pub options_bytes : ℕ → List Field → List ℕ
options_bytes before [] = []
options_bytes before (o ∷ os) = option_bytes before o ++ options_bytes o.number os

-- a payload behind its marker; nothing where it is empty
abbrev pub payload_bytes : List ℕ → List ℕ
payload_bytes [] = []
payload_bytes (b ∷ bs) = 255 ∷ (b ∷ bs)

abbrev pub head_bytes : Head → List ℕ
head_bytes h = (64 + type_bits h.type * 16 + length h.token) ∷ (h.code ∷ (h.id / 256 ∷ (h.id % 256 ∷ h.token)))

abbrev pub encode : Message → List ℕ
encode m = head_bytes m.head ++ (options_bytes 0 m.options ++ payload_bytes m.payload)
