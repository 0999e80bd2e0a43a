-- The options of a datagram: how each is coded, and of which kind it is.
use Rattle.std.specs.Prelude.{ℕ, zero, suc, ◌+◌, ◌-◌, ◌*◌, ◌/◌, ◌%◌, Bool, cond, not, ◌&&◌, ◌||◌, List, [], ◌∷◌, length, take, drop, ◌==◌, nat_le, nat_lt, slice_index}
use Rattle.message.specs.declared.fault.OptionFault.{OptionFault}
use Rattle.message.specs.declared.fault.OptionFault.TheVariants.{ReservedNibble, Truncated, NumberTooHigh, NoPayload}

pub data Kind : Type 0 where
  host : Kind
  port : Kind
  path : Kind
  proxy : Kind
  ignored : Kind
  unknown : Kind

-- an option in a datagram: its kind and number, the place where its value begins, and the value
pub record ReadOption : Type 0 where
  pub kind : Kind
  pub number : ℕ
  pub place : ℕ
  pub value : List ℕ

abbrev pub within : ℕ → ℕ → ℕ → Bool
within low high n = nat_le low n && nat_le n high

-- the kind by number and length of the value; `again` says that the number was used before
abbrev pub kind_by : Bool → ℕ → ℕ → Kind
kind_by again number len =
    cond (number == 11) (cond (within 0 255 len) path unknown)
    (cond (number == 3) (cond (not again && within 1 255 len) host unknown)
    (cond (number == 7) (cond (not again && within 0 2 len) port unknown)
    (cond (number == 35) (cond (not again && within 1 1034 len) proxy unknown)
    (cond (number == 39) (cond (not again && within 1 255 len) proxy unknown)
    (cond (number % 2 == 0) ignored unknown)))))

-- numbers rise, so that the number before tells whether this one was used: see `second_use` in the theorems of `transcribe`
abbrev pub kind_of : ℕ → ℕ → ℕ → Kind
kind_of before number len = kind_by (number == before) number len

-- a nibble of 0 to 12 means itself; 13 has one further byte, which counts from 13, and 14 two, which count from 269
abbrev pub extension_size : ℕ → ℕ
extension_size nibble = cond (nat_lt nibble 13) 0 (cond (nibble == 13) 1 2)

-- the number that a nibble means, with its further bytes at the front of `more`
abbrev pub extended : ℕ → List ℕ → ℕ
extended nibble more = cond (nat_lt nibble 13) nibble (cond (nibble == 13) (slice_index more 0 + 13) (slice_index more 0 * 256 + slice_index more 1 + 269))

-- what stands at a place where an option may begin: a fault, the end of the options (the end of the datagram or the
-- payload marker), or an option and the place after it
pub data Step : Type 0 where
  fault : OptionFault → Step
  closed : Step
  item : ReadOption → ℕ → Step

-- the option whose first byte stands at the place `at`, with the nibbles `delta` and `len`, and `body` after it;
-- the option before it has the number `before`
abbrev pub opened : (at before delta len : ℕ) → List ℕ → Step
opened at before delta len body =
    cond (delta == 15 || len == 15) (fault (ReservedNibble at))
    (cond (nat_lt (length body) (extension_size delta + extension_size len)) (fault (Truncated (at + 1 + length body)))
    (cond (nat_lt 65535 (before + extended delta body)) (fault (NumberTooHigh at))
    (cond (nat_lt (length body - (extension_size delta + extension_size len)) (extended len (drop (extension_size delta) body))) (fault (Truncated (at + 1 + length body)))
    (item (record {
      kind = kind_of before (before + extended delta body) (extended len (drop (extension_size delta) body));
      number = before + extended delta body;
      place = at + 1 + (extension_size delta + extension_size len);
      value = take (extended len (drop (extension_size delta) body)) (drop (extension_size delta + extension_size len) body);
    })
    (at + 1 + (extension_size delta + extension_size len) + extended len (drop (extension_size delta) body))))))

-- the rest of a datagram from the place `at` on, after an option of number `before`, or 0
abbrev pub step : (at before : ℕ) → List ℕ → Step
step at before [] = closed
step at before (first ∷ body) =
    cond (first == 255) (cond (length body == 0) (fault (NoPayload at)) closed)
    (opened at before (first / 16) (first % 16) body)

-- all the options from a place on: the first fault, or the options and the place where they end
pub data OptionList : Type 0 where
  broken : OptionFault → OptionList
  ended : List ReadOption → ℕ → OptionList

abbrev pub more : ReadOption → OptionList → OptionList
more o (broken f) = broken f
more o (ended os end) = ended (o ∷ os) end

abbrev pub onward : ℕ → (ReadOption → ℕ → OptionList) → Step → OptionList
onward at next (fault f) = broken f
onward at next closed = ended [] at
onward at next (item o after) = more o (next o after)

-- at most `budget` steps from the place `at` on
abbrev pub walk : ℕ → List ℕ → (at before : ℕ) → OptionList
walk zero d at before = ended [] at
walk (suc budget) d at before = onward at (λ o after. walk budget d after o.number) (step at before (drop at d))

-- an option takes a byte at least, so that this budget is never spent: see `whole_walk` in the theorems of `transcribe`
abbrev pub options_from : List ℕ → (at before : ℕ) → OptionList
options_from d at before = walk (length d + 1) d at before

-- the payload behind its marker, where the options have ended; none at the end of the datagram
abbrev pub payload_of : List ℕ → List ℕ
payload_of [] = []
payload_of (marker ∷ bytes) = bytes
