-- A datagram as a whole.
use Rattle.std.specs.Prelude.{◌≡◌, ℕ, ◌<◌, ◌≤◌, List, [], ◌∷◌, map, length, drop}
use Rattle.message.specs.declared.fault.MessageFault.TheVariants.{InOption}
use Rattle.message.specs.declared.fault.Rejection.{Rejection}
use Rattle.message.specs.declared.fault.Rejection.TheVariants.{Fault}
use Rattle.message.specs.Header.{Head, Opening, rejected, opens, opening}
use Rattle.message.specs.Options.{ReadOption, OptionList, broken, ended, options_from, payload_of}
use Rattle.message.specs.Encoding.{Field, Message, encode}

-- why a datagram is no message, or the fields of its message
pub data Parsed : Type 0 where
  refused : Rejection → Parsed
  message : Message → Parsed

-- number and value of an option that was read
abbrev pub field_in : ReadOption → Field
field_in o = record { number = o.number; value = o.value }

abbrev pub closing : List ℕ → Head → OptionList → Parsed
closing d h (broken f) = refused (Fault (InOption f))
closing d h (ended options end) = message (record { head = h; options = map field_in options; payload = payload_of (drop end d) })

abbrev pub inside : List ℕ → Opening → Parsed
inside d (rejected why) = refused why
inside d (opens h at) = closing d h (options_from d at 0)

abbrev pub parse : List ℕ → Parsed
parse d = inside d (opening d)

-- numbers that rise from `before` on, and fit 16 bits
abbrev pub Rising : ℕ → List Field → Type 0
Rising before [] = Unit {0}
Rising before (o ∷ os) = (before ≤ o.number) × (o.number ≤ 65535) × Rising o.number os

-- a message that can be written: a token of at most 8 bytes, nothing more in an Empty message, rising option numbers,
-- and at most 480 bytes in all
pub record WellFormed (m : Message) : Type 0 where
  pub id : m.head.id < 65536
  pub token : length m.head.token ≤ 8
  pub empty : m.head.code ≡ 0 → length (encode m) ≡ 4
  pub rising : Rising 0 m.options
  pub fits : length (encode m) ≤ 480
