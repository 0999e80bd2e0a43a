-- How replies are framed, and what a client reads in them.
use Rattle.std.specs.Prelude.{ℕ, ◌+◌, ◌*◌, ◌/◌, ◌%◌, Bool, true, false, cond, List, [], ◌∷◌, Some, None, Option, ◌==◌, nat_lt, slice_index}
use Rattle.message.specs.declared.header.MessageType.{MessageType}
use Rattle.message.specs.declared.header.MessageType.TheVariants.{Con, Non, Ack, Rst}
use Rattle.message.specs.Header.{Head}
use Rattle.message.specs.Encoding.{Field, Message, encode}
use Rattle.message.specs.Message.{Parsed, refused, message, parse}
use Rattle.register.specs.declared.values.ReadCode.{ReadCode}
use Rattle.register.specs.declared.values.ReadCode.TheVariants.{Content, NotFound}
use Rattle.register.specs.Values.{Bytes, Read, Said, code_byte}
use Rattle.server.specs.Messages.{Seen}

-- what a reply repeats of a request: whether it was confirmable, its Message ID and its token
pub record Exchange : Type 0 where
  pub con : Bool
  pub id : ℕ
  pub token : Bytes

abbrev pub is_con : MessageType → Bool
is_con Con = true
is_con Non = false
is_con Ack = false
is_con Rst = false

abbrev pub exchange_by_head : Head → Exchange
exchange_by_head h = record { con = is_con h.type; id = h.id; token = h.token }

-- of a datagram that has the four bytes of a header, whatever else is wrong with it
abbrev pub exchange_by_bytes : Bytes → Exchange
exchange_by_bytes d = record { con = (slice_index d 0 / 16 % 4 == 0); id = slice_index d 2 * 256 + slice_index d 3; token = [] }

-- a number in the fewest bytes, zero in none, and the number that bytes write
abbrev pub fewest : ℕ → Bytes
fewest n =
    cond (n == 0) []
    (cond (nat_lt n 256) (n ∷ [])
    (cond (nat_lt n 65536) (n / 256 ∷ (n % 256 ∷ []))
    (cond (nat_lt n 16777216) (n / 65536 ∷ (n / 256 % 256 ∷ (n % 256 ∷ [])))
    (n / 16777216 ∷ (n / 65536 % 256 ∷ (n / 256 % 256 ∷ (n % 256 ∷ [])))))))

abbrev pub number_from : ℕ → Bytes → ℕ
number_from n [] = n
number_from n (b ∷ bs) = number_from (n * 256 + b) bs

-- Max-Age is option 14. It is left out where it is 60, and 60 where it is left out.
abbrev pub max_age_option : ℕ → List Field
max_age_option n = cond (n == 60) [] (record { number = 14; value = fewest n } ∷ [])

abbrev pub max_age_in : List Field → ℕ
max_age_in [] = 60
max_age_in (o ∷ os) = cond (o.number == 14) (number_from 0 o.value) (max_age_in os)

-- the reply to a confirmable request is an ACK, and to another a NON; both repeat Message ID and token
abbrev pub reply_message : Exchange → ℕ → List Field → Bytes → Message
reply_message x code options body = record { head = record { type = cond x.con Ack Non; code = code; id = x.id; token = x.token }; options = options; payload = body }

abbrev pub reply_with : Exchange → ℕ → List Field → Bytes → Bytes
reply_with x code options body = encode (reply_message x code options body)

-- what a GET gives: Max-Age stands in a 2.05
abbrev pub read_reply : Exchange → ReadCode → ℕ → Bytes → Bytes
read_reply x Content max_age body = reply_with x 69 (max_age_option max_age) body
read_reply x NotFound max_age body = reply_with x 132 [] body

abbrev pub showing_to : Exchange → Read → Bytes
showing_to x r = read_reply x r.shown.code r.max_age r.shown.body

-- what a change is answered with: Max-Age stands in a 5.03
abbrev pub saying_to : Exchange → Said → Bytes
saying_to x s = reply_with x (code_byte s.code) (cond (code_byte s.code == 163) (max_age_option s.max_age) []) s.body

-- an error by its code's byte
abbrev pub failing_to : Exchange → ℕ → Bytes
failing_to x code = reply_with x code [] []

-- a Reset of this Message ID
abbrev pub reset_for : ℕ → Bytes
reset_for id = encode (record { head = record { type = Rst; code = 0; id = id; token = [] }; options = []; payload = [] })

-- what a client reads in a reply
abbrev pub seen_by : Parsed → Option Seen
seen_by (refused why) = None
seen_by (message m) = Some (record { code = m.head.code; max_age = max_age_in m.options; body = m.payload })

abbrev pub seen_in : Bytes → Option Seen
seen_in b = seen_by (parse b)
