-- The header of a datagram: version, type, token length, code and Message ID in four bytes, and then the token.
use Rattle.std.specs.Prelude.{ℕ, ◌+◌, ◌*◌, ◌/◌, ◌%◌, cond, ◌&&◌, List, [], ◌∷◌, length, take, ◌==◌, nat_lt}
use Rattle.message.specs.declared.header.MessageType.{MessageType}
use Rattle.message.specs.declared.header.MessageType.TheVariants.{Con, Non, Ack, Rst}
use Rattle.message.specs.declared.fault.MessageFault.TheVariants.{TokenLength, EmptyWithContent, TokenTruncated}
use Rattle.message.specs.declared.fault.Rejection.{Rejection}
use Rattle.message.specs.declared.fault.Rejection.TheVariants.{TooLong, NotCoap, Fault}

-- the code is its byte, 32 times the class plus the detail
pub record Head : Type 0 where
  pub type : MessageType
  pub code : ℕ
  pub id : ℕ
  pub token : List ℕ

abbrev pub type_bits : MessageType → ℕ
type_bits Con = 0
type_bits Non = 1
type_bits Ack = 2
type_bits Rst = 3

abbrev pub type_of : ℕ → MessageType
type_of bits = cond (bits == 0) Con (cond (bits == 1) Non (cond (bits == 2) Ack Rst))

-- what the front of a datagram gives: a rejection, or the head and the place after the token
pub data Opening : Type 0 where
  rejected : Rejection → Opening
  opens : Head → ℕ → Opening

-- a datagram of `size` bytes: four of the header and the rest. The low four bits of the first byte are the token
-- length, the two bits above them the type, and the two highest the version.
abbrev pub framed : (size first code high low : ℕ) → List ℕ → Opening
framed size first code high low rest =
    cond (first / 64 == 1)
    (cond (nat_lt 8 (first % 16)) (rejected (Fault TokenLength))
    (cond (code == 0 && nat_lt 0 (first % 16 + length rest)) (rejected (Fault EmptyWithContent))
    (cond (nat_lt (length rest) (first % 16)) (rejected (Fault (TokenTruncated size)))
    (opens (record { type = type_of (first / 16 % 4); code = code; id = high * 256 + low; token = take (first % 16) rest }) (4 + first % 16)))))
    (rejected NotCoap)

abbrev pub header : ℕ → List ℕ → Opening
header size [] = rejected NotCoap
header size (a ∷ []) = rejected NotCoap
header size (a ∷ b ∷ []) = rejected NotCoap
header size (a ∷ b ∷ c ∷ []) = rejected NotCoap
header size (first ∷ code ∷ high ∷ low ∷ rest) = framed size first code high low rest

-- a datagram has at most 480 bytes
abbrev pub opening : List ℕ → Opening
opening d = cond (nat_lt 480 (length d)) (rejected TooLong) (header (length d) d)
