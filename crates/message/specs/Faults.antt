-- The numbers and places under which faults are reported.
use Rattle.std.specs.Prelude.{ℕ}
use Rattle.message.specs.declared.fault.OptionFault.{OptionFault}
use Rattle.message.specs.declared.fault.OptionFault.TheVariants.{ReservedNibble, Truncated, NumberTooHigh, NoPayload}
use Rattle.message.specs.declared.fault.MessageFault.{MessageFault}
use Rattle.message.specs.declared.fault.MessageFault.TheVariants.{TokenLength, EmptyWithContent, TokenTruncated, InOption}
use Rattle.message.specs.declared.fault.Rejection.{Rejection}
use Rattle.message.specs.declared.fault.Rejection.TheVariants.{TooLong, NotCoap, Fault}

abbrev pub option_cause : OptionFault → ℕ
option_cause (ReservedNibble place) = 4
option_cause (Truncated place) = 5
option_cause (NumberTooHigh place) = 6
option_cause (NoPayload place) = 7

abbrev pub option_place : OptionFault → ℕ
option_place (ReservedNibble place) = place
option_place (Truncated place) = place
option_place (NumberTooHigh place) = place
option_place (NoPayload place) = place

-- the cause of a format fault, 1 to 7
abbrev pub cause_of : MessageFault → ℕ
cause_of TokenLength = 1
cause_of EmptyWithContent = 2
cause_of (TokenTruncated place) = 3
cause_of (InOption fault) = option_cause fault

-- the place of a format fault, counted from 0
abbrev pub place_of : MessageFault → ℕ
place_of TokenLength = 0
place_of EmptyWithContent = 1
place_of (TokenTruncated place) = place
place_of (InOption fault) = option_place fault

-- 3: a datagram over 480 bytes; 10: not a CoAP message of version 1; 11: a format fault
abbrev pub rejection_number : Rejection → ℕ
rejection_number TooLong = 3
rejection_number NotCoap = 10
rejection_number (Fault fault) = 11
