-- The line that answers a datagram.
use Rattle.std.specs.Prelude.{ℕ, Bool, true, false, List, ◌++◌, drop, Ok, Err, codes, decimal, Result}
use Rattle.message.specs.declared.fault.MessageFault.TheVariants.{InOption}
use Rattle.message.specs.declared.fault.Rejection.{Rejection}
use Rattle.message.specs.declared.fault.Rejection.TheVariants.{TooLong, NotCoap, Fault}
use Rattle.message.specs.Faults.{cause_of, place_of}
use Rattle.message.specs.Header.{Head, Opening, rejected, opens, opening}
use Rattle.message.specs.Options.{OptionList, broken, ended, options_from, payload_of}
use Rattle.message.specs.Message.{Parsed, refused, message}
use Rattle.inspect.specs.declared.datagram.LineKind.{LineKind}
use Rattle.inspect.specs.declared.datagram.LineKind.TheVariants.{Message, Fault as Faulty, Other}
use Rattle.text.specs.Lines.{line_feed}
use Rattle.inspect.specs.Fields.{bytes_text, head_text}
use Rattle.inspect.specs.Options.{options_text}

abbrev pub is_message : Parsed → Bool
is_message (refused why) = false
is_message (message m) = true

-- The line of a datagram with this head and these options.
abbrev pub filled_text : List ℕ → Head → OptionList → Result (List ℕ) Rejection
filled_text d h (broken f) = Err (Fault (InOption f))
filled_text d h (ended options end) = Ok (head_text h ++ options_text options ++ codes " " ++ bytes_text (payload_of (drop end d)) ++ line_feed)

abbrev pub opened_text : List ℕ → Opening → Result (List ℕ) Rejection
opened_text d (rejected why) = Err why
opened_text d (opens h at) = filled_text d h (options_from d at 0)

-- The line of a message, or why the datagram is not one.
abbrev pub message_text : List ℕ → Result (List ℕ) Rejection
message_text d = opened_text d (opening d)

-- The line of a datagram that is not a message, and what the datagram is.
abbrev pub rejection_text : Rejection → List ℕ
rejection_text TooLong = codes "refused 3" ++ line_feed
rejection_text NotCoap = codes "silent 10" ++ line_feed
rejection_text (Fault f) = codes "fault " ++ decimal (cause_of f) ++ codes " " ++ decimal (place_of f) ++ line_feed

abbrev pub rejection_kind : Rejection → LineKind
rejection_kind TooLong = Other
rejection_kind NotCoap = Other
rejection_kind (Fault f) = Faulty

-- The line in either case, and what the datagram is.
abbrev pub either_text : Result (List ℕ) Rejection → List ℕ
either_text (Ok text) = text
either_text (Err why) = rejection_text why

abbrev pub either_kind : Result (List ℕ) Rejection → LineKind
either_kind (Ok text) = Message
either_kind (Err why) = rejection_kind why

abbrev pub datagram_text : List ℕ → List ℕ
datagram_text d = either_text (message_text d)

abbrev pub datagram_kind : List ℕ → LineKind
datagram_kind d = either_kind (message_text d)
