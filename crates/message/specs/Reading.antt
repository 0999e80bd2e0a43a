-- What the reader answers, in the words of the definitions.
use Rattle.std.specs.Prelude.{◌≡◌, ℕ, List, drop, Some, None, Ok, Err, Option, Result}
use Rattle.message.specs.declared.fault.OptionFault.{OptionFault}
use Rattle.message.specs.declared.fault.MessageFault.{MessageFault}
use Rattle.message.specs.declared.fault.MessageFault.TheVariants.{InOption}
use Rattle.message.specs.declared.header.Header.{Header}
use Rattle.message.specs.declared.option.OptionField.{OptionField}
use Rattle.message.specs.declared.option.MessageOption.{MessageOption}
use Rattle.message.specs.declared.option.MessageOption.TheVariants.{Host, Port, Path, Proxy, Ignored, Unknown}
use Rattle.message.specs.declared.reader.Reader.{Reader}
use Rattle.message.specs.Header.{Head}
use Rattle.message.specs.Options.{Kind, host, port, path, proxy, ignored, unknown, ReadOption, Step, fault, closed, item, OptionList, broken, ended, step, options_from, payload_of}

abbrev pub head_of : Header → Head
head_of h = record { type = h.kind; code = h.code.0; id = h.id; token = h.token.now }

abbrev pub field_of : MessageOption → OptionField
field_of (Host f) = f
field_of (Port f) = f
field_of (Path f) = f
field_of (Proxy f) = f
field_of (Ignored f) = f
field_of (Unknown f) = f

abbrev pub read_as : Kind → OptionField → ReadOption
read_as k f = record { kind = k; number = f.number; place = f.place; value = f.value.now }

abbrev pub read_option : MessageOption → ReadOption
read_option (Host f) = read_as host f
read_option (Port f) = read_as port f
read_option (Path f) = read_as path f
read_option (Proxy f) = read_as proxy f
read_option (Ignored f) = read_as ignored f
read_option (Unknown f) = read_as unknown f

-- an option with the place after it, or a fault
abbrev pub option_step : Result (MessageOption × ℕ) OptionFault → Step
option_step (Err f) = fault f
option_step (Ok p) = item (read_option p.0) p.1

-- the same, or that there is no further option
abbrev pub next_step : Result (Option (MessageOption × ℕ)) OptionFault → Step
next_step (Err f) = fault f
next_step (Ok None) = closed
next_step (Ok (Some p)) = item (read_option p.0) p.1

-- what `next` answered
abbrev pub read_answer : Result (Option MessageOption) MessageFault → Result (Option ReadOption) MessageFault
read_answer (Err f) = Err f
read_answer (Ok None) = Ok None
read_answer (Ok (Some o)) = Ok (Some (read_option o))

-- what `next` is to answer at a step
abbrev pub next_answer : Step → Result (Option ReadOption) MessageFault
next_answer (fault f) = Err (InOption f)
next_answer closed = Ok None
next_answer (item o after) = Ok (Some o)

-- what stands where a reader is, and all the options from there on
abbrev pub step_of : Reader → Step
step_of r = step r.at r.number (drop r.at r.datagram.now)

abbrev pub options_of : Reader → OptionList
options_of r = options_from r.datagram.now r.at r.number

-- a reader after a step: it stays where it is at a fault and at the end
abbrev pub Moved : Step → Reader → Reader → Type 0
Moved (fault f) r q = q ≡ r
Moved closed r q = q ≡ r
Moved (item o after) r q = (q.datagram ≡ r.datagram) × (q.at ≡ after) × (q.number ≡ o.number)

-- the payload behind the options of a datagram
abbrev pub payload_after : List ℕ → OptionList → Result (List ℕ) MessageFault
payload_after d (broken f) = Err (InOption f)
payload_after d (ended options end) = Ok (payload_of (drop end d))
