-- The numbers under which the host is told of refusals and silences.
use Rattle.std.specs.Prelude.{ℕ}
use Rattle.calls.specs.declared.answer.Refusal.{Refusal}
use Rattle.calls.specs.declared.answer.Refusal.TheVariants.{Moment, ReplyBuffer, Datagram, Arrivals}
use Rattle.calls.specs.declared.answer.Silence.{Silence}
use Rattle.calls.specs.declared.answer.Silence.TheVariants.{NotCoap, Fault, Empty, NotRequest, UnknownOption, Copy, NoRecord}

abbrev pub refusal_number : Refusal → ℕ
refusal_number Moment = 1
refusal_number ReplyBuffer = 2
refusal_number Datagram = 3
refusal_number Arrivals = 4

abbrev pub silence_number : Silence → ℕ
silence_number NotCoap = 10
silence_number Fault = 11
silence_number Empty = 12
silence_number NotRequest = 13
silence_number UnknownOption = 14
silence_number Copy = 15
silence_number NoRecord = 16
