-- A datagram that is read and written again.
use Rattle.std.specs.Prelude.{◌≡◌, ℕ, cond, List, [], ◌∷◌, map, length, Ok, Err, Result}
use Rattle.message.specs.declared.fault.Rejection.{Rejection}
use Rattle.message.specs.declared.writer.WriteError.TheVariants.{NoRoom}
use Rattle.transcribe.specs.declared.TranscribeError.{TranscribeError}
use Rattle.transcribe.specs.declared.TranscribeError.TheVariants.{Rejected, Unwritten}
use Rattle.message.specs.Options.{OptionList, broken, ended}
use Rattle.message.specs.Encoding.{Field, Message}
use Rattle.message.specs.Message.{Parsed, refused, message, parse, field_in}
use Rattle.message.specs.Writing.{State, laid, fits, option_answer, option_added}

abbrev pub IsMessage : List ℕ → Type 0
IsMessage d = (m : Message) × (parse d ≡ message m)

abbrev pub validity : Parsed → Result (Unit {0}) Rejection
validity (refused why) = Err why
validity (message m) = Ok tt

-- how many bytes are written of a datagram in a buffer
abbrev pub answer_for : List ℕ → List ℕ → Parsed → Result ℕ TranscribeError
answer_for d buffer (refused why) = Err (Rejected why)
answer_for d buffer (message m) = cond (fits buffer (length d)) (Ok (length d)) (Err (Unwritten NoRoom))

abbrev pub transcribe_answer : List ℕ → List ℕ → Result ℕ TranscribeError
transcribe_answer d buffer = answer_for d buffer (parse d)

-- the buffer afterwards: the datagram at its front, or nothing changed
abbrev pub buffer_for : List ℕ → List ℕ → Result ℕ TranscribeError → List ℕ
buffer_for d buffer (Ok n) = laid buffer 0 d
buffer_for d buffer (Err why) = buffer

abbrev pub transcribed : List ℕ → List ℕ → List ℕ
transcribed d buffer = buffer_for d buffer (transcribe_answer d buffer)

-- a writer that accepts these options one after another, and what it then is
abbrev pub Accepted : State → List Field → Type 0
Accepted w [] = Unit {0}
Accepted w (o ∷ os) = (option_answer w o ≡ Ok tt) × Accepted (option_added w o) os

abbrev pub options_added : State → List Field → State
options_added w [] = w
options_added w (o ∷ os) = options_added (option_added w o) os

-- options without a fault that the writer accepts
abbrev pub Copyable : OptionList → State → Type 0
Copyable (broken f) w = ⊥
Copyable (ended os end) w = Accepted w (map field_in os)

-- all of them written: none is left, and the place where they end is reached
abbrev pub Copied : OptionList → State → OptionList → State → Type 0
Copied (broken f) w left v = ⊥
Copied (ended os end) w left v = (left ≡ ended [] end) × (v ≡ options_added w (map field_in os))
