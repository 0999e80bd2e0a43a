-- What the writer does to its buffer, and when it refuses.
use Rattle.std.specs.Prelude.{◌≡◌, ℕ, ◌+◌, Bool, cond, not, ◌&&◌, List, [], ◌∷◌, ◌++◌, length, take, drop, Ok, Err, Result, ◌==◌, nat_le, nat_lt}
use Rattle.message.specs.declared.writer.WriteError.{WriteError}
use Rattle.message.specs.declared.writer.WriteError.TheVariants.{OutOfOrder, NoRoom, TokenTooLong, EmptyMessage}
use Rattle.message.specs.declared.writer.Stage.{Stage}
use Rattle.message.specs.declared.writer.Stage.TheVariants.{Unstarted, Empty, Options, Complete}
use Rattle.message.specs.declared.writer.Writer.{Writer}
use Rattle.message.specs.Header.{Head}
use Rattle.message.specs.Encoding.{Field, head_bytes, option_bytes, payload_bytes}

abbrev pub write_number : WriteError → ℕ
write_number OutOfOrder = 21
write_number NoRoom = 22
write_number TokenTooLong = 23
write_number EmptyMessage = 24

-- the buffer with these bytes from the place n on
abbrev pub laid : List ℕ → ℕ → List ℕ → List ℕ
laid buffer n bytes = take n buffer ++ (bytes ++ drop (n + length bytes) buffer)

-- a writer: who lent it its buffer, the buffer, how many bytes of it are written, the number of the last option, and
-- the stage
pub record State : Type 0 where
  pub lender : ℕ
  pub buffer : List ℕ
  pub len : ℕ
  pub number : ℕ
  pub stage : Stage

abbrev pub state_of : Writer → State
state_of w = record { lender = w.out.ghost_name; buffer = w.out.now; len = w.len; number = w.number; stage = w.stage }

-- a writer that has written nothing yet
abbrev pub fresh : (lender : ℕ) (buffer : List ℕ) → State
fresh lender buffer = record { lender = lender; buffer = buffer; len = 0; number = 0; stage = Unstarted }

abbrev pub IsFresh : State → Type 0
IsFresh w = w ≡ fresh w.lender w.buffer

-- these bytes after what is written
abbrev pub added : State → List ℕ → State
added w bytes = record { lender = w.lender; buffer = laid w.buffer w.len bytes; len = w.len + length bytes; number = w.number; stage = w.stage }

-- whether the buffer, and the 480 bytes that a datagram may have, take this many bytes in all
abbrev pub fits : List ℕ → ℕ → Bool
fits buffer size = nat_le size (length buffer) && nat_le size 480

-- the stage after a header with this code
abbrev pub headed : ℕ → Stage
headed code = cond (code == 0) Empty Options

-- where a message is to begin
abbrev pub beginning : Stage → Result (Unit {0}) WriteError
beginning Unstarted = Ok tt
beginning Empty = Err OutOfOrder
beginning Options = Err OutOfOrder
beginning Complete = Err OutOfOrder

-- where an option or a payload is to follow
abbrev pub following : Stage → Result (Unit {0}) WriteError
following Unstarted = Err OutOfOrder
following Empty = Err EmptyMessage
following Options = Ok tt
following Complete = Err OutOfOrder

-- the first refusal of two
abbrev pub and_then : Result (Unit {0}) WriteError → Result (Unit {0}) WriteError → Result (Unit {0}) WriteError
and_then (Ok done) next = next
and_then (Err why) next = Err why

abbrev pub demand : Bool → WriteError → Result (Unit {0}) WriteError
demand b why = cond b (Ok tt) (Err why)

abbrev pub start_answer : State → Head → Result (Unit {0}) WriteError
start_answer w h =
    and_then (demand (nat_le (length h.token) 8) TokenTooLong)
    (and_then (demand (not (h.code == 0 && nat_lt 0 (length h.token))) EmptyMessage)
    (and_then (beginning w.stage)
    (demand (fits w.buffer (length (head_bytes h))) NoRoom)))

abbrev pub option_answer : State → Field → Result (Unit {0}) WriteError
option_answer w o =
    and_then (following w.stage)
    (and_then (demand (nat_le w.number o.number) OutOfOrder)
    (demand (fits w.buffer (w.len + length (option_bytes w.number o))) NoRoom))

-- an empty payload is accepted at any point
abbrev pub payload_answer : State → List ℕ → Result (Unit {0}) WriteError
payload_answer w [] = Ok tt
payload_answer w (b ∷ bs) =
    and_then (following w.stage)
    (demand (fits w.buffer (w.len + length (payload_bytes (b ∷ bs)))) NoRoom)

-- a refusal leaves the writer as it was
abbrev pub settled : Result (Unit {0}) WriteError → State → State → State
settled (Ok done) new old = new
settled (Err why) new old = old

abbrev pub started : State → Head → State
started w h = record { lender = w.lender; buffer = laid w.buffer 0 (head_bytes h); len = length (head_bytes h); number = 0; stage = headed h.code }

abbrev pub option_added : State → Field → State
option_added w o = let v = added w (option_bytes w.number o) in record { lender = v.lender; buffer = v.buffer; len = v.len; number = o.number; stage = v.stage }

-- an empty payload closes nothing
abbrev pub stage_after : List ℕ → Stage → Stage
stage_after [] stage = stage
stage_after (b ∷ bs) stage = Complete

abbrev pub payload_added : State → List ℕ → State
payload_added w bytes = let v = added w (payload_bytes bytes) in record { lender = v.lender; buffer = v.buffer; len = v.len; number = v.number; stage = stage_after bytes v.stage }
