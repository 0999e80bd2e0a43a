-- What writing a message gives, and what it leaves in the buffer.
use Rattle.std.specs.Prelude.{ℕ, cond, length, Ok, Err, Result, nat_lt}
use Rattle.message.specs.declared.writer.WriteError.{WriteError}
use Rattle.message.specs.declared.writer.WriteError.TheVariants.{NoRoom, TokenTooLong}
use Rattle.message.specs.Writing.{laid}
use Rattle.register.specs.Values.{Bytes}

-- how many bytes are written of a message with this token and these bytes
abbrev pub write_answer : (token bytes buffer : Bytes) → Result ℕ WriteError
write_answer token bytes buffer =
    cond (nat_lt 8 (length token)) (Err TokenTooLong)
    (cond (nat_lt (length buffer) (length bytes)) (Err NoRoom)
    (Ok (length bytes)))

-- the buffer afterwards: the bytes at its front, or nothing changed
abbrev pub buffer_after : Bytes → Bytes → Result ℕ WriteError → Bytes
buffer_after bytes buffer (Ok n) = laid buffer 0 bytes
buffer_after bytes buffer (Err why) = buffer
