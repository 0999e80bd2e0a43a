-- How long replies without a body are, and that a buffer with room is never refused.
use Rattle.std.proofs.Common.{◌≡◌, ℕ, ◌≤◌, ltb, [], length, Ok, refl, ap, ◌∙◌, arith}
use Rattle.std.proofs.lemmas.Bool.{le-ltb, cond-false}
use Rattle.message.specs.Writing.{laid}
use Rattle.transcribe.proofs.Copying.{size_of}
use Rattle.register.specs.Values.{Bytes}
use Rattle.server.specs.Replies.{Exchange, reply_message, failing_to, reset_for}
use Rattle.replies.specs.Writing.{write_answer, buffer_after}

pub reset_short : (id : ℕ) → length (reset_for id) ≡ 4
reset_short id = refl

pub failing_short : (x : Exchange) (code : ℕ) → length x.token ≤ 8 → length (failing_to x code) ≤ 12
failing_short x code token = omega (arith, size_of (reply_message x code [] []))

-- a message that fits is written
pub record Written (token bytes buffer : Bytes) : Type 0 where
  pub answer : write_answer token bytes buffer ≡ Ok (length bytes)
  pub buffer_is : buffer_after bytes buffer (write_answer token bytes buffer) ≡ laid buffer 0 bytes

pub fits : (token bytes buffer : Bytes) → length token ≤ 8 → length bytes ≤ length buffer → Written token bytes buffer
fits token bytes buffer short room =
    let all : write_answer token bytes buffer ≡ Ok (length bytes) =
    cond-false (ltb 8 (length token)) _ _ (le-ltb 8 _ short) ∙ cond-false (ltb (length buffer) (length bytes)) _ _ (le-ltb _ _ room) in
    record { answer = all; buffer_is = ap (buffer_after bytes buffer) all }
