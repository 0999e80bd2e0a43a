-- What a server is called with, and what it answers.
use Rattle.std.specs.Prelude.{ℕ}
use Rattle.register.specs.Values.{Bytes}

-- how many arrivals ended as done, repeated, silenced and dropped
pub record Counts : Type 0 where
  pub done : ℕ
  pub repeated : ℕ
  pub silenced : ℕ
  pub dropped : ℕ

pub data Answer : Type 0 where
  Reply : Bytes → Answer
  Silent : ℕ → Answer
  Refused : ℕ → Answer
  Tallied : Counts → Answer

-- an arrival brings a moment, a peer, a datagram and the length of the reply buffer; a tally asks for the counts
pub data Call : Type 0 where
  Arrival : (t peer : ℕ) → (datagram : Bytes) → (room : ℕ) → Call
  Tally : Call
