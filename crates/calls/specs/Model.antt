-- The values of the code in the words of the definitions.
use Rattle.std.specs.Prelude.{◌≡◌, ℕ, ◌≤◌, List, map, length, take}
use Rattle.message.specs.Writing.{laid}
use Rattle.register.specs.Values.{Bytes}
use Rattle.register.specs.Model.{bytes_of}
use Rattle.calls.specs.declared.exchange.Exchange.{Exchange}
use Rattle.calls.specs.declared.answer.Answer.{Answer}
use Rattle.calls.specs.declared.answer.Answer.TheVariants as code
use Rattle.calls.specs.declared.answer.Served.{Served}
use Rattle.calls.specs.declared.answer.Served.TheVariants as whole
use Rattle.calls.specs.declared.answer.Counts.{Counts}
use Rattle.calls.specs.declared.call.Call.{Call}
use Rattle.calls.specs.declared.call.Call.TheVariants as called
use Rattle.calls.specs.Numbers.{refusal_number, silence_number}
use Rattle.server.specs.Calls as calls
use Rattle.server.specs.Replies as replies

abbrev pub exchange_as : Exchange → replies.Exchange
exchange_as x = record { con = x.confirmable; id = x.id; token = x.token.now }

abbrev pub counts_of : Counts → calls.Counts
counts_of n = record { done = n.done; repeated = n.repeated; silenced = n.silenced; dropped = n.dropped }

-- a call with a reply buffer of this length
abbrev pub call_of : ℕ → Call → calls.Call
call_of room (called.Arrival a) = calls.Arrival a.moment a.peer a.datagram.now room
call_of room called.Tally = calls.Tally

abbrev pub calls_of : ℕ → List Call → List calls.Call
calls_of room cs = map (call_of room) cs

-- the code gives this answer: so many bytes, or silence or a refusal with this number
abbrev pub Gives : calls.Answer → Answer → Type 0
Gives (calls.Reply b) (code.Reply n) = n ≡ length b
Gives (calls.Reply b) (code.Silent why) = ⊥
Gives (calls.Reply b) (code.Refused why) = ⊥
Gives (calls.Silent k) (code.Reply n) = ⊥
Gives (calls.Silent k) (code.Silent why) = silence_number why ≡ k
Gives (calls.Silent k) (code.Refused why) = ⊥
Gives (calls.Refused k) (code.Reply n) = ⊥
Gives (calls.Refused k) (code.Silent why) = ⊥
Gives (calls.Refused k) (code.Refused why) = refusal_number why ≡ k
Gives (calls.Tallied c) (code.Reply n) = ⊥
Gives (calls.Tallied c) (code.Silent why) = ⊥
Gives (calls.Tallied c) (code.Refused why) = ⊥

-- the reply buffer afterwards: the reply at its front and the rest as it was; as it was where there is no reply
abbrev pub buffer_with : calls.Answer → Bytes → Bytes
buffer_with (calls.Reply b) buffer = laid buffer 0 b
buffer_with (calls.Silent k) buffer = buffer
buffer_with (calls.Refused k) buffer = buffer
buffer_with (calls.Tallied c) buffer = buffer

-- a reply lies within a buffer of this length
abbrev pub Within : ℕ → Answer → Type 0
Within room (code.Reply n) = n ≤ room
Within room (code.Silent why) = Unit {0}
Within room (code.Refused why) = Unit {0}

-- the answer as the host has it, with the reply buffer as it is then
abbrev pub answer_in : Answer → Bytes → calls.Answer
answer_in (code.Reply n) buffer = calls.Reply (take n buffer)
answer_in (code.Silent why) buffer = calls.Silent (silence_number why)
answer_in (code.Refused why) buffer = calls.Refused (refusal_number why)

-- the same where the reply's bytes come with it
abbrev pub served_as : Served → calls.Answer
served_as (whole.Reply b) = calls.Reply (bytes_of b)
served_as (whole.Silent why) = calls.Silent (silence_number why)
served_as (whole.Refused why) = calls.Refused (refusal_number why)
served_as (whole.Tallied n) = calls.Tallied (counts_of n)

abbrev pub served_of : List Served → List calls.Answer
served_of answers = map served_as answers
