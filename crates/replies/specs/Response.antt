-- A reply by its code, the Max-Age that it tells, and its body.
use Rattle.std.specs.Prelude.{◌≡◌, ℕ, cond, List, [], Some, None, Option}
use Rattle.message.specs.declared.header.MessageType.{MessageType}
use Rattle.message.specs.declared.header.MessageType.TheVariants.{Non, Ack}
use Rattle.message.specs.Encoding.{Field, Message, encode}
use Rattle.register.specs.Values.{Bytes}
use Rattle.server.specs.Replies.{Exchange, max_age_option, reply_message}
use Rattle.replies.specs.declared.response.Response.{Response}

-- the type of the reply to a request that is confirmable or not
abbrev pub type_of_reply : Exchange → MessageType
type_of_reply x = cond x.con Ack Non

-- a Max-Age that is told, or none
abbrev pub age_options : Option ℕ → List Field
age_options None = []
age_options (Some n) = max_age_option n

abbrev pub message_to : Exchange → Response → Message
message_to x r = reply_message x r.code.0 (age_options r.max_age) r.body.now

-- it is written as these bytes, to whatever exchange
abbrev pub Says : Response → (Exchange → Bytes) → Type 0
Says r bytes = (x : Exchange) → encode (message_to x r) ≡ bytes x
