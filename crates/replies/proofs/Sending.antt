-- A reply by its parts: how long it is, and that it can be written.
use Rattle.std.proofs.Common.{ℕ, ◌+◌, ◌<◌, ◌≤◌, length, Some, None, Option, arith}
use Rattle.message.specs.Encoding.{options_bytes, encode}
use Rattle.message.specs.Message.{Rising, WellFormed}
use Rattle.transcribe.proofs.Copying.{size_of}
use Rattle.server.specs.Replies.{Exchange}
use Rattle.server.proofs.Framed.{age_rising, age_short, payload_length}
use Rattle.replies.specs.declared.response.Response.{Response}
use Rattle.replies.specs.Response.{age_options, message_to}

ages_rising : (o : Option ℕ) → Rising 0 (age_options o)
ages_rising None = tt
ages_rising (Some n) = age_rising n

ages_short : (o : Option ℕ) → length (options_bytes 0 (age_options o)) ≤ 6
ages_short None = omega arith
ages_short (Some n) = age_short n

-- header, a short token, Max-Age, and a body with its marker
pub response_short : (x : Exchange) (r : Response) → length x.token ≤ 8 → length (encode (message_to x r)) ≤ 19 + length r.body.now
response_short x r token = omega (arith, size_of (message_to x r), ages_short r.max_age, payload_length r.body.now)

-- and can be written
pub formed : (x : Exchange) (r : Response) → length x.token ≤ 8 → x.id < 65536 → WellFormed (message_to x r)
formed x r token id = record {
  id = id;
  token = token;
  empty = λ e. absurd (let some = r.not_empty in omega (arith, some, e));
  rising = ages_rising r.max_age;
  fits = omega (arith, response_short x r token, r.short_body);
}
