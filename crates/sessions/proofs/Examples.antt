-- The worked examples, computed.
use Rattle.std.proofs.Common.{true, List, [], ◌∷◌, refl, ap, lit<}
use Rattle.std.proofs.lemmas.Fmt.{decimal_digit}
use Rattle.register.specs.Values.{Bytes}
use Rattle.server.specs.Calls.{Answer, Reply}
use Rattle.server.specs.Replies.{reply_with}
use Rattle.sessions.specs.Examples.{WorkedExamples}

-- 2.04 with these digits, to a confirmable request with Message ID 32
abbrev numbered : Bytes → List Answer
numbered digits = Reply (reply_with (record { con = true; id = 32; token = [] }) 68 [] digits) ∷ []

pub worked_examples : WorkedExamples
worked_examples = record {
  header_read = refl;
  options_read = refl;
  payload_read = refl;
  free_at_first = λ plots files. refl;
  reserved_once = λ plots files. refl;
  held_for_fifty = λ plots files. refl;
  held_for_none = λ plots files. refl;
  free_again = λ plots files. refl;
  token_fault = refl;
  token_cause = refl;
  token_place = refl;
  token_told = λ plots files. refl;
  token_answered = λ plots files. refl;
  option_told = λ plots files. refl;
  option_answered = λ plots files. refl;
  option_silenced = λ plots files. refl;
  first_number = λ plots files. ap numbered (decimal_digit 1 (lit< tt));
}
