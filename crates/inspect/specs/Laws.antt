-- What is true of the answers to datagrams, of lines, and of an input that comes in pieces.
use Rattle.std.specs.Prelude.{◌≡◌, ℕ, List, [], ◌++◌, Ok, Err, Result, ◌≢◌}
use Rattle.std.specs.List.{flat_map, AllByRecursion}
use Rattle.message.specs.declared.fault.Rejection.{Rejection}
use Rattle.message.specs.Message.{parse}
use Rattle.transcribe.specs.Transcribing.{validity}
use Rattle.text.specs.Lines.{line_feed}
use Rattle.inspect.specs.Datagram.{message_text}
use Rattle.inspect.specs.Lines.{lines_in, line_after}
use Rattle.inspect.specs.Stream.{State, report, fed, fresh, answers, told}

-- Whether there is a text.
abbrev pub verdict : Result (List ℕ) Rejection → Result (Unit {0}) Rejection
verdict (Ok text) = Ok tt
verdict (Err why) = Err why

-- The datagrams that have the line of a message are those that are messages, and the others have the same rejection.
abbrev pub ToldByParse : Type 0
ToldByParse = (d : List ℕ) → verdict (message_text d) ≡ validity (parse d)

-- The lines of an input have no line feed inside, and with a line feed after each they give the input again.
pub record SplitAtLineFeeds : Type 0 where
  pub again : (input : List ℕ) → flat_map (λ line. line ++ line_feed) (lines_in [] input) ++ line_after [] input ≡ input
  pub lines : (input : List ℕ) → AllByRecursion (λ line. AllByRecursion (λ b. b ≢ 10) line) (lines_in [] input)
  pub rest : (input : List ℕ) → AllByRecursion (λ b. b ≢ 10) (line_after [] input)

-- To take two pieces one after the other is to take them as one piece.
pub record FedInParts : Type 0 where
  pub state : (s : State) (a b : List ℕ) → fed s (a ++ b) ≡ fed (fed s a) b
  pub text : (s : State) (a b : List ℕ) → answers s (a ++ b) ≡ answers s a ++ answers (fed s a) b

-- Whatever the pieces in which an input comes, all that is written is the output for the input.
abbrev pub WholeReport : Type 0
WholeReport = (pieces : List (List ℕ)) → told fresh pieces ≡ report (flat_map (λ piece. piece) pieces)
