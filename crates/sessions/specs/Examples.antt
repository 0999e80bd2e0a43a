-- Worked examples: a server that was just made over the first stack, with 8 plots and 8 records for files, and what
-- peer 1 is answered. Bytes are in hexadecimal in the comments.
use Rattle.std.specs.Prelude.{◌≡◌, ℕ, List, [], ◌∷◌, drop, replicate, Some, None}
use Rattle.message.specs.declared.header.MessageType.TheVariants.{Con}
use Rattle.message.specs.declared.fault.MessageFault.TheVariants.{TokenLength}
use Rattle.message.specs.declared.fault.Rejection.TheVariants.{Fault}
use Rattle.message.specs.Faults.{cause_of, place_of}
use Rattle.message.specs.Header.{rejected, opens, opening}
use Rattle.message.specs.Options.{path, ended, options_from, payload_of}
use Rattle.register.specs.Values.{Bytes}
use Rattle.register.specs.Board as board
use Rattle.register.specs.Store as store
use Rattle.calls.specs.declared.report.Report.{Report}
use Rattle.calls.specs.declared.report.Report.TheVariants.{Unreadable, UnknownOption}
use Rattle.server.specs.Calls.{Answer, Reply, Silent, Tallied, Call, Arrival, Tally}
use Rattle.server.specs.Requests.{coap}
use Rattle.calls.specs.Reports.{report}
use Rattle.server.specs.Serving.{Server, fresh, run}
use Rattle.office.specs.Stacks.{office_meaning, made}

-- ## Servers and calls

abbrev pub eight_plots : ℕ → board.Table
eight_plots lender = record { lender = lender; plots = replicate 8 board.free }

abbrev pub eight_records : ℕ → store.Table
eight_records lender = record { lender = lender; records = replicate 8 None }

abbrev pub new_server : (plots files : ℕ) → Server office_meaning.State
new_server plots files = fresh (made (eight_plots plots) (eight_records files))

-- a datagram of peer 1 at a moment, with room for 480 bytes
abbrev pub at : ℕ → Bytes → Call
at t d = Arrival t 1 d 480

-- these calls in their order get these answers, whoever lends the tables
abbrev pub Answers : List Call → List Answer → Type 0
Answers cs given = (plots files : ℕ) → run office_meaning coap (new_server plots files) cs ≡ given

-- at its first call the host is told this
abbrev pub Tells : Call → Report → Type 0
Tells c why = (plots files : ℕ) → report (new_server plots files) c ≡ Some why

-- ## Datagrams

-- 41 01 12 34 A1 B1 62 01 37: a GET of plot 7
abbrev pub get_seven : Bytes
get_seven = 65 ∷ 1 ∷ 18 ∷ 52 ∷ 161 ∷ 177 ∷ 98 ∷ 1 ∷ 55 ∷ []

-- 41 03 12 35 A2 B1 62 01 37 FF 61 6E 6E: a PUT that reserves plot 7 for `ann`
abbrev pub put_seven : Bytes
put_seven = 65 ∷ 3 ∷ 18 ∷ 53 ∷ 162 ∷ 177 ∷ 98 ∷ 1 ∷ 55 ∷ 255 ∷ 97 ∷ 110 ∷ 110 ∷ []

-- 49 01 00 00: a token length of 9
abbrev pub long_token : Bytes
long_token = 73 ∷ 1 ∷ 0 ∷ 0 ∷ []

-- 40 01 00 09 D1 02 71: a confirmable GET with option 15
abbrev pub get_query : Bytes
get_query = 64 ∷ 1 ∷ 0 ∷ 9 ∷ 209 ∷ 2 ∷ 113 ∷ []

-- 50 01 00 09 D1 02 71: the same, not confirmable
abbrev pub get_query_non : Bytes
get_query_non = 80 ∷ 1 ∷ 0 ∷ 9 ∷ 209 ∷ 2 ∷ 113 ∷ []

-- 40 02 00 20 B1 6E: a POST to the counter
abbrev pub post_number : Bytes
post_number = 64 ∷ 2 ∷ 0 ∷ 32 ∷ 177 ∷ 110 ∷ []

-- ## Replies

-- 61 44 12 35 A2: 2.04, plot 7 is reserved
abbrev pub reserved : Answer
reserved = Reply (97 ∷ 68 ∷ 18 ∷ 53 ∷ 162 ∷ [])

-- 61 45 12 34 A1: 2.05 for a minute, nobody holds plot 7
abbrev pub nobody : Answer
nobody = Reply (97 ∷ 69 ∷ 18 ∷ 52 ∷ 161 ∷ [])

-- 61 45 12 34 A1 D1 01 32 FF 61 6E 6E: 2.05 with Max-Age 50, `ann` holds it
abbrev pub ann_for_fifty : Answer
ann_for_fifty = Reply (97 ∷ 69 ∷ 18 ∷ 52 ∷ 161 ∷ 209 ∷ 1 ∷ 50 ∷ 255 ∷ 97 ∷ 110 ∷ 110 ∷ [])

-- 61 45 12 34 A1 D0 01 FF 61 6E 6E: 2.05 with Max-Age 0, `ann` holds it
abbrev pub ann_for_none : Answer
ann_for_none = Reply (97 ∷ 69 ∷ 18 ∷ 52 ∷ 161 ∷ 208 ∷ 1 ∷ 255 ∷ 97 ∷ 110 ∷ 110 ∷ [])

-- 70 00 00 00: a Reset
abbrev pub reset : Answer
reset = Reply (112 ∷ 0 ∷ 0 ∷ 0 ∷ [])

-- 60 82 00 09: 4.02
abbrev pub bad_option : Answer
bad_option = Reply (96 ∷ 130 ∷ 0 ∷ 9 ∷ [])

-- 60 44 00 20 FF 31: 2.04 with the number 1
abbrev pub number_one : Answer
number_one = Reply (96 ∷ 68 ∷ 0 ∷ 32 ∷ 255 ∷ 49 ∷ [])

-- ## The examples

pub record WorkedExamples : Type 0 where
  -- the GET of plot 7 is confirmable and has the code 1, Message ID 4,660 and the token A1
  pub header_read : opening get_seven ≡ opens (record { type = Con; code = 1; id = 4660; token = 161 ∷ [] }) 5
  -- it has two Path options, `b` with its value at place 6, and `7` at 8
  pub options_read : options_from get_seven 5 0 ≡ ended (record { kind = path; number = 11; place = 6; value = 98 ∷ [] } ∷ record { kind = path; number = 11; place = 8; value = 55 ∷ [] } ∷ []) 9
  -- and no payload
  pub payload_read : payload_of (drop 9 get_seven) ≡ []
  -- at first nobody holds plot 7
  pub free_at_first : Answers (at 0 get_seven ∷ []) (nobody ∷ [])
  -- a reservation that comes again just before 247 seconds are over gets the same bytes, and is done once
  pub reserved_once : Answers (at 1000 put_seven ∷ at 247999 put_seven ∷ Tally ∷ []) (reserved ∷ reserved ∷ Tallied (record { done = 1; repeated = 1; silenced = 0; dropped = 0 }) ∷ [])
  -- a reservation lasts a day: 50.5 seconds before its end the holder is shown with 50 whole seconds left
  pub held_for_fifty : Answers (at 1000 put_seven ∷ at 86350500 get_seven ∷ []) (reserved ∷ ann_for_fifty ∷ [])
  -- half a second before its end no whole second is left
  pub held_for_none : Answers (at 1000 put_seven ∷ at 86400500 get_seven ∷ []) (reserved ∷ ann_for_none ∷ [])
  -- and at its end nobody holds the plot
  pub free_again : Answers (at 1000 put_seven ∷ at 86401000 get_seven ∷ []) (reserved ∷ nobody ∷ [])
  -- the reader finds fault with a token length of 9
  pub token_fault : opening long_token ≡ rejected (Fault TokenLength)
  -- that is cause 1
  pub token_cause : cause_of TokenLength ≡ 1
  -- at place 0
  pub token_place : place_of TokenLength ≡ 0
  -- the host is told of it
  pub token_told : Tells (at 0 long_token) (Unreadable (Fault TokenLength))
  -- and the peer gets a Reset
  pub token_answered : Answers (at 0 long_token ∷ []) (reset ∷ [])
  -- option 15 is not understood: the host is told of its number and of the place 6 of its value
  pub option_told : Tells (at 0 get_query) (UnknownOption (record { number = 15; place = 6 }))
  -- and the peer gets a 4.02
  pub option_answered : Answers (at 0 get_query ∷ []) (bad_option ∷ [])
  -- or silence, where the request is not confirmable
  pub option_silenced : Answers (at 0 get_query_non ∷ []) (Silent 14 ∷ [])
  -- the counter's first number is 1
  pub first_number : Answers (at 0 post_number ∷ []) (number_one ∷ [])
