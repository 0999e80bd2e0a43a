-- The definitions at work: a counter of interments behind the server, and a run in which a confirmable request is
-- repeated, another is silenced, the records are full, and time passes.
use Rattle.std.proofs.Common.{◌≡◌, ℕ, zero, suc, ◌+◌, true, false, List, [], ◌∷◌, decimal, refl, arith}
use Rattle.register.specs.Values.{Bytes}
use Rattle.register.specs.Counter.{counter}
use Rattle.server.specs.Calls.{Answer, Reply, Silent, Refused, Tallied, Call, Arrival, Tally}
use Rattle.server.specs.Replies.{reply_with}
use Rattle.server.specs.Requests.{coap}
use Rattle.server.specs.Serving.{answer, served}
use Rattle.server.specs.Ledger.{Grouped, calls, admitted, Premises}
use Rattle.server.specs.Promises.{Promises, register_at, done_requests}
use Rattle.register.proofs.Counters.{counter_laws}
use Rattle.server.proofs.Framed.{coap_framing}
use Rattle.server.proofs.Keeping.{each_change_is_once}
use Rattle.server.proofs.Meeting.{meets, met}

-- of one peer, with room for a reply
abbrev at : ℕ → Bytes → Call
at t d = Arrival t 7 d 320

-- a confirmable POST, one that is not, and a GET, of the empty path
abbrev post : ℕ → Bytes
post id = 64 ∷ 2 ∷ 0 ∷ id ∷ []

abbrev post_non : ℕ → Bytes
post_non id = 80 ∷ 2 ∷ 0 ∷ id ∷ []

abbrev get : ℕ → Bytes
get id = 64 ∷ 1 ∷ 0 ∷ id ∷ []

abbrev answers : List Call → Call → Answer
answers past c = answer counter coap (served counter coap 0 past) c

abbrev numbered : ℕ → ℕ → Answer
numbered id n = Reply (reply_with (record { con = true; id = id; token = [] }) 68 [] (decimal n))

-- the first reply again until just before 247 seconds are over, and from then on the request is a new one
first : answers [] (at 1000 (post 5)) ≡ numbered 5 1
first = refl

repeated : answers (at 1000 (post 5) ∷ []) (at 247999 (post 5)) ≡ numbered 5 1
repeated = refl

anew : answers (at 1000 (post 5) ∷ []) (at 248000 (post 5)) ≡ numbered 5 2
anew = refl

silenced : answers (at 1000 (post_non 5) ∷ []) (at 1001 (post_non 5)) ≡ Silent 15
silenced = refl

back : answers (at 1000 (post 5) ∷ []) (at 999 (post 5)) ≡ Refused 1
back = refl

tally : answers (at 2000 (post 5) ∷ at 1000 (post 5) ∷ []) Tally ≡ Tallied (record { done = 1; repeated = 1; silenced = 0; dropped = 0 })
tally = refl

-- 32 requests fill the records: the next one is dropped, and 247 seconds after the first there is a place
abbrev many : ℕ → ℕ → List Call
many t zero = []
many t (suc n) = at (t + n) (post n) ∷ many t n

dropped : answers (many 0 32) (at 32 (post 32)) ≡ Silent 16
dropped = refl

room : answers (many 0 32) (at 247000 (post 32)) ≡ numbered 32 33
room = refl

-- ## The theorem at a run

abbrev of : ℕ → Call → Grouped
of request c = record { call = c; request = request }

-- requests 10 and later, one a second, confirmable
abbrev others : ℕ → List Grouped → List Grouped
others zero past = past
others (suc n) past = of (10 + n) (at (5000 + n) (post (10 + n))) ∷ others n past

-- request 1 comes and is repeated, request 2 comes and its copy is silenced
abbrev opened : List Grouped
opened = of 2 (at 4000 (post_non 6)) ∷ of 2 (at 3000 (post_non 6)) ∷ of 1 (at 2000 (post 5)) ∷ of 1 (at 1000 (post 5)) ∷ []

-- thirty others fill the records, and request 3 is dropped
abbrev filled : List Grouped
filled = of 3 (at 6000 (post 99)) ∷ others 30 opened

-- request 1 is repeated once more, its record expires, and request 3 comes again and is done; a call with an earlier
-- moment is refused; the Message ID of request 1 is used again for request 4
abbrev run : List Grouped
run = of 0 Tally ∷ of 0 (at 500001 (get 8)) ∷ of 4 (at 500000 (post 5)) ∷ of 9 (at 1000 (post 5)) ∷ of 3 (at 248000 (post 99)) ∷ of 1 (at 247999 (post 5)) ∷ filled

all_met : Premises (admitted coap run)
all_met = met (admitted coap run) refl

pub kept : Promises counter coap 0 run
kept = each_change_is_once coap coap_framing counter counter_laws 0 (omega arith) run all_met

-- what it says of this run: 34 requests, each done once, in this order, the latest first
register_is : register_at counter coap 0 run ≡ 34
register_is = refl

last_ones : done_requests counter coap 0 (of 4 (at 500000 (post 5)) ∷ of 3 (at 248000 (post 99)) ∷ opened) ≡ 4 ∷ 3 ∷ 2 ∷ 1 ∷ []
last_ones = refl

tally_is : answers (calls (of 0 (at 500001 (get 8)) ∷ of 4 (at 500000 (post 5)) ∷ of 3 (at 248000 (post 99)) ∷ of 1 (at 247999 (post 5)) ∷ filled)) Tally
    ≡ Tallied (record { done = 34; repeated = 2; silenced = 1; dropped = 1 })
tally_is = refl

-- a grouping that takes the second POST with a Message ID for another request, while the first is remembered, meets
-- no premises
not_met : meets (admitted coap (of 2 (at 2000 (post 5)) ∷ of 1 (at 1000 (post 5)) ∷ [])) ≡ false
not_met = refl
