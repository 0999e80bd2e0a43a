-- The messages of the server meet what the theorem needs of messages.
use Rattle.std.proofs.Common.{◌≡◌, ℕ, ◌+◌, ◌/◌, ◌%◌, ◌^◌, ◌<◌, ◌≤◌, Bool, true, false, not, ◌&&◌, eqb, ltb, List, [], ◌∷◌, ◌++◌, length, get_or, drop, Some, None, Option, sym, refl, ap, ◌∙◌, subst, true≢false, arith, length-append, length-take-le}
use Rattle.std.proofs.lemmas.Bool.Decides.{nat_tests}
use Rattle.std.proofs.lemmas.Bool.{ltb-false, cond_both}
use Rattle.message.specs.declared.fault.Rejection.{Rejection}
use Rattle.message.specs.declared.fault.Rejection.TheVariants.{TooLong, NotCoap, Fault}
use Rattle.message.specs.Header.{Head, Opening, rejected, opens, framed, header, opening}
use Rattle.message.specs.Options.{ReadOption, OptionList, broken, ended, options_from, payload_of}
use Rattle.message.specs.Encoding.{Field, options_bytes, payload_bytes}
use Rattle.message.specs.Message.{closing, inside, Rising}
use Rattle.transcribe.proofs.Round.{written_read}
use Rattle.register.specs.declared.values.ReadCode.{ReadCode}
use Rattle.register.specs.declared.values.ReadCode.TheVariants.{Content, NotFound}
use Rattle.register.specs.declared.values.ChangeCode.{ChangeCode}
use Rattle.register.specs.Values.{Bytes, Path, IsBody, code_byte}
use Rattle.register.proofs.Conds.{cond_one}
use Rattle.server.specs.Calls.{Answer, Reply, Silent, Refused, Tallied}
use Rattle.server.specs.Messages.{Asked, Settled, Reads, Changes, Seen, is_content}
use Rattle.server.specs.Replies.{Exchange, exchange_by_head, exchange_by_bytes, fewest, number_from, max_age_option, max_age_in, reply_message, reply_with, read_reply, failing_to, reset_for, seen_by, seen_in}
use Rattle.server.specs.Requests.{not_request, bad_option, is_unknown, is_proxy, any_option, path_in, is_path_valid, is_of_request, asks_for, requested, asked_with, asked_by, exchange_by, coap}
use Rattle.server.specs.Promises.{Framing}

-- ## What stands in a header

-- a property of what the front of a datagram gives: of every rejection, and of every head with this code and a token
-- of at most 8 bytes
framed_all : (P : Opening → Type 0) (size first code high low : ℕ) (rest : List ℕ) → ((why : Rejection) → P (rejected why)) → ((h : Head) (at : ℕ) → h.code ≡ code → length h.token ≤ 8 → P (opens h at)) → P (framed size first code high low rest)
framed_all P size first code high low rest fails opens-to =
    cond_one P (eqb (first / 64) 1) _ _
    (cond_both (ltb 8 (first % 16)) _ _ P (λ e. fails _) (λ e.
    let short = ltb-false 8 (first % 16) e in
    cond_one P (eqb code 0 && ltb 0 (first % 16 + length rest)) _ _ (fails _)
    (cond_both (ltb (length rest) (first % 16)) _ _ P (λ f. fails _) (λ f. opens-to _ _ refl (omega (arith, short, length-take-le (first % 16) rest (ltb-false _ _ f)))))))
    (fails _)

header_all : (P : Opening → Type 0) (size : ℕ) (d : List ℕ) → ((why : Rejection) → P (rejected why)) → ((h : Head) (at : ℕ) → h.code ≡ get_or d 1 0 → length h.token ≤ 8 → P (opens h at)) → P (header size d)
header_all P size [] fails opens-to = fails _
header_all P size (a ∷ []) fails opens-to = fails _
header_all P size (a ∷ b ∷ []) fails opens-to = fails _
header_all P size (a ∷ b ∷ c ∷ []) fails opens-to = fails _
header_all P size (a ∷ b ∷ c ∷ d ∷ rest) fails opens-to = framed_all P size a b c d rest fails opens-to

opening_all : (P : Opening → Type 0) (d : List ℕ) → ((why : Rejection) → P (rejected why)) → ((h : Head) (at : ℕ) → h.code ≡ get_or d 1 0 → length h.token ≤ 8 → P (opens h at)) → P (opening d)
opening_all P d fails opens-to = cond_one P (ltb 480 (length d)) _ _ (fails _) (header_all P (length d) d fails opens-to)

pub exchange_token : (d : Bytes) → length (exchange_by d (opening d)).token ≤ 8
exchange_token d = opening_all (λ o. length (exchange_by d o).token ≤ 8) d (λ why. omega arith) (λ h at c short. short)

-- ## A reply whose second byte is not 69 is no 2.05

closing_code : (d : List ℕ) (h : Head) (l : OptionList) → eqb h.code 69 ≡ false → is_content (seen_by (closing d h l)) ≡ false
closing_code d h (broken f) e = refl
closing_code d h (ended os end) e = e

no_content : (b : Bytes) → eqb (get_or b 1 0) 69 ≡ false → is_content (seen_in b) ≡ false
no_content b e = opening_all (λ o. is_content (seen_by (inside b o)) ≡ false) b (λ why. refl) (λ h at c short. closing_code b h (options_from b at 0) (ap (λ x. eqb x 69) c ∙ e))

reply_code : (x : Exchange) (c : ℕ) (options : List Field) (body : Bytes) → eqb c 69 ≡ false → is_content (seen_in (reply_with x c options body)) ≡ false
reply_code x c options body e = no_content (reply_with x c options body) e

change_code : (c : ChangeCode) → eqb (code_byte c) 69 ≡ false
change_code c = grind (arith, nat_tests)

-- ## What a datagram asks for

abbrev FineAnswer : Answer → Type 0
FineAnswer (Reply b) = is_content (seen_in b) ≡ false
FineAnswer (Silent n) = Unit {0}
FineAnswer (Refused n) = Unit {0}
FineAnswer (Tallied n) = Unit {0}

abbrev Fine : Asked → Type 0
Fine (Settled a) = FineAnswer a
Fine (Reads p) = Unit {0}
Fine (Changes con id c) = IsBody c.body

not_request_fine : (x : Exchange) (n : ℕ) → FineAnswer (not_request x n)
not_request_fine x n = cond_one FineAnswer x.con _ _ (no_content (reset_for x.id) refl) tt

asks_for_fine : (h : Head) (p : Path) (body : Bytes) → (eqb h.code 1 ≡ false → length body ≤ 256) → Fine (asks_for h p body)
asks_for_fine h p body fits = cond_both (eqb h.code 1) _ _ Fine (λ e. tt) fits

body_fits : (a b : Bool) → not a && b ≡ false → a ≡ false → b ≡ false
body_fits true b e f = absurd (true≢false f)
body_fits false b e f = e

-- a property of what a message asks for: of a Reset or silence, of 4.02, of every other error, and of what is carried
-- to the register
requested_all : (P : Asked → Type 0) (h : Head) (os : List ReadOption) (body : Bytes) → ((n : ℕ) → P (Settled (not_request (exchange_by_head h) n))) → P (Settled (bad_option (exchange_by_head h))) →
    ((c : ℕ) → eqb c 69 ≡ false → P (Settled (Reply (failing_to (exchange_by_head h) c)))) → ((eqb h.code 1 ≡ false → length body ≤ 256) → P (asks_for h (path_in os) body)) → P (requested h os body)
requested_all P h os body other bad error carried =
    cond_one P (eqb h.code 0) _ _ (other 12)
    (cond_one P (not (is_of_request h.type h.code)) _ _ (other 13)
    (cond_one P (any_option is_unknown os) _ _ bad
    (cond_one P (any_option is_proxy os) _ _ (error 165 refl)
    (cond_one P (ltb 4 h.code) _ _ (error 133 refl)
    (cond_one P (not (is_path_valid (path_in os))) _ _ (error 132 refl)
    (cond_both (not (eqb h.code 1) && ltb 256 (length body)) _ _ P (λ e. error 141 refl) (λ e.
    carried (λ f. ltb-false 256 (length body) (body_fits (eqb h.code 1) (ltb 256 (length body)) e f)))))))))

requested_fine : (h : Head) (os : List ReadOption) (body : Bytes) → Fine (requested h os body)
requested_fine h os body =
    let x = exchange_by_head h in
    requested_all Fine h os body (not_request_fine x) (cond_one FineAnswer x.con _ _ (reply_code x 130 [] [] refl) tt) (λ c e. reply_code x c [] [] e) (asks_for_fine h (path_in os) body)

asked_fine : (d : Bytes) (h : Head) (l : OptionList) → Fine (asked_with d h l)
asked_fine d h (broken f) = not_request_fine (exchange_by_head h) 11
asked_fine d h (ended os end) = requested_fine h os (payload_of (drop end d))

opened_fine : (d : Bytes) (o : Opening) → Fine (asked_by d o)
opened_fine d (rejected TooLong) = tt
opened_fine d (rejected NotCoap) = tt
opened_fine d (rejected (Fault f)) = not_request_fine (exchange_by_bytes d) 11
opened_fine d (opens h at) = asked_fine d h (options_from d at 0)

-- ## A 2.05 is read back

fewest_again : (n : ℕ) → n < 2 ^ 32 → number_from 0 (fewest n) ≡ n
fewest_again n h = grind (arith, nat_tests)

pub fewest_short : (n : ℕ) → length (fewest n) ≤ 4
fewest_short n = grind (arith, nat_tests)

age_again : (n : ℕ) → n < 2 ^ 32 → max_age_in (max_age_option n) ≡ n
age_again n h = cond_both (eqb n 60) _ _ (λ os. max_age_in os ≡ n) (λ e. grind (arith, nat_tests)) (λ e. fewest_again n h)

pub age_rising : (n : ℕ) → Rising 0 (max_age_option n)
age_rising n = cond_one (Rising 0) (eqb n 60) _ _ tt (omega arith, omega arith, tt)

pub age_short : (n : ℕ) → length (options_bytes 0 (max_age_option n)) ≤ 6
age_short n = grind (arith, nat_tests)

pub payload_length : (p : Bytes) → length (payload_bytes p) ≤ 1 + length p
payload_length [] = omega arith
payload_length (b ∷ bs) = omega arith

content_fits : (x : Exchange) (n : ℕ) (body : Bytes) → length x.token ≤ 8 → length body ≤ 256 → length (reply_with x 69 (max_age_option n) body) ≤ 480
content_fits x n body token fits =
    omega (arith, token, fits, age_short n, payload_length body, length-append (options_bytes 0 (max_age_option n)) (payload_bytes body), length-append x.token (options_bytes 0 (max_age_option n) ++ payload_bytes body))

content_reads_back : (x : Exchange) (n : ℕ) (body : Bytes) → length x.token ≤ 8 → n < 2 ^ 32 → length body ≤ 256 → seen_in (read_reply x Content n body) ≡ Some (record { code = 69; max_age = n; body = body })
content_reads_back x n body token age fits =
    ap seen_by (written_read (reply_message x 69 (max_age_option n) body) token (λ e. absurd (omega (arith, e))) (age_rising n) (content_fits x n body token fits))
    ∙ ap (λ a. Some (record { code = 69; max_age = a; body = body })) (age_again n age)

abbrev or_else : Seen → Option Seen → Seen
or_else s None = s
or_else s (Some t) = t

read_back : (x : Exchange) (c : ReadCode) (n : ℕ) (body : Bytes) → length x.token ≤ 8 → n < 2 ^ 32 → length body ≤ 256 → (seen : Seen) → seen_in (read_reply x c n body) ≡ Some seen → seen.code ≡ 69 →
    (c ≡ Content) × (seen ≡ record { code = 69; max_age = n; body = body })
read_back x Content n body token age fits seen e is = (refl, ap (or_else seen) (sym e ∙ content_reads_back x n body token age fits))
read_back x NotFound n body token age fits seen e is =
    absurd (true≢false (ap (λ k. eqb k 69) (sym is) ∙ ap is_content (sym e) ∙ reply_code x 132 [] body refl))

pub coap_framing : Framing coap
coap_framing = record {
  change_fits = λ d con id c e. subst Fine e (opened_fine d (opening d));
  shown_back = λ d p r seen e fits read is. read_back (exchange_by d (opening d)) r.shown.code r.max_age r.shown.body (exchange_token d) fits.1 fits.0 seen read is;
  not_said = λ d s. reply_code (exchange_by d (opening d)) (code_byte s.code) _ s.body (change_code s.code);
  not_settled = λ d b e. subst Fine e (opened_fine d (opening d));
}
