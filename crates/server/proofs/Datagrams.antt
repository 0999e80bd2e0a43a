-- What some datagrams ask for, and how some replies are framed and read. Each comment has the bytes in hexadecimal.
use Rattle.std.proofs.Common.{◌≡◌, ℕ, true, false, [], ◌∷◌, replicate, Some, refl}
use Rattle.message.specs.declared.fault.MessageFault.TheVariants.{InOption}
use Rattle.message.specs.declared.fault.OptionFault.TheVariants.{NoPayload}
use Rattle.message.specs.Options.{unknown}
use Rattle.register.specs.declared.values.Method.TheVariants.{Post}
use Rattle.register.specs.declared.values.ReadCode.TheVariants.{Content}
use Rattle.register.specs.declared.values.ChangeCode.TheVariants.{ServiceUnavailable}
use Rattle.register.specs.Values.{Bytes, nothing}
use Rattle.server.specs.Calls.{Reply, Silent, Refused}
use Rattle.server.specs.Messages.{Asked, Settled, Reads, Changes}
use Rattle.server.specs.Replies.{Exchange, showing_to, saying_to, seen_in}
use Rattle.server.specs.Requests.{coap}
use Rattle.server.specs.Reports.{TheFault, OneOf, detail}

abbrev asks : Bytes → Asked
asks d = coap.asks d

-- ## What is no request

-- 80 00 00 00 FF: another version, before any fault
not_coap : asks (128 ∷ 0 ∷ 0 ∷ 0 ∷ 255 ∷ []) ≡ Settled (Silent 10)
not_coap = refl

-- 60 01 00 01 FF: a fault comes before the type
fault_first : asks (96 ∷ 1 ∷ 0 ∷ 1 ∷ 255 ∷ []) ≡ Settled (Silent 11)
fault_first = refl

-- 40 01 00 09 D1 02 71 FF: and before an Unknown option; confirmable, it gets a Reset
fault_confirmable : asks (64 ∷ 1 ∷ 0 ∷ 9 ∷ 209 ∷ 2 ∷ 113 ∷ 255 ∷ []) ≡ Settled (Reply (112 ∷ 0 ∷ 0 ∷ 9 ∷ []))
fault_confirmable = refl

-- 60 00 00 01: Empty comes before the type
empty_first : asks (96 ∷ 0 ∷ 0 ∷ 1 ∷ []) ≡ Settled (Silent 12)
empty_first = refl

-- 40 00 00 05: an Empty confirmable message gets a Reset
ping : asks (64 ∷ 0 ∷ 0 ∷ 5 ∷ []) ≡ Settled (Reply (112 ∷ 0 ∷ 0 ∷ 5 ∷ []))
ping = refl

-- 40 45 00 01: a response that is confirmable
response : asks (64 ∷ 69 ∷ 0 ∷ 1 ∷ []) ≡ Settled (Reply (112 ∷ 0 ∷ 0 ∷ 1 ∷ []))
response = refl

-- 50 45 00 01: and one that is not
response_non : asks (80 ∷ 69 ∷ 0 ∷ 1 ∷ []) ≡ Settled (Silent 13)
response_non = refl

-- 481 bytes
too_long : asks (replicate 481 64) ≡ Settled (Refused 3)
too_long = refl

-- ## Requests that are turned down

-- 40 01 00 01 D1 02 71 D1 07 78: an Unknown option comes before a Proxy option
unknown_first : asks (64 ∷ 1 ∷ 0 ∷ 1 ∷ 209 ∷ 2 ∷ 113 ∷ 209 ∷ 7 ∷ 120 ∷ []) ≡ Settled (Reply (96 ∷ 130 ∷ 0 ∷ 1 ∷ []))
unknown_first = refl

-- 50 01 00 09 D1 02 71: silence to a request that is not confirmable
unknown_non : asks (80 ∷ 1 ∷ 0 ∷ 9 ∷ 209 ∷ 2 ∷ 113 ∷ []) ≡ Settled (Silent 14)
unknown_non = refl

-- 40 01 00 01 D1 16 78 41 79: numbers 35 and 39, two good Proxy options
proxies : asks (64 ∷ 1 ∷ 0 ∷ 1 ∷ 209 ∷ 22 ∷ 120 ∷ 65 ∷ 121 ∷ []) ≡ Settled (Reply (96 ∷ 165 ∷ 0 ∷ 1 ∷ []))
proxies = refl

-- 40 01 00 01 BD F3 and 256 bytes: a Path value of 256 bytes is an Unknown option
long_path : asks (64 ∷ 1 ∷ 0 ∷ 1 ∷ 189 ∷ 243 ∷ replicate 256 97) ≡ Settled (Reply (96 ∷ 130 ∷ 0 ∷ 1 ∷ []))
long_path = refl

-- 50 05 00 01: a NON gets errors as NON replies
other_method : asks (80 ∷ 5 ∷ 0 ∷ 1 ∷ []) ≡ Settled (Reply (80 ∷ 133 ∷ 0 ∷ 1 ∷ []))
other_method = refl

-- 40 05 00 01 B0: method before path
method_first : asks (64 ∷ 5 ∷ 0 ∷ 1 ∷ 176 ∷ []) ≡ Settled (Reply (96 ∷ 133 ∷ 0 ∷ 1 ∷ []))
method_first = refl

-- 40 01 00 01 B0: one empty segment is not the empty path
empty_segment : asks (64 ∷ 1 ∷ 0 ∷ 1 ∷ 176 ∷ []) ≡ Settled (Reply (96 ∷ 132 ∷ 0 ∷ 1 ∷ []))
empty_segment = refl

-- 40 01 00 01 B1 61 01 61 01 61 01 61 01 61: a fifth segment
five_segments : asks (64 ∷ 1 ∷ 0 ∷ 1 ∷ 177 ∷ 97 ∷ 1 ∷ 97 ∷ 1 ∷ 97 ∷ 1 ∷ 97 ∷ 1 ∷ 97 ∷ []) ≡ Settled (Reply (96 ∷ 132 ∷ 0 ∷ 1 ∷ []))
five_segments = refl

-- 40 03 00 01 B0 FF and 257 bytes: path before payload
path_first : asks (64 ∷ 3 ∷ 0 ∷ 1 ∷ 176 ∷ 255 ∷ replicate 257 97) ≡ Settled (Reply (96 ∷ 132 ∷ 0 ∷ 1 ∷ []))
path_first = refl

-- 40 03 00 01 FF and 257 bytes
large_body : asks (64 ∷ 3 ∷ 0 ∷ 1 ∷ 255 ∷ replicate 257 97) ≡ Settled (Reply (96 ∷ 141 ∷ 0 ∷ 1 ∷ []))
large_body = refl

-- ## Requests that are carried on

-- 40 01 00 01 B1 6E FF and 257 bytes: a GET with any payload reads
get_large : asks (64 ∷ 1 ∷ 0 ∷ 1 ∷ 177 ∷ 110 ∷ 255 ∷ replicate 257 97) ≡ Reads ((110 ∷ []) ∷ [])
get_large = refl

-- 40 02 00 20 B1 6E
post_con : asks (64 ∷ 2 ∷ 0 ∷ 32 ∷ 177 ∷ 110 ∷ []) ≡ Changes true 32 (record { method = Post; path = (110 ∷ []) ∷ []; body = [] })
post_con = refl

-- 51 02 01 00 AA 31 68 81 6E: with a token and a Host option
post_non_asked : asks (81 ∷ 2 ∷ 1 ∷ 0 ∷ 170 ∷ 49 ∷ 104 ∷ 129 ∷ 110 ∷ []) ≡ Changes false 256 (record { method = Post; path = (110 ∷ []) ∷ []; body = [] })
post_non_asked = refl

-- ## What a report carries

-- 40 01 00 09 D1 02 71: option 15, whose value begins at 6
option_named : detail (64 ∷ 1 ∷ 0 ∷ 9 ∷ 209 ∷ 2 ∷ 113 ∷ []) ≡ OneOf (record { kind = unknown; number = 15; place = 6; value = 113 ∷ [] } ∷ [])
option_named = refl

-- 60 01 00 01 FF: a payload marker with nothing behind it, at 4
fault_named : detail (96 ∷ 1 ∷ 0 ∷ 1 ∷ 255 ∷ []) ≡ TheFault (InOption (NoPayload 4))
fault_named = refl

-- ## Replies

abbrev to : ℕ → Exchange
to id = record { con = true; id = id; token = [] }

-- 60 45 00 03 FF 61: Max-Age 60 is left out, and read where it is left out
sixty : showing_to (to 3) (record { shown = record { code = Content; body = 97 ∷ [] }; max_age = 60 }) ≡ (96 ∷ 69 ∷ 0 ∷ 3 ∷ 255 ∷ 97 ∷ [])
sixty = refl

sixty_read : seen_in (96 ∷ 69 ∷ 0 ∷ 3 ∷ 255 ∷ 97 ∷ []) ≡ Some (record { code = 69; max_age = 60; body = 97 ∷ [] })
sixty_read = refl

-- 60 45 00 03 D0 01 FF 61: zero has no bytes
zero_age : showing_to (to 3) (record { shown = record { code = Content; body = 97 ∷ [] }; max_age = 0 }) ≡ (96 ∷ 69 ∷ 0 ∷ 3 ∷ 208 ∷ 1 ∷ 255 ∷ 97 ∷ [])
zero_age = refl

zero_read : seen_in (96 ∷ 69 ∷ 0 ∷ 3 ∷ 208 ∷ 1 ∷ 255 ∷ 97 ∷ []) ≡ Some (record { code = 69; max_age = 0; body = 97 ∷ [] })
zero_read = refl

-- 60 45 00 20 D1 01 3B FF 31
fewer : showing_to (to 32) (record { shown = record { code = Content; body = 49 ∷ [] }; max_age = 59 }) ≡ (96 ∷ 69 ∷ 0 ∷ 32 ∷ 209 ∷ 1 ∷ 59 ∷ 255 ∷ 49 ∷ [])
fewer = refl

-- 60 84 00 01: no Max-Age in a 4.04
absent : showing_to (to 1) nothing ≡ (96 ∷ 132 ∷ 0 ∷ 1 ∷ [])
absent = refl

-- 60 A3 00 01 D2 01 01 2C: Max-Age 300 in a 5.03
unavailable : saying_to (to 1) (record { code = ServiceUnavailable; body = []; max_age = 300 }) ≡ (96 ∷ 163 ∷ 0 ∷ 1 ∷ 210 ∷ 1 ∷ 1 ∷ 44 ∷ [])
unavailable = refl
