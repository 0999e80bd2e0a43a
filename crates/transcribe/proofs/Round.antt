-- A message that is written is read again, and a datagram that is read is what would be written.
use Rattle.std.proofs.Common.{◌≡◌, ℕ, ◌+◌, ◌*◌, ◌/◌, ◌%◌, ◌<◌, ◌≤◌, false, cond, ltb, List, [], ◌∷◌, ◌++◌, map, length, get_or, take, drop, sym, refl, ap, ◌∙◌, subst, ⊎_elim, arith, length-append, take-append-drop, length-take-le}
use Rattle.std.proofs.lemmas.Bool.Decides.{nat_tests}
use Rattle.std.proofs.lemmas.Bool.{cases_Bool, ltb-false, le-ltb}
use Rattle.std.proofs.lemmas.List.{take_at, drop_at, drop-drop}
use Rattle.std.proofs.lemmas.Nat.{div-mul-add, mod-mul-add}
use Rattle.message.specs.declared.header.MessageType.{MessageType}
use Rattle.message.specs.declared.header.MessageType.TheVariants.{Con, Non, Ack, Rst}
use Rattle.message.specs.declared.fault.Rejection.{Rejection}
use Rattle.message.specs.declared.fault.Rejection.TheVariants.{TooLong}
use Rattle.message.specs.Header.{Head, type_bits, type_of, Opening, rejected, opens, framed, header}
use Rattle.message.specs.Options.{OptionList, broken, ended, options_from, payload_of}
use Rattle.message.specs.Encoding.{Field, Message, option_bytes, options_bytes, payload_bytes, head_bytes, encode}
use Rattle.message.specs.Message.{refused, message, field_in, closing, inside, parse, Rising, WellFormed}
use Rattle.message.proofs.Heads.{framed_opens}
use Rattle.message.proofs.Walks.{walked}
use Rattle.transcribe.proofs.Codec.{Writable, items_of, walk_written, walk_read, payload_shut, length_option}

bits_below : (t : MessageType) → type_bits t < 4
bits_below Con = omega arith
bits_below Non = omega arith
bits_below Ack = omega arith
bits_below Rst = omega arith

type_again : (t : MessageType) → type_of (type_bits t) ≡ t
type_again Con = refl
type_again Non = refl
type_again Ack = refl
type_again Rst = refl

bits_again : (n : ℕ) → n < 4 → type_bits (type_of n) ≡ n
bits_again n h = grind (arith, nat_tests)

-- the four bytes of a header that is written
framed_written : (size code high low n : ℕ) (type : MessageType) (rest : List ℕ) → n ≤ 8 → n ≤ length rest → (code ≡ 0 → n + length rest ≡ 0) → framed size (64 + type_bits type * 16 + n) code high low rest ≡ opens (record { type = type; code = code; id = high * 256 + low; token = take n rest }) (4 + n)
framed_written size code high low n type rest h l e =
    let t = bits_below type in
    let bits = type_bits type in
    let f : 64 + bits * 16 + n ≡ (4 + bits) * 16 + n = omega arith in
    let a : (64 + bits * 16 + n) / 64 ≡ 1 = omega arith in
    let b : (64 + bits * 16 + n) % 16 ≡ n = ap (λ x. x % 16) f ∙ mod-mul-add (4 + bits) 16 n (omega arith) in
    let c : (64 + bits * 16 + n) / 16 % 4 ≡ bits = ap (λ x. x / 16 % 4) f ∙ ap (λ x. x % 4) (div-mul-add (4 + bits) 16 n (omega arith)) ∙ (let g : (4 + bits) % 4 ≡ bits = omega arith in g) in
    framed_opens size (64 + bits * 16 + n) code high low rest a (omega (arith, b)) (omega (arith, b)) (λ z. omega (arith, b, e z))
    ∙ (λ i. opens (record { type = (ap type_of c ∙ type_again type) i; code = code; id = high * 256 + low; token = take (b i) rest }) (4 + b i))

fields_kept : (at before : ℕ) (os : List Field) → map field_in (items_of at before os) ≡ os
fields_kept at before [] = refl
fields_kept at before (o ∷ os) = ap (λ l. o ∷ l) (fields_kept (at + length (option_bytes before o)) o.number os)

payload_kept : (p : List ℕ) → payload_of (payload_bytes p) ≡ p
payload_kept [] = refl
payload_kept (b ∷ bs) = refl

options_long : (before : ℕ) (os : List Field) → length os ≤ length (options_bytes before os)
options_long before [] = omega arith
options_long before (o ∷ os) = omega (arith, length-append (option_bytes before o) (options_bytes o.number os), options_long o.number os)

-- numbers that rise, and values that fit a datagram
rising_writable : (before : ℕ) (os : List Field) → Rising before os → length (options_bytes before os) ≤ 480 → Writable before os
rising_writable before [] r h = tt
rising_writable before (o ∷ os) r h =
    let all = length-append (option_bytes before o) (options_bytes o.number os) in
    let own = length_option before o in
    (r.0, r.1, omega (arith, all, own), rising_writable o.number os r.2 (omega (arith, all)))

writable_rising : (before : ℕ) (os : List Field) → Writable before os → Rising before os
writable_rising before [] w = tt
writable_rising before (o ∷ os) w = (w.0, w.1, writable_rising o.number os w.3)

-- what is written is read again; the Message ID plays no part
pub written_read : (m : Message) → length m.head.token ≤ 8 → (m.head.code ≡ 0 → length (encode m) ≡ 4) → Rising 0 m.options → length (encode m) ≤ 480 → parse (encode m) ≡ message m
written_read m token empty rising fits =
    let h = m.head in
    let tail = options_bytes 0 m.options ++ payload_bytes m.payload in
    let n = length h.token in
    let long : ltb 480 (length (encode m)) ≡ false = le-ltb 480 _ fits in
    let size : length (encode m) ≡ 4 + n + length tail = simp length-append (omega arith) in
    let none : h.code ≡ 0 → n + length (h.token ++ tail) ≡ 0 = λ e. omega (arith, empty e, length-append h.token tail) in
    let id : h.id / 256 * 256 + h.id % 256 ≡ h.id = omega arith in
    let o : header (length (encode m)) (encode m) ≡ opens (record { type = h.type; code = h.code; id = h.id / 256 * 256 + h.id % 256; token = take n (h.token ++ tail) }) (4 + n) =
    framed_written (length (encode m)) h.code (h.id / 256) (h.id % 256) n h.type (h.token ++ tail) token (simp length-append (omega arith)) none in
    let o' : header (length (encode m)) (encode m) ≡ opens h (4 + n) = o ∙ (λ i. opens (record { type = h.type; code = h.code; id = id i; token = take_at h.token tail n refl i }) (4 + n)) in
    let start : drop (4 + n) (encode m) ≡ tail = drop_at (head_bytes h) tail (4 + n) (omega arith) in
    let many : length m.options < length (encode m) + 1 = omega (arith, size, length-append (options_bytes 0 m.options) (payload_bytes m.payload), options_long 0 m.options) in
    let end = 4 + n + length (options_bytes 0 m.options) in
    let writable = rising_writable 0 m.options rising (omega (arith, size, fits, length-append (options_bytes 0 m.options) (payload_bytes m.payload))) in
    let w = walk_written m.options (length (encode m) + 1) (4 + n) 0 (encode m) (payload_bytes m.payload) writable (payload_shut m.payload) start many in
    let rest : drop end (encode m) ≡ payload_bytes m.payload = sym (drop-drop (length (options_bytes 0 m.options)) (4 + n) (encode m)) ∙ ap (drop (length (options_bytes 0 m.options))) start ∙ drop_at (options_bytes 0 m.options) (payload_bytes m.payload) _ refl in
    ap (λ b. inside (encode m) (cond b (rejected TooLong) (header (length (encode m)) (encode m)))) long
    ∙ ap (inside (encode m)) o'
    ∙ ap (closing (encode m) h) w
    ∙ (λ i. message (record { head = h; options = fields_kept (4 + n) 0 m.options i; payload = (ap payload_of rest ∙ payload_kept m.payload) i }))

pub parse_encode : (m : Message) → WellFormed m → parse (encode m) ≡ message m
parse_encode m g = written_read m g.token g.empty g.rising g.fits

-- what a header that was read is
pub record Framed (first code high low : ℕ) (rest : List ℕ) (h : Head) (at : ℕ) : Type 0 where
  pub version : first / 64 ≡ 1
  pub short : first % 16 ≤ 8
  pub whole : first % 16 ≤ length rest
  pub empty : code ≡ 0 → first % 16 + length rest ≡ 0
  pub head : h ≡ record { type = type_of (first / 16 % 4); code = code; id = high * 256 + low; token = take (first % 16) rest }
  pub ends : at ≡ 4 + first % 16

pub framed_read : (size first code high low : ℕ) (rest : List ℕ) (h : Head) (at : ℕ) → framed size first code high low rest ≡ opens h at → Framed first code high low rest h at
framed_read size first code high low rest h at e = record {
  version = grind (arith, nat_tests);
  short = grind (arith, nat_tests);
  whole = grind (arith, nat_tests);
  empty = grind (arith, nat_tests);
  head = grind (arith, nat_tests);
  ends = grind (arith, nat_tests);
}

-- what an opened datagram is
pub record Begun (d : List ℕ) (h : Head) (at : ℕ) : Type 0 where
  pub bytes : d ≡ head_bytes h ++ drop at d
  pub place : at ≡ 4 + length h.token
  pub within : at ≤ length d
  pub id : h.id < 65536
  pub token : length h.token ≤ 8
  pub empty : h.code ≡ 0 → length d ≡ 4

pub no_opens : (why : Rejection) (h : Head) (at : ℕ) → rejected why ≡ opens h at → ⊥
no_opens why h at e = let z : ◌≡◌ {A = ℕ} 0 1 = cc in omega arith

framed_begun : (a b c l : ℕ) (rest : List ℕ) (h : Head) (at : ℕ) → a < 256 → c < 256 → l < 256 → Framed a b c l rest h at → Begun (a ∷ b ∷ c ∷ l ∷ rest) h at
framed_begun a b c l rest h at sa sc sl f =
    let n = a % 16 in
    let token : h.token ≡ take n rest = ap (λ x. x.token) f.head in
    let type : type_bits h.type ≡ a / 16 % 4 = ap (λ x. type_bits x.type) f.head ∙ bits_again (a / 16 % 4) (omega arith) in
    let code : h.code ≡ b = ap (λ x. x.code) f.head in
    let id : h.id ≡ c * 256 + l = ap (λ x. x.id) f.head in
    let long : length h.token ≡ n = ap length token ∙ length-take-le n rest f.whole in
    let v = f.version in
    let top : a ≡ 64 + type_bits h.type * 16 + length h.token = omega (arith, type, long) in
    let high : c ≡ h.id / 256 = sym (ap (λ x. x / 256) id ∙ div-mul-add c 256 l sl) in
    let low : l ≡ h.id % 256 = sym (ap (λ x. x % 256) id ∙ mod-mul-add c 256 l sl) in
    let back : rest ≡ h.token ++ drop n rest = sym (ap (λ t. t ++ drop n rest) token ∙ take-append-drop n rest) in
    let cut : drop at (a ∷ b ∷ c ∷ l ∷ rest) ≡ drop n rest = ap (λ k. drop k (a ∷ b ∷ c ∷ l ∷ rest)) f.ends ∙ sym (drop-drop n 4 (a ∷ b ∷ c ∷ l ∷ rest)) in
    record {
      bytes = (λ i. top i ∷ (sym code i ∷ (high i ∷ (low i ∷ back i)))) ∙ sym (ap (λ t. head_bytes h ++ t) cut);
      place = omega (arith, f.ends, long);
      within = omega (arith, f.ends, f.whole);
      id = omega (arith, id);
      token = omega (arith, long, f.short);
      empty = λ e. omega (arith, f.empty (sym code ∙ e));
    }

begun : (size : ℕ) (d : List ℕ) (h : Head) (at : ℕ) → ((i : ℕ) → get_or d i 0 < 256) → header size d ≡ opens h at → Begun d h at
begun size [] h at small e = absurd (no_opens _ h at e)
begun size (a ∷ []) h at small e = absurd (no_opens _ h at e)
begun size (a ∷ b ∷ []) h at small e = absurd (no_opens _ h at e)
begun size (a ∷ b ∷ c ∷ []) h at small e = absurd (no_opens _ h at e)
begun size (a ∷ b ∷ c ∷ l ∷ rest) h at small e = framed_begun a b c l rest h at (small 0) (small 2) (small 3) (framed_read size a b c l rest h at e)

pub no_message : (why : Rejection) (m : Message) → refused why ≡ message m → ⊥
no_message why m e = let z : ◌≡◌ {A = ℕ} 0 1 = cc in omega arith

pub same_message : (m n : Message) → message m ≡ message n → m ≡ n
same_message m n e = cc

-- a datagram that was read, its message written again, and that the message can be written
pub record Whole (d : List ℕ) (m : Message) : Type 0 where
  pub again : encode m ≡ d
  pub good : WellFormed m

closed_whole : (d : List ℕ) (h : Head) (at : ℕ) → length d ≤ 480 → ((i : ℕ) → get_or d i 0 < 256) → Begun d h at → (w : OptionList) → options_from d at 0 ≡ w → (m : Message) → closing d h w ≡ message m → Whole d m
closed_whole d h at le small b (broken f) is m e = absurd (no_message _ m e)
closed_whole d h at le small b (ended items end) is m e =
    let w = walk_read d small b.within (walked d at 0 (ended items end) is) in
    let n : Message = record { head = h; options = map field_in items; payload = payload_of (drop end d) } in
    let back : encode n ≡ d = sym (b.bytes ∙ ap (λ t. head_bytes h ++ t) (w.bytes ∙ ap (λ t. options_bytes 0 (map field_in items) ++ t) w.tail)) in
    let whole : Whole d n = record {
      again = back;
      good = record { id = b.id; token = b.token; empty = λ c. ap length back ∙ b.empty c; rising = writable_rising 0 (map field_in items) w.writable; fits = subst (λ l. length l ≤ 480) (sym back) le };
    } in
    subst (Whole d) (same_message n m e) whole

opened_whole : (d : List ℕ) → length d ≤ 480 → ((i : ℕ) → get_or d i 0 < 256) → (o : Opening) → header (length d) d ≡ o → (m : Message) → inside d o ≡ message m → Whole d m
opened_whole d le small (rejected why) is m e = absurd (no_message why m e)
opened_whole d le small (opens h at) is m e = closed_whole d h at le small (begun (length d) d h at small is) (options_from d at 0) refl m e

-- what was read is what would be written
pub encode_parse : (d : List ℕ) (m : Message) → ((i : ℕ) → get_or d i 0 < 256) → parse d ≡ message m → Whole d m
encode_parse d m small e = ⊎_elim
    (λ t. absurd (no_message TooLong m (rw t at e)))
    (λ t. opened_whole d (ltb-false 480 (length d) t) small (header (length d) d) refl m (rw t at e))
    (cases_Bool (ltb 480 (length d)))
