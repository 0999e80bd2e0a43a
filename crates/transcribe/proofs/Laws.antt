-- What the definitions of options mean.
use Rattle.std.proofs.Common.{◌≡◌, ℕ, suc, ◌+◌, ◌-◌, ◌/◌, ◌%◌, ◌≤◌, true, false, cond, eqb, ltb, List, [], ◌∷◌, length, take, drop, sym, refl, ap, ◌∙◌, ⊎_elim, arith, length-drop, length-take-le}
use Rattle.std.proofs.lemmas.List.{drop-drop}
use Rattle.std.proofs.lemmas.Bool.{cases_Bool, cases_eq, eq-eqb, ne_eqb}
use Rattle.std.proofs.lemmas.Bool.Decides.{nat_tests}
use Rattle.message.specs.declared.fault.OptionFault.{OptionFault}
use Rattle.message.specs.declared.fault.OptionFault.TheVariants.{Truncated, NoPayload}
use Rattle.message.specs.declared.fault.MessageFault.{MessageFault}
use Rattle.message.specs.declared.fault.MessageFault.TheVariants.{TokenTruncated, InOption}
use Rattle.message.specs.declared.fault.Rejection.{Rejection}
use Rattle.message.specs.declared.fault.Rejection.TheVariants.{TooLong, Fault}
use Rattle.message.specs.Header.{Head, Opening, rejected, opens, header, opening}
use Rattle.message.specs.Options.{ReadOption, kind_by, kind_of, extended, extension_size, fault, closed, item, opened, step, OptionList, broken, ended, options_from}
use Rattle.message.specs.Encoding.{encode}
use Rattle.message.specs.Message.{refused, closing, inside, parse}
use Rattle.transcribe.specs.Theorems.{RoundTrip, used, KindsAfter, InPlace, OptionLaws}
use Rattle.message.proofs.Opened.{opened_came, never, never_fault}
use Rattle.message.proofs.Walks.{step_onward, walk_enough, Walk, stop, fail, draw, pass, walked}
use Rattle.transcribe.proofs.Round.{parse_encode, encode_parse, same_message, no_opens, framed_read}

-- what one step gives
record Shape (at before : ℕ) (rest : List ℕ) (o : ReadOption) (after : ℕ) : Type 0 where
  pub kind : o.kind ≡ kind_of before o.number (length o.value)
  pub up : before ≤ o.number
  pub start : at ≤ o.place
  pub value : o.value ≡ take (length o.value) (drop (o.place - at) rest)
  pub ends : o.place + length o.value ≤ at + length rest

opened_shape : (at before first : ℕ) (body : List ℕ) (o : ReadOption) (after : ℕ) → opened at before (first / 16) (first % 16) body ≡ item o after → Shape at before (first ∷ body) o after
opened_shape at before first body o after e =
    let delta = first / 16 in
    let len = first % 16 in
    let c = opened_came at before delta len body o after e in
    let head = extension_size delta + extension_size len in
    let size = extended len (drop (extension_size delta) body) in
    let value : o.value ≡ take size (drop head body) = ap (λ x. x.value) c.shown in
    let place : o.place ≡ at + 1 + head = ap (λ x. x.place) c.shown in
    let whole = c.sound.whole in
    let long : length o.value ≡ size = ap length value ∙ length-take-le size (drop head body) (simp length-drop (omega arith)) in
    let gap : o.place - at ≡ suc head = omega (arith, place) in
    record {
      kind = ap (λ x. x.kind) c.shown ∙ ap (kind_of before o.number) (sym long);
      up = omega (arith, c.sound.number_is);
      start = omega (arith, place);
      value = value ∙ sym (λ i. take (long i) (drop (gap i) (first ∷ body)));
      ends = omega (arith, place, long, whole);
    }

shape : (at before : ℕ) (rest : List ℕ) (o : ReadOption) (after : ℕ) → step at before rest ≡ item o after → Shape at before rest o after
shape at before [] o after e = absurd (never o after e)
shape at before (first ∷ body) o after e = ⊎_elim
    (λ t. let h : cond (eqb (length body) 0) (fault (NoPayload at)) closed ≡ item o after = rw t at e in ⊎_elim
    (λ u. absurd (never_fault (NoPayload at) o after (rw u at h)))
    (λ u. absurd (never o after (rw u at h)))
    (cases_Bool (eqb (length body) 0)))
    (λ t. opened_shape at before first body o after (rw t at e))
    (cases_Bool (eqb first 255))

-- after numbers that rose to `before`, a number was used just if it is that one
abbrev Settles : ℕ → List ℕ → Type 0
Settles before came = (n : ℕ) → before ≤ n → (n ≡ 0 → ⊥) → used n came ≡ eqb n before

settles_more : (before number : ℕ) (came : List ℕ) → before ≤ number → Settles before came → Settles number (number ∷ came)
settles_more before number came up s n le nz = ⊎_elim
    (λ same. let t : eqb n number ≡ true = eq-eqb n number same in rw t)
    (λ other.
    let t : eqb n number ≡ false = ne_eqb n number other in
    rw t (s n (omega arith) nz ∙ ne_eqb n before (λ e. omega arith)))
    (cases_eq n number)

kind_after : (before number len : ℕ) (came : List ℕ) → before ≤ number → Settles before came → kind_of before number len ≡ kind_by (used number came) number len
kind_after before number len came up s = ⊎_elim
    (λ z. rw z)
    (λ nz. ap (λ again. kind_by again number len) (sym (s number up nz)))
    (cases_eq number 0)

kinds : (d : List ℕ) {at before end : ℕ} {os : List ReadOption} (came : List ℕ) → Settles before came → Walk d at before (ended os end) → KindsAfter came os
kinds d came s (stop e) = tt
kinds d {at} {before} came s (draw {after = after} {o = o} e w) =
    let p = shape at before (drop at d) o after e in
    (p.kind ∙ kind_after before o.number (length o.value) came p.up s, kinds d (o.number ∷ came) (settles_more before o.number came p.up s) w)

placed : (d : List ℕ) {at before end : ℕ} {os : List ReadOption} → Walk d at before (ended os end) → InPlace d os
placed d (stop e) = tt
placed d {at} {before} (draw {after = after} {o = o} e w) =
    let p = shape at before (drop at d) o after e in
    let join : drop (o.place - at) (drop at d) ≡ drop o.place d = drop-drop (o.place - at) at d ∙ ap (λ k. drop k d) (let z : at + (o.place - at) ≡ o.place = omega (arith, p.start) in z) in
    let go = step_onward at before (drop at d) o after e in
    (p.value ∙ ap (take (length o.value)) join, omega (arith, p.ends, go.0, go.1, length-drop at d), placed d w)

-- where the end comes too soon, the place is the end
opened_cut : (at before delta len place : ℕ) (body : List ℕ) → opened at before delta len body ≡ fault (Truncated place) → place ≡ at + 1 + length body
opened_cut at before delta len place body e = grind (arith, nat_tests)

step_cut : (at before place : ℕ) (rest : List ℕ) → step at before rest ≡ fault (Truncated place) → place ≡ at + length rest
step_cut at before place [] e = let z : ◌≡◌ {A = ℕ} 0 1 = cc in absurd (omega arith)
step_cut at before place (first ∷ body) e = ⊎_elim
    (λ t. let h : cond (eqb (length body) 0) (fault (NoPayload at)) closed ≡ fault (Truncated place) = rw t at e in let z : ◌≡◌ {A = ℕ} 0 1 = grind (arith, nat_tests) in absurd (omega arith))
    (λ t. omega (arith, opened_cut at before (first / 16) (first % 16) place body (rw t at e)))
    (cases_Bool (eqb first 255))

cut : (d : List ℕ) {at before place : ℕ} → at ≤ length d → Walk d at before (broken (Truncated place)) → place ≡ length d
cut d {at} {before} {place} le (fail e) = omega (arith, step_cut at before place (drop at d) e, length-drop at d)
cut d {at} {before} le (pass {after = after} {o = o} e w) = let p = step_onward at before (drop at d) o after e in cut d (omega (arith, p.1, length-drop at d)) w

-- a rejection of the whole comes from the header or from an option
in_closing : (d : List ℕ) (h : Head) (l : OptionList) (why : Rejection) → closing d h l ≡ refused why → (f : OptionFault) × (l ≡ broken f) × (why ≡ Fault (InOption f))
in_closing d h (broken f) why e = (f, refl, cc)
in_closing d h (ended os end) why e = let z : ◌≡◌ {A = ℕ} 0 1 = cc in absurd (omega arith)

header_token : (size place : ℕ) (d : List ℕ) → header size d ≡ rejected (Fault (TokenTruncated place)) → place ≡ size
header_token size place [] e = let z : ◌≡◌ {A = ℕ} 0 1 = cc in absurd (omega arith)
header_token size place (a ∷ []) e = let z : ◌≡◌ {A = ℕ} 0 1 = cc in absurd (omega arith)
header_token size place (a ∷ b ∷ []) e = let z : ◌≡◌ {A = ℕ} 0 1 = cc in absurd (omega arith)
header_token size place (a ∷ b ∷ c ∷ []) e = let z : ◌≡◌ {A = ℕ} 0 1 = cc in absurd (omega arith)
header_token size place (a ∷ b ∷ c ∷ l ∷ rest) e = grind (arith, nat_tests)

header_option : (size : ℕ) (f : OptionFault) (d : List ℕ) → header size d ≡ rejected (Fault (InOption f)) → ⊥
header_option size f [] e = let z : ◌≡◌ {A = ℕ} 0 1 = cc in omega arith
header_option size f (a ∷ []) e = let z : ◌≡◌ {A = ℕ} 0 1 = cc in omega arith
header_option size f (a ∷ b ∷ []) e = let z : ◌≡◌ {A = ℕ} 0 1 = cc in omega arith
header_option size f (a ∷ b ∷ c ∷ []) e = let z : ◌≡◌ {A = ℕ} 0 1 = cc in omega arith
header_option size f (a ∷ b ∷ c ∷ l ∷ rest) e = let z : ◌≡◌ {A = ℕ} 0 1 = grind (arith, nat_tests) in omega arith

header_within : (size : ℕ) (d : List ℕ) (h : Head) (at : ℕ) → header size d ≡ opens h at → at ≤ length d
header_within size [] h at e = absurd (no_opens _ h at e)
header_within size (a ∷ []) h at e = absurd (no_opens _ h at e)
header_within size (a ∷ b ∷ []) h at e = absurd (no_opens _ h at e)
header_within size (a ∷ b ∷ c ∷ []) h at e = absurd (no_opens _ h at e)
header_within size (a ∷ b ∷ c ∷ l ∷ rest) h at e = let f = framed_read size a b c l rest h at e in omega (arith, f.ends, f.whole)

-- an opening that is not for the length comes from the header
opening_header : (d : List ℕ) (o : Opening) → opening d ≡ o → (rejected TooLong ≡ o → ⊥) → header (length d) d ≡ o
opening_header d o e ne = ⊎_elim
    (λ t. absurd (ne (rw t at e)))
    (λ t. rw t at e)
    (cases_Bool (ltb 480 (length d)))

not_long : (f : MessageFault) → rejected TooLong ≡ rejected (Fault f) → ⊥
not_long f e = let z : ◌≡◌ {A = ℕ} 0 1 = cc in omega arith

same_why : (why : Rejection) (f : MessageFault) → refused why ≡ refused (Fault f) → rejected why ≡ rejected (Fault f)
same_why why f e = cc

token_place : (d : List ℕ) (place : ℕ) (o : Opening) → opening d ≡ o → inside d o ≡ refused (Fault (TokenTruncated place)) → place ≡ length d
token_place d place (rejected why) is e = header_token (length d) place d (opening_header d _ (is ∙ same_why why (TokenTruncated place) e) (not_long (TokenTruncated place)))
token_place d place (opens h at) is e = let c = in_closing d h (options_from d at 0) _ e in let z : ◌≡◌ {A = ℕ} 0 1 = cc c.2 in absurd (omega arith)

option_place_is : (d : List ℕ) (place : ℕ) (o : Opening) → opening d ≡ o → inside d o ≡ refused (Fault (InOption (Truncated place))) → place ≡ length d
option_place_is d place (rejected why) is e = absurd (header_option (length d) (Truncated place) d (opening_header d _ (is ∙ same_why why (InOption (Truncated place)) e) (not_long (InOption (Truncated place)))))
option_place_is d place (opens h at) is e =
    let c = in_closing d h (options_from d at 0) _ e in
    let f : c.0 ≡ Truncated place = cc c.2 in
    let within = header_within (length d) d h at (opening_header d _ is (no_opens TooLong h at)) in
    cut d within (walked d at 0 (broken (Truncated place)) (c.1 ∙ ap broken f))

pub option_laws : OptionLaws
option_laws = record {
  whole_walk = λ d at before budget h. walk_enough budget (length d + 1) at before d (omega arith) (omega arith);
  second_use = λ d at options end e. kinds d [] (λ n le nz. sym (ne_eqb n 0 nz)) (walked d at 0 (ended options end) e);
  in_place = λ d at options end e. placed d (walked d at 0 (ended options end) e);
  token_cut = λ d place e. token_place d place (opening d) refl e;
  option_cut = λ d place e. option_place_is d place (opening d) refl e;
}

pub round_trip : RoundTrip
round_trip = record {
  read_again = parse_encode;
  written_again = λ d m small e. let w = encode_parse d m small e in (w.again, w.good);
  same_fields = λ d e m n small small' p q. (λ same. same_message m n (sym p ∙ ap parse same ∙ q), λ same. sym (encode_parse d m small p).again ∙ ap (encode) same ∙ (encode_parse e n small' q).again);
}
