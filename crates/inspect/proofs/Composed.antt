-- The line of a message from its parts.
use Rattle.std.proofs.Common.{◌≡◌, ℕ, List, ◌++◌, drop, Ok, Err, codes, Result, refl, ap, ◌∙◌, append_assoc, arith}
use Rattle.message.specs.Header.{Head, Opening, rejected, opens, opening}
use Rattle.message.specs.Options.{OptionList, broken, ended, options_from, payload_of}
use Rattle.message.specs.Message.{closing, inside}
use Rattle.message.specs.Reading.{payload_after}
use Rattle.transcribe.specs.Transcribing.{validity}
use Rattle.text.specs.Lines.{line_feed}
use Rattle.inspect.specs.Fields.{bytes_text, head_text}
use Rattle.inspect.specs.Options.{options_text, text_in}
use Rattle.inspect.specs.Written.{behind}
use Rattle.inspect.specs.Datagram.{filled_text, opened_text, message_text}
use Rattle.inspect.specs.Laws.{verdict, ToldByParse}

same_ok : {E : Type 0} (a b : List ℕ) → ◌≡◌ {A = Result (List ℕ) E} (Ok a) (Ok b) → a ≡ b
same_ok a b e = cc

never_ok : {E : Type 0} (why : E) (a : List ℕ) → ◌≡◌ {A = Result (List ℕ) E} (Err why) (Ok a) → ⊥
never_ok why a e = let z : ◌≡◌ {A = ℕ} 0 1 = cc in omega arith

regroup : (a b c d e f : List ℕ) → a ++ (b ++ c ++ d ++ e ++ f) ≡ (a ++ b) ++ c ++ d ++ e ++ f
regroup a b c d e f = simp append_assoc

filled_line : (d : List ℕ) (h : Head) (l : OptionList) (payload before listed : List ℕ) → payload_after d l ≡ Ok payload → behind (before ++ head_text h) (text_in options_text l) ≡ Ok listed → behind before (filled_text d h l) ≡ Ok (listed ++ codes " " ++ bytes_text payload ++ line_feed)
filled_line d h (broken f) payload before listed p e = absurd (never_ok _ payload p)
filled_line d h (ended options end) payload before listed p e =
    let shown : (before ++ head_text h) ++ options_text options ≡ listed = same_ok _ listed e in
    let behind_them : payload_of (drop end d) ≡ payload = same_ok _ payload p in
    ap (λ (l : List ℕ). Ok l)
    (regroup before (head_text h) (options_text options) (codes " ") (bytes_text (payload_of (drop end d))) line_feed ∙ (λ i. shown i ++ codes " " ++ bytes_text (behind_them i) ++ line_feed))

pub message_line : (d : List ℕ) (h : Head) (at : ℕ) (l : OptionList) (payload before listed : List ℕ) → opening d ≡ opens h at → options_from d at 0 ≡ l → payload_after d l ≡ Ok payload → behind (before ++ head_text h) (text_in options_text l) ≡ Ok listed → behind before (message_text d) ≡ Ok (listed ++ codes " " ++ bytes_text payload ++ line_feed)
message_line d h at l payload before listed o is p e = ap (λ x. behind before (opened_text d x)) o ∙ ap (λ x. behind before (filled_text d h x)) is ∙ filled_line d h l payload before listed p e

filled_parsed : (d : List ℕ) (h : Head) (l : OptionList) → verdict (filled_text d h l) ≡ validity (closing d h l)
filled_parsed d h (broken f) = refl
filled_parsed d h (ended options end) = refl

opened_parsed : (d : List ℕ) (o : Opening) → verdict (opened_text d o) ≡ validity (inside d o)
opened_parsed d (rejected why) = refl
opened_parsed d (opens h at) = filled_parsed d h (options_from d at 0)

pub told_by_parse : ToldByParse
told_by_parse d = opened_parsed d (opening d)
