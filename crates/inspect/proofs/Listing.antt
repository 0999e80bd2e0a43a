-- The text of options that a reader gives one by one.
use Rattle.std.proofs.Common.{◌≡◌, ℕ, List, [], ◌∷◌, ◌++◌, Some, None, Ok, Err, Option, Result, sym, refl, ap, ◌∙◌, append_assoc}
use Rattle.message.specs.declared.fault.Rejection.{Rejection}
use Rattle.message.specs.declared.option.MessageOption.{MessageOption}
use Rattle.message.specs.declared.reader.Reader.{Reader}
use Rattle.message.specs.Options.{ReadOption, OptionList, broken, ended, more}
use Rattle.message.specs.Reading.{read_option, read_answer, next_answer, step_of, options_of, Moved}
use Rattle.message.proofs.Walks.{turn, Drew, Stopped}
use Rattle.inspect.specs.declared.error.LineError.{LineError}
use Rattle.inspect.specs.declared.error.LineError.TheVariants.{NoMemory, Rejected}
use Rattle.inspect.specs.Options.{further_text, text_in}
use Rattle.inspect.specs.Written.{behind, Written}

-- An option whose text is t, and the options that come after it.
text_more : (shown : List ReadOption → List ℕ) (before t : List ℕ) (o : ReadOption) (l : OptionList) → ((os : List ReadOption) → shown (o ∷ os) ≡ t ++ further_text os) → behind (before ++ t) (text_in further_text l) ≡ behind before (text_in shown (more o l))
text_more shown before t o (broken f) is = refl
text_more shown before t o (ended os end) is = ap (λ (l : List ℕ). Ok l) (append_assoc before t (further_text os) ∙ ap (λ l. before ++ l) (sym (is os)))

-- What a call of `next` says of the text of the options that are left: the reader r became q.
module _ (shown : List ReadOption → List ℕ) (r q : Reader) (moved : Moved (step_of r) r q) where
  module _ {found : Option MessageOption} (answer : read_answer (Ok found) ≡ next_answer (step_of r)) where
    pub drawn : (o : MessageOption) → found ≡ Some o → Drew r q (read_option o)
    drawn o is = turn r q (read_answer (Ok (Some o))) (ap (λ a. read_answer (Ok a)) (sym is) ∙ answer) moved

    pub text_drawn : (o : MessageOption) → found ≡ Some o → (t before after : List ℕ) → ((os : List ReadOption) → shown (read_option o ∷ os) ≡ t ++ further_text os) → after ≡ before ++ t → behind after (text_in further_text (options_of q)) ≡ behind before (text_in shown (options_of r))
    text_drawn o is t before after first pushed =
        ap (λ l. behind l (text_in further_text (options_of q))) pushed
        ∙ text_more shown before t (read_option o) (options_of q) first
        ∙ ap (λ l. behind before (text_in shown l)) (sym (drawn o is).left)

    pub text_ended : found ≡ None → (before after : List ℕ) → after ≡ before ++ shown [] → behind before (text_in shown (options_of r)) ≡ Ok after
    text_ended is before after pushed =
        let s : Stopped r q = turn r q (read_answer (Ok None)) (ap (λ a. read_answer (Ok a)) (sym is) ∙ answer) moved in
        ap (λ l. behind before (text_in shown l)) s.left ∙ ap (λ (l : List ℕ). Ok l) (sym pushed)

pub behind_refused : (before : List ℕ) (text : Result (List ℕ) Rejection) (why : Rejection) → behind before text ≡ Err why → text ≡ Err why
behind_refused before (Ok text) why e = cc
behind_refused before (Err w) why e = e

-- A text of which a part is written already.
pub written_from : (part text : Result (List ℕ) Rejection) (later before after : List ℕ) (r : Result (Unit {0}) LineError) → behind later part ≡ behind before text → Written part later after r → Written text before after r
written_from part text later before after (Ok done) e w = sym e ∙ w
written_from part text later before after (Err (Rejected why)) e w = behind_refused before text why (sym e ∙ ap (behind later) w)
written_from part text later before after (Err NoMemory) e w = tt
