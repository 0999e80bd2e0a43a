-- What is read of a message can be written again, and gives the same bytes.
use Rattle.std.proofs.Common.{◌≡◌, ℕ, ◌+◌, ◌-◌, ◌<◌, ◌≤◌, false, eqb, ◌⊎◌, List, [], ◌∷◌, ◌++◌, map, length, get_or, drop, Some, Ok, Err, Result, sym, refl, ap, ◌∙◌, subst, inl, inr, ⊎_elim, append_assoc, zero-add, arith, length-append, w8, Fits, Bor}
use Rattle.std.proofs.lemmas.Bool.{cases_eq, ne_eqb}
use Rattle.message.specs.declared.fault.MessageFault.{MessageFault}
use Rattle.message.specs.declared.reader.Reader.{Reader}
use Rattle.message.specs.declared.option.OptionField.{OptionField}
use Rattle.message.specs.declared.option.MessageOption.{MessageOption}
use Rattle.message.specs.declared.option.MessageOption.TheVariants.{Host, Port, Path, Proxy, Ignored, Unknown}
use Rattle.message.specs.declared.writer.WriteError.{WriteError}
use Rattle.message.specs.Header.{Head, opens, opening}
use Rattle.message.specs.Options.{ReadOption, OptionList, broken, ended, more, options_from, payload_of}
use Rattle.message.specs.Encoding.{Field, Message, option_bytes, options_bytes, payload_bytes, head_bytes, encode}
use Rattle.message.specs.Message.{message, field_in, closing, inside, Rising, WellFormed}
use Rattle.message.specs.Reading.{payload_after, field_of, read_option, read_answer, next_answer, step_of, options_of, Moved}
use Rattle.message.specs.Writing.{State, IsFresh, laid, beginning, following, headed, start_answer, option_answer, payload_answer, settled, started, option_added, payload_added}
use Rattle.transcribe.specs.Transcribing.{IsMessage, Accepted, options_added, Copyable, Copied}
use Rattle.transcribe.specs.Theorems.{Bytes}
use Rattle.transcribe.proofs.Round.{same_message, encode_parse}
use Rattle.message.proofs.Walks.{turn, Drew}
use Rattle.message.proofs.Laid.{added_added, added_none, laid_laid, length_laid, start_accepted, option_accepted, payload_accepted}

-- number and value in a field that the reader gave
abbrev pub field_as : OptionField → Field
field_as f = record { number = f.number; value = f.value.now }

field_is : (o : MessageOption) → field_in (read_option o) ≡ field_as (field_of o)
field_is (Host f) = refl
field_is (Port f) = refl
field_is (Path f) = refl
field_is (Proxy f) = refl
field_is (Ignored f) = refl
field_is (Unknown f) = refl

-- an option that the reader r drew, and became q, is one that the writer w accepts
pub record CopyTurn (r q : Reader) (w : State) (o : Field) : Type 0 where
  pub same : q.datagram ≡ r.datagram
  pub forward : r.at < q.at
  pub inside : q.at ≤ r.at + (length r.datagram.now - r.at)
  pub accepted : option_answer w o ≡ Ok tt
  pub copyable : Copyable (options_of q) (option_added w o)
  pub onward : (left : OptionList) (v : State) → Copied (options_of q) (option_added w o) left v → Copied (options_of r) w left v

front : (o : ReadOption) (rest : OptionList) (w : State) → Copyable (more o rest) w → (option_answer w (field_in o) ≡ Ok tt) × Copyable rest (option_added w (field_in o)) × ((left : OptionList) (v : State) → Copied rest (option_added w (field_in o)) left v → Copied (more o rest) w left v)
front o (broken f) w c = absurd c
front o (ended os end) w c = (c.0, c.1, λ left v d. d)

pub copy_turn : (r q : Reader) (w : State) (o : MessageOption) (f : OptionField) → read_answer (Ok (Some o)) ≡ next_answer (step_of r) → Moved (step_of r) r q → Copyable (options_of r) w → f ≡ field_of o → CopyTurn r q w (field_as f)
copy_turn r q w o f e m c g =
    let d : Drew r q (read_option o) = turn r q (read_answer (Ok (Some o))) e m in
    let p = front (read_option o) (options_of q) w (subst (λ l. Copyable l w) d.left c) in
    let is : field_in (read_option o) ≡ field_as f = field_is o ∙ sym (ap field_as g) in
    subst (CopyTurn r q w) is (record {
      same = d.same;
      forward = d.forward;
      inside = d.inside;
      accepted = p.0;
      copyable = p.1;
      onward = λ left v x. subst (λ l. Copied l w left v) (sym d.left) (p.2 left v x);
    })

-- a refusal where the writer is known to accept
pub never_refused : (r a : Result (Unit {0}) WriteError) (why : WriteError) → r ≡ a → a ≡ Ok tt → r ≡ Err why → ⊥
never_refused r a why e f g = let z : ◌≡◌ {A = ℕ} 0 1 = cc in omega arith

-- what the writer is once it has accepted an option
pub settled_ok : (r a : Result (Unit {0}) WriteError) (new old u : State) → r ≡ a → a ≡ Ok tt → u ≡ settled r new old → u ≡ new
settled_ok r a new old u e f g = g ∙ ap (λ x. settled x new old) (e ∙ f)

-- options that rise and have room are accepted, and stand in the buffer one after the other
pub record Written (w v : State) (os : List Field) : Type 0 where
  pub buffer : v.buffer ≡ laid w.buffer w.len (options_bytes w.number os)
  pub len : v.len ≡ w.len + length (options_bytes w.number os)
  pub stage : v.stage ≡ w.stage

pub write_options : (w : State) (os : List Field) (room : ℕ) → Ok tt ≡ following w.stage → Rising w.number os → room ≤ length w.buffer → room ≤ 480 → w.len + length (options_bytes w.number os) ≤ room → Accepted w os × Written w (options_added w os) os
write_options w [] room f r b l h =
    let none = added_none w [] refl in
    (tt, record { buffer = ap (λ v. v.buffer) none; len = ap (λ v. v.len) none; stage = refl })
write_options w (o ∷ os) room f r b l h =
    let own = option_bytes w.number o in
    let rest = options_bytes o.number os in
    let all = length-append own rest in
    let w' = option_added w o in
    let long : length w'.buffer ≡ length w.buffer = length_laid w.len w.buffer own (omega (arith, all)) in
    let ih = write_options w' os room f r.2 (omega (arith, long)) l (omega (arith, all)) in
    let join = added_added w own rest (omega (arith, all)) in (
      (sym (option_accepted w o f r.0 (omega (arith, all)) (omega (arith, all))), ih.0),
      record { buffer = ih.1.buffer ∙ ap (λ v. v.buffer) join; len = ih.1.len ∙ ap (λ v. v.len) join; stage = ih.1.stage },
    )

-- options that are written leave the lender of the buffer as it is
pub same_lender : (w : State) (os : List Field) → (options_added w os).lender ≡ w.lender
same_lender w [] = refl
same_lender w (o ∷ os) = same_lender (option_added w o) os

-- an Empty message has nothing more, and to any other message options and a payload may be added
no_options : (before : ℕ) (os : List Field) → length (options_bytes before os) ≡ 0 → os ≡ []
no_options before [] e = refl
no_options before (o ∷ os) e = absurd (omega (arith, e, length-append (option_bytes before o) (options_bytes o.number os)))

no_payload : (p : List ℕ) → length (payload_bytes p) ≡ 0 → p ≡ []
no_payload [] e = refl
no_payload (b ∷ bs) e = absurd (omega (arith, e))

pub size_of : (m : Message) → length (encode m) ≡ 4 + length m.head.token + length (options_bytes 0 m.options) + length (payload_bytes m.payload)
size_of m = simp length-append (omega arith)

pub open_stage : (m : Message) → WellFormed m → ((m.options ≡ []) × (m.payload ≡ [])) ⊎ (Ok tt ≡ following (headed m.head.code))
open_stage m g = ⊎_elim
    (λ z. let four = g.empty z in inl (no_options 0 m.options (omega (arith, four, size_of m)), no_payload m.payload (omega (arith, four, size_of m))))
    (λ nz. let t : eqb m.head.code 0 ≡ false = ne_eqb m.head.code 0 nz in inr (rw t))
    (cases_eq m.head.code 0)

-- a message that fits a fresh writer is accepted field by field, and stands at the front of the buffer
pub record Writes (w : State) (m : Message) : Type 0 where
  pub start : start_answer w m.head ≡ Ok tt
  pub options : Accepted (started w m.head) m.options
  pub payload : payload_answer (options_added (started w m.head) m.options) m.payload ≡ Ok tt
  pub lender : (options_added (started w m.head) m.options).lender ≡ w.lender
  pub buffer : (payload_added (options_added (started w m.head) m.options) m.payload).buffer ≡ laid w.buffer 0 (encode m)
  pub len : (payload_added (options_added (started w m.head) m.options) m.payload).len ≡ length (encode m)

none_accepted : (w : State) (os : List Field) → os ≡ [] → Accepted w os × Written w (options_added w os) os
none_accepted w os e = subst (λ os. Accepted w os × Written w (options_added w os) os) (sym e) (let none = added_none w [] refl in (tt, record { buffer = ap (λ v. v.buffer) none; len = ap (λ v. v.len) none; stage = refl }))

pub writes : (w : State) (m : Message) → IsFresh w → WellFormed m → length (encode m) ≤ length w.buffer → Writes w m
writes w m new g room =
    let h = m.head in
    let H = head_bytes h in
    let O = options_bytes 0 m.options in
    let P = payload_bytes m.payload in
    let v = started w h in
    let u = options_added v m.options in
    let size = size_of m in
    let fits = g.fits in
    let long : length v.buffer ≡ length w.buffer = length_laid 0 w.buffer H (omega (arith, size)) in
    let os : Accepted v m.options × Written v u m.options = ⊎_elim
    (λ none. none_accepted v m.options none.0)
    (λ f. write_options v m.options (length (encode m)) f g.rising (omega (arith, long)) fits (omega (arith, size)))
    (open_stage m g) in
    let joined : u.buffer ≡ laid w.buffer 0 (H ++ O) = os.1.buffer ∙ laid_laid 0 (length H) w.buffer H O (omega arith) (sym (zero-add (length H))) in
    let at : u.len ≡ length (H ++ O) = os.1.len ∙ sym (length-append H O) in
    let wide : length u.buffer ≡ length w.buffer = ap length joined ∙ length_laid 0 w.buffer (H ++ O) (omega (arith, size, length-append H O)) in
    record {
      start = sym (start_accepted w h g.token (λ z. omega (arith, g.empty z, size)) (sym (ap (λ v. beginning v.stage) new)) (omega (arith, size)));
      options = os.0;
      payload = ⊎_elim
          (λ none. ap (payload_answer u) none.1)
          (λ f. sym (payload_accepted u m.payload (f ∙ sym (ap following os.1.stage)) (omega (arith, size, at, wide, length-append H O)) (omega (arith, size, at, length-append H O))))
          (open_stage m g);
      lender = same_lender v m.options;
      buffer = (λ i. laid (joined i) (at i) P) ∙ laid_laid 0 (length (H ++ O)) w.buffer (H ++ O) P (omega arith) (sym (zero-add (length (H ++ O)))) ∙ ap (laid w.buffer 0) (append_assoc H O P);
      len = ap (λ n. n + length P) at ∙ omega (arith, size, length-append H O);
    }

-- behind the options stands the payload, which the writer accepts, and then it holds the datagram
pub record Rest (d : List ℕ) (w : State) (left : OptionList) (v : State) : Type 0 where
  pub bytes : List ℕ
  pub payload : payload_after d left ≡ Ok bytes
  pub accepted : payload_answer v bytes ≡ Ok tt
  pub lender : v.lender ≡ w.lender
  pub buffer : (payload_added v bytes).buffer ≡ laid w.buffer 0 d
  pub len : (payload_added v bytes).len ≡ length d

-- what a datagram that is a message gives to a fresh writer with room for it
pub record Fields (d : List ℕ) (w : State) (h : Head) (l : OptionList) : Type 0 where
  pub start : start_answer w h ≡ Ok tt
  pub copyable : Copyable l (started w h)
  pub rest : (left : OptionList) (v : State) → Copied l (started w h) left v → Rest d w left v

fields_at : (d : List ℕ) (w : State) (h : Head) (l : OptionList) (m : Message) → IsFresh w → length d ≤ length w.buffer → encode m ≡ d → WellFormed m → closing d h l ≡ message m → Fields d w h l
fields_at d w h (broken f) m new room again g e = let z : ◌≡◌ {A = ℕ} 0 1 = cc in absurd (omega arith)
fields_at d w h (ended os end) m new room again g e =
    let n : Message = record { head = h; options = map field_in os; payload = payload_of (drop end d) } in
    let same : n ≡ m = same_message n m e in
    let back : encode n ≡ d = ap encode same ∙ again in
    let k : Writes w n = writes w n new (subst WellFormed (sym same) g) (omega (arith, room, ap length back)) in
    record {
      start = k.start;
      copyable = k.options;
      rest = λ left v c. record {
        bytes = n.payload;
        payload = ap (payload_after d) c.0;
        accepted = ap (λ u. payload_answer u n.payload) c.1 ∙ k.payload;
        lender = ap (λ u. u.lender) c.1 ∙ k.lender;
        buffer = ap (λ u. (payload_added u n.payload).buffer) c.1 ∙ k.buffer ∙ ap (laid w.buffer 0) back;
        len = ap (λ u. (payload_added u n.payload).len) c.1 ∙ k.len ∙ ap length back;
      };
    }

pub fields : (d : List ℕ) (w : State) (h : Head) (at : ℕ) → Bytes d → IsMessage d → IsFresh w → length d ≤ length w.buffer → opening d ≡ opens h at → Fields d w h (options_from d at 0)
fields d w h at small is new room o =
    let whole = encode_parse d is.0 small is.1 in
    fields_at d w h (options_from d at 0) is.0 new room whole.again whole.good (sym (ap (inside d) o) ∙ is.1)

-- the same of a reader that was opened on the datagram
pub fields_of : (d : Bor (List ℕ)) (w : State) (h : Head) (r : Reader) → ((i : ℕ) → Fits w8 (get_or d.now i 0)) → IsMessage d.now → IsFresh w → length d.now ≤ length w.buffer → (opening d.now ≡ opens h r.at) × (r.datagram ≡ d) × (r.number ≡ 0) → Fields d.now w h (options_of r)
fields_of d w h r small is new room o =
    let same : options_from d.now r.at 0 ≡ options_of r = sym (λ i. options_from (o.1 i).now r.at (o.2 i)) in
    subst (Fields d.now w h) same (fields d.now w h r.at (λ i. (small i).fits) is new room o.0)

same_ok : (x y : List ℕ) → ◌≡◌ {A = Result (List ℕ) MessageFault} (Ok x) (Ok y) → x ≡ y
same_ok x y e = cc

-- behind copied options: the payload that was read is accepted
pub record Finish (d : List ℕ) (w v : State) (p : List ℕ) : Type 0 where
  pub accepted : payload_answer v p ≡ Ok tt
  pub lender : v.lender ≡ w.lender
  pub buffer : (payload_added v p).buffer ≡ laid w.buffer 0 d
  pub len : (payload_added v p).len ≡ length d

pub finish : (d e : List ℕ) (w s v : State) (h : Head) (l left : OptionList) (p : List ℕ) → Fields d w h l → s ≡ started w h → Copied l s left v → e ≡ d → payload_after e left ≡ Ok p → Finish d w v p
finish d e w s v h l left p f started copied same read =
    let r = f.rest left v (subst (λ s. Copied l s left v) started copied) in
    let is : r.bytes ≡ p = same_ok r.bytes p (sym r.payload ∙ ap (λ x. payload_after x left) (sym same) ∙ read) in
    subst (Finish d w v) is (record { accepted = r.accepted; lender = r.lender; buffer = r.buffer; len = r.len })
