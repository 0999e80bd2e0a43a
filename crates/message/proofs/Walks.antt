-- A walk over the options does not depend on its budget, once that is enough.
use Rattle.std.proofs.Common.{◌≡◌, ℕ, zero, suc, ◌+◌, ◌-◌, ◌/◌, ◌%◌, ◌<◌, ◌≤◌, cond, eqb, List, [], ◌∷◌, length, drop, Some, None, Ok, Err, Option, Result, sym, refl, ap, ◌∙◌, subst, ⊎_elim, add-one, arith, length-drop}
use Rattle.std.proofs.lemmas.Bool.{cases_Bool}
use Rattle.message.specs.Options.{ReadOption, Step, fault, closed, item, step, OptionList, broken, ended, more, onward, walk, options_from}
use Rattle.message.specs.declared.fault.OptionFault.{OptionFault}
use Rattle.message.specs.declared.fault.OptionFault.TheVariants.{NoPayload}
use Rattle.message.specs.declared.fault.MessageFault.{MessageFault}
use Rattle.message.specs.declared.fault.MessageFault.TheVariants.{InOption}
use Rattle.message.specs.declared.reader.Reader.{Reader}
use Rattle.message.specs.Reading.{next_answer, step_of, options_of, Moved, payload_after}
use Rattle.message.proofs.Opened.{opened_came, never, never_fault}

-- an option takes a byte at least, and ends within the datagram
pub step_onward : (at before : ℕ) (rest : List ℕ) (o : ReadOption) (after : ℕ) → step at before rest ≡ item o after → (at < after) × (after ≤ at + length rest)
step_onward at before [] o after e = absurd (never o after e)
step_onward at before (first ∷ body) o after e = ⊎_elim
    (λ t. let h : cond (eqb (length body) 0) (fault (NoPayload at)) closed ≡ item o after = rw t at e in ⊎_elim
    (λ u. absurd (never_fault (NoPayload at) o after (rw u at h)))
    (λ u. absurd (never o after (rw u at h)))
    (cases_Bool (eqb (length body) 0)))
    (λ t. let c = opened_came at before (first / 16) (first % 16) body o after (rw t at e) in (omega (arith, c.ends), omega (arith, c.ends, c.sound.whole)))
    (cases_Bool (eqb first 255))

onward_same : (k m at before : ℕ) (d : List ℕ) (s : Step) → step at before (drop at d) ≡ s
    → ((o : ReadOption) (after : ℕ) → s ≡ item o after → walk k d after o.number ≡ walk m d after o.number)
    → onward at (λ o after. walk k d after o.number) s ≡ onward at (λ o after. walk m d after o.number) s
onward_same k m at before d (fault f) is same = refl
onward_same k m at before d closed is same = refl
onward_same k m at before d (item o after) is same = ap (more o) (same o after refl)

pub walk_enough : (k m at before : ℕ) (d : List ℕ) → length d - at < k → length d - at < m → walk k d at before ≡ walk m d at before
walk_enough zero m at before d h l = absurd (omega arith)
walk_enough (suc k) zero at before d h l = absurd (omega arith)
walk_enough (suc k) (suc m) at before d h l =
    onward_same k m at before d (step at before (drop at d)) refl
    (λ o after e. let p = step_onward at before (drop at d) o after e in walk_enough k m after o.number d (omega (arith, p.0, p.1, length-drop at d)) (omega (arith, p.0, p.1, length-drop at d)))

-- what one step does to a walk with the whole budget
pub walk_step : (d : List ℕ) (at before : ℕ) → options_from d at before ≡ onward at (λ o after. walk (length d) d after o.number) (step at before (drop at d))
walk_step d at before = rw add-one

-- a walk as its steps
pub data Walk (d : List ℕ) : ℕ → ℕ → OptionList → Type 0 where
  stop : {at before : ℕ} → step at before (drop at d) ≡ closed → Walk d at before (ended [] at)
  fail : {at before : ℕ} {f : OptionFault} → step at before (drop at d) ≡ fault f → Walk d at before (broken f)
  draw : {at before after end : ℕ} {o : ReadOption} {os : List ReadOption} → step at before (drop at d) ≡ item o after → Walk d after o.number (ended os end) → Walk d at before (ended (o ∷ os) end)
  pass : {at before after : ℕ} {o : ReadOption} {f : OptionFault} → step at before (drop at d) ≡ item o after → Walk d after o.number (broken f) → Walk d at before (broken f)

draws : (d : List ℕ) (at before after : ℕ) (o : ReadOption) (l : OptionList) → step at before (drop at d) ≡ item o after → Walk d after o.number l → Walk d at before (more o l)
draws d at before after o (broken f) e w = pass e w
draws d at before after o (ended os end) e w = draw e w

steps : (k at before : ℕ) (d : List ℕ) → ((at' before' : ℕ) → length d - at' < k → Walk d at' before' (walk k d at' before')) → length d - at < suc k → (s : Step) → step at before (drop at d) ≡ s → Walk d at before (onward at (λ o after. walk k d after o.number) s)
steps k at before d ih h (fault f) e = fail e
steps k at before d ih h closed e = stop e
steps k at before d ih h (item o after) e =
    let p = step_onward at before (drop at d) o after e in
    draws d at before after o (walk k d after o.number) e (ih after o.number (omega (arith, p.0, p.1, length-drop at d)))

walks : (k at before : ℕ) (d : List ℕ) → length d - at < k → Walk d at before (walk k d at before)
walks zero at before d h = absurd (omega arith)
walks (suc k) at before d h = steps k at before d (λ at' before' h'. walks k at' before' d h') h (step at before (drop at d)) refl

pub walked : (d : List ℕ) (at before : ℕ) (l : OptionList) → options_from d at before ≡ l → Walk d at before l
walked d at before l e = subst (Walk d at before) e (walks (length d + 1) at before d (omega arith))

-- what a call of `next` says of the options that are left, by its answer: the reader r became q
pub record Drew (r q : Reader) (o : ReadOption) : Type 0 where
  pub left : options_of r ≡ more o (options_of q)
  pub same : q.datagram ≡ r.datagram
  pub number : q.number ≡ o.number
  pub forward : r.at < q.at
  pub inside : q.at ≤ r.at + (length r.datagram.now - r.at)

pub record Stopped (r q : Reader) : Type 0 where
  pub left : options_of r ≡ ended [] r.at
  pub same : q ≡ r

abbrev pub Turn : Reader → Reader → Result (Option ReadOption) MessageFault → Type 0
Turn r q (Ok (Some o)) = Drew r q o
Turn r q (Ok None) = Stopped r q
Turn r q (Err why) = (f : OptionFault) × (options_of r ≡ broken f) × (why ≡ InOption f)

turn_at : (r q : Reader) (s : Step) → step_of r ≡ s → Moved s r q → Turn r q (next_answer s)
turn_at r q (fault f) e m = (f, walk_step r.datagram.now r.at r.number ∙ ap (onward r.at (λ o after. walk (length r.datagram.now) r.datagram.now after o.number)) e, refl)
turn_at r q closed e m = record { left = walk_step r.datagram.now r.at r.number ∙ ap (onward r.at (λ o after. walk (length r.datagram.now) r.datagram.now after o.number)) e; same = m }
turn_at r q (item o after) e m =
    let d = r.datagram.now in
    let p = step_onward r.at r.number (drop r.at d) o after e in
    let rest : options_of r ≡ more o (options_from d after o.number) =
    walk_step d r.at r.number ∙ ap (onward r.at (λ o after. walk (length d) d after o.number)) e
    ∙ ap (more o) (walk_enough (length d) (length d + 1) after o.number d (omega (arith, p.0, p.1, length-drop r.at d)) (omega arith)) in
    record {
      left = rest ∙ sym (λ i. more o (options_from (m.0 i).now (m.1 i) (m.2 i)));
      same = m.0;
      number = m.2;
      forward = omega (arith, p.0, m.1);
      inside = omega (arith, p.1, length-drop r.at d, m.1);
    }

pub turn : (r q : Reader) (a : Result (Option ReadOption) MessageFault) → a ≡ next_answer (step_of r) → Moved (step_of r) r q → Turn r q a
turn r q a e m = subst (Turn r q) (sym e) (turn_at r q (step_of r) refl m)

pub payload_more : (d : List ℕ) (o : ReadOption) (l : OptionList) → payload_after d l ≡ payload_after d (more o l)
payload_more d o (broken f) = refl
payload_more d o (ended os end) = refl
