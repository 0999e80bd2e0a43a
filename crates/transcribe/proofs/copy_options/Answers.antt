use Rattle.std.proofs.Common.{Ok, sym, ap, ◌∙◌, subst}
use Rattle.message.specs.Reading.{options_of, read_answer}
use Rattle.message.specs.Writing.{state_of, option_added}
use Rattle.transcribe.specs.Transcribing.{Copyable, Copied}
use Rattle.message.proofs.Walks.{turn}
use Rattle.transcribe.proofs.Copying.{field_as, CopyTurn, copy_turn, never_refused, settled_ok}
use Rattle.transcribe.proofs.copy_options.Goals as goal

-- a turn of the loop
copied : (c : goal.In_ok-option-2) → CopyTurn c.loop-option.reader c.next.new.self (state_of c.loop-option.writer) (field_as c.field-field.result)
copied c = copy_turn _ _ _ c.in-Some.option _ (ap (λ o. read_answer (Ok o)) (sym c.in-Some.is) ∙ c.in_ok-option.ensures.answer) c.next.ensures.after c.loop-option.invariant.1 c.field-field.ensures

pub returns-in_err-option : goal.returns-in_err-option
returns-in_err-option c =
    let f = turn c.loop-option.reader c.next.new.self _ c.in_err-option.ensures.answer c.next.ensures.after in
    absurd (subst (λ l. Copyable l (state_of c.loop-option.writer)) f.1 c.loop-option.invariant.1)

pub returns-in_err-option-2 : goal.returns-in_err-option-2
returns-in_err-option-2 c =
    let t = copy_turn c.loop-option.reader c.next.new.self (state_of c.loop-option.writer) c.in-Some.option c.field-field.result (ap (λ o. read_answer (Ok o)) (sym c.in-Some.is) ∙ c.in_ok-option.ensures.answer) c.next.ensures.after c.loop-option.invariant.1 c.field-field.ensures in
    absurd (never_refused c.option.result _ _ c.option.ensures.answer t.accepted c.in_err-option-2.was)

pub loop-option-preserved : goal.loop-option-preserved
loop-option-preserved c =
    let t = copied c in
    let q = c.next.new.self in
    let is = settled_ok c.option.result _ (option_added (state_of c.loop-option.writer) (field_as c.field-field.result)) (state_of c.loop-option.writer) (state_of c.option.new.self) c.option.ensures.answer t.accepted c.option.ensures.state in (
      t.same ∙ c.loop-option.invariant.0,
      subst (Copyable (options_of q)) (sym is) t.copyable,
      λ left v d. c.loop-option.invariant.2 left v (t.onward left v (subst (λ w. Copied (options_of q) w left v) is d)),
    )
