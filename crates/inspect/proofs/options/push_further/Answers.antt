use Rattle.std.proofs.Common.{◌≡◌, ◌++◌, length, vec_items, codes, sym, refl, ap, ◌∙◌, append_assoc, append-nil, arith, rules}
use Rattle.std.proofs.lemmas.Grind.{common_steps}
use Rattle.message.specs.Reading.{read_option}
use Rattle.message.proofs.Walks.{Drew}
use Rattle.inspect.specs.Options.{option_text, further_text}
use Rattle.text.proofs.Keeping.{kept_before}
use Rattle.inspect.proofs.Fronts.{front_through}
use Rattle.inspect.proofs.Listing.{drawn, text_drawn, text_ended}
use Rattle.inspect.proofs.options.push_further.Goals as goal

-- What `next` found.
option : (c : goal.In_ok-push_option) → Drew c.loop-option.reader c.next.new.self (read_option c.in-Some.option)
option c = drawn further_text c.loop-option.reader c.next.new.self c.next.ensures.after c.in_ok-option.ensures.answer c.in-Some.option c.in-Some.is

pub returns-in_err-push_option-clause-front : goal.returns-in_err-push_option-clause-front
returns-in_err-push_option-clause-front c =
    let before = vec_items c.loop-option.out in
    front_through (vec_items c.args.out.now) before (vec_items c.push_option.new.out) c.loop-option.invariant.2
    (front_through before (vec_items c.extend_from_slice.new.self) (vec_items c.push_option.new.out) (grind (arith, common_steps)) c.in_err-push_option.ensures.front)

pub loop-option-smaller : goal.loop-option-smaller
loop-option-smaller c = let d = option c in omega (arith, d.forward, d.inside, ap (λ r. length r.now) c.loop-option.invariant.0)

pub loop-option-preserved : goal.loop-option-preserved
loop-option-preserved c =
    let t = codes "," ++ option_text (read_option c.in-Some.option) in
    let before = vec_items c.loop-option.out in
    let after = vec_items c.push_option.new.out in
    let pushed : after ≡ before ++ t = search (rules, append_assoc) in (
      (option c).same ∙ c.loop-option.invariant.0,
      text_drawn further_text c.loop-option.reader c.next.new.self c.next.ensures.after c.in_ok-option.ensures.answer c.in-Some.option c.in-Some.is t before after (λ os. refl) pushed
          ∙ c.loop-option.invariant.1,
      front_through (vec_items c.args.out.now) before after c.loop-option.invariant.2 (rw pushed (kept_before before t)),
    )

pub returns-clause-written : goal.returns-clause-written
returns-clause-written c =
    let before = vec_items c.loop-option.out in
    sym c.loop-option.invariant.1
    ∙ text_ended further_text c.loop-option.reader c.next.new.self c.next.ensures.after c.in_ok-option.ensures.answer c.in_default.is before before (sym (append-nil before))
