use Rattle.std.proofs.Common.{rules, true, false, ap, subst, ◌∙◌}
use Rattle.std.proofs.lemmas.Iterator.{YieldsList-from_slice, IsFirst-from_position}
use borrow.Author.Tests.{tests}
use Rattle.register.specs.Model.{segments_of}
use Rattle.register.specs.Places.{place_in}
use Rattle.layers.proofs.Searches.{Is, Searched, place_found, place_left, same_expiries}
use Rattle.layers.proofs.entry.place_for.Goals as goal

pub returns-in-Some-clause-value : goal.returns-in-Some-clause-value
returns-in-Some-clause-value c =
    let p = segments_of c.args.path.now in
    let h = IsFirst-from_position _ _ _ (Is p true) (Is p false) c.position.ensures.ran (YieldsList-from_slice c.args.entries.now cc) (λ x q k. search (rules, tests)) (λ x q k. search (rules, tests)) in
    place_found p c.args.entries.now c.in-Some.i (subst (Searched p c.args.entries.now) c.in-Some.is h)

pub returns-in-None-clause-value : goal.returns-in-None-clause-value
returns-in-None-clause-value c =
    let p = segments_of c.args.path.now in
    let h = IsFirst-from_position _ _ _ (Is p true) (Is p false) c.position.ensures.ran (YieldsList-from_slice c.args.entries.now cc) (λ x q k. search (rules, tests)) (λ x q k. search (rules, tests)) in
    c.place.ensures.first ∙ ap place_in (same_expiries c.args.entries.now) ∙ place_left p c.args.entries.now (subst (Searched p c.args.entries.now) c.in-None.is h)
