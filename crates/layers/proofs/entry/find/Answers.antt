use Rattle.std.proofs.Common.{rules, Some, None, sym, ap, ◌∙◌}
use Rattle.std.specs.Option.{option_map}
use Rattle.std.proofs.lemmas.Iterator.{YieldsList-from_slice}
use Rattle.std.proofs.lemmas.Iterator.Search.{find_from_yields_List}
use borrow.Author.Tests.{tests}
use Rattle.register.specs.Model.{segments_of}
use Rattle.register.specs.Cached.{answers_at}
use Rattle.layers.specs.Entries.{entry_of}
use Rattle.layers.proofs.Searches.{found}
use Rattle.layers.proofs.entry.find.Goals as goal

pub returns : goal.returns
returns c =
    let h = find_from_yields_List (λ e. answers_at (segments_of c.args.path.now) c.args.ms (entry_of e)) _ _ _ c.find.ensures.ran (YieldsList-from_slice c.args.entries.now cc) (λ x b q k. search (rules, tests)) in
    let f = found (segments_of c.args.path.now) c.args.ms c.args.entries.now (Some c.in_ok-entry.entry.now) (ap (option_map (λ y. y.now)) (sym c.in_ok-entry.was) ∙ h) in
    (f.0, c.answer.ensures ∙ sym f.1)

pub returns-in_err-entry : goal.returns-in_err-entry
returns-in_err-entry c =
    let h = find_from_yields_List (λ e. answers_at (segments_of c.args.path.now) c.args.ms (entry_of e)) _ _ _ c.find.ensures.ran (YieldsList-from_slice c.args.entries.now cc) (λ x b q k. search (rules, tests)) in
    rw c.from_residual.ensures (found (segments_of c.args.path.now) c.args.ms c.args.entries.now None (ap (option_map (λ y. y.now)) (sym c.in_err-entry.was) ∙ h))
