use Rattle.std.proofs.Common.{nat_lt, rules, tests, ◌∙◌}
use Rattle.std.proofs.lemmas.Iterator.{YieldsList-from_slice}
use Rattle.std.proofs.lemmas.Iterator.Search.{all_from_yields_List}
use Rattle.serving.proofs.Walks.{all_live}
use Rattle.serving.proofs.record.is_full.Goals as goal

pub returns : goal.returns
returns c =
    all_from_yields_List (λ r. nat_lt c.args.ms r.expiry) _ _ _ c.all.ensures.ran (YieldsList-from_slice c.args.records.now cc) (λ x b q k. (search (rules, tests), search (rules, tests)))
    ∙ all_live c.args.ms c.args.records.now
