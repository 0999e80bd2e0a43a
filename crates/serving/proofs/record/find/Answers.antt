use Rattle.std.proofs.Common.{rules, tests}
use Rattle.std.proofs.lemmas.Iterator.{YieldsList-from_slice}
use Rattle.std.proofs.lemmas.Iterator.Search.{find_from_yields_List}
use Rattle.register.specs.Model.{bytes_of}
use Rattle.serving.proofs.Walks.{live, found_reply}
use Rattle.serving.proofs.record.find.Goals as goal

pub returns : goal.returns
returns c =
    let first = find_from_yields_List (live c.args.ms c.args.key.peer c.args.key.id) _ _ _ c.find.ensures.ran (YieldsList-from_slice c.args.records.now cc) (λ x b q k. search (rules, tests)) in
    found_reply c.args.ms c.args.key.peer c.args.key.id bytes_of (λ x b k. search (rules, tests)) c.find.result c.map.result c.args.records.now first c.map.ensures.cases
