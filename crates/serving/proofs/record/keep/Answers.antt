use Rattle.std.proofs.Common.{set, ap, ◌∙◌}
use Rattle.std.proofs.lemmas.List.{map-set}
use Rattle.register.specs.Places.{place_in}
use Rattle.serving.specs.Records.{record_of, records_of}
use Rattle.serving.proofs.Walks.{same_expiries}
use Rattle.serving.proofs.record.keep.Goals as goal

pub returns : goal.returns
returns c =
    let rs = c.args.records.now in
    map-set record_of rs c.place-at.result c.args.latest
    ∙ ap (λ i. set (records_of rs) i (record_of c.args.latest)) (c.place-at.ensures.first ∙ ap place_in (same_expiries rs))
