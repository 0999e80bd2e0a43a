use Rattle.std.proofs.Common.{sym}
use Rattle.register.specs.Model.{segments_of, read_of}
use Rattle.layers.proofs.Searches.{set_kept}
use Rattle.layers.proofs.entry.keep.Goals as goal

pub returns-then-is_kept : goal.returns-then-is_kept
returns-then-is_kept c =
    set_kept (segments_of c.args.path.now) c.args.moment.ms (read_of c.args.answer.now) c.args.entries.now c.place_for-i.result c.new.result
    (sym c.if-is_kept.ensures) c.place_for-i.ensures.value c.new.ensures
