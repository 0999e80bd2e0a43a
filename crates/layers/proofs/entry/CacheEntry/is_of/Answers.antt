use Rattle.std.proofs.Common.{sym}
use Rattle.std.proofs.lemmas.Bool.Decides.{same_from_decides}
use Rattle.register.proofs.Caches.{same_path_decides}
use Rattle.layers.proofs.entry.CacheEntry.is_of.Goals as goal

pub returns : goal.returns
returns c = sym (same_from_decides _ c.eq.result (same_path_decides c.args.self.now.path c.args.path.now) c.eq.ensures.decides)
