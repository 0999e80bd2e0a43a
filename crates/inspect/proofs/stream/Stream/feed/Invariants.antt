use Rattle.std.proofs.Common.{◌++◌, vec_items}
use Rattle.inspect.specs.Stream.{answers, fed, state_of}
use Rattle.inspect.proofs.Feeding.{Leads}
use Rattle.inspect.proofs.stream.Stream.feed.Given as goal

abbrev pub invariant-loop-byte : goal.invariant-loop-byte
invariant-loop-byte l = Leads (state_of l.self) (vec_items l.out) l.piece l.byte-index (fed (state_of l.initial.self) l.piece) (vec_items l.initial.out ++ answers (state_of l.initial.self) l.piece)
