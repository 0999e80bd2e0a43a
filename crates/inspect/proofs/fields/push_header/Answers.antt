use Rattle.std.proofs.Common.{arith, vec_items}
use Rattle.std.proofs.lemmas.Grind.{common_steps}
use Rattle.inspect.proofs.Fronts.{front_through}
use Rattle.inspect.proofs.fields.push_header.Goals as goal

pub returns-in_err-push_bytes-clause-front : goal.returns-in_err-push_bytes-clause-front
returns-in_err-push_bytes-clause-front c = front_through (vec_items c.args.out.now) (vec_items c.push-3.new.self) (vec_items c.push_bytes.new.out) (grind (arith, common_steps)) c.in_err-push_bytes.ensures.front
