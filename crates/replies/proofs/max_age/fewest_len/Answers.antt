use Rattle.std.proofs.Common.{rules}
use Rattle.replies.proofs.Fewest.{fewest_by_zeros}
use Rattle.replies.proofs.max_age.fewest_len.Goals as goal

pub returns : goal.returns
returns c = fewest_by_zeros c.args.n (search rules)
