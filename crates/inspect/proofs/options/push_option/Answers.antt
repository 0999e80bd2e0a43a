use Rattle.std.proofs.Common.{append_assoc, rules}
use Rattle.text.proofs.Keeping.{kept_before}
use Rattle.inspect.proofs.options.push_option.Goals as goal

pub returns-clause-text : goal.returns-clause-text
returns-clause-text c = search (rules, append_assoc)

pub returns-clause-front : goal.returns-clause-front
returns-clause-front c = search (rules, append_assoc, kept_before)
