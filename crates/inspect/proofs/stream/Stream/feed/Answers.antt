use Rattle.std.proofs.Common.{rules}
use Rattle.inspect.proofs.Pieces.{fed_in_parts}
use Rattle.inspect.proofs.Splitting.{split_at_line_feeds}
use Rattle.inspect.proofs.stream.Stream.feed.Goals as goal

pub returns-in_err-end_line : goal.returns-in_err-end_line
returns-in_err-end_line c = search (rules, fed_in_parts, split_at_line_feeds)

pub returns-in_err-push : goal.returns-in_err-push
returns-in_err-push c = search (rules, fed_in_parts, split_at_line_feeds)

pub returns-clause-parts : goal.returns-clause-parts
returns-clause-parts c = fed_in_parts

pub returns-clause-lines : goal.returns-clause-lines
returns-clause-lines c = split_at_line_feeds
