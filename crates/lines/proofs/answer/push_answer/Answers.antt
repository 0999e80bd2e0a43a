use Rattle.lines.proofs.Telling.{lines_tell_answers_apart}
use Rattle.lines.proofs.answer.push_answer.Goals as goal

pub returns-clause-apart : goal.returns-clause-apart
returns-clause-apart c = lines_tell_answers_apart
