use Rattle.std.proofs.Common.{vec_items}
use Rattle.calls.specs.Model.{calls_of, served_of}
use Rattle.serving.proofs.Keeping.{session_made}
use Rattle.office.specs.Stacks.{office_meaning, stack_state}
use Rattle.sessions.specs.Sessions.{office_over}
use Rattle.sessions.proofs.Examples.{worked_examples}
use Rattle.sessions.proofs.session.office_session.Goals as goal

pub returns : goal.returns
returns c =
    record { session = (_, (_, session_made (λ answers. served_of (vec_items answers)) office_meaning (stack_state c.office_stack-stack.result) (office_over _ _ c.args.plots.now c.args.files.now) (calls_of 320 c.args.calls.now) c.session.result c.office_stack-stack.ensures.first c.office_stack-stack.ensures.sound c.session.ensures)); examples = worked_examples }
