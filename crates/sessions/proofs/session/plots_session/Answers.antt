use Rattle.std.proofs.Common.{vec_items}
use Rattle.calls.specs.Model.{calls_of, served_of}
use Rattle.serving.proofs.Keeping.{session_made}
use Rattle.office.specs.Stacks.{plots_meaning, plots_state}
use Rattle.sessions.specs.Sessions.{plots_over}
use Rattle.sessions.proofs.session.plots_session.Goals as goal

pub returns : goal.returns
returns c =
    (_, (_, session_made (λ answers. served_of (vec_items answers)) plots_meaning (plots_state c.plots_stack-stack.result) (plots_over _ _ c.args.plots.now c.args.files.now) (calls_of 320 c.args.calls.now) c.session.result c.plots_stack-stack.ensures.first c.plots_stack-stack.ensures.sound c.session.ensures))
