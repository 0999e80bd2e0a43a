use Rattle.std.proofs.Common.{vec_items, sym, ◌∙◌}
use Rattle.calls.specs.Model.{calls_of, served_of}
use Rattle.serving.specs.View.{view}
use Rattle.serving.proofs.Keeping.{keeps_all}
use Rattle.serving.proofs.Sessions.{run_all, end_all}
use Rattle.serving.proofs.state.Server.serve.Goals as goal

pub returns-clause-promised : goal.returns-clause-promised
returns-clause-promised g c =
    let m = g.R.Resource.meaning in
    let v = view m g.R.Resource.state c.args.self.now in
    let w = view m g.R.Resource.state c.loop-call.self in
    let cs = c.args.calls.now in
    let i = c.loop-call.call-index in
    let out = c.loop-call-test.false in
    let given = vec_items c.loop-call.answers in
    keeps_all m g.R.Resource.lawful v w (calls_of 320 cs) (served_of given) (sym (run_all m cs i out w given) ∙ c.loop-call.invariant.0) (sym (end_all m cs i out w) ∙ c.loop-call.invariant.1)
