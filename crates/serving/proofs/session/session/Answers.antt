use Rattle.std.proofs.Common.{vec_items}
use Rattle.calls.specs.Model.{calls_of, served_of}
use Rattle.serving.specs.View.{view}
use Rattle.serving.proofs.Keeping.{session_of}
use Rattle.serving.proofs.session.session.Goals as goal

pub returns : goal.returns
returns g c =
    let m = g.R.Resource.meaning in
    session_of (λ answers. served_of (vec_items answers)) m (g.R.Resource.state c.args.stack) (view m g.R.Resource.state c.new-server.result) _ (calls_of 320 c.args.calls.now) c.serve.result c.new-server.ensures c.serve.ensures.answers c.serve.ensures.promised
