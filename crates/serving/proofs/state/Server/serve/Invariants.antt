use Rattle.std.proofs.Common.{◌≡◌, ◌≤◌, ◌++◌, length, drop, vec_items, vec_len, vec_capacity}
use Rattle.server.specs.Requests.{coap}
use Rattle.server.specs.Serving.{run, end}
use Rattle.calls.specs.Model.{calls_of, served_of}
use Rattle.serving.specs.View.{view}
use Rattle.serving.proofs.state.Server.serve.Given as goal

-- what was answered and what is left give the whole, and there is room for what is left
abbrev pub invariant-loop-call : goal.invariant-loop-call
invariant-loop-call g l =
    (served_of (vec_items l.answers) ++ run g.R.Resource.meaning coap (view g.R.Resource.meaning g.R.Resource.state l.self) (calls_of 320 (drop l.call-index l.calls))
    ≡ run g.R.Resource.meaning coap (view g.R.Resource.meaning g.R.Resource.state l.initial.self) (calls_of 320 l.calls))
    × (end g.R.Resource.meaning coap (view g.R.Resource.meaning g.R.Resource.state l.self) (calls_of 320 (drop l.call-index l.calls))
    ≡ end g.R.Resource.meaning coap (view g.R.Resource.meaning g.R.Resource.state l.initial.self) (calls_of 320 l.calls))
    × (vec_len l.answers ≡ l.call-index)
    × (length l.calls ≤ vec_capacity l.answers)
