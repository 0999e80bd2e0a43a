use Rattle.std.proofs.Common.{take, sym, ap, ◌∙◌}
use native.Mathlib.Nat.{sub-zero}
use Rattle.server.specs.Calls.{Reply}
use Rattle.calls.specs.Model.{answer_in}
use Rattle.serving.proofs.Arriving.{read_off}
use Rattle.serving.proofs.state.Server.receive.Goals as goal

pub returns-in-Reply-clause-answer : goal.returns-in-Reply-clause-answer
returns-in-Reply-clause-answer g c =
    let after = c.arrive-outcome.new.buffer in
    ap Reply (c.reply_bytes.ensures ∙ ap (λ n. take n after) (sub-zero c.in-Reply.n))
    ∙ ap (λ r. answer_in r after) (sym c.in-Reply.is)
    ∙ read_off _ c.arrive-outcome.result.answer _ after c.arrive-outcome.ensures.answer c.arrive-outcome.ensures.buffer

pub returns-in-Silent-clause-answer : goal.returns-in-Silent-clause-answer
returns-in-Silent-clause-answer g c =
    let after = c.arrive-outcome.new.buffer in
    ap (λ r. answer_in r after) (sym c.in-Silent.is)
    ∙ read_off _ c.arrive-outcome.result.answer _ after c.arrive-outcome.ensures.answer c.arrive-outcome.ensures.buffer

pub returns-in-Refused-clause-answer : goal.returns-in-Refused-clause-answer
returns-in-Refused-clause-answer g c =
    let after = c.arrive-outcome.new.buffer in
    ap (λ r. answer_in r after) (sym c.in-Refused.is)
    ∙ read_off _ c.arrive-outcome.result.answer _ after c.arrive-outcome.ensures.answer c.arrive-outcome.ensures.buffer
