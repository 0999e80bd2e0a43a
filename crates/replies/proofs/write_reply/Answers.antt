use Rattle.std.proofs.Common.{◌≤◌, length, ap, ◌∙◌, subst, arith}
use Rattle.calls.specs.Model.{exchange_as}
use Rattle.replies.specs.Writing.{write_answer, buffer_after}
use Rattle.replies.proofs.Sending.{response_short}
use Rattle.replies.proofs.write_reply.Goals as goal

pub returns : goal.returns
returns g c =
    let x = exchange_as c.args.exchange.now in
    let said = c.response.ensures.says x in
    record {
      answer = c.write.ensures.answer ∙ ap (λ bytes. write_answer x.token bytes c.args.out.now) said;
      buffer = c.write.ensures.buffer ∙ ap (λ bytes. buffer_after bytes c.args.out.now c.write.result) said;
      short = λ token. subst (λ bytes. length bytes ≤ g.A.Reply.most) said (omega (arith, response_short x c.response.result token, c.response.ensures.short));
    }
