use Rattle.std.proofs.Common.{◌≡◌, ◌<◌, Ok, ap, ◌∙◌, rules}
use Rattle.message.specs.declared.header.MessageType.{MessageType}
use Rattle.message.specs.Header.{Head}
use Rattle.message.specs.Writing.{state_of, start_answer, settled, started, payload_answer, payload_added}
use Rattle.transcribe.specs.Transcribing.{options_added}
use Rattle.transcribe.proofs.Copying.{writes, settled_ok}
use Rattle.calls.specs.Model.{exchange_as}
use Rattle.replies.specs.Response.{message_to}
use Rattle.replies.proofs.Sending.{formed}
use Rattle.replies.proofs.response.Response.write_fields.Goals as goal

pub returns : goal.returns
returns c =
    let x = exchange_as c.args.exchange.now in
    let w = state_of c.args.writer.now in
    let m = message_to x c.args.self.now in
    let id : x.id < 65536 = search rules in
    let k = writes w m c.requires.fresh_writer (formed x c.args.self.now c.requires.short_token id) c.requires.has_room in
    let head : MessageType → Head = λ t. record { type = t; code = m.head.code; id = x.id; token = x.token } in
    let s = settled_ok c.start.result _ (started w m.head) w (state_of c.start.new.self)
    (c.start.ensures.answer ∙ ap (λ t. start_answer w (head t)) c.kind.ensures) k.start
    (c.start.ensures.state ∙ ap (λ t. settled c.start.result (started w (head t)) w) c.kind.ensures) in
    let v = state_of c.write_option.new.writer in
    let e : v ≡ options_added (started w m.head) m.options = c.write_option.ensures.state ∙ ap (λ u. options_added u m.options) s in
    let taken : payload_answer v m.payload ≡ Ok tt = ap (λ u. payload_answer u m.payload) e ∙ k.payload in
    let u = settled_ok c.payload.result _ (payload_added v m.payload) v (state_of c.payload.new.self) c.payload.ensures.answer taken c.payload.ensures.state in
    record {
      answer = c.payload.ensures.answer ∙ taken;
      lender = ap (λ x. x.lender) u ∙ ap (λ x. x.lender) e ∙ k.lender;
      buffer = ap (λ x. x.buffer) u ∙ ap (λ x. (payload_added x m.payload).buffer) e ∙ k.buffer;
      len = ap (λ x. x.len) u ∙ ap (λ x. (payload_added x m.payload).len) e ∙ k.len;
    }
