use Rattle.std.proofs.Common.{◌+◌, ◌*◌, length, ap, ◌∙◌, rules}
use Rattle.message.specs.Header.{Head}
use Rattle.message.specs.Writing.{state_of}
use Rattle.message.proofs.Laid.{start_done}
use Rattle.message.proofs.writer.Writer.start.Goals as goal

pub returns-clause-state : goal.returns-clause-state
returns-clause-state c =
    let w = state_of c.args.self.now in
    let h : Head = record { type = c.args.kind; code = c.args.code.0; id = c.args.id; token = c.args.token.now } in
    let s = state_of c.lay-2.new.self in
    (λ i. record { lender = s.lender; buffer = s.buffer; len = s.len; number = 0; stage = c.after_header-self.ensures i })
    ∙ start_done w (state_of c.lay.new.self) s h _ _ _ c.lay.ensures.state c.lay-2.ensures.state (ap (λ b. 64 + b * 16 + length h.token) c.bits.ensures) (search rules) (search rules)
