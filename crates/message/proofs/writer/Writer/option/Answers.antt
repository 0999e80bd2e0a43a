use Rattle.std.proofs.Common.{◌+◌, ◌*◌, ◌≤◌, length, ap, arith}
use Rattle.message.specs.Encoding.{Field}
use Rattle.message.specs.Writing.{State, state_of}
use Rattle.message.proofs.Laid.{option_done}
use Rattle.message.proofs.writer.Writer.option.Goals as goal

pub returns-clause-state : goal.returns-clause-state
returns-clause-state c =
    let w = state_of c.args.self.now in
    let o : Field = record { number = c.args.number; value = c.args.value.now } in
    let within : w.len ≤ length w.buffer = omega (arith, c.room-room.ensures) in
    let e = option_done w (state_of c.lay.new.self) (state_of c.lay_further.new.self) (state_of c.lay_further-2.new.self) (state_of c.lay-2.new.self) o _ within
    (λ i. c.nibble_of.ensures i * 16 + c.nibble_of-2.ensures i) c.lay.ensures.state c.lay_further.ensures.state c.lay_further-2.ensures.state c.lay-2.ensures.state in
    ap (λ s. let u : State = record { lender = s.lender; buffer = s.buffer; len = s.len; number = o.number; stage = s.stage } in u) e
