use Rattle.std.proofs.Common.{◌<◌, ◌≤◌, length, arith, rules}
use Rattle.message.specs.Writing.{state_of}
use Rattle.message.proofs.Laid.{payload_some, stage_some}
use Rattle.message.proofs.writer.Writer.payload.Goals as goal

pub returns-clause-state : goal.returns-clause-state
returns-clause-state c =
    let w = state_of c.args.self.now in
    let p = c.args.bytes.now in
    let some : 0 < length p = search rules in
    let within : w.len ≤ length w.buffer = omega (arith, c.room.ensures) in
    let e = payload_some w (state_of c.lay.new.self) (state_of c.lay-2.new.self) p some within c.lay.ensures.state c.lay-2.ensures.state in
    λ i. let s = e i in record { lender = s.lender; buffer = s.buffer; len = s.len; number = s.number; stage = stage_some p w.stage some i }
