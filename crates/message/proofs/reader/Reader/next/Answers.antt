use Rattle.std.proofs.Common.{drop, Ok, sym, ap, ◌∙◌, arith, length-drop}
use Rattle.message.specs.Reading.{next_step, read_option}
use Rattle.message.proofs.Walks.{step_onward}
use Rattle.message.proofs.reader.Reader.next.Goals as goal

-- the place after an option lies within the datagram
pub invariant_of-self : goal.invariant_of-self
invariant_of-self c =
    let r = c.args.self.now in
    let came = sym (ap (λ o. next_step (Ok o)) (sym c.in-Some.is) ∙ c.in_ok-step.ensures) in
    let p = step_onward r.at r.number (drop r.at r.datagram.now) (read_option c.in-Some.option) c.in-Some.after came in
    omega (arith, p.1, length-drop r.at r.datagram.now, r.within)
