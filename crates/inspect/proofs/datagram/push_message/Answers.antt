use Rattle.std.proofs.Common.{◌≡◌, ℕ, List, ◌++◌, Ok, vec_items, codes, sym, ap, ◌∙◌, arith, rules}
use Rattle.std.proofs.lemmas.Grind.{common_steps}
use Rattle.message.specs.Options.{options_from}
use Rattle.message.specs.Reading.{head_of, options_of, payload_after}
use Rattle.text.specs.Lines.{line_feed}
use Rattle.inspect.specs.Fields.{bytes_text}
use Rattle.inspect.specs.Options.{options_text, text_in}
use Rattle.inspect.specs.Written.{behind}
use Rattle.inspect.proofs.Composed.{message_line}
use Rattle.inspect.proofs.Fronts.{front_through}
use Rattle.inspect.proofs.datagram.push_message.Goals as goal

pub returns-in_err-push_bytes-clause-front : goal.returns-in_err-push_bytes-clause-front
returns-in_err-push_bytes-clause-front c = front_through (vec_items c.args.out.now) (vec_items c.push.new.self) (vec_items c.push_bytes.new.out) (grind (arith, common_steps)) c.in_err-push_bytes.ensures.front

pub returns-clause-written : goal.returns-clause-written
returns-clause-written c =
    let opened = c.in_ok-header.ensures in
    let q = c.in_ok-header.reader in
    let d = c.args.datagram.now in
    let payload = c.in_ok-payload.payload.now in
    let before = vec_items c.args.out.now in
    let listed = vec_items c.push_options.new.out in
    let line = message_line d (head_of c.in_ok-header.header) q.at (options_of q) payload before listed
    opened.0
    (sym (λ i. options_from (opened.1 i).now q.at (opened.2 i)))
    (ap (λ r. payload_after r.now (options_of q)) (sym opened.1) ∙ c.in_ok-payload.ensures)
    (ap (λ l. behind l (text_in options_text (options_of q))) (sym c.in_ok-push_header.ensures.text) ∙ c.in_ok-push_options.ensures.written) in
    let wrote : vec_items c.push-2.new.self ≡ listed ++ codes " " ++ bytes_text payload ++ line_feed = search rules in
    line ∙ ap (λ (l : List ℕ). Ok l) (sym wrote)
