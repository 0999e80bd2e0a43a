use Rattle.std.proofs.Common.{vec_items, refl}
use Rattle.message.specs.Reading.{read_option}
use Rattle.inspect.specs.Options.{option_text, options_text}
use Rattle.inspect.proofs.Listing.{text_drawn, written_from}
use Rattle.inspect.proofs.options.push_options.Goals as goal

pub returns-clause-written : goal.returns-clause-written
returns-clause-written c =
    let o = c.in-Some.first in
    written_from _ _ _ _ _ c.push_further.result
    (text_drawn options_text c.args.reader c.next.new.self c.next.ensures.after c.in_ok-first.ensures.answer o c.in-Some.is
    (option_text (read_option o)) (vec_items c.args.out.now) (vec_items c.push_option.new.out) (λ os. refl) c.in_ok-push_option.ensures.text)
    c.push_further.ensures.written
