use Rattle.std.proofs.Common.{◌≡◌, ◌-◌, length, vec_items}
use Rattle.message.specs.Reading.{options_of}
use Rattle.inspect.specs.Options.{further_text, text_in}
use Rattle.inspect.specs.Written.{behind, StaysInFront}
use Rattle.inspect.proofs.options.push_further.Given as goal

-- What is written and what is left to write make up the text of all the options, behind what was there before.
abbrev pub invariant-loop-option : goal.invariant-loop-option
invariant-loop-option l =
    (l.reader.datagram ≡ l.initial.reader.datagram)
    × (behind (vec_items l.out) (text_in further_text (options_of l.reader)) ≡ behind (vec_items l.initial.out) (text_in further_text (options_of l.initial.reader)))
    × StaysInFront (vec_items l.initial.out) (vec_items l.out)

abbrev pub decreases-loop-option : goal.decreases-loop-option
decreases-loop-option l = length l.initial.reader.datagram.now - l.reader.at
