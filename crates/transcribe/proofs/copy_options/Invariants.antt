use Rattle.std.proofs.Common.{◌≡◌, ◌-◌, length}
use Rattle.message.specs.Options.{OptionList}
use Rattle.message.specs.Reading.{options_of}
use Rattle.message.specs.Writing.{State, state_of}
use Rattle.transcribe.specs.Transcribing.{Copyable, Copied}
use Rattle.transcribe.proofs.copy_options.Given as goal

-- what is left can be copied, and then all is copied
abbrev pub invariant-loop-option : goal.invariant-loop-option
invariant-loop-option l =
    (l.reader.datagram ≡ l.initial.reader.datagram)
    × Copyable (options_of l.reader) (state_of l.writer)
    × ((left : OptionList) (v : State) → Copied (options_of l.reader) (state_of l.writer) left v → Copied (options_of l.initial.reader) (state_of l.initial.writer) left v)

abbrev pub decreases-loop-option : goal.decreases-loop-option
decreases-loop-option l = length l.initial.reader.datagram.now - l.reader.at
