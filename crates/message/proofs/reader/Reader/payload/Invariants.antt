use Rattle.std.proofs.Common.{◌≡◌, ◌-◌, length}
use Rattle.message.specs.Reading.{options_of, payload_after}
use Rattle.message.proofs.reader.Reader.payload.Given as goal

-- the options that are left have the payload of all of them behind them
abbrev pub invariant-loop-option : goal.invariant-loop-option
invariant-loop-option l =
    (l.rest.datagram ≡ l.initial.rest.datagram)
    × (payload_after l.initial.rest.datagram.now (options_of l.rest) ≡ payload_after l.initial.rest.datagram.now (options_of l.initial.rest))

abbrev pub decreases-loop-option : goal.decreases-loop-option
decreases-loop-option l = length l.initial.rest.datagram.now - l.rest.at
