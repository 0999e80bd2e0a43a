-- What the reader of blocks answers, in the words of the definitions.
use Rattle.std.specs.Prelude.{◌≡◌, ◌≢◌, ℕ, Ok, Err, Result, MatchResult}
use Rattle.calls.specs.declared.call.Call.TheVariants as called
use Rattle.trace.specs.declared.block.StackNumber.{StackNumber}
use Rattle.trace.specs.declared.block.StackNumber.TheVariants.{One, Two}
use Rattle.trace.specs.declared.block.Kind.{Kind}
use Rattle.trace.specs.declared.block.Kind.TheVariants as kind
use Rattle.trace.specs.declared.block.Block.{Block}
use Rattle.trace.specs.declared.block.Block.TheVariants.{Head, Call}
use Rattle.trace.specs.declared.block.Damaged.{Damaged}
use Rattle.trace.specs.Blocks.{Entry, head, arrival, tally, damaged}

abbrev pub stack_number : StackNumber → ℕ
stack_number One = 1
stack_number Two = 2

-- the stack with this number, or nothing where no stack has it
abbrev pub IsStackOf : ℕ → Result StackNumber Damaged → Type 0
IsStackOf number r = MatchResult r (λ stack. stack_number stack ≡ number) (λ _. (number ≢ 1) × (number ≢ 2))

-- the number that a block of this kind begins with
abbrev pub kind_number : Kind → ℕ
kind_number kind.Head = 1
kind_number kind.Arrival = 2
kind_number kind.Tally = 3

-- the kind with this number, or nothing where no kind has it
abbrev pub IsKindOf : ℕ → Result Kind Damaged → Type 0
IsKindOf number r = MatchResult r (λ k. kind_number k ≡ number) (λ _. (number ≢ 1) × (number ≢ 2) × (number ≢ 3))

abbrev pub entry_of : Result Block Damaged → Entry
entry_of (Ok (Head stack)) = head (stack_number stack)
entry_of (Ok (Call (called.Arrival a))) = arrival a.moment a.peer a.datagram.now
entry_of (Ok (Call called.Tally)) = tally
entry_of (Err d) = damaged
