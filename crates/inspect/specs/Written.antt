-- What a function has done that is to append a text.
use Rattle.std.specs.Prelude.{◌≡◌, ℕ, List, ◌++◌, length, take, Ok, Err, Result}
use Rattle.message.specs.declared.fault.Rejection.{Rejection}
use Rattle.inspect.specs.declared.error.LineError.{LineError}
use Rattle.inspect.specs.declared.error.LineError.TheVariants.{NoMemory, Rejected}

-- A text behind what was there before, or why there is none.
abbrev pub behind : List ℕ → Result (List ℕ) Rejection → Result (List ℕ) Rejection
behind before (Ok text) = Ok (before ++ text)
behind before (Err why) = Err why

-- The text was appended, or there is none for the reason that is given. Nothing is said where memory is wanting.
abbrev pub Written : Result (List ℕ) Rejection → List ℕ → List ℕ → Result (Unit {0}) LineError → Type 0
Written text before after (Ok done) = behind before text ≡ Ok after
Written text before after (Err (Rejected why)) = text ≡ Err why
Written text before after (Err NoMemory) = Unit {0}

-- What was there before stays at the front.
abbrev pub StaysInFront : List ℕ → List ℕ → Type 0
StaysInFront before after = take (length before) after ≡ before
