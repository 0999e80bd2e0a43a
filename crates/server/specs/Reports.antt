-- What a report to the host carries beside the answer.
use Rattle.std.specs.Prelude.{cond, not, ◌&&◌, List, [], ◌∷◌, ◌==◌}
use Rattle.message.specs.declared.fault.MessageFault.{MessageFault}
use Rattle.message.specs.declared.fault.MessageFault.TheVariants.{InOption}
use Rattle.message.specs.declared.fault.Rejection.TheVariants.{TooLong, NotCoap, Fault}
use Rattle.message.specs.Header.{Head, Opening, rejected, opens, opening}
use Rattle.message.specs.Options.{ReadOption, OptionList, broken, ended, options_from}
use Rattle.register.specs.Values.{Bytes}
use Rattle.server.specs.Requests.{is_unknown, is_of_request}

-- nothing; the reader's fault whole, cause and place; or an Unknown option, any one of these, by its number and place
pub data Detail : Type 0 where
  Nothing : Detail
  TheFault : MessageFault → Detail
  OneOf : List ReadOption → Detail

abbrev pub unknowns : List ReadOption → List ReadOption
unknowns [] = []
unknowns (o ∷ os) = cond (is_unknown o.kind) (o ∷ unknowns os) (unknowns os)

abbrev pub named : List ReadOption → Detail
named [] = Nothing
named (o ∷ os) = OneOf (o ∷ os)

-- an Unknown option counts in a request alone
abbrev pub detail_with : Head → OptionList → Detail
detail_with h (broken f) = TheFault (InOption f)
detail_with h (ended os end) = cond (not (h.code == 0) && is_of_request h.type h.code) (named (unknowns os)) Nothing

abbrev pub detail_by : Bytes → Opening → Detail
detail_by d (rejected TooLong) = Nothing
detail_by d (rejected NotCoap) = Nothing
detail_by d (rejected (Fault f)) = TheFault f
detail_by d (opens h at) = detail_with h (options_from d at 0)

abbrev pub detail : Bytes → Detail
detail d = detail_by d (opening d)
