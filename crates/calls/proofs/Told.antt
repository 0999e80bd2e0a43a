-- What the host is told of two datagrams, computed.
use Rattle.std.proofs.Common.{◌≡◌, [], ◌∷◌, Some, refl}
use Rattle.message.specs.declared.fault.MessageFault.TheVariants.{InOption}
use Rattle.message.specs.declared.fault.OptionFault.TheVariants.{NoPayload}
use Rattle.message.specs.declared.fault.Rejection.TheVariants.{Fault}
use Rattle.calls.specs.declared.report.Report.TheVariants.{Unreadable, UnknownOption}
use Rattle.calls.specs.Judging.{report_as, judgement}

-- 40 01 00 09 D1 02 71: option 15, whose value begins at 6
option_named : report_as (judgement (64 ∷ 1 ∷ 0 ∷ 9 ∷ 209 ∷ 2 ∷ 113 ∷ [])) ≡ Some (UnknownOption (record { number = 15; place = 6 }))
option_named = refl

-- 60 01 00 01 FF: a payload marker with nothing behind it, at 4
fault_named : report_as (judgement (96 ∷ 1 ∷ 0 ∷ 1 ∷ 255 ∷ [])) ≡ Some (Unreadable (Fault (InOption (NoPayload 4))))
fault_named = refl
