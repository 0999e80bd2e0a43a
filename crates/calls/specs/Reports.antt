-- What the host is told beside the answer.
use Rattle.std.specs.Prelude.{None, Option}
use Rattle.calls.specs.declared.report.Report.{Report}
use Rattle.server.specs.Calls.{Call}
use Rattle.server.specs.Settling.{Event, TurnedAway, Settles, Reading, Changing, Tallying}
use Rattle.server.specs.Serving.{Server, event_by}
use Rattle.server.specs.Requests.{coap}
use Rattle.calls.specs.Judging.{report_as, judgement}

-- why an accepted arrival was not carried to the register; nothing of any other call
abbrev pub report_of : Event → Option Report
report_of (TurnedAway n) = None
report_of (Settles t d a) = report_as (judgement d)
report_of (Reading t d p) = None
report_of (Changing a e) = None
report_of Tallying = None

abbrev pub report : {S : Type 0} → Server S → Call → Option Report
report v c = report_of (event_by coap v c)
