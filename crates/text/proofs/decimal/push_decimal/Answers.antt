use Rattle.text.proofs.Trips.{decimal_reads_back}
use Rattle.text.proofs.decimal.push_decimal.Goals as goal

pub returns-in_err-reserve-clause-reads_back : goal.returns-in_err-reserve-clause-reads_back
returns-in_err-reserve-clause-reads_back c = decimal_reads_back

pub returns-clause-reads_back : goal.returns-clause-reads_back
returns-clause-reads_back c = decimal_reads_back
