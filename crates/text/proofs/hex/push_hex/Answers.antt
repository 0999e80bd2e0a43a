use Rattle.text.proofs.Trips.{hex_round_trip}
use Rattle.text.proofs.hex.push_hex.Goals as goal

pub returns-in_err-reserve-clause-reads_back : goal.returns-in_err-reserve-clause-reads_back
returns-in_err-reserve-clause-reads_back c = hex_round_trip

pub returns-clause-reads_back : goal.returns-clause-reads_back
returns-clause-reads_back c = hex_round_trip
