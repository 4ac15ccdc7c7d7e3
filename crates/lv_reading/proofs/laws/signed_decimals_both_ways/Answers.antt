use Rattle.lv_reading.proofs.Decimals.{number_takes, number_again}
use Rattle.lv_reading.proofs.laws.signed_decimals_both_ways.Goals as goal

pub returns-clause-written : goal.returns-clause-written
returns-clause-written c = λ bytes rest z is e. (let t = number_takes.takes bytes z rest is e in (t.1, t.0))

pub returns-clause-again : goal.returns-clause-again
returns-clause-again c = number_again
