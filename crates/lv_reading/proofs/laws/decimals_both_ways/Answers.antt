use Rattle.lv_reading.proofs.Decimals.{wide_takes, wide_again}
use Rattle.lv_reading.proofs.laws.decimals_both_ways.Goals as goal

pub returns-clause-written : goal.returns-clause-written
returns-clause-written c = λ bytes rest n is e. (let t = wide_takes.takes bytes n rest is e in (t.1, t.0))

pub returns-clause-again : goal.returns-clause-again
returns-clause-again c = wide_again
