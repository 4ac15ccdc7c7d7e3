use Rattle.lv_stands.proofs.Installs.{can_install_all, forced_follow_on, in_use, query_rows, rows_with_all, step_installs, sums_are}
use Rattle.lv_stands.proofs.laws.steps_can_be_installed.Goals as goal

pub returns-clause-step : goal.returns-clause-step
returns-clause-step c = step_installs

pub returns-clause-sum : goal.returns-clause-sum
returns-clause-sum c = sums_are

pub returns-clause-steps : goal.returns-clause-steps
returns-clause-steps c = λ w e v fs spare is follow own some. can_install_all w e v is (in_use w v fs follow own some) fs follow own some spare

pub returns-clause-rows : goal.returns-clause-rows
returns-clause-rows c = λ w e v fs is follow own some. rows_with_all w e v is (in_use w v fs follow own some) fs follow own some

pub returns-clause-forced : goal.returns-clause-forced
returns-clause-forced c = forced_follow_on

pub returns-clause-query : goal.returns-clause-query
returns-clause-query c = query_rows
