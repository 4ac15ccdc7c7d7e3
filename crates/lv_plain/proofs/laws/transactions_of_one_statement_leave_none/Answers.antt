use Rattle.lv_plain.proofs.Outside.{begun_reads, queried_outside, rolled_back_at_once, not_committed}
use Rattle.lv_plain.proofs.laws.transactions_of_one_statement_leave_none.Goals as goal

pub returns-clause-reads : goal.returns-clause-reads
returns-clause-reads c = begun_reads

pub returns-clause-query : goal.returns-clause-query
returns-clause-query c = queried_outside

pub returns-clause-given_up : goal.returns-clause-given_up
returns-clause-given_up c = rolled_back_at_once

pub returns-clause-not_committed : goal.returns-clause-not_committed
returns-clause-not_committed c = λ outcome session change w fault written free e. not_committed outcome written session change w fault free e
