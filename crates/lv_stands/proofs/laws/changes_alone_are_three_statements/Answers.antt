use Rattle.lv_stands.proofs.Alone.{alone_done, alone_refused, alone_not_committed}
use Rattle.lv_stands.proofs.laws.changes_alone_are_three_statements.Goals as goal

pub returns-clause-done : goal.returns-clause-done
returns-clause-done c = alone_done

pub returns-clause-refused : goal.returns-clause-refused
returns-clause-refused c = alone_refused

pub returns-clause-not_committed : goal.returns-clause-not_committed
returns-clause-not_committed c = alone_not_committed
