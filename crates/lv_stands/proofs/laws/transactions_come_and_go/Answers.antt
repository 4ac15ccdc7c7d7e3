use Rattle.lv_stands.proofs.Statements.{began_stands, rolled_back_stands}
use Rattle.lv_stands.proofs.laws.transactions_come_and_go.Goals as goal

pub returns-clause-begin : goal.returns-clause-begin
returns-clause-begin c = began_stands

pub returns-clause-rollback : goal.returns-clause-rollback
returns-clause-rollback c = rolled_back_stands
