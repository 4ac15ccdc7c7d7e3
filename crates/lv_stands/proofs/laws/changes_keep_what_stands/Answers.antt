use Rattle.std.proofs.Common.{arith}
use Rattle.lv_schema.proofs.SteadyWorlds.{floor_last}
use Rattle.lv_stands.proofs.Changes.{own_rows_are, writes_can_take, changed_stands}
use Rattle.lv_stands.proofs.laws.changes_keep_what_stands.Goals as goal

pub returns-clause-own_rows : goal.returns-clause-own_rows
returns-clause-own_rows c = λ w e session t k rows is at lt own. own_rows_are w e session t k rows is at lt (omega (arith, is.steady.pruned, floor_last w)) own

pub returns-clause-writes : goal.returns-clause-writes
returns-clause-writes c = writes_can_take

pub returns-clause-change : goal.returns-clause-change
returns-clause-change c = changed_stands
