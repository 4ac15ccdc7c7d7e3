use Rattle.lv_stands.proofs.Untouched.{untouched_table}
use Rattle.lv_stands.proofs.laws.untouched_tables_may_stay.Goals as goal

pub returns : goal.returns
returns c = untouched_table
