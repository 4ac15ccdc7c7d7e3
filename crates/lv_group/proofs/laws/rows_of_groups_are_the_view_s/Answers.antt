use Rattle.lv_group.proofs.GroupRows.{rows_are}
use Rattle.lv_group.proofs.laws.rows_of_groups_are_the_view_s.Goals as goal

pub returns : goal.returns
returns c = rows_are
