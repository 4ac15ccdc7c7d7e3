use Rattle.lv_schema.proofs.ViewRows.{view_rows_ascend}
use Rattle.lv_schema.proofs.laws.view_rows_are_distinct.Goals as goal

pub returns : goal.returns
returns c = view_rows_ascend
