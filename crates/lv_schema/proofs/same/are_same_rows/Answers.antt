use Rattle.lv_schema.proofs.SameLists.{rows_told}
use Rattle.lv_schema.proofs.same.are_same_rows.Goals as goal

pub returns : goal.returns
returns c = rows_told c.args.a.now c.args.b.now c.eq.result c.eq.ensures
