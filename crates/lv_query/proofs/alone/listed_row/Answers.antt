use Rattle.std.proofs.Common.{◌∙◌, sym}
use Rattle.lv_query.proofs.WholeRows.{whole_is_row}
use Rattle.lv_query.proofs.alone.listed_row.Goals as goal

pub returns-then-len-list : goal.returns-then-len-list
returns-then-len-list c = whole_is_row c.args.list.now c.args.row (c.requires c.if-is_whole.true) (sym c.len.ensures ∙ c.if-len-list.true)
