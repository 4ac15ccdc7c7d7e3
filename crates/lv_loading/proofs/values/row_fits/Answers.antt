use Rattle.std.proofs.Common.{sym, ◌∙◌}
use Rattle.lv_loading.proofs.Fits.{row_short}
use Rattle.lv_loading.proofs.values.row_fits.Goals as goal

pub returns-else-len-columns : goal.returns-else-len-columns
returns-else-len-columns c = sym (row_short c.args.columns.now c.args.row.now (λ e. c.if-len-columns.false (c.len.ensures ∙ sym e)))
