use Rattle.std.proofs.Common.{sym}
use Rattle.lv_loading.proofs.Free.{free_told}
use Rattle.lv_loading.proofs.tables.is_free.Goals as goal

pub returns : goal.returns
returns c = free_told c.args.schema.now.tables c.args.schema.now.views c.args.name.now c.is_none.result c.find.result (sym c.is_none.ensures) c.find.ensures.found
