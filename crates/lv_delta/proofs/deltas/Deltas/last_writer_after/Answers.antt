use Rattle.std.proofs.Common.{◌∙◌}
use Rattle.lv_delta.proofs.Searched.{later_writer}
use Rattle.lv_delta.proofs.deltas.Deltas.last_writer_after.Goals as goal

pub returns : goal.returns
returns c = c.last_writer.ensures ∙ later_writer c.args.table.now c.args.s c.args.key.now c.args.self.now.entries c.above.result.now c.above.ensures
