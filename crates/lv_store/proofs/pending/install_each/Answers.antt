use Rattle.lv_store.proofs.PendingRows.{taken_start}
use Rattle.lv_store.proofs.pending.install_each.Goals as goal

pub loop-differences-init : goal.loop-differences-init
loop-differences-init c = taken_start c.args.floor c.args.pending c.args.views.now c.requires.can
