use Rattle.lv_store.proofs.PendingRows.{all_take_room, can_all_room}
use Rattle.lv_store.proofs.pending.take_each.Goals as goal

pub install_each-requires-clause-can : goal.install_each-requires-clause-can
install_each-requires-clause-can c = can_all_room c.args.floor c.args.pending c.args.views.now c.reserve_each.new.views c.in_ok-reserve_each.ensures.same c.requires

pub returns-clause-done : goal.returns-clause-done
returns-clause-done c = all_take_room c.args.floor c.args.pending c.args.views.now c.reserve_each.new.views c.install_each.new.views c.in_ok-reserve_each.ensures.same c.install_each.ensures
