use Rattle.lv_store.proofs.PendingRows.{can_any_room, takes_any_room}
use Rattle.lv_store.proofs.pending.copy_with.Goals as goal

pub install_copies-requires : goal.install_copies-requires
install_copies-requires c = can_any_room 0 c.args.differences.now c.args.rows.now c.in_ok-copy.copy c.in_ok-copy.ensures c.requires

pub returns : goal.returns
returns c = takes_any_room 0 c.args.differences.now c.args.rows.now c.in_ok-copy.copy c.install_copies.new.rows c.in_ok-copy.ensures c.in_ok-install_copies.ensures
