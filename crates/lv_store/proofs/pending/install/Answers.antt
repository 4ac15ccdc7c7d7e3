use Rattle.lv_store.proofs.Steps.{any_room}
use Rattle.lv_store.proofs.pending.install.Goals as goal

pub install-requires-clause-change : goal.install-requires-clause-change
install-requires-clause-change c =
    let room = c.reserve.ensures in
    any_room c.args.rows.now c.reserve.new.self c.args.hi c.args.changes (λ i. record { def = room.def i; at = room.at i; versions = room.same i; spare = c.reserve.new.self.spare }) c.requires
