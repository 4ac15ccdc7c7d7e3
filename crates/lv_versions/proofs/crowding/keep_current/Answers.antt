use Rattle.std.proofs.Common.{◌<◌, List, length, subst, sym}
use Rattle.lv_schema.specs.declared.version.RowVersion.{RowVersion}
use Rattle.lv_shelf.specs.Chains.{joined}
use Rattle.lv_versions.specs.Versions.{AreOrders}
use Rattle.lv_versions.proofs.Keeping.{orders_apart, orders_have, some_orders}
use Rattle.lv_versions.proofs.crowding.keep_current.Goals as goal

pub returns-clause-orders : goal.returns-clause-orders
returns-clause-orders c = λ cs h.
    let ps = c.args.positions.now in
    let old = c.args.versions.now in
    let now = c.enter_all.new.versions in
    let some : 1 < length old.others = c.is_crowded.ensures c.if-not-is_crowded.false in
    orders_have ps cs now.spare now.others (joined now.chains)
    (subst (λ (l : List (List RowVersion)). AreOrders ps cs now.others (joined l)) (sym c.enter_all.ensures.same)
    (orders_apart ps cs old.others now.others (joined old.chains) c.enter_all.ensures.count c.enter_all.ensures.others (some_orders ps cs old.spare old.others (joined old.chains) some h)))
