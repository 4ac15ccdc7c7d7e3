use Rattle.std.proofs.Common.{◌<◌, [], filter, refl, sym, subst, ap, length, ◌∙◌, arith}
use Rattle.lv_shelf.specs.Shelves.{other_at}
use Rattle.lv_shelf.specs.Chains.{joined}
use Rattle.lv_versions.specs.Versions.{AreChains, ends_after}
use Rattle.lv_schema.specs.declared.version.RowVersion.{RowVersion}
use Rattle.lv_shelf.proofs.Orders.{nth_map}
use Rattle.lv_versions.proofs.Current.{open_stay}
use Rattle.lv_versions.proofs.Cleaning.{over_falls}
use Rattle.lv_versions.proofs.DroppingChains.{chained_kept, chains_over}
use Rattle.lv_versions.proofs.Keeping.{no_orders, orders_have, orders_kept, some_orders}
use Rattle.lv_versions.proofs.dropping.drop_over.Goals as goal

pub returns-then-orders-lt-INDEXES-clause-kept : goal.returns-then-orders-lt-INDEXES-clause-kept
returns-then-orders-lt-INDEXES-clause-kept c =
    let old = c.args.versions.now in
    let none = no_orders c.args.positions.now c.args.indexes.now old.spare old.others (joined old.chains) (omega (arith, c.orders.ensures, c.if-orders-lt-INDEXES.true)) c.requires.orders in
    rw none refl

pub cut_in-many-requires-clause-falls : goal.cut_in-many-requires-clause-falls
cut_in-many-requires-clause-falls c =
    let old = c.args.versions.now in
    let some : 1 < length old.others = let h = c.if-orders-lt-INDEXES.false in omega (arith, c.orders.ensures) in
    over_falls c.args.floor (other_at old.others 0) (some_orders c.args.positions.now c.args.indexes.now old.spare old.others (joined old.chains) some c.requires.orders).ended.ends

pub drop_each-requires-clause-orders : goal.drop_each-requires-clause-orders
drop_each-requires-clause-orders c =
    let old = c.args.versions.now in
    let some : 1 < length old.others = let h = c.if-orders-lt-INDEXES.false in omega (arith, c.orders.ensures) in
    some_orders c.args.positions.now c.args.indexes.now old.spare old.others (joined old.chains) some c.requires.orders

pub returns-else-many-le-FEW-clause-orders : goal.returns-else-many-le-FEW-clause-orders
returns-else-many-le-FEW-clause-orders c =
    let ps = c.args.positions.now in
    let cs = c.args.indexes.now in
    let old = c.args.versions.now in
    let now = c.keep.new.self in
    let some : 1 < length old.others = let h = c.if-orders-lt-INDEXES.false in omega (arith, c.orders.ensures) in
    orders_have ps cs now.spare now.others (joined now.chains)
    (rw (c.keep.ensures.others, c.keep.ensures.joined) (orders_kept ps cs (λ v. ends_after c.args.floor v.until) old.others (joined old.chains) (some_orders ps cs old.spare old.others (joined old.chains) some c.requires.orders)))

pub returns-else-many-le-FEW-clause-current : goal.returns-else-many-le-FEW-clause-current
returns-else-many-le-FEW-clause-current c =
    let old = c.args.versions.now in
    let kept = λ (v : RowVersion). ends_after c.args.floor v.until in
    ap (λ l. other_at l 1) c.keep.ensures.others ∙ nth_map (filter kept) old.others 1 [] [] refl ∙ open_stay c.args.floor (other_at old.others 1) c.requires.unended

pub keep-requires : goal.keep-requires
keep-requires c =
    let old = c.args.versions.now in
    chains_over c.args.positions.now c.args.floor old.chains c.requires.stand c.requires.chained c.requires.lived

pub returns-else-many-le-FEW-clause-chained : goal.returns-else-many-le-FEW-clause-chained
returns-else-many-le-FEW-clause-chained c =
    subst (AreChains c.args.positions.now) (sym c.keep.ensures.kept) (chained_kept c.args.positions.now (λ v. ends_after c.args.floor v.until) c.args.versions.now.chains c.requires.chained)
