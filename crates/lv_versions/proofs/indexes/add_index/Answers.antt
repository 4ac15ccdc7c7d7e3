use Rattle.std.proofs.Common.{◌≡◌, ℕ, ◌+◌, ◌-◌, ◌<◌, ◌++◌, ◌∷◌, List, [], length, length-append, sym, ap, ap₂, subst, ◌∙◌, arith}
use Rattle.lv_shelf.specs.Cuts.{Apart}
use Rattle.lv_shelf.specs.Shelves.{other_at}
use Rattle.lv_schema.specs.declared.version.RowVersion.{RowVersion}
use Rattle.lv_shelf.specs.Chains.{joined}
use Rattle.lv_versions.specs.Versions.{AreChains, AreEnded, AreIndexed, AreOrders, Precedes}
use Rattle.lv_versions.proofs.Keeping.{orders_have, orders_more, other_new, other_past, some_orders}
use Rattle.lv_versions.proofs.indexes.add_index.Goals as goal

pub fill-requires : goal.fill-requires
fill-requires c =
    let ps = c.args.positions.now in
    let cs = c.args.indexes.now.list in
    let first = c.add_first.new.versions in
    let now = c.add_order.new.self in
    let none : List (List RowVersion) = [] ∷ [] in
    let some = some_orders ps cs first.spare first.others (joined first.chains) c.in_ok-add_first.ensures.there (c.add_first.ensures.orders ps cs c.requires.orders) in
    let added = c.in_ok-add_order.ensures.others in
    let there : 1 < length first.others = c.in_ok-add_first.ensures.there in
    let long : length now.others ≡ length first.others + 1 = ap length added ∙ length-append first.others none in
    let place : c.orders.result - 1 ≡ length first.others = omega (arith, c.orders.ensures, long) in
    let same = c.add_order.ensures.same ∙ c.add_first.ensures.same in
    let at : (k : ℕ) → other_at now.others k ≡ other_at first.others k = λ k. ap (λ (l : List (List RowVersion)). other_at l k) added ∙ other_new first.others k in
    record {
      stand = subst (λ (l : List (List RowVersion)). Apart (Precedes ps) (joined l)) (sym same) c.requires.stand;
      chained = subst (AreChains ps) (sym same) c.requires.chained;
      order = omega (arith, place, there);
      last = omega (arith, place, long);
      ended = subst (λ l. AreEnded l (joined now.chains)) (sym (at 0)) (subst (λ (l : List (List RowVersion)). AreEnded (other_at first.others 0) (joined l)) (sym c.add_order.ensures.same) some.ended);
      none = at (c.orders.result - 1) ∙ other_past first.others (c.orders.result - 1) (omega (arith, place));
    }

pub returns-clause-orders : goal.returns-clause-orders
returns-clause-orders c =
    let ps = c.args.positions.now in
    let cs = c.args.indexes.now.list in
    let first = c.add_first.new.versions in
    let now = c.fill.new.versions in
    let none : List (List RowVersion) = [] ∷ [] in
    let some = some_orders ps cs first.spare first.others (joined first.chains) c.in_ok-add_first.ensures.there (c.add_first.ensures.orders ps cs c.requires.orders) in
    let added = c.in_ok-add_order.ensures.others in
    let long : length c.add_order.new.self.others ≡ length first.others + 1 = ap length added ∙ length-append first.others none in
    let place : c.orders.result - 1 ≡ length first.others = omega (arith, c.orders.ensures, long) in
    let list : joined now.chains ≡ joined first.chains = ap (λ (l : List (List RowVersion)). joined l) (c.fill.ensures.same ∙ c.add_order.ensures.same) in
    let columns : c.push.new.self.list ≡ cs ++ c.args.columns.now ∷ [] = c.push.ensures.added ∙ ap₂ (λ l x. l ++ x ∷ []) c.reserve.ensures.same c.in_ok-index.ensures in
    orders_have ps c.push.new.self.list now.spare now.others (joined now.chains)
    (subst (λ l. AreOrders ps l now.others (joined now.chains)) (sym columns)
    (orders_more ps cs c.args.columns.now first.others now.others (joined now.chains) (subst (AreOrders ps cs first.others) (sym list) some) (c.fill.ensures.count ∙ long)
    (subst (λ k. AreIndexed c.args.columns.now ps (other_at now.others k) (joined now.chains)) place c.fill.ensures.filled)
    (λ k ne. c.fill.ensures.others k (λ e. ne (e ∙ place)) ∙ ap (λ l. other_at l k) added ∙ other_new first.others k)))
