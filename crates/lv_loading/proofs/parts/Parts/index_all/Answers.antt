use Rattle.std.proofs.Common.{◌≡◌, ◌∙◌, ◌<◌, true, below_more, length, sym, ap, subst, arith}
use Rattle.std.specs.Prelude.{nat_lt}
use Rattle.std.specs.List.{list_all}
use Rattle.lv_schema.specs.declared.view.ViewDef.{ViewDef}
use Rattle.lv_schema.specs.World.{view_at}
use Rattle.lv_near.specs.Orders.{HasLinkIndexes}
use Rattle.lv_loading.specs.declared.parts.Parts.{Parts}
use Rattle.lv_loading.proofs.MadeViews.{links_stay, tables_there, whole_still}
use Rattle.lv_loading.proofs.parts.Parts.index_all.Goals as goal

pub index_links-requires : goal.index_links-requires
index_links-requires c =
    let p = c.loop-view.self in
    let there : c.loop-view.view < length p.schema.views = omega (arith, c.loop-view-test.true, c.views-view-end.ensures.count, ap (λ (q : Parts). length q.schema.views) c.loop-view.invariant.same) in
    let whole = whole_still c.args.self.now p c.loop-view.invariant.same c.loop-view.invariant.reindexed c.requires.whole in
    subst (λ (d : ViewDef). list_all (λ t. nat_lt t (length p.base.tables)) d.tables ≡ true) (sym c.view.ensures) (tables_there p whole.0 whole.1 c.loop-view.view there)

pub loop-view-preserved : goal.loop-view-preserved
loop-view-preserved c =
    let p = c.loop-view.self in
    let new = c.index_links.new.base in
    let added = c.in_ok-index_links.ensures in
    record {
      same = ap (λ (q : Parts). record q { base = new }) c.loop-view.invariant.same;
      reindexed = added.same ∙ c.loop-view.invariant.reindexed;
      kept = λ t columns h. added.kept t columns (c.loop-view.invariant.kept t columns h);
      there =
          below_more _ _ (λ v below. links_stay p.base new added.kept (view_at p.schema.views v) (c.loop-view.invariant.there v below))
          (subst (HasLinkIndexes new) c.view.ensures added.there);
    }
