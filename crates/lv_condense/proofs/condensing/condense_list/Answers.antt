use Rattle.std.proofs.Common.{◌≡◌, true, false, List, refl, sym, subst}
use Rattle.std.specs.Prelude.{IfOk, Option}
use Rattle.std.specs.List.Sorted.{IsPermutation, IsSorted, IsStable}
use Rattle.lv_values.specs.declared.value.Value.{Value}
use Rattle.lv_schema.specs.declared.action.Action.{Action}
use Rattle.lv_schema.specs.declared.table.TableDef.{TableDef}
use Rattle.lv_schema.specs.Condensed.{condensed}
use Rattle.lv_schema.specs.Once.{Ascends}
use Rattle.lv_schema.specs.World.{table_at}
use Rattle.lv_condense.specs.Touches.{Alike, ATouch, by_key, gained_in, lost_in, Rises, touch_cmp, touched}
use Rattle.lv_condense.proofs.NetByKey.{by_key_kept, whole, whole_net}
use Rattle.lv_condense.proofs.Runs.{rises_from_ascends, rises_from_sorted}
use Rattle.lv_condense.proofs.condensing.condense_list.Given as given
use Rattle.lv_condense.proofs.condensing.condense_list.Goals as goal

pub gather-requires : goal.gather-requires
gather-requires g c κs =
    let up = c.requires c.if-ascend.true in (
      (refl, tt),
      (subst Rises (sym c.deref.ensures.value) (rises_from_ascends c.args.list.items up), λ yes. subst (Ascends touch_cmp) (sym c.deref.ensures.value) up),
    )

pub gather-requires-2 : goal.gather-requires-2
gather-requires-2 g c κs =
    ((refl, tt), (rises_from_sorted c.deref-2.result.now (subst (IsSorted touch_cmp) (sym c.deref-2.ensures.value) c.in_ok-sort.ensures.sorted), λ other. never other))
  where
    never : false ≡ true → Ascends touch_cmp c.deref-2.result.now
    never other = cc

pub returns-then-ascend-clause-condensed : goal.returns-then-ascend-clause-condensed
returns-then-ascend-clause-condensed g c =
    whole g.G.Gathers.net c.gather.result c.args.table.now c.args.list.items c.deref.result.now (λ i. by_key lost_in (c.deref.ensures.value i)) (λ i. by_key gained_in (c.deref.ensures.value i)) c.gather.ensures.lost c.gather.ensures.gained

pub returns-then-ascend-clause-net : goal.returns-then-ascend-clause-net
returns-then-ascend-clause-net g c =
    whole_net g.G.Gathers.net c.gather.result c.args.table.now c.args.list.items
    (whole g.G.Gathers.net c.gather.result c.args.table.now c.args.list.items c.deref.result.now (λ i. by_key lost_in (c.deref.ensures.value i)) (λ i. by_key gained_in (c.deref.ensures.value i)) c.gather.ensures.lost c.gather.ensures.gained)

kept : (g : given.Over) (f : List ATouch → Option (List Value)) (c : goal.After-drop-list-2 g) → by_key f c.deref-2.result.now ≡ by_key f c.args.list.items
kept g f c =
    by_key_kept f c.args.list.items c.deref-2.result.now
    (subst (IsPermutation c.args.list.items) (sym c.deref-2.ensures.value) c.in_ok-sort.ensures.permutation)
    (subst (λ (ys : List ATouch). IsStable touch_cmp c.args.list.items ys) (sym c.deref-2.ensures.value) c.in_ok-sort.ensures.stable)

sorted : (g : given.Over) (c : goal.After-drop-list-2 g)
    → IfOk c.gather-2.result (λ net. (tables : List TableDef) (actions : List Action) → Alike c.args.list.items (touched c.args.table.now.key c.args.table.now.no actions) → table_at tables c.args.table.now.no ≡ c.args.table.now → g.G.Gathers.net net ≡ condensed tables actions c.args.table.now.no)
sorted g c = whole g.G.Gathers.net c.gather-2.result c.args.table.now c.args.list.items c.deref-2.result.now (kept g lost_in c) (kept g gained_in c) c.gather-2.ensures.lost c.gather-2.ensures.gained

pub returns-clause-condensed : goal.returns-clause-condensed
returns-clause-condensed g c = sorted g c

pub returns-clause-net : goal.returns-clause-net
returns-clause-net g c = whole_net g.G.Gathers.net c.gather-2.result c.args.table.now c.args.list.items (sorted g c)
