use Rattle.std.proofs.Common.{◌≡◌, ℕ, ◌+◌, ◌≤◌, List, length, get_or, Some, slice_get, refl, sym, ap, ◌∙◌, subst, arith}
use Rattle.lv_schema.specs.declared.view.ViewDef.{ViewDef}
use Rattle.lv_schema.specs.Databases.{rows_of}
use Rattle.lv_schema.specs.World.{snap, table_at, view_at}
use Rattle.lv_joining.specs.Joining.{HaveStandIns, linked_columns}
use Rattle.lv_joining.proofs.KeptSteps.{all_below, at_place, one_below}
use Rattle.lv_joining.proofs.steps.aliases_keep_links.Goals as goal

pub loop-table-preserved : goal.loop-table-preserved
loop-table-preserved c =
    let inv = c.loop-table.invariant in
    let n = c.loop-table.table-index in
    let step = c.args.step in
    let items = c.as_slice-table-items.result.now in
    let t = get_or items n 0 in
    let there : slice_get c.args.def.now.tables n ≡ Some t = ap (λ (l : List ℕ). slice_get l n) (sym inv.tables) ∙ at_place items n c.loop-table-test.true in
    record {
      alias = ap (λ m. m + 1) inv.alias;
      tables = inv.tables;
      each = λ w kept is.
          let at : slice_get (view_at w.visible.views step.view).tables c.loop-table.alias ≡ Some t = ap (λ (d : ViewDef). slice_get d.tables c.loop-table.alias) (sym is) ∙ ap (slice_get c.args.def.now.tables) inv.alias ∙ there in
          let told = c.in_ok-alias_keeps_links.ensures w kept at in
          one_below (λ i u. HaveStandIns (table_at w.visible.tables u).key (linked_columns c.args.links.now i) (rows_of (snap w.visible step.lo) u) (rows_of (snap w.visible step.hi) u)) c.args.def.now.tables n t
          (inv.each w kept is) there
          (subst (λ cols. HaveStandIns (table_at w.visible.tables t).key cols (rows_of (snap w.visible step.lo) t) (rows_of (snap w.visible step.hi) t)) (λ i. linked_columns c.args.links.now (inv.alias i)) (told.0 c.if-not-branch.false));
    }

pub returns : goal.returns
returns c = λ w kept is. (
  λ yes.
      let inv = c.loop-table.invariant in
      let step = c.args.step in
      let le : length c.args.def.now.tables ≤ c.loop-table.table-index = omega (arith, c.loop-table-test.false, ap (λ (l : List ℕ). length l) inv.tables) in
      all_below (λ i u. HaveStandIns (table_at w.visible.tables u).key (linked_columns c.args.links.now i) (rows_of (snap w.visible step.lo) u) (rows_of (snap w.visible step.hi) u)) c.args.def.now.tables c.loop-table.table-index le (inv.each w kept is),
  λ all. refl,
)
