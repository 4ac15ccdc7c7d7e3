use Rattle.std.proofs.Common.{◌≡◌, List, length, true, sym, ◌∙◌, arith}
use Rattle.std.specs.List.{AllByRecursion}
use Rattle.std.proofs.Math.Path.{subst₂}
use Rattle.lv_values.specs.declared.value.Value.{Value}
use Rattle.lv_values.specs.Order.{row_cmp}
use Rattle.lv_schema.specs.declared.view.ViewDef.{ViewDef}
use Rattle.lv_schema.specs.Applicable.{AreNetted}
use Rattle.lv_schema.specs.Differences.{groups_over, summed_columns}
use Rattle.lv_schema.specs.Groups.{view_rows_over}
use Rattle.lv_schema.specs.Once.{Ascends}
use Rattle.lv_group.specs.Gathered.{has_tuples}
use Rattle.lv_stands.proofs.Whole.{last_is}
use Rattle.lv_made.specs.Views.{parts_at}
use Rattle.lv_store.specs.Kept.{kept, store_of}
use Rattle.lv_store.proofs.EvaluatedViews.{made_distinct, made_groups}
use Rattle.lv_store.proofs.store.Store.evaluated.Goals as goal

pub parts_at-requires-clause-kept : goal.parts_at-requires-clause-kept
parts_at-requires-clause-kept g c =
    let p = c.args.self.now in
    let w = c.requires.whole.world in
    let within = (last_is w (kept w.upkeep.journal (store_of p)) c.requires.whole.stands).1 in
    omega (arith, within, c.last-commit.ensures)

pub made_view-requires-clause-distinct : goal.made_view-requires-clause-distinct
made_view-requires-clause-distinct g c =
    let p = c.args.self.now in
    let parts = c.as_slice-2.ensures ∙ c.in_ok-parts.ensures ∙ (λ i. parts_at p.base (c.last-commit.ensures i) (c.as_slice.ensures i)) in
    subst₂ (λ (def : ViewDef) (parts : List (List (List Value))). Ascends row_cmp (view_rows_over def parts)) (sym c.in_ok-def.ensures) (sym parts)
    (made_distinct p c.args.def.now c.requires.bound c.requires.whole.world c.requires.whole.stands c.view_rows_are_distinct.ensures)

pub made_view-requires-clause-netted : goal.made_view-requires-clause-netted
made_view-requires-clause-netted g c =
    let p = c.args.self.now in
    let parts = c.as_slice-2.ensures ∙ c.in_ok-parts.ensures ∙ (λ i. parts_at p.base (c.last-commit.ensures i) (c.as_slice.ensures i)) in
    subst₂ (λ (def : ViewDef) (parts : List (List (List Value))). AreNetted (length (summed_columns def)) (groups_over def parts)) (sym c.in_ok-def.ensures) (sym parts)
    (made_groups p c.args.def.now c.requires.bound c.requires.whole.world c.requires.whole.stands c.groups_can_be_kept.ensures).0

pub made_view-requires-clause-tuples : goal.made_view-requires-clause-tuples
made_view-requires-clause-tuples g c =
    let p = c.args.self.now in
    let parts = c.as_slice-2.ensures ∙ c.in_ok-parts.ensures ∙ (λ i. parts_at p.base (c.last-commit.ensures i) (c.as_slice.ensures i)) in
    subst₂ (λ (def : ViewDef) (parts : List (List (List Value))). AllByRecursion (λ g. has_tuples g ≡ true) (groups_over def parts)) (sym c.in_ok-def.ensures) (sym parts)
    (made_groups p c.args.def.now c.requires.bound c.requires.whole.world c.requires.whole.stands c.groups_can_be_kept.ensures).1
