use Rattle.std.proofs.Common.{◌≡◌, List, true, length, sym, ap, ◌∙◌}
use Rattle.std.specs.Prelude.{slice_index}
use Rattle.std.specs.List.{AllByRecursion}
use Rattle.std.proofs.Math.Path.{subst₂}
use Rattle.lv_values.specs.declared.value.Value.{Value}
use Rattle.lv_values.specs.Order.{row_cmp}
use Rattle.lv_schema.specs.declared.view.ViewDef.{ViewDef}
use Rattle.lv_schema.specs.Applicable.{AreNetted}
use Rattle.lv_schema.specs.Differences.{groups_over, summed_columns}
use Rattle.lv_schema.specs.Groups.{view_rows_over}
use Rattle.lv_schema.specs.Once.{Ascends}
use Rattle.lv_schema.specs.World.{view_at}
use Rattle.lv_group.specs.Gathered.{has_tuples}
use Rattle.lv_made.specs.Views.{parts_at}
use Rattle.lv_loading.proofs.MadeViews.{distinct_there, netted_there, tuples_there}
use Rattle.lv_loading.proofs.parts.Parts.evaluated.Goals as goal

pub made_view-requires-clause-distinct : goal.made_view-requires-clause-distinct
made_view-requires-clause-distinct g c =
    let p = c.args.self.now in
    let def = c.in_ok-copied.ensures ∙ c.view-def.ensures in
    let tables = c.as_slice.ensures ∙ ap (λ (d : ViewDef). d.tables) c.view-def.ensures in
    let parts : c.as_slice-2.result.now ≡ parts_at p.base (slice_index p.upkeep.kept.points c.args.view) (view_at p.schema.views c.args.view).tables =
    c.as_slice-2.ensures ∙ c.in_ok-parts.ensures ∙ (λ i. parts_at p.base (c.point-commit.ensures i) (tables i)) in
    subst₂ (λ (def : ViewDef) (parts : List (List (List Value))). Ascends row_cmp (view_rows_over def parts)) (sym def) (sym parts)
    (distinct_there p c.requires.whole.0 c.requires.whole.1 c.args.view c.requires.in_use)

pub made_view-requires-clause-netted : goal.made_view-requires-clause-netted
made_view-requires-clause-netted g c =
    let p = c.args.self.now in
    let def = c.in_ok-copied.ensures ∙ c.view-def.ensures in
    let tables = c.as_slice.ensures ∙ ap (λ (d : ViewDef). d.tables) c.view-def.ensures in
    let parts : c.as_slice-2.result.now ≡ parts_at p.base (slice_index p.upkeep.kept.points c.args.view) (view_at p.schema.views c.args.view).tables =
    c.as_slice-2.ensures ∙ c.in_ok-parts.ensures ∙ (λ i. parts_at p.base (c.point-commit.ensures i) (tables i)) in
    subst₂ (λ (def : ViewDef) (parts : List (List (List Value))). AreNetted (length (summed_columns def)) (groups_over def parts)) (sym def) (sym parts)
    (netted_there p c.requires.whole.0 c.requires.whole.1 c.args.view c.requires.in_use)

pub made_view-requires-clause-tuples : goal.made_view-requires-clause-tuples
made_view-requires-clause-tuples g c =
    let p = c.args.self.now in
    let def = c.in_ok-copied.ensures ∙ c.view-def.ensures in
    let tables = c.as_slice.ensures ∙ ap (λ (d : ViewDef). d.tables) c.view-def.ensures in
    let parts : c.as_slice-2.result.now ≡ parts_at p.base (slice_index p.upkeep.kept.points c.args.view) (view_at p.schema.views c.args.view).tables =
    c.as_slice-2.ensures ∙ c.in_ok-parts.ensures ∙ (λ i. parts_at p.base (c.point-commit.ensures i) (tables i)) in
    subst₂ (λ (def : ViewDef) (parts : List (List (List Value))). AllByRecursion (λ g. has_tuples g ≡ true) (groups_over def parts)) (sym def) (sym parts)
    (tuples_there p c.requires.whole.0 c.requires.whole.1 c.args.view c.requires.in_use)
