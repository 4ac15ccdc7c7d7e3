use Rattle.std.proofs.Common.{◌≡◌, List, map, sym, ap, ◌∙◌, subst}
use Rattle.lv_values.specs.Ascending.{ascending}
use Rattle.lv_values.specs.Order.{row_cmp}
use Rattle.lv_schema.specs.declared.signed.SignedRow.{SignedRow}
use Rattle.lv_group.specs.Gathered.{listed_values}
use Rattle.lv_viewrows.specs.declared.version.GroupVersion.{GroupVersion}
use Rattle.lv_viewrows.specs.Kept.{groups_at, rows_listed, version_from}
use Rattle.lv_viewrows.specs.Standing.{AreVersions}
use Rattle.lv_viewrows.proofs.Installing.{first_groups, first_kept}
use Rattle.lv_viewrows.proofs.Keeping.{group_listed, not_either}
use Rattle.lv_viewrows.proofs.viewrows.ViewRows.grouped.Goals as goal

pub invariant_of-result : goal.invariant_of-result
invariant_of-result c =
    let groups = c.args.groups.groups in
    let made : c.in_ok-versions.versions.list ≡ map (version_from 0) c.args.groups.groups = c.in_ok-versions.ensures ∙ ap (map (version_from 0)) c.into_groups.ensures in
    subst (AreVersions c.args.def c.args.point) (sym made) (first_kept c.args.def c.args.point groups c.requires.netted.ascend c.requires.tuples (λ e. absurd (not_either (sym c.requires.grouped ∙ e))))

pub returns-clause-rows : goal.returns-clause-rows
returns-clause-rows c = λ n.
    let groups = c.args.groups.groups in
    let made : c.in_ok-versions.versions.list ≡ map (version_from 0) c.args.groups.groups = c.in_ok-versions.ensures ∙ ap (map (version_from 0)) c.into_groups.ensures in
    ap (λ (l : List GroupVersion). rows_listed c.args.def (groups_at n l)) made
    ∙ ap (rows_listed c.args.def) (first_groups n groups)
    ∙ group_listed c.args.def groups c.requires.grouped
    ∙ (λ i. ascending row_cmp (map (λ (g : SignedRow). listed_values (sym c.requires.of_view.by i) g (sym c.requires.of_view.items i) g.sums) groups))
