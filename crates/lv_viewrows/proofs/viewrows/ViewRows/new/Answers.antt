use Rattle.std.proofs.Common.{◌≡◌, List, map, sym, ap, ◌∙◌, subst}
use Rattle.lv_values.specs.Ascending.{ascending}
use Rattle.lv_values.specs.Order.{row_cmp}
use Rattle.lv_values.specs.OrderLaws.{row_total}
use Rattle.lv_schema.proofs.Apart.{ascends_ascending}
use Rattle.lv_viewrows.specs.declared.version.GroupVersion.{GroupVersion}
use Rattle.lv_viewrows.specs.Kept.{groups_at, one_row, rows_listed, version_from}
use Rattle.lv_viewrows.specs.Standing.{AreVersions}
use Rattle.lv_viewrows.proofs.Changes.{RowsAscend}
use Rattle.lv_viewrows.proofs.Installing.{first_groups, first_kept}
use Rattle.lv_viewrows.proofs.Keeping.{join_listed}
use Rattle.lv_viewrows.proofs.RowsOfJoins.{one_rows_are, one_rows_ascend, one_rows_change, rows_apart, rows_of_ones, versions_of_ones}
use Rattle.lv_viewrows.proofs.viewrows.ViewRows.new.Goals as goal
use Rattle.lv_viewrows.proofs.viewrows.ViewRows.new.Goals.{In_ok-versions}

pub first_versions-requires : goal.first_versions-requires
first_versions-requires c =
    let sorted = ascending row_cmp c.args.rows in
    let up = ascends_ascending row_total c.args.rows (rows_apart c.args.rows c.requires.distinct) in
    subst RowsAscend (sym (c.in_ok-row_groups.ensures ∙ ap (map one_row) c.sort.ensures)) (one_rows_ascend sorted up)

made : (c : In_ok-versions) → c.in_ok-versions.versions.list ≡ map (version_from 0) (map one_row (ascending row_cmp c.args.rows))
made c = c.in_ok-versions.ensures ∙ ap (map (version_from 0)) (c.in_ok-row_groups.ensures ∙ ap (map one_row) c.sort.ensures)

pub invariant_of-result : goal.invariant_of-result
invariant_of-result c =
    let sorted = ascending row_cmp c.args.rows in
    let up = ascends_ascending row_total c.args.rows (rows_apart c.args.rows c.requires.distinct) in
    subst (AreVersions c.args.def c.args.point) (sym (made (goal.at.invariant_of-result c).In_ok-versions)) (first_kept c.args.def c.args.point (map one_row sorted) (one_rows_ascend sorted up) (one_rows_change sorted) (λ e. one_rows_are sorted))

pub returns-clause-versions : goal.returns-clause-versions
returns-clause-versions c = made (goal.at.returns-clause-versions c).In_ok-versions ∙ versions_of_ones (ascending row_cmp c.args.rows)

pub returns-clause-rows : goal.returns-clause-rows
returns-clause-rows c = λ n.
    let sorted = ascending row_cmp c.args.rows in
    ap (λ (l : List GroupVersion). rows_listed c.args.def (groups_at n l)) (made (goal.at.returns-clause-rows c).In_ok-versions)
    ∙ ap (rows_listed c.args.def) (first_groups n (map one_row sorted))
    ∙ join_listed c.args.def (map one_row sorted) c.requires.join
    ∙ rows_of_ones sorted
