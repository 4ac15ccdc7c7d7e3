use Rattle.std.proofs.Common.{◌≡◌, List, filter, ap, ◌∙◌}
use Rattle.std.proofs.lemmas.Result.{IfOk-weaker}
use Rattle.lv_values.specs.declared.value.Value.{Value}
use Rattle.lv_schema.specs.declared.signed.SignedRow.{SignedRow}
use Rattle.lv_viewrows.specs.Changed.{groups_with}
use Rattle.lv_viewrows.specs.Kept.{ViewKept, groups_at, rows_listed}
use Rattle.lv_viewrows.specs.Merged.{AllFitAt, merged}
use Rattle.lv_viewrows.proofs.Installing.{now_ascend, now_change}
use Rattle.lv_viewrows.proofs.Keeping.{meet}
use Rattle.lv_viewrows.proofs.Merging.{all_fit, merged_is}
use Rattle.lv_viewrows.proofs.ReadAt.{all_read, groups_read, order_read}
use Rattle.lv_viewrows.proofs.viewrows.ViewRows.preview_passing.Goals as goal

pub rows_passing-requires-clause-order : goal.rows_passing-requires-clause-order
rows_passing-requires-clause-order g c = order_read c.self.view_is c.self.invariant c.self.inside.at _ c.versions_at.ensures

pub rows_passing-requires-clause-fit : goal.rows_passing-requires-clause-fit
rows_passing-requires-clause-fit g c =
    let s = c.self.inside in
    let hi = c.args.hi in
    let list = c.args.changes.now in
    all_read c.self.view_is c.self.invariant s.at _ c.versions_at.ensures (AllFitAt s.at list) (all_fit s.at hi list s.versions.list c.self.invariant.each (meet c.self.view_is c.self.invariant hi list c.requires.change))

pub returns : goal.returns
returns g c =
    let s = c.self.inside in
    let list = c.args.changes.now in
    let p = g.T.Test.passed c.args.test.now in
    let now = groups_at s.at s.versions.list in
    let found_now = groups_at s.at c.versions_at.result in
    let shows =
    ap (λ (groups : List SignedRow). filter p (rows_listed s.def (merged list groups))) (groups_read c.self.view_is c.self.invariant s.at _ c.versions_at.ensures)
    ∙ ap (λ (groups : List SignedRow). filter p (rows_listed s.def groups))
    (merged_is list now (now_ascend s.def s.at s.versions.list c.self.invariant) (now_change s.def s.at s.versions.list c.self.invariant) c.requires.change.netted.ascend)
    ∙ ap (λ (k : ViewKept). filter p (rows_listed k.def (groups_with list (groups_at k.at k.versions)))) c.self.view_is in
    IfOk-weaker c.rows_passing.result (λ (found : List (List Value)). found ≡ filter p (rows_listed s.def (merged list found_now)))
    (λ (found : List (List Value)). found ≡ filter p (rows_listed c.args.self.now.def (groups_with list (groups_at c.args.self.now.at c.args.self.now.versions)))) (λ (found : List (List Value)) e. e ∙ shows) c.rows_passing.ensures
