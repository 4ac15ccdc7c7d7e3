use Rattle.std.proofs.Common.{◌≡◌, List, [], filter, sym, ap, ◌∙◌, subst}
use Rattle.std.specs.List.{AllByRecursion}
use Rattle.std.proofs.lemmas.Result.{IfOk-weaker}
use Rattle.lv_values.specs.declared.value.Value.{Value}
use Rattle.lv_schema.specs.declared.signed.SignedRow.{SignedRow}
use Rattle.lv_schema.proofs.Apart.{all_true}
use Rattle.lv_viewrows.specs.Kept.{ViewKept, groups_at, rows_listed, shown}
use Rattle.lv_viewrows.specs.Merged.{AllFitAt, merged}
use Rattle.lv_viewrows.proofs.Merging.{merged_none}
use Rattle.lv_viewrows.proofs.ReadAt.{groups_read, order_read}
use Rattle.lv_viewrows.proofs.viewrows.ViewRows.read_passing.Goals as goal

pub rows_passing-requires-clause-order : goal.rows_passing-requires-clause-order
rows_passing-requires-clause-order g c = order_read c.self.view_is c.self.invariant c.args.n _ c.versions_at.ensures

pub rows_passing-requires-clause-fit : goal.rows_passing-requires-clause-fit
rows_passing-requires-clause-fit g c =
    let list = c.versions_at.result in
    subst (λ (l : List SignedRow). AllByRecursion (AllFitAt c.args.n l) list) (sym c.new-changes.ensures) (all_true (AllFitAt c.args.n []) (λ v there. tt) list)

pub returns : goal.returns
returns g c =
    let s = c.self.inside in
    let p = g.T.Test.passed c.args.test.now in
    let n = c.args.n in
    let now = groups_at n c.versions_at.result in
    let shows =
    ap (λ (l : List SignedRow). filter p (rows_listed s.def (merged l now))) c.new-changes.ensures
    ∙ ap (λ (groups : List SignedRow). filter p (rows_listed s.def groups)) (merged_none now)
    ∙ ap (λ (groups : List SignedRow). filter p (rows_listed s.def groups)) (groups_read c.self.view_is c.self.invariant n _ c.versions_at.ensures)
    ∙ ap (λ (k : ViewKept). filter p (shown n k)) c.self.view_is in
    IfOk-weaker c.rows_passing.result (λ (found : List (List Value)). found ≡ filter p (rows_listed s.def (merged c.new-changes.result now))) (λ (found : List (List Value)). found ≡ filter p (shown n c.args.self.now))
    (λ (found : List (List Value)) e. e ∙ shows) c.rows_passing.ensures
