use Rattle.std.proofs.Common.{◌≡◌, ◌<◌, [], List, length, filter, sym, ◌∙◌, subst, arith}
use Rattle.std.specs.Prelude.{IfOk}
use Rattle.lv_values.specs.declared.value.Value.{Value}
use Rattle.lv_viewrows.specs.Kept.{ViewKept, shown}
use Rattle.lv_store.specs.declared.pending.Difference.{Difference}
use Rattle.lv_store.specs.Pending.{TakesEach, pending_at}
use Rattle.lv_store.specs.Kept.{no_rows, rows_in}
use Rattle.lv_store.proofs.OwnReads.{rows_long}
use Rattle.lv_store.proofs.Steps.{at_any}
use Rattle.lv_store.proofs.TriedRows.{kept_pass}
use Rattle.lv_store.proofs.store.Store.view_rows.Goals as goal

pub returns-clause-rows : goal.returns-clause-rows
returns-clause-rows g c = λ floor last take.
    let p = c.args.self.now in
    let view = c.args.view in
    let whole = c.requires.whole in
    let pending = c.args.pending.now in
    let rows = p.rows.list in
    let test = g.T.Test.passed c.args.test.now in
    let lt : view < length rows = omega (arith, c.requires.view, rows_long p whole.world whole.stands) in
    let here : c.get-rows.result.now ≡ rows_in rows view = c.get-rows.ensures ∙ at_any rows view c.get-rows.result.now no_rows lt in
    let own : c.as_slice-differences.result.now ≡ pending_at pending view = c.as_slice-differences.ensures ∙ c.get.ensures ∙ at_any pending view c.get.result.now [] (omega (arith, lt, c.requires.pending.can.all)) in
    let taken : TakesEach floor c.as_slice-differences.result.now c.get-rows.result.now (rows_in last view) =
    subst (λ (k : ViewKept). TakesEach floor c.as_slice-differences.result.now k (rows_in last view)) (sym here)
    (subst (λ (l : List Difference). TakesEach floor l (rows_in rows view) (rows_in last view)) (sym own) (take.each view lt)) in
    kept_pass p c.args.session view last test c.rows_with.result (sym c.has_written.ensures ∙ c.if-has_written.false)
    (subst (λ n. IfOk c.rows_with.result (λ (found : List (List Value)). found ≡ filter test (shown n (rows_in last view)))) (c.snapshot-snapshot.ensures.live c.requires.live) (c.rows_with.ensures floor (rows_in last view) taken))
