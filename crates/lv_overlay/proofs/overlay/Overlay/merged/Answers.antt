use Rattle.std.proofs.Common.{◌≡◌, List, sym, ◌∙◌, subst}
use Rattle.std.specs.Prelude.{IfOk}
use Rattle.lv_values.specs.declared.value.Value.{Value}
use Rattle.lv_overlay.proofs.MergeSteps.{alone}
use Rattle.lv_overlay.proofs.RowsOver.{all_from_table, rows_from}
use Rattle.lv_overlay.proofs.overlay.Overlay.merged.Goals as goal

pub merge-requires-clause-table : goal.merge-requires-clause-table
merge-requires-clause-table c =
    let t = c.args.table.now.no in
    let first = c.below-first.result in
    let list = c.args.self.now.list in
    all_from_table c.args.table.now.key t first list c.below-first.ensures.cut

pub returns-then-is_of : goal.returns-then-is_of
returns-then-is_of c =
    let t = c.args.table.now.no in
    let first = c.below-first.result in
    let list = c.args.self.now.list in
    subst (λ (l : List (List Value)). IfOk c.merge.result (λ rows. rows ≡ l)) (sym (rows_from c.args.table.now.key t first list c.args.base c.below-first.ensures.cut)) c.merge.ensures

pub returns-else-is_of : goal.returns-else-is_of
returns-else-is_of c =
    let key = c.args.table.now.key in
    let t = c.args.table.now.no in
    let first = c.below-first.result in
    let list = c.args.self.now.list in
    sym (rows_from key t first list c.args.base c.below-first.ensures.cut
    ∙ alone key t list first c.below-first.ensures.order c.args.base (all_from_table key t first list c.below-first.ensures.cut) (sym c.is_of.ensures.is ∙ c.if-is_of.false) c.requires)
