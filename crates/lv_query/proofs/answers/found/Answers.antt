use Rattle.std.proofs.Common.{◌≡◌, ℕ, List, map, ap, sym, ◌∙◌}
use Rattle.std.specs.List.{sum_by}
use Rattle.std.proofs.lemmas.Result.{IfOk-weaker}
use Rattle.lv_schema.specs.declared.directed.SortedRow.{SortedRow}
use Rattle.lv_schema.specs.Answers.{sorted_row}
use Rattle.lv_schema.specs.Effects.{matching}
use Rattle.lv_schema.specs.JoinViews.{selected}
use Rattle.lv_schema.specs.Tuples.{Tuple}
use Rattle.lv_query.specs.Whole.{alone}
use Rattle.lv_query.proofs.WholeRows.{one_part}
use Rattle.lv_query.proofs.answers.found.Goals as goal

pub returns : goal.returns
returns c =
    let query = c.args.query.now in
    let rows = c.replace-rows.result in
    let same : map alone (matching query.cond rows) ≡ selected query.cond c.args.parts = one_part query.cond c.args.parts rows (sym c.len.ensures ∙ c.if-len-ne1.false) c.replace-rows.ensures.taken in
    IfOk-weaker c.found_among.result (λ (found : List SortedRow). found ≡ map (sorted_row query) (map alone (matching query.cond rows)))
    (λ (found : List SortedRow). (weight : SortedRow → ℕ) → sum_by weight found ≡ sum_by weight (map (sorted_row query) (selected query.cond c.args.parts)))
    (λ (found : List SortedRow) e weight. ap (sum_by weight) (e ∙ ap (λ (ts : List Tuple). map (sorted_row query) ts) same))
    c.found_among.ensures
