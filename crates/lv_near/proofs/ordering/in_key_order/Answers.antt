use Rattle.std.proofs.Common.{◌≡◌, sym, ap, ◌∙◌}
use Rattle.std.proofs.lemmas.List.Sorted.{list_any-IsPermutation}
use Rattle.std.proofs.lemmas.Result.{IfOk-weaker}
use Rattle.lv_values.specs.Order.{row_eq}
use Rattle.lv_schema.specs.Nets.{has_row}
use Rattle.lv_schema.proofs.ChangeLists.{ARow}
use Rattle.lv_near.proofs.ordering.in_key_order.Goals as goal

pub each_once-requires-clause-own : goal.each_once-requires-clause-own
each_once-requires-clause-own c = λ q r hq hr e.
    let same = λ (x : ARow). list_any-IsPermutation (row_eq x) c.into_vec-sorted.result.items c.sort_by_key.new.rows.items c.sort_by_key.ensures.moved in
    c.requires q r (ap (has_row q) (sym c.into_vec-sorted.ensures) ∙ same q ∙ hq) (ap (has_row r) (sym c.into_vec-sorted.ensures) ∙ same r ∙ hr) e

pub returns-clause-same : goal.returns-clause-same
returns-clause-same c =
    IfOk-weaker c.each_once.result (λ out. (q : ARow) → has_row q out ≡ has_row q c.sort_by_key.new.rows.items) (λ out. (q : ARow) → has_row q out ≡ has_row q c.args.rows)
    (λ out h q. h q ∙ sym (list_any-IsPermutation (row_eq q) c.into_vec-sorted.result.items c.sort_by_key.new.rows.items c.sort_by_key.ensures.moved) ∙ ap (has_row q) c.into_vec-sorted.ensures)
    c.each_once.ensures.same
