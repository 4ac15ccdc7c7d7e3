use Rattle.std.proofs.Common.{◌-◌, length, sym, ap, ◌∙◌}
use Rattle.std.specs.Ordering.{is_lt}
use Rattle.lv_near.proofs.Ordered.{above_last, some_last}
use Rattle.lv_near.proofs.ordering.is_above.Goals as goal

pub returns-in-Some : goal.returns-in-Some
returns-in-Some c =
    c.is_lt.ensures ∙ ap is_lt c.compare_keys.ensures
    ∙ sym (above_last c.args.key.now c.args.row.now c.args.rows.now (length c.args.rows.now - 1) c.in-Some.last.now (some_last c.args.rows.now c.in-Some.last.now (sym c.in-Some.ensures.value)) (sym c.in-Some.ensures.value))
