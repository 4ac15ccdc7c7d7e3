use Rattle.std.proofs.Common.{rules}
use Rattle.std.specs.Ordering.{is_lt}
use Rattle.std.proofs.lemmas.Fn.{always_returns_same}
use Rattle.std.proofs.lemmas.List.Sorted.{ranks_by}
use Rattle.lv_values.specs.Order.{row_cmp}
use Rattle.lv_values.specs.OrderLaws.{row_total}
use Rattle.lv_values.specs.Rows.{values_at}
use Rattle.lv_schema.proofs.ChangeLists.{ARow}
use Rattle.lv_near.proofs.ordering.sort_by_key.Goals as goal

pub returns-clause-sorted : goal.returns-clause-sorted
returns-clause-sorted c =
    c.in_ok-sort_by.ensures.sorted (λ (x y : ARow). is_lt (row_cmp (values_at c.args.key.now x) (values_at c.args.key.now y))) (ranks_by row_total (values_at c.args.key.now)) (always_returns_same _ _ _ (λ a r f k. search rules))
