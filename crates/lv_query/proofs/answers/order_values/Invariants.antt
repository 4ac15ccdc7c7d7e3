use Rattle.std.proofs.Common.{◌≡◌, map, take}
use Rattle.lv_schema.specs.Answers.{order_value}
use Rattle.lv_query.proofs.answers.order_values.Given as goal

abbrev pub invariant-loop-by : goal.invariant-loop-by
invariant-loop-by g l = l.values ≡ map (order_value (g.T.HasRows.rows l.tuple)) (take l.by-index l.order)
