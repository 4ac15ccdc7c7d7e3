use Rattle.std.proofs.Common.{◌≡◌, map, take}
use Rattle.lv_schema.specs.Tuples.{value_at}
use Rattle.lv_schema.proofs.holding.listed.Given as goal

abbrev pub invariant-loop-col : goal.invariant-loop-col
invariant-loop-col g l = l.row ≡ map (value_at (g.T.HasRows.rows l.rows)) (take l.col-index l.cols)
