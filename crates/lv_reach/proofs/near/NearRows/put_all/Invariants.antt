use Rattle.std.proofs.Common.{◌≡◌, ◌++◌}
use Rattle.lv_reach.specs.Walk.{put_all}
use Rattle.lv_reach.proofs.near.NearRows.put_all.Given as goal

abbrev pub invariant-loop-row : goal.invariant-loop-row
invariant-loop-row l = (l.yielded ++ l.row-iterator.rest.items ≡ l.fn.rows) × (l.self ≡ put_all l.yielded l.initial.self)
