use Rattle.std.proofs.Common.{◌≡◌, ◌++◌, map}
use Rattle.lv_reach.specs.Reach.{of_alias}
use Rattle.lv_reach.specs.Walk.{put_all}
use Rattle.lv_reach.proofs.near.NearRows.put_rows.Given as goal

abbrev pub invariant-loop-row : goal.invariant-loop-row
invariant-loop-row l = (l.yielded ++ l.row-iterator.rest.items ≡ l.fn.rows) × (l.self ≡ put_all (map (of_alias l.alias) l.yielded) l.initial.self)
