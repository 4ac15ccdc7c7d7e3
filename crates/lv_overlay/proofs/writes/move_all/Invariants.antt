use Rattle.std.proofs.Common.{◌≡◌, ◌+◌, ◌++◌, length}
use Rattle.lv_overlay.proofs.writes.move_all.Given as goal

abbrev pub invariant-each : goal.invariant-each
invariant-each l =
    record {
      list : l.few.items ++ l.many.list ≡ l.fn.few.items ++ l.fn.many.list;
      room : l.many.spare + length l.fn.few.items ≡ l.fn.many.spare + length l.few.items;
    }

abbrev pub decreases-each : goal.decreases-each
decreases-each l = length l.few.items
