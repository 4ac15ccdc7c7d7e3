use Rattle.std.proofs.Common.{◌≡◌, ◌≤◌, ◌+◌, ◌-◌, ◌++◌, length, map, vec_len}
use Rattle.std.specs.Prelude.{vec_capacity}
use Rattle.lv_schema.specs.Versions.{delta_entry}
use Rattle.lv_delta.proofs.deltas.push_actions.Given as goal

abbrev pub invariant-loop-action : goal.invariant-loop-action
invariant-loop-action l = record {
  can_next : (goal.iterator-loop-action).can_next l.action-iterator;
  is_finite : (goal.iterator-loop-action).is_finite l.action-iterator;
  room : (goal.iterator-loop-action).remaining l.action-iterator ≤ vec_capacity l.items - vec_len l.items;
  capacity : vec_capacity l.items ≡ vec_capacity l.fn.items;
  len : vec_len l.items ≡ vec_len l.fn.items + length l.yielded;
  added : l.items.items ≡ l.fn.items.items ++ map (delta_entry l.number) l.yielded;
}
