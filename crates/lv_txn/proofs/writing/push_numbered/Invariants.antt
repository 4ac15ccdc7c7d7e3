use Rattle.std.proofs.Common.{◌≡◌, ◌≤◌, ◌++◌, length}
use Rattle.lv_schema.specs.Cases.{numbered}
use Rattle.lv_txn.proofs.writing.push_numbered.Given as goal

abbrev pub invariant-loop-action : goal.invariant-loop-action
invariant-loop-action l = record {
  room : length l.action-iterator.rest.items ≤ l.list.spare;
  added : l.list.list ++ numbered l.statement l.action-iterator.rest.items ≡ l.fn.list.list ++ numbered l.statement l.fn.actions;
}
