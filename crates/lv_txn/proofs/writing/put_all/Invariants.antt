use Rattle.std.proofs.Common.{◌≡◌, ◌≤◌, Bool, true, length}
use Rattle.std.specs.List.{list_all}
use Rattle.lv_schema.specs.Commits.{Place}
use Rattle.lv_overlay.specs.declared.put.Put.{Put}
use Rattle.lv_overlay.specs.Puts.{put_at}
use Rattle.lv_txn.specs.Written.{left_at}
use Rattle.lv_txn.proofs.writing.put_all.Given as goal

abbrev pub invariant-loop-put : goal.invariant-loop-put
invariant-loop-put l = record {
  room : length l.put-iterator.rest.items ≤ l.own.spare;
  left : (p : Place) → left_at l.put-iterator.rest.items p (put_at l.own.list p) ≡ left_at l.fn.puts p (put_at l.fn.own.list p);
  only : (test : Put → Bool) → list_all test l.fn.puts ≡ true → list_all test l.fn.own.list ≡ true → (list_all test l.put-iterator.rest.items ≡ true) × (list_all test l.own.list ≡ true);
}
