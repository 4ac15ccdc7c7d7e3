use Rattle.std.proofs.Common.{◌≡◌, ◌≤◌, ◌+◌, ◌<◌, ◌++◌, List, length, take, drop}
use Rattle.std.specs.Prelude.{is_some, reverse}
use Rattle.lv_values.specs.declared.value.Value.{Value}
use Rattle.lv_values.specs.Rows.{values_at}
use Rattle.lv_schema.specs.Effects.{first_taken, has_key}
use Rattle.lv_overlay.specs.Puts.{put_at}
use Rattle.lv_effect.specs.Seen.{rows_seen}
use Rattle.lv_effect.proofs.inserting.first_taken.Given as goal

abbrev pub invariant-loop-at : goal.invariant-loop-at
invariant-loop-at g l = record {
  seen : l.at < length l.new → (row : List Value) → is_some (put_at l.earlier.list (l.table.no, values_at l.table.key row)) ≡ has_key l.table.key row (take l.at l.new);
  left : first_taken l.table.key (rows_seen l.table l.base.versions l.n l.own.list) l.new
      ≡ first_taken l.table.key (reverse (take l.at l.new) ++ rows_seen l.table l.base.versions l.n l.own.list) (drop l.at l.new);
  room : length l.new ≤ l.earlier.spare + l.at + 1;
  cost : l.steps ≤ l.initial.steps + l.at;
}
