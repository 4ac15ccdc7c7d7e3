use Rattle.std.proofs.Common.{◌≡◌, ◌++◌, length, take}
use Rattle.lv_join.specs.Ties.{seen}
use Rattle.lv_maint.specs.Alone.{came, went}
use Rattle.lv_maint.specs.Runs.{AddsUpTo}
use Rattle.lv_maint.proofs.alone.add_all.Given as goal

abbrev pub invariant-loop-place : goal.invariant-loop-place
invariant-loop-place l = record {
  one : length l.tuple ≡ 1;
  kept : AddsUpTo (length l.entries.sums.now) l.kept.items (came l.entries.keys.now l.entries.sums.now l.cond (seen (take l.place l.plus)) ++ went l.entries.keys.now l.entries.sums.now l.cond (seen (take l.place l.minus)));
}
