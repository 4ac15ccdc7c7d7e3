use Rattle.std.proofs.Common.{◌≡◌, ◌+◌, ◌≤◌, ◌++◌, length, map, drop}
use Rattle.std.specs.Vec.{vec_capacity, vec_len}
use Rattle.lv_versions.specs.Versions.{state_at}
use Rattle.lv_versions.proofs.versions.push_run.Given as goal

abbrev pub invariant-loop-i : goal.invariant-loop-i
invariant-loop-i g l = record {
  rows : map (λ row. row.now) l.rows.items ++ state_at l.n (drop l.i l.run) ≡ map (λ row. row.now) l.initial.rows.items ++ state_at l.n l.run;
  cost : l.steps + length (state_at l.n (drop l.i l.run)) ≡ l.initial.steps + length (state_at l.n l.run);
  len : vec_len l.rows ≤ vec_len l.initial.rows + l.i;
  capacity : vec_capacity l.rows ≡ vec_capacity l.initial.rows;
}
