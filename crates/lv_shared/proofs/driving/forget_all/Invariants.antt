use Rattle.std.specs.Prelude.{ℕ, ◌≤◌}
use Rattle.lv_shared.proofs.driving.forget_all.Given as goal

-- those whose turn has come are free
abbrev pub invariant-loop-place : goal.invariant-loop-place
invariant-loop-place g l = record {
  kept : g.M.Machine.keeps l.machine;
  goes_on : (first : g.row.M.Denot) → g.M.Machine.becomes first l.initial.machine → g.M.Machine.becomes first l.machine;
  free : (actor : ℕ) → 1 ≤ actor → actor ≤ l.place → g.M.Machine.is_free l.machine actor;
}
