use Rattle.std.proofs.Common.{◌≡◌, ◌≤◌, ◌++◌, drop, length}
use Rattle.lv_values.specs.Print.{StaysInFront, values_behind}
use Rattle.lv_values.proofs.printing.append_behind.Given as goal

abbrev pub invariant-loop-value : goal.invariant-loop-value
invariant-loop-value l = record {
  done : l.out ++ values_behind l.separator (drop l.value-index l.values) ≡ l.initial.out ++ values_behind l.separator l.initial.values;
  longer : length l.initial.out ≤ length l.out;
  front : StaysInFront l.initial.out l.out;
}
