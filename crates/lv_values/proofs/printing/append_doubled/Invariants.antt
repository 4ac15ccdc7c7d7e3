use Rattle.std.proofs.Common.{◌≡◌, ◌≤◌, ◌++◌, drop, length}
use Rattle.lv_values.specs.Print.{StaysInFront, doubled}
use Rattle.lv_values.proofs.printing.append_doubled.Given as goal

abbrev pub invariant-loop-byte : goal.invariant-loop-byte
invariant-loop-byte l = record {
  done : l.out ++ doubled (drop l.byte-index l.bytes) ≡ l.initial.out ++ doubled l.initial.bytes;
  longer : length l.initial.out ≤ length l.out;
  front : StaysInFront l.initial.out l.out;
}
