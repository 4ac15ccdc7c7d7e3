use Rattle.std.proofs.Common.{◌≡◌, ◌≤◌, ◌++◌, drop, length}
use Rattle.std.specs.List.{flat_map}
use Rattle.lv_values.specs.Print.{StaysInFront}
use Rattle.lv_record.specs.Spelling as form
use Rattle.lv_record.proofs.conds.+print_cond.Given as goal

abbrev pub invariant-print_conds-loop-cond : goal.invariant-print_conds-loop-cond
invariant-print_conds-loop-cond l = let text = (form.layers l.layers).text in record {
  done : l.out ++ flat_map text (drop l.cond-index l.conds) ≡ l.initial.out ++ flat_map text l.initial.conds;
  longer : length l.initial.out ≤ length l.out;
  front : StaysInFront l.initial.out l.out;
}
