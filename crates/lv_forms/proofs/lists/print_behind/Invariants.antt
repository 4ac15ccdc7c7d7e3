use Rattle.std.proofs.Common.{◌≡◌, ◌≤◌, ◌++◌, drop, length}
use Rattle.std.specs.List.{flat_map}
use Rattle.lv_values.specs.Print.{StaysInFront}
use Rattle.lv_forms.proofs.lists.print_behind.Given as goal

abbrev pub invariant-loop-value : goal.invariant-loop-value
invariant-loop-value g l = let text = (g.F.Form.form l.form).text in record {
  done : l.out ++ flat_map (λ v. l.words ++ text v) (drop l.value-index l.values) ≡ l.initial.out ++ flat_map (λ v. l.words ++ text v) l.initial.values;
  longer : length l.initial.out ≤ length l.out;
  front : StaysInFront l.initial.out l.out;
}
