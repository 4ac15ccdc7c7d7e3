use Rattle.std.proofs.Common.{◌≡◌, map, drop, take}
use Rattle.std.specs.List.{list_all}
use Rattle.lv_bind.specs.Binding.{bound_col}
use Rattle.lv_bind.specs.Faultless.{is_known}
use Rattle.lv_bind.specs.Seen.{aliases}
use Rattle.lv_bind.proofs.at_once.known_cols.Given as goal

abbrev pub invariant-loop-column : goal.invariant-loop-column
invariant-loop-column l = record {
  bound : l.out ≡ map (bound_col (aliases l.scope)) (take l.column-index l.columns);
  known : list_all (is_known (aliases l.scope)) (drop l.column-index l.columns) ≡ list_all (is_known (aliases l.scope)) l.columns;
}
