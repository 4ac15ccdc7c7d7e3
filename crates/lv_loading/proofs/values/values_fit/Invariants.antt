use Rattle.std.proofs.Common.{◌≡◌, drop}
use Rattle.lv_schema.specs.Databases.{row_fits}
use Rattle.lv_loading.proofs.values.values_fit.Given as goal

abbrev pub invariant-loop-at : goal.invariant-loop-at
invariant-loop-at l = row_fits (drop l.at l.columns) (drop l.at l.row) ≡ row_fits l.columns l.row
