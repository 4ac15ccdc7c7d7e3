-- What lines are read as.
use Rattle.std.specs.Prelude.{ℕ, Bool, List, Result}
use Rattle.lv_schema.specs.declared.bound.Bound.{Bound}
use Rattle.lv_schema.specs.declared.fault.Fault.{Fault}
use Rattle.lv_schema.specs.declared.table.TableDef.{TableDef}
use Rattle.lv_schema.specs.declared.view.ViewDef.{ViewDef}

-- by the tables, the views, whether the session is the setup and whether it has a live transaction, the bound statement of
-- a line or its lowest fault
abbrev pub Reading : Type 0
Reading = List TableDef → List ViewDef → Bool → Bool → List ℕ → Result Bound Fault
