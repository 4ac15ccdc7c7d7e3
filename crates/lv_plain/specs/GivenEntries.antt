-- What is asked of a reading so that an entry shows whether the disk failed.
use Rattle.std.specs.Prelude.{◌≡◌, ℕ, Bool, false, List, Err}
use Rattle.lv_schema.specs.declared.fault.Fault.{Fault}
use Rattle.lv_schema.specs.declared.table.TableDef.{TableDef}
use Rattle.lv_schema.specs.declared.view.ViewDef.{ViewDef}
use Rattle.lv_plain.specs.Legal.{is_store}
use Rattle.lv_plain.specs.Turns.{Reading}

-- no line is refused for the disk
abbrev pub BlamesNoDisk : Reading → Type 0
BlamesNoDisk reading = (tables : List TableDef) (views : List ViewDef) (setup live : Bool) (line : List ℕ) (fault : Fault) → reading tables views setup live line ≡ Err fault → is_store fault ≡ false
