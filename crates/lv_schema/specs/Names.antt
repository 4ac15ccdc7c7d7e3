-- Which names tables and views may still have.
use Rattle.std.specs.Prelude.{ℕ, Bool, not, ◌&&◌, List, map}
use Rattle.lv_values.specs.Names.{has_name}
use Rattle.lv_schema.specs.declared.table.TableDef.{TableDef}
use Rattle.lv_schema.specs.declared.view.ViewDef.{ViewDef}

-- whether no table or view has the name
abbrev pub is_free : List TableDef → List ViewDef → List ℕ → Bool
is_free tables views name = not (has_name name (map (λ t. t.name) tables)) && not (has_name name (map (λ v. v.name) views))
