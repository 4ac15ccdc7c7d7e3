-- What a maintenance step is given, and what it gives.
use Rattle.std.specs.Prelude.{ℕ, List}
use Rattle.std.specs.List.{AllByRecursion, AllZip}
use Rattle.lv_schema.specs.declared.part.Part.{Part}
use Rattle.lv_schema.specs.declared.signed.SignedRow.{SignedRow}
use Rattle.lv_schema.specs.declared.table.TableDef.{TableDef}
use Rattle.lv_schema.specs.declared.view.ViewDef.{ViewDef}
use Rattle.lv_schema.specs.Bound.{IsBoundView}
use Rattle.lv_schema.specs.Jobs.{IsPart}
use Rattle.lv_schema.specs.World.{table_at}

-- a view, the commits that the step goes from and to, and a part for each alias
pub record Input : Type 0 where
  pub def : ViewDef
  pub lo : ℕ
  pub hi : ℕ
  pub parts : List Part

-- an input, and the change of the view's rows or groups
pub record Outcome : Type 0 where
  pub input : Input
  pub signed : List SignedRow

-- the view is bound over these tables, and each part is of its alias's table
pub record FitOver (tables : List TableDef) (views : List ViewDef) (def : ViewDef) (parts : List Part) : Type 0 where
  pub bound : IsBoundView tables views def
  pub each : AllZip (λ t p. IsPart (table_at tables t) p) def.tables parts

abbrev pub Fit : ViewDef → List Part → Type 0
Fit def parts = (tables : List TableDef) × ((views : List ViewDef) × FitOver tables views def parts)

-- a part of some table
abbrev pub IsOfTable : Part → Type 0
IsOfTable p = (def : TableDef) × IsPart def p

abbrev pub AreOfTables : List Part → Type 0
AreOfTables parts = AllByRecursion IsOfTable parts
