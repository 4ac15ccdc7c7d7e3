-- What a statement is bound to, or why it is refused: of the faults 2 to 12 the lowest number, and of that the first
-- place.
use Rattle.std.specs.Prelude.{Bool, List, [], ◌∷◌, ◌++◌, Option, None, Result}
use Rattle.std.specs.Option.{option_map, option_or}
use Rattle.lv_parser.specs.declared.tree.Stmt.{Stmt}
use Rattle.lv_schema.specs.declared.bound.Bound.{Bound}
use Rattle.lv_schema.specs.declared.fault.Fault.{Fault}
use Rattle.lv_schema.specs.declared.fault.Fault.TheVariants as fault
use Rattle.lv_schema.specs.declared.table.TableDef.{TableDef}
use Rattle.lv_schema.specs.declared.view.ViewDef.{ViewDef}
use Rattle.lv_schema.specs.Effects.{ok_unless}
use Rattle.lv_bind.specs.Ambiguous.{ambiguous}
use Rattle.lv_bind.specs.Assigned.{assigned}
use Rattle.lv_bind.specs.Binding.{bound_among}
use Rattle.lv_bind.specs.InUse.{in_use}
use Rattle.lv_bind.specs.Kinds.{kinds}
use Rattle.lv_bind.specs.Limits.{limits}
use Rattle.lv_bind.specs.Profile.{profile}
use Rattle.lv_bind.specs.Ranges.{ranges}
use Rattle.lv_bind.specs.Rights.{outside_setup, in_transaction, no_transaction}
use Rattle.lv_bind.specs.Sources.{first, sources_of}
use Rattle.lv_bind.specs.Unknown.{unknown}

-- the first that is there
abbrev pub lowest : List (Option Fault) → Option Fault
lowest [] = None
lowest (found ∷ more) = option_or found (lowest more)

-- the first place of each of the faults 2 to 6, which are seen before anything is bound
abbrev pub reading_faults : List TableDef → List ViewDef → Stmt → List (Option Fault)
reading_faults tables views s =
    option_map fault.Unknown (first (unknown tables views s))
    ∷ option_map fault.Ambiguous (first (ambiguous tables views s))
    ∷ option_map fault.InUse (first (in_use tables views s))
    ∷ option_map fault.Kinds (first (kinds tables views s))
    ∷ first (limits tables views s) ∷ []

-- of fault 7
abbrev pub profile_fault : List TableDef → List ViewDef → Stmt → Option Fault
profile_fault tables views s = option_map fault.Profile (first (profile tables views s))

-- of the faults 8 to 12
abbrev pub later_faults : List TableDef → List ViewDef → Bool → Bool → Stmt → List (Option Fault)
later_faults tables views setup live s =
    first (outside_setup setup s)
    ∷ first (in_transaction setup live s)
    ∷ first (no_transaction live s)
    ∷ option_map fault.KeyAssigned (first (assigned tables views s))
    ∷ option_map fault.Range (first (ranges s)) ∷ []

-- of all of them, by their numbers
abbrev pub faults : List TableDef → List ViewDef → Bool → Bool → Stmt → List (Option Fault)
faults tables views setup live s = reading_faults tables views s ++ profile_fault tables views s ∷ later_faults tables views setup live s

-- on a schema of these tables and views, in the setup or not, with a live transaction or without
unfoldable pub bound_of : List TableDef → List ViewDef → Bool → Bool → Stmt → Result Bound Fault
bound_of tables views setup live s = ok_unless (lowest (faults tables views setup live s)) (bound_among tables views (sources_of tables views s) s)
