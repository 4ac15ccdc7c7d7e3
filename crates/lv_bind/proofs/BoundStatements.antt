-- What a statement is bound to is bound against its schema.
use Rattle.std.proofs.Common.{◌≡◌, Bool, List}
use Rattle.std.specs.Prelude.{Ok}
use Rattle.lv_parser.specs.declared.tree.Stmt.{Stmt}
use Rattle.lv_parser.specs.declared.tree.Stmt.TheVariants as stmt
use Rattle.lv_schema.specs.declared.bound.Bound.{Bound}
use Rattle.lv_schema.specs.declared.bound.Bound.TheVariants as bound
use Rattle.lv_schema.specs.declared.table.TableDef.{TableDef}
use Rattle.lv_schema.specs.declared.view.ViewDef.{ViewDef}
use Rattle.lv_schema.specs.Bound.{IsBound}
use Rattle.lv_schema.specs.Sound.{IsSchema}
use Rattle.lv_bind.specs.Binding.{bound_among}
use Rattle.lv_bind.specs.Faults.{bound_of}
use Rattle.lv_bind.specs.Sources.{sources_of}
use Rattle.lv_bind.specs.Spoken.{IsSpoken}
use Rattle.lv_bind.specs.Whole.{IsWholeView}
use Rattle.lv_bind.proofs.BoundChanges.{fits_change}
use Rattle.lv_bind.proofs.BoundQueries.{fits_query}
use Rattle.lv_bind.proofs.BoundTables.{fits_table}
use Rattle.lv_bind.proofs.BoundViews.{fits_view}
use Rattle.lv_bind.proofs.FoundFaults.{IsFaultless, faultless}

fits : (tables : List TableDef) (views : List ViewDef) (s : Stmt) (b : Bound) → IsSchema tables views → IsSpoken s → IsWholeView s → IsFaultless tables views s
    → bound_among tables views (sources_of tables views s) s ≡ b → IsBound tables views b
fits tables views s (bound.Table def) sound spoken whole clean e = fits_table tables views s def spoken clean e
fits tables views s (bound.View view) sound spoken whole clean e = fits_view tables views s view sound spoken whole clean e
fits tables views s (bound.Change change) sound spoken whole clean e = fits_change tables views s change sound spoken clean e
fits tables views s (bound.Query query) sound spoken whole clean e = fits_query tables views s query sound spoken clean e
fits tables views s bound.Begin sound spoken whole clean e = tt
fits tables views s bound.Commit sound spoken whole clean e = tt
fits tables views s bound.Rollback sound spoken whole clean e = tt
fits tables views s bound.Tasks sound spoken whole clean e = tt

pub bound_fits : (tables : List TableDef) (views : List ViewDef) (setup live : Bool) (s : Stmt) (b : Bound) → IsSchema tables views → IsSpoken s → IsWholeView s
    → bound_of tables views setup live s ≡ Ok b → IsBound tables views b
bound_fits tables views setup live s b sound spoken whole e =
    let clean : IsFaultless tables views s × (bound_among tables views (sources_of tables views s) s ≡ b) = faultless tables views setup live s b e in
    fits tables views s b sound spoken whole clean.0 clean.1

-- a spoken view's condition is whole
spoken_whole : (s : Stmt) → IsSpoken s → IsWholeView s
spoken_whole (stmt.CreateTable name cols key) h = tt
spoken_whole (stmt.CreateView name items refs c groups) h = h.4.whole
spoken_whole (stmt.Insert table tuples) h = tt
spoken_whole (stmt.Update table sets c) h = tt
spoken_whole (stmt.Delete table c) h = tt
spoken_whole (stmt.Select list refs c order) h = tt
spoken_whole stmt.Begin h = tt
spoken_whole stmt.Commit h = tt
spoken_whole stmt.Rollback h = tt
spoken_whole stmt.ShowTasks h = tt

-- what a spoken statement is bound to is bound against its schema
pub spoken_fits : (tables : List TableDef) (views : List ViewDef) (setup live : Bool) (s : Stmt) (b : Bound) → IsSchema tables views → IsSpoken s
    → bound_of tables views setup live s ≡ Ok b → IsBound tables views b
spoken_fits tables views setup live s b sound spoken e = bound_fits tables views setup live s b sound spoken (spoken_whole s spoken) e
