-- Fault 7: views outside the profile. FROM names a view, or the bound view breaks a rule on its list.
use Rattle.std.specs.Prelude.{Bool, true, false, not, List, [], ◌++◌, Option, Some, None}
use Rattle.std.specs.List.{list_any}
use Rattle.lv_parser.specs.declared.tree.RefTree.{RefTree}
use Rattle.lv_parser.specs.declared.tree.Stmt.{Stmt}
use Rattle.lv_parser.specs.declared.tree.Stmt.TheVariants.{CreateView}
use Rattle.lv_schema.specs.declared.bound.Bound.{Bound}
use Rattle.lv_schema.specs.declared.bound.Bound.TheVariants as bound
use Rattle.lv_schema.specs.declared.fault.ProfileRule.{ProfileRule}
use Rattle.lv_schema.specs.declared.fault.ProfileRule.TheVariants.{Base}
use Rattle.lv_schema.specs.declared.query.Rel.{Rel}
use Rattle.lv_schema.specs.declared.query.Rel.TheVariants.{Table, View}
use Rattle.lv_schema.specs.declared.table.TableDef.{TableDef}
use Rattle.lv_schema.specs.declared.view.ViewDef.{ViewDef}
use Rattle.lv_schema.specs.Catalog.{rel_named}
use Rattle.lv_schema.specs.Bound.{broken_rules}
use Rattle.lv_bind.specs.Binding.{bound_among}
use Rattle.lv_bind.specs.Sources.{sources_of, shown_unless}

abbrev pub is_view : Option Rel → Bool
is_view None = false
is_view (Some (Table t)) = false
is_view (Some (View v)) = true

abbrev pub names_view : List TableDef → List ViewDef → List RefTree → Bool
names_view tables views refs = list_any (λ r. is_view (rel_named tables views r.name.name)) refs

abbrev pub view_rules : List TableDef → List ViewDef → List RefTree → ViewDef → List ProfileRule
view_rules tables views refs def = shown_unless (not (names_view tables views refs)) Base ++ broken_rules tables def

abbrev pub of_view : (ViewDef → List ProfileRule) → Bound → List ProfileRule
of_view rules (bound.View def) = rules def
of_view rules other = []

-- a statement that is bound to this
abbrev pub profile_of : List TableDef → List ViewDef → Stmt → Bound → List ProfileRule
profile_of tables views (CreateView name items refs c groups) b = of_view (view_rules tables views refs) b
profile_of tables views other b = []

abbrev pub profile : List TableDef → List ViewDef → Stmt → List ProfileRule
profile tables views stmt = profile_of tables views stmt (bound_among tables views (sources_of tables views stmt) stmt)
