-- What the aliases of a statement stand for.
use Rattle.std.specs.Prelude.{List, [], ◌∷◌, map, Option}
use Rattle.lv_parser.specs.declared.tree.RefTree.{RefTree}
use Rattle.lv_parser.specs.declared.tree.Stmt.{Stmt}
use Rattle.lv_parser.specs.declared.tree.Stmt.TheVariants.{CreateView, Update, Delete, Select}
use Rattle.lv_schema.specs.declared.query.Rel.{Rel}
use Rattle.lv_schema.specs.declared.table.TableDef.{TableDef}
use Rattle.lv_schema.specs.declared.view.ViewDef.{ViewDef}
use Rattle.lv_schema.specs.Catalog.{rel_named}

abbrev pub rels_in : List TableDef → List ViewDef → List RefTree → List (Option Rel)
rels_in tables views refs = map (λ r. rel_named tables views r.name.name) refs

-- in the order of FROM
abbrev pub rels_of : List TableDef → List ViewDef → Stmt → List (Option Rel)
rels_of tables views (CreateView name items refs c groups) = rels_in tables views refs
rels_of tables views (Update table sets c) = rel_named tables views table.name ∷ []
rels_of tables views (Delete table c) = rel_named tables views table.name ∷ []
rels_of tables views (Select list refs c order) = rels_in tables views refs
rels_of tables views other = []
