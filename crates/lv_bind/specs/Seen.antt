-- What the code's references stand for.
use Rattle.std.specs.Prelude.{List, map}
use Rattle.std.specs.Option.{option_map}
use Rattle.lv_parser.specs.declared.tree.ColName.{ColName}
use Rattle.lv_parser.specs.declared.tree.OperandTree.{OperandTree}
use Rattle.lv_schema.specs.declared.table.TableDef.{TableDef}
use Rattle.lv_schema.specs.declared.view.ViewDef.{ViewDef}
use Rattle.lv_bind.specs.declared.pieces.Mention.{Mention}
use Rattle.lv_bind.specs.declared.pieces.Sides.{Sides}
use Rattle.lv_bind.specs.declared.sources.Scope.{Scope}
use Rattle.lv_bind.specs.declared.sources.Source.{Source}
use Rattle.lv_bind.specs.Sources.{Alias, columns_of}

abbrev pub alias_seen : List TableDef → List ViewDef → Source → Alias
alias_seen tables views s = record { name = s.alias.now; columns = columns_of tables views s.rel }

-- the tables and views that a scope knows, and its aliases
abbrev pub tables_of : Scope → List TableDef
tables_of s = s.schema.now.tables

abbrev pub views_of : Scope → List ViewDef
views_of s = s.schema.now.views

abbrev pub aliases : Scope → List Alias
aliases s = map (alias_seen (tables_of s) (views_of s)) s.sources.now

abbrev pub column_seen : Mention → ColName
column_seen m = record { qualifier = option_map (λ q. q.now) m.qualifier; name = m.name.now }

abbrev pub sides_seen : Sides → OperandTree × OperandTree
sides_seen s = (s.left.now, s.right.now)
