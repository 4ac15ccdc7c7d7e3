-- The columns of a view are those of its items, and a query is bound to what its aliases stand for.
use Rattle.std.proofs.Common.{◌≡◌, ◌+◌, ℕ, Bool, cond, List, [], ◌∷◌, map, position, Option, Some, refl, sym, ap, ◌∙◌}
use Rattle.std.specs.List.{position_from}
use Rattle.std.specs.Str.{bytes_eq}
use Rattle.std.proofs.lemmas.Iterator.Adapters.{position_from-zero}
use Rattle.std.proofs.lemmas.Simd.{map-map}
use Rattle.lv_parser.specs.declared.tree.ColName.{ColName}
use Rattle.lv_parser.specs.declared.tree.CondTree.{CondTree}
use Rattle.lv_parser.specs.declared.tree.RefTree.{RefTree}
use Rattle.lv_parser.specs.declared.tree.Stmt.{Stmt}
use Rattle.lv_parser.specs.declared.tree.Stmt.TheVariants.{Select}
use Rattle.lv_schema.specs.declared.bound.Bound.{Bound}
use Rattle.lv_schema.specs.declared.bound.Bound.TheVariants as bound
use Rattle.lv_schema.specs.declared.query.Query.{Query}
use Rattle.lv_schema.specs.declared.table.Column.{Column}
use Rattle.lv_schema.specs.declared.view.Item.{Item}
use Rattle.lv_schema.specs.declared.view.Item.TheVariants.{Plain, Sum, Count}
use Rattle.lv_schema.specs.declared.table.TableDef.{TableDef}
use Rattle.lv_schema.specs.declared.view.ViewDef.{ViewDef}
use Rattle.lv_schema.specs.Bound.{item_name, listed_column, alias_columns, view_columns}
use Rattle.lv_schema.specs.Catalog.{rel_named}
use Rattle.lv_bind.specs.declared.sources.Source.{Source}
use Rattle.lv_bind.specs.Binding.{bound_among, bound_cond, bound_list, bound_order, bound_rels, rel_of}
use Rattle.lv_bind.specs.Rels.{rels_of}
use Rattle.lv_bind.specs.Sources.{Alias, column_named}

listed_column-name : (sources : List (List Column)) (item : Item) → (listed_column sources item).name ≡ item_name item
listed_column-name sources (Plain col name) = refl
listed_column-name sources (Sum col name) = refl
listed_column-name sources (Count name) = refl

named_from : (sources : List (List Column)) (name : List ℕ) (n : ℕ) (items : List Item)
    → position_from (λ c. bytes_eq name c.name) n (map (listed_column sources) items) ≡ position_from (λ item. bytes_eq name (item_name item)) n items
named_from sources name n [] = refl
named_from sources name n (item ∷ items) =
    ap (λ named. cond (bytes_eq name named) (Some n) (position_from (λ c. bytes_eq name c.name) (n + 1) (map (listed_column sources) items))) (listed_column-name sources item)
    ∙ ap (λ rest. cond (bytes_eq name (item_name item)) (Some n) rest) (named_from sources name (n + 1) items)

named_items : (sources : List (List Column)) (name : List ℕ) (items : List Item)
    → position (λ c. bytes_eq name c.name) (map (listed_column sources) items) ≡ position (λ item. bytes_eq name (item_name item)) items
named_items sources name items =
    position_from-zero (λ (c : Column). bytes_eq name c.name) (map (listed_column sources) items)
    ∙ named_from sources name 0 items
    ∙ sym (position_from-zero (λ item. bytes_eq name (item_name item)) items)

-- what is found among a view's items is found among its columns
pub named_in_items : (tables : List TableDef) (v : ViewDef) (name : List ℕ) (items : List Item) (found : Option ℕ)
    → items ≡ v.items → found ≡ position (λ item. bytes_eq name (item_name item)) items → found ≡ column_named name (view_columns tables v)
named_in_items tables v name items found same at =
    at ∙ ap (position (λ item. bytes_eq name (item_name item))) same ∙ sym (named_items (alias_columns tables v.tables) name v.items)

-- what the aliases of a query stand for is what it is bound to
pub rels_bound : (tables : List TableDef) (views : List ViewDef) (xs : List Source) (s : Stmt) (list : Option (List ColName)) (refs : List RefTree) (c : CondTree) (order : List (ColName × Bool))
    → s ≡ Select list refs c order → map (λ x. x.rel) xs ≡ rels_of tables views s → map (λ x. rel_of x.rel) xs ≡ bound_rels tables views refs
rels_bound tables views xs s list refs c order is stand =
    sym (map-map rel_of (λ (x : Source). x.rel) xs) ∙ ap (map rel_of) (stand ∙ ap (rels_of tables views) is) ∙ map-map rel_of (λ (r : RefTree). rel_named tables views r.name.name) refs

pub select_bound : (tables : List TableDef) (views : List ViewDef) (s : Stmt) (sources : List Alias) (xs : List Source) (list : Option (List ColName)) (refs : List RefTree) (c : CondTree) (order : List (ColName × Bool)) (q : Query)
    → s ≡ Select list refs c order → map (λ x. x.rel) xs ≡ rels_of tables views s
    → q ≡ record { rels = map (λ x. rel_of x.rel) xs; cond = bound_cond sources c; list = bound_list sources list; order = bound_order sources order }
    → bound.Query q ≡ bound_among tables views sources s
select_bound tables views s sources xs list refs c order q is stand at =
    let e : map (λ x. rel_of x.rel) xs ≡ bound_rels tables views refs = rels_bound tables views xs s list refs c order is stand in
    let f : Query → Bound = λ x. bound.Query x in
    ap f at
    ∙ ap (λ rels. f (record { rels = rels; cond = bound_cond sources c; list = bound_list sources list; order = bound_order sources order })) e
    ∙ ap (bound_among tables views sources) (sym is)
