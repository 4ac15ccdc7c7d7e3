-- A query is bound against its schema.
use Rattle.std.proofs.Common.{◌≡◌, ◌<◌, ◌≤◌, ◌+◌, ℕ, zero, suc, Bool, true, List, [], ◌∷◌, ◌++◌, map, length, get_or, Option, Some, None, refl, sym, ap, ap₂, subst, ◌∙◌, arith}
use Rattle.std.specs.Prelude.{is_some}
use Rattle.std.specs.List.{AllByRecursion, list_all, range_with_len}
use Rattle.std.specs.Option.{option_map, option_or}
use Rattle.std.specs.Str.{bytes_eq}
use Rattle.std.proofs.lemmas.Bool.{and_from, and_parts, lt-ltb, ltb-true}
use Rattle.std.proofs.lemmas.List.{length-append, length-map}
use Rattle.std.proofs.lemmas.List.Folds.{list_all-append}
use Rattle.std.proofs.lemmas.List.FromFn.{length-map-range_with_len}
use Rattle.std.proofs.lemmas.List.Quantifiers.{position-Some}
use Rattle.std.proofs.lemmas.Option.{slice_get-get_or}
use Rattle.lv_parser.specs.declared.tree.ColName.{ColName}
use Rattle.lv_parser.specs.declared.tree.CondTree.{CondTree}
use Rattle.lv_parser.specs.declared.tree.RefTree.{RefTree}
use Rattle.lv_parser.specs.declared.tree.Stmt.{Stmt}
use Rattle.lv_parser.specs.declared.tree.Stmt.TheVariants.{CreateTable, CreateView, Insert, Update, Delete, Select, Begin, Commit, Rollback, ShowTasks}
use Rattle.lv_schema.specs.declared.bound.Bound.TheVariants as bound
use Rattle.lv_schema.specs.declared.cond.Col.{Col}
use Rattle.lv_schema.specs.declared.query.OrderCol.{OrderCol}
use Rattle.lv_schema.specs.declared.query.Query.{Query}
use Rattle.lv_schema.specs.declared.query.Rel.{Rel}
use Rattle.lv_schema.specs.declared.query.Rel.TheVariants.{Table, View}
use Rattle.lv_schema.specs.declared.table.Column.{Column}
use Rattle.lv_schema.specs.declared.table.TableDef.{TableDef}
use Rattle.lv_schema.specs.declared.view.ViewDef.{ViewDef}
use Rattle.lv_schema.specs.Bound.{IsBoundQuery, alias_columns, is_in_range, listed_column, rel_columns, rel_in_use}
use Rattle.lv_schema.specs.Catalog.{rel_named, table_named, view_named}
use Rattle.lv_schema.specs.Sound.{IsSchema}
use Rattle.lv_schema.specs.World.{view_at}
use Rattle.lv_bind.specs.Binding.{bound_among, bound_col, bound_cond, bound_list, bound_order, bound_rels, columns_from, rel_of}
use Rattle.lv_bind.specs.Limits.{column_total, compared_texts, lengths, list_length}
use Rattle.lv_bind.specs.Pieces.{compared_columns, listed_columns, sides_of}
use Rattle.lv_bind.specs.Sources.{Alias, columns_of, no_column, source_of, sources_of}
use Rattle.lv_bind.specs.Spoken.{IsSomeList, IsSpoken}
use Rattle.lv_bind.specs.Unknown.{unknown_columns, unknown_refs}
use Rattle.lv_bind.proofs.BoundViews.{cond_fits}
use Rattle.lv_bind.proofs.ColumnLemmas.{IsKnown, all_append, all_columns, all_known, kind_known}
use Rattle.lv_bind.proofs.FoundFaults.{IsFaultless, append_parts, none_over, none_shown}

-- ---- all columns of all aliases

abbrev col_of : ℕ → ℕ → Col
col_of alias column = record { alias = alias; column = column }

one_in_range : (whole : List (List Column)) (n k : ℕ) (cs : List Column) → get_or whole n [] ≡ cs → k < length cs → is_in_range whole (col_of n k) ≡ true
one_in_range whole n k cs same lt = rw same (rw (slice_get-get_or cs k no_column lt) refl)

some_in_range : (whole : List (List Column)) (n : ℕ) (cs : List Column) → get_or whole n [] ≡ cs → (a len : ℕ) → a + len ≤ length cs
    → list_all (is_in_range whole) (map (col_of n) (range_with_len a len)) ≡ true
some_in_range whole n cs same a zero le = refl
some_in_range whole n cs same a (suc len) le =
    and_from (is_in_range whole (col_of n a)) (list_all (is_in_range whole) (map (col_of n) (range_with_len (a + 1) len)))
    (one_in_range whole n a cs same (omega arith)) (some_in_range whole n cs same (a + 1) len (omega arith))

all_in_range : (whole : List (List Column)) (n : ℕ) (sources : List Alias) → ((i : ℕ) → get_or whole (n + i) [] ≡ get_or (all_columns sources) i []) → list_all (is_in_range whole) (columns_from n sources) ≡ true
all_in_range whole n [] same = refl
all_in_range whole n (s ∷ more) same =
    let at : n + 0 ≡ n = omega arith in
    let here : get_or whole n [] ≡ s.columns = ap (λ j. get_or whole j []) (sym at) ∙ same 0 in
    list_all-append (is_in_range whole) (map (col_of n) (range_with_len 0 (length s.columns))) (columns_from (suc n) more)
    ∙ and_from (list_all (is_in_range whole) (map (col_of n) (range_with_len 0 (length s.columns)))) (list_all (is_in_range whole) (columns_from (suc n) more))
    (some_in_range whole n s.columns here 0 (length s.columns) (omega arith))
    (all_in_range whole (suc n) more (λ i. let next : suc n + i ≡ n + suc i = omega arith in ap (λ j. get_or whole j []) next ∙ same (suc i)))

columns_total : (n : ℕ) (sources : List Alias) → length (columns_from n sources) ≡ column_total sources
columns_total n [] = refl
columns_total n (s ∷ more) =
    length-append (map (col_of n) (range_with_len 0 (length s.columns))) (columns_from (suc n) more)
    ∙ ap₂ (λ a b. a + b) (length-map-range_with_len (col_of n) 0 (length s.columns)) (columns_total (suc n) more)

-- ---- named columns

cols_in_range : (sources : List Alias) (cols : List ColName) → AllByRecursion (IsKnown sources) cols → list_all (is_in_range (all_columns sources)) (map (bound_col sources) cols) ≡ true
cols_in_range sources [] h = refl
cols_in_range sources (c ∷ cols) h = and_from (is_in_range (all_columns sources) (bound_col sources c)) _ (ap is_some (kind_known sources c h.0)) (cols_in_range sources cols h.1)

order_range : (sources : List Alias) (order : List (ColName × Bool)) → AllByRecursion (IsKnown sources) (map (λ by. by.0) order)
    → list_all (λ by. is_in_range (all_columns sources) by.col) (bound_order sources order) ≡ true
order_range sources [] h = refl
order_range sources (o ∷ order) h = and_from (is_in_range (all_columns sources) (bound_col sources o.0)) _ (ap is_some (kind_known sources o.0 h.0)) (order_range sources order h.1)

list_range : (sources : List Alias) (list : Option (List ColName)) → AllByRecursion (IsKnown sources) (listed_columns list) → list_all (is_in_range (all_columns sources)) (bound_list sources list) ≡ true
list_range sources None h = all_in_range (all_columns sources) 0 sources (λ i. let at : 0 + i ≡ i = omega arith in ap (λ j. get_or (all_columns sources) j []) at)
list_range sources (Some cols) h = cols_in_range sources cols h

list_size : (sources : List Alias) (list : Option (List ColName)) → length (bound_list sources list) ≡ list_length sources list
list_size sources None = columns_total 0 sources
list_size sources (Some cols) = length-map cols (bound_col sources)

-- ---- what the aliases stand for

module _ (tables : List TableDef) (views : List ViewDef) where
  named_in_use : (name : List ℕ) → is_some (rel_named tables views name) ≡ true → rel_in_use tables views (rel_of (rel_named tables views name)) ≡ true
  named_in_use name some = by (table_named tables name) (view_named views name) refl refl some
    where
      by : (a b : Option ℕ) → table_named tables name ≡ a → view_named views name ≡ b → is_some (option_or (option_map Table a) (option_map View b)) ≡ true
          → rel_in_use tables views (rel_of (option_or (option_map Table a) (option_map View b))) ≡ true
      by (Some t) b is_a is_b there = lt-ltb t (length tables) (rw length-map at (position-Some (bytes_eq name) (map (λ t. t.name) tables) t [] is_a).0)
      by None (Some v) is_a is_b there = lt-ltb v (length views) (rw length-map at (position-Some (bytes_eq name) (map (λ v. v.name) views) v [] is_b).0)
      by None None is_a is_b there = absurd cc

  columns_so : (r : Option Rel) → is_some r ≡ true → columns_of tables views r ≡ rel_columns tables views (rel_of r)
  columns_so None e = absurd cc
  columns_so (Some r) e = refl

  abbrev AreThere : List RefTree → Type 0
  AreThere refs = list_all (λ r. is_some (rel_named tables views r.name.name)) refs ≡ true

  rels_in_use : (refs : List RefTree) → AreThere refs → list_all (rel_in_use tables views) (bound_rels tables views refs) ≡ true
  rels_in_use [] e = refl
  rels_in_use (r ∷ refs) e =
      let parts : (is_some (rel_named tables views r.name.name) ≡ true) × AreThere refs = and_parts (is_some (rel_named tables views r.name.name)) (list_all (λ r. is_some (rel_named tables views r.name.name)) refs) e in
      and_from (rel_in_use tables views (rel_of (rel_named tables views r.name.name))) (list_all (rel_in_use tables views) (bound_rels tables views refs)) (named_in_use r.name.name parts.0) (rels_in_use refs parts.1)

  columns_same : (refs : List RefTree) → AreThere refs → all_columns (map (source_of tables views) refs) ≡ map (rel_columns tables views) (bound_rels tables views refs)
  columns_same [] e = refl
  columns_same (r ∷ refs) e =
      let parts : (is_some (rel_named tables views r.name.name) ≡ true) × AreThere refs = and_parts (is_some (rel_named tables views r.name.name)) (list_all (λ r. is_some (rel_named tables views r.name.name)) refs) e in
      ap₂ (λ (cs : List Column) (more : List (List Column)). cs ∷ more) (columns_so (rel_named tables views r.name.name) parts.0) (columns_same refs parts.1)

  -- each table and view has a column
  has_column : IsSchema tables views → (r : Rel) → rel_in_use tables views r ≡ true → 0 < length (rel_columns tables views r)
  has_column sound (Table t) e = (sound.each_table t (ltb-true t (length tables) e)).some_columns
  has_column sound (View v) e = rw (length-map (view_at views v).items (listed_column (alias_columns tables (view_at views v).tables))) (sound.each_view v (ltb-true v (length views) e)).some_items

  some_listed : IsSchema tables views → (list : Option (List ColName)) (refs : List RefTree) → IsSomeList list → 0 < length refs → AreThere refs
      → 0 < length (bound_list (map (source_of tables views) refs) list)
  some_listed sound (Some cols) refs some any there = rw (length-map cols (bound_col (map (source_of tables views) refs))) some
  some_listed sound None [] some any there = absurd (omega arith)
  some_listed sound None (r ∷ refs) some any there =
      let parts : (is_some (rel_named tables views r.name.name) ≡ true) × AreThere refs = and_parts (is_some (rel_named tables views r.name.name)) (list_all (λ r. is_some (rel_named tables views r.name.name)) refs) there in
      let here : 0 < length (columns_of tables views (rel_named tables views r.name.name)) =
      rw (columns_so (rel_named tables views r.name.name) parts.0) (has_column sound (rel_of (rel_named tables views r.name.name)) (named_in_use r.name.name parts.0)) in
      rw (columns_total 0 (map (source_of tables views) (r ∷ refs))) (omega (arith, here))

-- ---- the whole

module _ (tables : List TableDef) (views : List ViewDef) (sound : IsSchema tables views) (list : Option (List ColName)) (refs : List RefTree) (c : CondTree) (order : List (ColName × Bool))
    (spoken : IsSpoken (Select list refs c order)) (clean : IsFaultless tables views (Select list refs c order)) where
  abbrev sources : List Alias
  sources = map (source_of tables views) refs

  abbrev query : Query
  query = record { rels = bound_rels tables views refs; cond = bound_cond sources c; list = bound_list sources list; order = bound_order sources order }

  abbrev cols : List ColName
  cols = listed_columns list ++ (compared_columns (sides_of c) ++ map (λ by. by.0) order)

  unknowns : (unknown_refs tables views refs ≡ []) × (unknown_columns sources cols ++ [] ≡ [])
  unknowns = append_parts (unknown_refs tables views refs) (unknown_columns sources cols ++ []) clean.known

  there : AreThere tables views refs
  there = none_shown (λ r. is_some (rel_named tables views r.name.name)) (λ r. r.name.name) refs unknowns.0

  known : AllByRecursion (IsKnown sources) (listed_columns list) × AllByRecursion (IsKnown sources) (compared_columns (sides_of c) ++ map (λ by. by.0) order)
  known = all_append (IsKnown sources) (listed_columns list) (compared_columns (sides_of c) ++ map (λ by. by.0) order) (all_known sources cols (append_parts (unknown_columns sources cols) [] unknowns.1).0)

  known_after : AllByRecursion (IsKnown sources) (compared_columns (sides_of c)) × AllByRecursion (IsKnown sources) (map (λ by. by.0) order)
  known_after = all_append (IsKnown sources) (compared_columns (sides_of c)) (map (λ by. by.0) order) known.1

  same_columns : all_columns sources ≡ map (rel_columns tables views) (bound_rels tables views refs)
  same_columns = columns_same tables views refs there

  rel_count : length (bound_rels tables views refs) ≡ length refs
  rel_count = length-map refs (λ r. rel_of (rel_named tables views r.name.name))

  query_fits : IsBoundQuery tables views query
  query_fits = record {
    some_aliases = rw rel_count spoken.1;
    few_aliases = rw rel_count (none_over 4 (length refs ∷ []) clean.small.1.0).0;
    in_use = rels_in_use tables views refs there;
    bound_cond = cond_fits (map (rel_columns tables views) (bound_rels tables views refs)) sources c same_columns spoken.2 known_after.0
        (none_over 16 (length (sides_of c) ∷ []) clean.small.1.1.0).0 (none_over 256 (lengths (compared_texts (sides_of c))) clean.small.1.1.1.0) clean.kinds_agree;
    some_list = some_listed tables views sound list refs spoken.0 spoken.1 there;
    few_list = rw (list_size sources list) (none_over 64 (list_length sources list ∷ []) clean.small.1.1.1.1.0).0;
    list_in_range = subst (λ columns. list_all (is_in_range columns) (bound_list sources list) ≡ true) same_columns (list_range sources list known.0);
    few_order = rw (length-map {B = OrderCol} order (λ by. record { col = bound_col sources by.0; descending = by.1 })) (none_over 16 (length order ∷ []) clean.small.1.1.1.1.1.0).0;
    order_in_range = subst (λ columns. list_all (λ by. is_in_range columns by.col) (bound_order sources order) ≡ true) same_columns (order_range sources order known_after.1);
  }

pub fits_query : (tables : List TableDef) (views : List ViewDef) (s : Stmt) (q : Query) → IsSchema tables views → IsSpoken s → IsFaultless tables views s
    → bound_among tables views (sources_of tables views s) s ≡ bound.Query q → IsBoundQuery tables views q
fits_query tables views (CreateTable name columns key) q sound spoken clean e = absurd cc
fits_query tables views (CreateView name items refs c groups) q sound spoken clean e = absurd cc
fits_query tables views (Insert table tuples) q sound spoken clean e = absurd cc
fits_query tables views (Update table sets c) q sound spoken clean e = absurd cc
fits_query tables views (Delete table c) q sound spoken clean e = absurd cc
fits_query tables views (Select list refs c order) q sound spoken clean e =
    let same : query tables views sound list refs c order spoken clean ≡ q = cc in
    subst (IsBoundQuery tables views) same (query_fits tables views sound list refs c order spoken clean)
fits_query tables views Begin q sound spoken clean e = absurd cc
fits_query tables views Commit q sound spoken clean e = absurd cc
fits_query tables views Rollback q sound spoken clean e = absurd cc
fits_query tables views ShowTasks q sound spoken clean e = absurd cc
