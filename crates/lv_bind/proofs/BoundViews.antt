-- A view that is made is bound against its schema.
use Rattle.std.proofs.Common.{◌≡◌, ◌<◌, ◌≤◌, ℕ, suc, Bool, true, false, not, ◌&&◌, ◌==◌, List, [], ◌∷◌, ◌++◌, map, length, Option, Some, None, refl, sym, ap, ap₂, subst, ◌∙◌, arith}
use Rattle.std.specs.Prelude.{nat_lt, is_none, is_some, Ok}
use Rattle.std.specs.List.{AllByRecursion, cons_option, filter_map, flat_map, list_all, list_any}
use Rattle.std.proofs.lemmas.Bool.{and_from, and_parts, eqb-true, lt-ltb, not-true, or_parts}
use Rattle.std.proofs.lemmas.Bool.Decides.{same_from_decides, Decides-eqb, Decides-like}
use Rattle.std.proofs.lemmas.List.{length-map}
use Rattle.lv_values.specs.Names.{is_name}
use Rattle.lv_parser.specs.declared.tree.ColName.{ColName}
use Rattle.lv_parser.specs.declared.tree.CondTree.{CondTree}
use Rattle.lv_parser.specs.declared.tree.ItemTree.{ItemTree}
use Rattle.lv_parser.specs.declared.tree.ItemTree.TheVariants as item
use Rattle.lv_parser.specs.declared.tree.Named.{Named}
use Rattle.lv_parser.specs.declared.tree.RefTree.{RefTree}
use Rattle.lv_parser.specs.declared.tree.Stmt.{Stmt}
use Rattle.lv_parser.specs.declared.tree.Stmt.TheVariants.{CreateTable, CreateView, Insert, Update, Delete, Select, Begin, Commit, Rollback, ShowTasks}
use Rattle.lv_schema.specs.declared.bound.Bound.TheVariants as bound
use Rattle.lv_schema.specs.declared.cond.Col.{Col}
use Rattle.lv_schema.specs.declared.fault.ProfileRule.TheVariants as rule
use Rattle.lv_schema.specs.declared.query.Rel.{Rel}
use Rattle.lv_schema.specs.declared.query.Rel.TheVariants.{Table, View}
use Rattle.lv_schema.specs.declared.table.Column.{Column}
use Rattle.lv_schema.specs.declared.table.Kind.{Kind}
use Rattle.lv_schema.specs.declared.table.Kind.TheVariants.{Int, Text, Big}
use Rattle.lv_schema.specs.declared.table.TableDef.{TableDef}
use Rattle.lv_schema.specs.declared.view.Item.{Item}
use Rattle.lv_schema.specs.declared.view.ViewDef.{ViewDef}
use Rattle.lv_schema.specs.Bound.{IsBoundCond, IsBoundView, IsKeptCond, alias_columns, are_among, broken_rules, is_in_range, is_int_column, is_table_kind, is_text, item_name, keeps_group, same_col}
use Rattle.lv_schema.specs.Catalog.{rel_named}
use Rattle.lv_schema.specs.Differences.{summed_columns, summed_column}
use Rattle.lv_schema.specs.JoinViews.{plain_column, plain_columns}
use Rattle.lv_schema.specs.Once.{are_apart}
use Rattle.lv_schema.specs.Sound.{IsSchema}
use Rattle.lv_schema.proofs.Profiles.{kept_rules}
use Rattle.lv_bind.specs.declared.sources.Place.{Place}
use Rattle.lv_bind.specs.Binding.{bound_among, bound_col, bound_cond, bound_item, bound_view, table_number, table_numbers}
use Rattle.lv_bind.specs.Faults.{bound_of}
use Rattle.lv_bind.specs.InUse.{output_of, regrouped, regrouped_after, repeated_aliases, repeated_outputs, same_column, taken}
use Rattle.lv_bind.specs.Kinds.{column_byte, compared_kinds, item_kinds, kind_of}
use Rattle.lv_bind.specs.Limits.{alias_names, compared_texts, lengths, output_names}
use Rattle.lv_bind.specs.Pieces.{columns_in, compared_columns, item_columns, sides_of}
use Rattle.lv_bind.specs.Profile.{is_view, names_view}
use Rattle.lv_bind.specs.Sources.{Alias, columns_of, place_of, shown_unless, source_of, sources_of}
use Rattle.lv_bind.specs.Spoken.{IsSpoken, IsSpokenCond, is_spoken_name, output_name}
use Rattle.lv_bind.specs.Unknown.{is_table, unknown_columns, unknown_refs}
use Rattle.lv_bind.specs.Whole.{IsWhole, IsWholeView}
use Rattle.lv_bind.proofs.ColumnLemmas.{IsKnown, all_append, all_columns, all_known, all_mapped, kind_known, pairs_fit, table_kind}
use Rattle.lv_bind.proofs.CondLemmas.{branches_bound, compares_bound, comparisons_bound, depth_bound, pair_fits, texts_in_line}
use Rattle.lv_bind.proofs.FoundFaults.{IsFaultless, append_parts, faultless, none_over, none_shown, shown_well}
use Rattle.lv_bind.proofs.NameLemmas.{AreFresh, apart_mapped, fresh_apart, name_fits, repeated_apart, table_in_use, taken_free}
use Rattle.lv_bind.proofs.Pigeons.{no_longer}

-- ---- names of items

short_names_fit : (names : List (List ℕ)) → list_all is_spoken_name names ≡ true → AllByRecursion (λ n. length n ≤ 32) names → list_all is_name names ≡ true
short_names_fit [] e le = refl
short_names_fit (name ∷ names) e le =
    let parts : (is_spoken_name name ≡ true) × (list_all is_spoken_name names ≡ true) = and_parts (is_spoken_name name) (list_all is_spoken_name names) e in
    and_from (is_name name) (list_all is_name names) (name_fits name parts.0 le.0) (short_names_fit names parts.1 le.1)

item_named : (sources : List Alias) (i : ItemTree) → item_name (bound_item sources i) ≡ (output_of i).name
item_named sources (item.Plain col output) = refl
item_named sources (item.Sum col output) = refl
item_named sources (item.Count output) = refl

item_names : (sources : List Alias) (items : List ItemTree) → map item_name (map (bound_item sources) items) ≡ output_names items
item_names sources [] = refl
item_names sources (i ∷ items) = ap₂ (λ name names. name ∷ names) (item_named sources i) (item_names sources items)

spoken_item : (i : ItemTree) → output_name i ≡ (output_of i).name
spoken_item (item.Plain col output) = refl
spoken_item (item.Sum col output) = refl
spoken_item (item.Count output) = refl

spoken_names : (items : List ItemTree) → map output_name items ≡ output_names items
spoken_names [] = refl
spoken_names (i ∷ items) = ap₂ (λ name names. name ∷ names) (spoken_item i) (spoken_names items)

-- ---- columns of items

plain_range : (sources : List Alias) (items : List ItemTree) → AllByRecursion (IsKnown sources) (flat_map item_columns items)
    → list_all (is_in_range (all_columns sources)) (plain_columns (map (bound_item sources) items)) ≡ true
plain_range sources [] h = refl
plain_range sources (item.Plain col output ∷ items) h =
    and_from (is_in_range (all_columns sources) (bound_col sources col)) _ (ap is_some (kind_known sources col h.0)) (plain_range sources items h.1)
plain_range sources (item.Sum col output ∷ items) h = plain_range sources items h.1
plain_range sources (item.Count output ∷ items) h = plain_range sources items h

only_int : (k : Kind) → is_table_kind k ≡ true → is_text k ≡ false → k ≡ Int
only_int Int a b = refl
only_int Text a b = absurd cc
only_int Big a b = absurd cc

int_column : (sources : List Alias) (col : ColName) → IsKnown sources col → is_table_kind (kind_of sources col) ≡ true → is_text (kind_of sources col) ≡ false
    → is_int_column (all_columns sources) (bound_col sources col) ≡ true
int_column sources col known table number = rw (kind_known sources col known ∙ ap Some (only_int (kind_of sources col) table number)) refl

abbrev OfTables : List Alias → Type 0
OfTables sources = AllByRecursion (λ s. list_all (λ c. is_table_kind c.kind) s.columns ≡ true) sources

sums_range : (sources : List Alias) (items : List ItemTree) → OfTables sources → AllByRecursion (IsKnown sources) (flat_map item_columns items)
    → flat_map (item_kinds sources) items ≡ [] → list_all (is_int_column (all_columns sources)) (filter_map summed_column (map (bound_item sources) items)) ≡ true
sums_range sources [] kinds h e = refl
sums_range sources (item.Plain col output ∷ items) kinds h e = sums_range sources items kinds h.1 e
sums_range sources (item.Sum col output ∷ items) kinds h e =
    let parts : (shown_unless (not (is_text (kind_of sources col))) (column_byte col) ≡ []) × (flat_map (item_kinds sources) items ≡ []) = append_parts _ (flat_map (item_kinds sources) items) e in
    let number : is_text (kind_of sources col) ≡ false = not-true _ (shown_well (not (is_text (kind_of sources col))) (column_byte col) parts.0) in
    and_from (is_int_column (all_columns sources) (bound_col sources col)) _ (int_column sources col h.0 (table_kind sources col kinds h.0) number) (sums_range sources items kinds h.1 parts.1)
sums_range sources (item.Count output ∷ items) kinds h e = sums_range sources items kinds h e

groups_range : (sources : List Alias) (groups : List ColName) → AllByRecursion (IsKnown sources) groups → list_all (is_in_range (all_columns sources)) (map (bound_col sources) groups) ≡ true
groups_range sources [] h = refl
groups_range sources (g ∷ groups) h = and_from (is_in_range (all_columns sources) (bound_col sources g)) _ (ap is_some (kind_known sources g h.0)) (groups_range sources groups h.1)

-- ---- groups

regrouped_fresh : (sources : List Alias) (before : List Place) (cols : List ColName) → regrouped_after sources before cols ≡ [] → AreFresh same_column before (map (place_of sources) cols)
regrouped_fresh sources before [] e = tt
regrouped_fresh sources before (col ∷ cols) e =
    let parts : (shown_unless (not (list_any (same_column (place_of sources col)) before)) col.name.name ≡ []) × (regrouped_after sources (before ++ place_of sources col ∷ []) cols ≡ []) =
    append_parts _ (regrouped_after sources (before ++ place_of sources col ∷ []) cols) e in
    (not-true _ (shown_well (not (list_any (same_column (place_of sources col)) before)) col.name.name parts.0), regrouped_fresh sources (before ++ place_of sources col ∷ []) cols parts.1)

pub nat_comm : (a b : ℕ) → (a == b) ≡ (b == a)
nat_comm a b = same_from_decides (a == b) (b == a) (Decides-eqb a b) (Decides-like (b == a) sym sym (Decides-eqb b a))

place_comm : (a b : Place) → same_column a b ≡ same_column b a
place_comm a b = ap₂ (λ x y. x && y) (nat_comm a.alias b.alias) (nat_comm a.column b.column)

col_comm : (a b : Col) → same_col a b ≡ same_col b a
col_comm a b = ap₂ (λ x y. x && y) (nat_comm a.alias b.alias) (nat_comm a.column b.column)

abbrev col_of : ℕ → ℕ → Col
col_of alias column = record { alias = alias; column = column }

col_tells : (a b : Col) → same_col a b ≡ true → a ≡ b
col_tells a b e =
    let parts : ((a.alias == b.alias) ≡ true) × ((a.column == b.column) ≡ true) = and_parts (a.alias == b.alias) (a.column == b.column) e in
    ap₂ col_of (eqb-true a.alias b.alias parts.0) (eqb-true a.column b.column parts.1)

all_units : {X : Type 0} (xs : List X) → AllByRecursion (λ x. Unit {0}) xs
all_units [] = tt
all_units (x ∷ xs) = (tt, all_units xs)

groups_apart : (sources : List Alias) (groups : List ColName) → regrouped sources groups ≡ [] → are_apart same_col (map (bound_col sources) groups) ≡ true
groups_apart sources groups e =
    apart_mapped (place_of sources) (bound_col sources) same_column same_col (λ x. Unit {0}) (λ x y p q same. same) groups (all_units groups)
    (fresh_apart same_column place_comm [] (map (place_of sources) groups) (regrouped_fresh sources [] groups e)).0

plain_few : (items : List Item) → length (plain_columns items) ≤ length items
plain_few [] = omega arith
plain_few (i ∷ items) = by (plain_column i) (plain_few items)
  where
    by : (o : Option Col) → length (plain_columns items) ≤ length items → length (cons_option o (plain_columns items)) ≤ length (i ∷ items)
    by None h = omega (arith, h)
    by (Some col) h = omega (arith, h)

-- ---- the tables of a view

only_table : (r : Option Rel) → is_some r ≡ true → is_view r ≡ false → is_table r ≡ true
only_table None a b = absurd cc
only_table (Some (Table t)) a b = refl
only_table (Some (View v)) a b = absurd cc

module _ (tables : List TableDef) (views : List ViewDef) where
  abbrev pub AreTables : List RefTree → Type 0
  AreTables refs = AllByRecursion (λ r. is_table (rel_named tables views r.name.name) ≡ true) refs

  only_tables : (refs : List RefTree) → list_all (λ r. is_some (rel_named tables views r.name.name)) refs ≡ true → names_view tables views refs ≡ false → AreTables refs
  only_tables [] a b = tt
  only_tables (r ∷ refs) a b =
      let some : (is_some (rel_named tables views r.name.name) ≡ true) × (list_all (λ r. is_some (rel_named tables views r.name.name)) refs ≡ true) = and_parts _ _ a in
      let none : (is_view (rel_named tables views r.name.name) ≡ false) × (names_view tables views refs ≡ false) = or_parts (is_view (rel_named tables views r.name.name)) (names_view tables views refs) b in
      (only_table (rel_named tables views r.name.name) some.0 none.0, only_tables refs some.1 none.1)

  numbers_in_use : (refs : List RefTree) → AreTables refs → list_all (λ t. nat_lt t (length tables)) (table_numbers tables views refs) ≡ true
  numbers_in_use [] h = refl
  numbers_in_use (r ∷ refs) h = and_from (nat_lt (table_number (rel_named tables views r.name.name)) (length tables)) _ (lt-ltb _ _ (table_in_use tables views r.name.name h.0).1) (numbers_in_use refs h.1)

  columns_same : (refs : List RefTree) → AreTables refs → all_columns (map (source_of tables views) refs) ≡ alias_columns tables (table_numbers tables views refs)
  columns_same [] h = refl
  columns_same (r ∷ refs) h = ap₂ (λ (cs : List Column) (more : List (List Column)). cs ∷ more) (ap (columns_of tables views) (table_in_use tables views r.name.name h.0).0) (columns_same refs h.1)

  tables_kinds : IsSchema tables views → (refs : List RefTree) → AreTables refs → OfTables (map (source_of tables views) refs)
  tables_kinds sound [] h = tt
  tables_kinds sound (r ∷ refs) h =
      let at : (rel_named tables views r.name.name ≡ Some (Table (table_number (rel_named tables views r.name.name)))) × (table_number (rel_named tables views r.name.name) < length tables) =
      table_in_use tables views r.name.name h.0 in
      (subst (λ rel. list_all (λ c. is_table_kind c.kind) (columns_of tables views rel) ≡ true) (sym at.0) (sound.each_table _ at.1).kinds, tables_kinds sound refs h.1)

-- ---- conditions

pub cond_fits : (aliases : List (List Column)) (sources : List Alias) (c : CondTree) → all_columns sources ≡ aliases → IsSpokenCond c
    → AllByRecursion (IsKnown sources) (compared_columns (sides_of c)) → length (sides_of c) ≤ 16 → AllByRecursion (λ n. n ≤ 256) (lengths (compared_texts (sides_of c)))
    → compared_kinds sources (sides_of c) ≡ [] → IsBoundCond aliases (bound_cond sources c)
cond_fits aliases sources c same spoken known few short kinds = record {
  compares_well =
      compares_bound aliases sources c
      ∙ subst (λ columns. list_all (pair_fits columns sources) (sides_of c) ≡ true) same (pairs_fit sources (sides_of c) known (sym (texts_in_line c) ∙ spoken.in_line) short kinds);
  few = rw (comparisons_bound sources c) few;
}

cond_kept : (sources : List Alias) (c : CondTree) → IsSpokenCond c → IsWhole c → length (sides_of c) ≤ 16 → IsKeptCond (bound_cond sources c)
cond_kept sources c spoken whole few = record {
  branches_well = branches_bound sources c spoken.chained whole (omega (arith, few));
  shallow = rw (depth_bound sources c) (omega (arith, few, spoken.compared));
}

-- ---- the columns that a view is grouped by

module _ (sources : List Alias) (items : List Item) (few : length items ≤ 16) where
  few_grouped : (groups : List ColName) → regrouped sources groups ≡ [] → keeps_group items (map (bound_col sources) groups) ≡ true → length (map (bound_col sources) groups) ≤ 16
  few_grouped [] apart keeps = omega arith
  few_grouped (g ∷ groups) apart keeps =
      let once = groups_apart sources (g ∷ groups) apart in
      let among = and_parts (are_among (plain_columns items) (map (bound_col sources) (g ∷ groups))) (are_among (map (bound_col sources) (g ∷ groups)) (plain_columns items)) keeps in
      omega (arith, no_longer same_col col_tells col_comm (map (bound_col sources) (g ∷ groups)) (plain_columns items) once among.1, plain_few items, few)

-- ---- the whole

module _ (tables : List TableDef) (views : List ViewDef) (sound : IsSchema tables views) (name : Named) (items : List ItemTree) (refs : List RefTree) (c : CondTree) (groups : List ColName)
    (spoken : IsSpoken (CreateView name items refs c groups)) (whole : IsWhole c) (clean : IsFaultless tables views (CreateView name items refs c groups)) where
  abbrev sources : List Alias
  sources = map (source_of tables views) refs

  abbrev def : ViewDef
  def = bound_view tables views sources name items refs c groups

  unknowns : (unknown_refs tables views refs ≡ []) × (unknown_columns sources (columns_in (CreateView name items refs c groups)) ++ [] ≡ [])
  unknowns = append_parts (unknown_refs tables views refs) (unknown_columns sources (columns_in (CreateView name items refs c groups)) ++ []) clean.known

  cols_known : AllByRecursion (IsKnown sources) (flat_map item_columns items ++ (compared_columns (sides_of c) ++ groups))
  cols_known = all_known sources (columns_in (CreateView name items refs c groups)) (append_parts (unknown_columns sources (columns_in (CreateView name items refs c groups))) [] unknowns.1).0

  known : AllByRecursion (IsKnown sources) (flat_map item_columns items) × AllByRecursion (IsKnown sources) (compared_columns (sides_of c) ++ groups)
  known = all_append (IsKnown sources) (flat_map item_columns items) (compared_columns (sides_of c) ++ groups) cols_known

  known_after : AllByRecursion (IsKnown sources) (compared_columns (sides_of c)) × AllByRecursion (IsKnown sources) groups
  known_after = all_append (IsKnown sources) (compared_columns (sides_of c)) groups known.1

  rules_kept : (shown_unless (not (names_view tables views refs)) rule.Base ≡ []) × (broken_rules tables def ≡ [])
  rules_kept = append_parts (shown_unless (not (names_view tables views refs)) rule.Base) (broken_rules tables def) clean.inside

  of_tables : AreTables tables views refs
  of_tables = only_tables tables views refs (none_shown (λ r. is_some (rel_named tables views r.name.name)) (λ r. r.name.name) refs unknowns.0)
      (not-true (names_view tables views refs) (shown_well (not (names_view tables views refs)) rule.Base rules_kept.0))

  same_columns : all_columns sources ≡ alias_columns tables (table_numbers tables views refs)
  same_columns = columns_same tables views refs of_tables

  kinds : (flat_map (item_kinds sources) items ≡ []) × (compared_kinds sources (sides_of c) ≡ [])
  kinds = append_parts (flat_map (item_kinds sources) items) (compared_kinds sources (sides_of c)) clean.kinds_agree

  unused : (taken tables views name ≡ []) × (repeated_outputs items ++ (repeated_aliases refs ++ regrouped sources groups) ≡ [])
  unused = append_parts (taken tables views name) (repeated_outputs items ++ (repeated_aliases refs ++ regrouped sources groups)) clean.free

  once_each : (repeated_outputs items ≡ []) × (repeated_aliases refs ++ regrouped sources groups ≡ [])
  once_each = append_parts (repeated_outputs items) (repeated_aliases refs ++ regrouped sources groups) unused.1

  grouped_once : regrouped sources groups ≡ []
  grouped_once = (append_parts (repeated_aliases refs) (regrouped sources groups) once_each.1).1

  short_names : AllByRecursion (λ n. n ≤ 32) (map length (name.name ∷ (output_names items ++ alias_names refs)))
  short_names = none_over 32 (map length (name.name ∷ (output_names items ++ alias_names refs))) clean.small.0

  short_outputs : AllByRecursion (λ n. length n ≤ 32) (output_names items)
  short_outputs = (all_append (λ n. length n ≤ 32) (output_names items) (alias_names refs) (all_mapped (λ n. n ≤ 32) length (output_names items ++ alias_names refs) short_names.1)).0

  few_aliases : length refs ≤ 4
  few_aliases = (none_over 4 (length refs ∷ []) clean.small.1.1.1.0).0

  few_items : length items ≤ 16
  few_items = (none_over 16 (length items ∷ []) clean.small.1.1.0).0

  few_sides : length (sides_of c) ≤ 16
  few_sides = (none_over 16 (length (sides_of c) ∷ []) clean.small.1.1.1.1.0).0

  short_texts : AllByRecursion (λ n. n ≤ 256) (lengths (compared_texts (sides_of c)))
  short_texts = none_over 256 (lengths (compared_texts (sides_of c))) clean.small.1.1.1.1.1.0

  few_bound : length (map (bound_item sources) items) ≤ 16
  few_bound = rw (length-map items (bound_item sources)) few_items

  pub view_fits : IsBoundView tables views def
  view_fits = record {
    next = refl;
    room = let le : suc (length views) ≤ 32 = (none_over 32 (suc (length views) ∷ []) clean.small.1.0).0 in omega arith;
    named = name_fits name.name spoken.0 short_names.0;
    free = taken_free tables views name.name (shown_well (is_none (rel_named tables views name.name)) name.name unused.0);
    some_aliases = rw (length-map refs (λ r. table_number (rel_named tables views r.name.name))) spoken.3;
    few_aliases = rw (length-map refs (λ r. table_number (rel_named tables views r.name.name))) few_aliases;
    in_use = numbers_in_use tables views refs of_tables;
    bound_cond = cond_fits (alias_columns tables (table_numbers tables views refs)) sources c same_columns spoken.4 known_after.0 few_sides short_texts kinds.1;
    kept_cond = cond_kept sources c spoken.4 whole few_sides;
    some_items = rw (length-map items (bound_item sources)) spoken.1;
    few_items = few_bound;
    items_named = rw (item_names sources items) (short_names_fit (output_names items) (subst (λ names. list_all is_spoken_name names ≡ true) (spoken_names items) spoken.2) short_outputs);
    items_apart = rw (item_names sources items) (repeated_apart (output_names items) once_each.0);
    plain_in_range = subst (λ columns. list_all (is_in_range columns) (plain_columns def.items) ≡ true) same_columns (plain_range sources items known.0);
    sums_are_ints = subst (λ columns. list_all (is_int_column columns) (summed_columns def) ≡ true) same_columns (sums_range sources items (tables_kinds tables views sound refs of_tables) known.0 kinds.0);
    groups_in_range = subst (λ columns. list_all (is_in_range columns) def.groups ≡ true) same_columns (groups_range sources groups known_after.1);
    few_groups = few_grouped sources (map (bound_item sources) items) few_bound groups grouped_once (kept_rules tables def rules_kept.1).0;
    profile = record { grouped = rw (length-map groups (bound_col sources)) refl; keeps = rules_kept.1 };
  }

pub fits_view : (tables : List TableDef) (views : List ViewDef) (s : Stmt) (view : ViewDef) → IsSchema tables views → IsSpoken s → IsWholeView s → IsFaultless tables views s
    → bound_among tables views (sources_of tables views s) s ≡ bound.View view → IsBoundView tables views view
fits_view tables views (CreateTable name cols key) view sound spoken whole clean e = absurd cc
fits_view tables views (CreateView name items refs c groups) view sound spoken whole clean e =
    let same : bound_view tables views (map (source_of tables views) refs) name items refs c groups ≡ view = cc in
    subst (IsBoundView tables views) same (view_fits tables views sound name items refs c groups spoken whole clean)
fits_view tables views (Insert table tuples) view sound spoken whole clean e = absurd cc
fits_view tables views (Update table sets c) view sound spoken whole clean e = absurd cc
fits_view tables views (Delete table c) view sound spoken whole clean e = absurd cc
fits_view tables views (Select list refs c order) view sound spoken whole clean e = absurd cc
fits_view tables views Begin view sound spoken whole clean e = absurd cc
fits_view tables views Commit view sound spoken whole clean e = absurd cc
fits_view tables views Rollback view sound spoken whole clean e = absurd cc
fits_view tables views ShowTasks view sound spoken whole clean e = absurd cc

pub bound_view_fits : (tables : List TableDef) (views : List ViewDef) (setup live : Bool) (s : Stmt) (view : ViewDef) → IsSchema tables views → IsSpoken s → IsWholeView s
    → bound_of tables views setup live s ≡ Ok (bound.View view) → IsBoundView tables views view
bound_view_fits tables views setup live s view sound spoken whole e =
    let clean : IsFaultless tables views s × (bound_among tables views (sources_of tables views s) s ≡ bound.View view) = faultless tables views setup live s (bound.View view) e in
    fits_view tables views s view sound spoken whole clean.0 clean.1
