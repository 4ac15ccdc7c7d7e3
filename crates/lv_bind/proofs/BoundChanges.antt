-- A change is bound against its schema.
use Rattle.std.proofs.Common.{◌≡◌, ◌<◌, ◌≤◌, ℕ, zero, suc, Bool, true, false, not, cond, ◌==◌, List, [], ◌∷◌, ◌++◌, map, length, get_or, Option, Some, None, IfSome, refl, sym, ap, subst, ◌∙◌, arith}
use Rattle.std.specs.Prelude.{Ok, nat_eq, slice_get, unwrap_or}
use Rattle.std.specs.List.{AllByRecursion, cons_option, flat_map, list_all, list_any}
use Rattle.std.specs.Option.{option_map}
use Rattle.std.specs.Str.{bytes_eq}
use Rattle.std.proofs.lemmas.Bool.{and_from, and_parts, eqb-true}
use Rattle.std.proofs.lemmas.List.{length-map}
use Rattle.std.proofs.lemmas.List.Quantifiers.{position-Some}
use Rattle.std.proofs.lemmas.Slice.Eq.{bytes_eq-Decides}
use Rattle.lv_values.specs.declared.value.Value.{Value}
use Rattle.lv_values.specs.declared.value.Value.TheVariants as v
use Rattle.lv_parser.specs.declared.tree.Assign.{Assign}
use Rattle.lv_parser.specs.declared.tree.AssignValue.{AssignValue}
use Rattle.lv_parser.specs.declared.tree.AssignValue.TheVariants as value
use Rattle.lv_parser.specs.declared.tree.ColName.{ColName}
use Rattle.lv_parser.specs.declared.tree.CondTree.{CondTree}
use Rattle.lv_parser.specs.declared.tree.Literal.{Literal}
use Rattle.lv_parser.specs.declared.tree.Named.{Named}
use Rattle.lv_parser.specs.declared.tree.Stmt.{Stmt}
use Rattle.lv_parser.specs.declared.tree.Stmt.TheVariants.{CreateTable, CreateView, Insert, Update, Delete, Select, Begin, Commit, Rollback, ShowTasks}
use Rattle.lv_parser.specs.declared.tree.Tuple.{Tuple}
use Rattle.lv_schema.specs.declared.bound.Bound.TheVariants as bound
use Rattle.lv_schema.specs.declared.change.Change.{Change}
use Rattle.lv_schema.specs.declared.change.Change.TheVariants as change
use Rattle.lv_schema.specs.declared.change.Set.{Set}
use Rattle.lv_schema.specs.declared.change.SetValue.{SetValue}
use Rattle.lv_schema.specs.declared.query.Rel.TheVariants.{Table}
use Rattle.lv_schema.specs.declared.table.Column.{Column}
use Rattle.lv_schema.specs.declared.table.Kind.{Kind}
use Rattle.lv_schema.specs.declared.table.Kind.TheVariants.{Int, Text, Big}
use Rattle.lv_schema.specs.declared.table.TableDef.{TableDef}
use Rattle.lv_schema.specs.declared.view.ViewDef.{ViewDef}
use Rattle.lv_schema.specs.Bound.{IsBoundChange, column_set, has_kind, is_bound_set, is_table_kind, is_text, same_kind, set_fits}
use Rattle.lv_schema.specs.Catalog.{rel_named}
use Rattle.lv_schema.specs.Databases.{is_int, row_fits, value_fits}
use Rattle.lv_schema.specs.Effects.{changed_table}
use Rattle.lv_schema.specs.Once.{are_apart}
use Rattle.lv_schema.specs.Sound.{IsSchema}
use Rattle.lv_schema.specs.World.{table_at}
use Rattle.lv_bind.specs.declared.sources.Place.{Place}
use Rattle.lv_bind.specs.Assigned.{assigned_keys}
use Rattle.lv_bind.specs.Binding.{bound_among, bound_cond, bound_rows, bound_set, bound_value, table_number}
use Rattle.lv_bind.specs.Faults.{bound_of}
use Rattle.lv_bind.specs.InUse.{repeated_sets}
use Rattle.lv_bind.specs.Kinds.{assign_byte, assign_fits, assign_kinds, both_or_none, compared_kinds, insert_columns, kind_of, literal_fits, tuple_kinds, value_is_text, value_kinds}
use Rattle.lv_bind.specs.Limits.{assign_texts, compared_texts, lengths, tuple_texts, value_texts}
use Rattle.lv_bind.specs.Pieces.{unqualified, assign_columns, compared_columns, sides_of, source_columns}
use Rattle.lv_bind.specs.Ranges.{wide_assign, wide_tuple, wide_value}
use Rattle.lv_bind.specs.Sources.{Alias, column_named, columns_of, first, goes_by, no_column, place_at, place_in, place_of, shown_unless, sources_of, table_source}
use Rattle.lv_bind.specs.Spoken.{IsSpoken, assigned_in_line, tuple_in_line, value_in_line}
use Rattle.lv_bind.specs.Unknown.{is_nil, is_table, unknown_columns, unknown_table}
use Rattle.lv_bind.proofs.BoundViews.{cond_fits, nat_comm}
use Rattle.lv_bind.proofs.ColumnLemmas.{IsKnown, all_append, all_known, all_mapped, kind_known, line_fits, table_kind}
use Rattle.lv_bind.proofs.FoundFaults.{IsFaultless, append_parts, faultless, none_over, shown_well}
use Rattle.lv_bind.proofs.NameLemmas.{apart_mapped, repeated_apart, table_in_use}

abbrev InUse : List TableDef → Change → Type 0
InUse tables c = changed_table c < length tables

number_in_use : (tables : List TableDef) (views : List ViewDef) (table : Named) (more : List (List ℕ)) → unknown_table tables views table ++ more ≡ []
    → table_number (rel_named tables views table.name) < length tables
number_in_use tables views table more e =
    (table_in_use tables views table.name (shown_well (is_table (rel_named tables views table.name)) table.name (append_parts (unknown_table tables views table) more e).0)).1

fits_number : (tables : List TableDef) (views : List ViewDef) (s : Stmt) (c : Change) → IsFaultless tables views s
    → bound_among tables views (sources_of tables views s) s ≡ bound.Change c → InUse tables c
fits_number tables views (CreateTable name cols key) c clean e = absurd cc
fits_number tables views (CreateView name items refs whole groups) c clean e = absurd cc
fits_number tables views (Insert table tuples) c clean e =
    let same : change.Insert (table_number (rel_named tables views table.name)) (bound_rows tuples) ≡ c = cc in
    subst (InUse tables) same (number_in_use tables views table _ clean.known)
fits_number tables views (Update table sets only) c clean e =
    let sources = sources_of tables views (Update table sets only) in
    let same : change.Update (table_number (rel_named tables views table.name)) (map (bound_set sources) sets) (bound_cond sources only) ≡ c = cc in
    subst (InUse tables) same (number_in_use tables views table _ clean.known)
fits_number tables views (Delete table only) c clean e =
    let same : change.Delete (table_number (rel_named tables views table.name)) (bound_cond (sources_of tables views (Delete table only)) only) ≡ c = cc in
    subst (InUse tables) same (number_in_use tables views table _ clean.known)
fits_number tables views (Select list refs whole order) c clean e = absurd cc
fits_number tables views Begin c clean e = absurd cc
fits_number tables views Commit c clean e = absurd cc
fits_number tables views Rollback c clean e = absurd cc
fits_number tables views ShowTasks c clean e = absurd cc

pub changed_table_in_use : (tables : List TableDef) (views : List ViewDef) (setup live : Bool) (s : Stmt) (c : Change)
    → bound_of tables views setup live s ≡ Ok (bound.Change c) → changed_table c < length tables
changed_table_in_use tables views setup live s c e =
    let clean : IsFaultless tables views s × (bound_among tables views (sources_of tables views s) s ≡ bound.Change c) = faultless tables views setup live s (bound.Change c) e in
    fits_number tables views s c clean.0 clean.1

-- ---- rows

abbrev IsShort : List ℕ → Type 0
IsShort t = length t ≤ 256

value_so : (k : Kind) (val : Value) → is_table_kind k ≡ true → both_or_none (is_text k) (value_is_text val) ≡ true → wide_value val ≡ [] → value_in_line val ≡ true
    → AllByRecursion IsShort (value_texts val) → value_fits k val ≡ true
value_so Int (v.Num n) table kinds wide line short = shown_well (is_int n) n wide
value_so Int (v.Text t) table kinds wide line short = absurd cc
value_so Text (v.Num n) table kinds wide line short = absurd cc
value_so Text (v.Text t) table kinds wide line short = line_fits t line short.0
value_so Big val table kinds wide line short = absurd cc

row_so : (columns : List Column) (ls : List Literal) → length ls ≡ length columns → list_all (λ c. is_table_kind c.kind) columns ≡ true → value_kinds columns ls ≡ []
    → flat_map (λ l. wide_value l.value) ls ≡ [] → list_all (λ l. value_in_line l.value) ls ≡ true → AllByRecursion IsShort (flat_map (λ l. value_texts l.value) ls)
    → row_fits columns (map (λ l. l.value) ls) ≡ true
row_so [] [] same table kinds wide line short = refl
row_so [] (l ∷ ls) same table kinds wide line short = absurd (omega (arith, same))
row_so (c ∷ cs) [] same table kinds wide line short = absurd (omega (arith, same))
row_so (c ∷ cs) (l ∷ ls) same table kinds wide line short =
    let t : (is_table_kind c.kind ≡ true) × (list_all (λ c. is_table_kind c.kind) cs ≡ true) = and_parts (is_table_kind c.kind) (list_all (λ c. is_table_kind c.kind) cs) table in
    let k : (shown_unless (literal_fits c.kind l) l.byte ≡ []) × (value_kinds cs ls ≡ []) = append_parts (shown_unless (literal_fits c.kind l) l.byte) (value_kinds cs ls) kinds in
    let w : (wide_value l.value ≡ []) × (flat_map (λ l. wide_value l.value) ls ≡ []) = append_parts (wide_value l.value) (flat_map (λ l. wide_value l.value) ls) wide in
    let n : (value_in_line l.value ≡ true) × (list_all (λ l. value_in_line l.value) ls ≡ true) = and_parts (value_in_line l.value) (list_all (λ l. value_in_line l.value) ls) line in
    let s : AllByRecursion IsShort (value_texts l.value) × AllByRecursion IsShort (flat_map (λ l. value_texts l.value) ls) = all_append IsShort (value_texts l.value) (flat_map (λ l. value_texts l.value) ls) short in
    and_from (value_fits c.kind l.value) (row_fits cs (map (λ l. l.value) ls)) (value_so c.kind l.value t.0 (shown_well (literal_fits c.kind l) l.byte k.0) w.0 n.0 s.0)
    (row_so cs ls (omega (arith, same)) t.1 k.1 w.1 n.1 s.1)

rows_so : (columns : List Column) (tuples : List Tuple) → list_all (λ c. is_table_kind c.kind) columns ≡ true → flat_map (tuple_kinds columns) tuples ≡ [] → flat_map wide_tuple tuples ≡ []
    → list_all tuple_in_line tuples ≡ true → AllByRecursion IsShort (flat_map tuple_texts tuples) → list_all (row_fits columns) (bound_rows tuples) ≡ true
rows_so columns [] table kinds wide line short = refl
rows_so columns (t ∷ tuples) table kinds wide line short =
    let k : (tuple_kinds columns t ≡ []) × (flat_map (tuple_kinds columns) tuples ≡ []) = append_parts (tuple_kinds columns t) (flat_map (tuple_kinds columns) tuples) kinds in
    let ks : (shown_unless (length t.values == length columns) t.byte ≡ []) × (value_kinds columns t.values ≡ []) = append_parts (shown_unless (length t.values == length columns) t.byte) (value_kinds columns t.values) k.0 in
    let w : (wide_tuple t ≡ []) × (flat_map wide_tuple tuples ≡ []) = append_parts (wide_tuple t) (flat_map wide_tuple tuples) wide in
    let n : (tuple_in_line t ≡ true) × (list_all tuple_in_line tuples ≡ true) = and_parts (tuple_in_line t) (list_all tuple_in_line tuples) line in
    let s : AllByRecursion IsShort (tuple_texts t) × AllByRecursion IsShort (flat_map tuple_texts tuples) = all_append IsShort (tuple_texts t) (flat_map tuple_texts tuples) short in
    let same : length t.values ≡ length columns = eqb-true (length t.values) (length columns) (shown_well (length t.values == length columns) t.byte ks.0) in
    and_from (row_fits columns (map (λ l. l.value) t.values)) (list_all (row_fits columns) (bound_rows tuples)) (row_so columns t.values same table ks.1 w.0 n.0 s.0) (rows_so columns tuples table k.1 w.1 n.1 s.1)

-- ---- columns of one table

kind_one : (s : Alias) (col : ColName) → IsKnown (s ∷ []) col → option_map (λ (c : Column). c.kind) (slice_get s.columns (place_of (s ∷ []) col).column) ≡ Some (kind_of (s ∷ []) col)
kind_one s col known = by (place_of (s ∷ []) col).alias (kind_known (s ∷ []) col known)
  where
    by : (at : ℕ) → option_map (λ (c : Column). c.kind) (slice_get (get_or (s.columns ∷ []) at []) (place_of (s ∷ []) col).column) ≡ Some (kind_of (s ∷ []) col)
        → option_map (λ (c : Column). c.kind) (slice_get s.columns (place_of (s ∷ []) col).column) ≡ Some (kind_of (s ∷ []) col)
    by zero e = e
    by (suc i) e = absurd cc

named_in : (n : ℕ) (s : Alias) (col : ColName) → IfSome (place_in n s col) (λ p. bytes_eq col.name.name (get_or s.columns p.column no_column).name ≡ true)
named_in n s col = by (goes_by col.qualifier s.name) (column_named col.name.name s.columns) refl
  where
    by : (b : Bool) (at : Option ℕ) → column_named col.name.name s.columns ≡ at
        → IfSome (cond b (option_map (place_at n) at) None) (λ p. bytes_eq col.name.name (get_or s.columns p.column no_column).name ≡ true)
    by false at e = tt
    by true None e = tt
    by true (Some k) e = (position-Some (λ c. bytes_eq col.name.name c.name) s.columns k no_column e).1

named_one : (s : Alias) (col : ColName) → IsKnown (s ∷ []) col → bytes_eq col.name.name (get_or s.columns (place_of (s ∷ []) col).column no_column).name ≡ true
named_one s col known = by (place_in 0 s col) (named_in 0 s col) known
  where
    by : (o : Option Place) → IfSome o (λ p. bytes_eq col.name.name (get_or s.columns p.column no_column).name ≡ true) → is_nil (cons_option o []) ≡ false
        → bytes_eq col.name.name (get_or s.columns (unwrap_or (first (cons_option o [])) (place_at 0 0)).column no_column).name ≡ true
    by None h e = absurd cc
    by (Some p) h e = h

column_tells : (s : Alias) (a b : Named) → IsKnown (s ∷ []) (unqualified a) → IsKnown (s ∷ []) (unqualified b) → nat_eq (place_of (s ∷ []) (unqualified a)).column (place_of (s ∷ []) (unqualified b)).column ≡ true
    → bytes_eq a.name b.name ≡ true
column_tells s a b p q e =
    let same : (place_of (s ∷ []) (unqualified a)).column ≡ (place_of (s ∷ []) (unqualified b)).column = eqb-true _ _ e in
    let of_a : a.name ≡ (get_or s.columns (place_of (s ∷ []) (unqualified a)).column no_column).name = (bytes_eq-Decides a.name _).0 (named_one s (unqualified a) p) in
    let of_b : b.name ≡ (get_or s.columns (place_of (s ∷ []) (unqualified b)).column no_column).name = (bytes_eq-Decides b.name _).0 (named_one s (unqualified b) q) in
    (bytes_eq-Decides a.name b.name).1 (of_a ∙ ap (λ i. (get_or s.columns i no_column).name) same ∙ sym of_b)

-- ---- what is set

set_some : (columns : List Column) (o : Option Column) (k : Kind) (val : SetValue) → option_map (λ (c : Column). c.kind) o ≡ Some k → set_fits columns k val ≡ true → column_set columns o val ≡ true
set_some columns None k val e fits = absurd cc
set_some columns (Some c) k val e fits =
    let same : c.kind ≡ k = cc in
    rw same fits

has_some : (o : Option Column) (k j : Kind) → option_map (λ (c : Column). c.kind) o ≡ Some j → same_kind k j ≡ true → has_kind k o ≡ true
has_some None k j e fits = absurd cc
has_some (Some c) k j e fits =
    let same : c.kind ≡ j = cc in
    rw same fits

same_of_both : (k j : Kind) → both_or_none (is_text k) (is_text j) ≡ true → same_kind k j ≡ true
same_of_both Int j e = e
same_of_both Text j e = e
same_of_both Big j e = e

same_of_numbers : (k j : Kind) → not (is_text k) ≡ true → not (is_text j) ≡ true → same_kind k j ≡ true
same_of_numbers Int j a b = b
same_of_numbers Text j a b = absurd cc
same_of_numbers Big j a b = b

module _ (s : Alias) (key : List ℕ) (table : list_all (λ c. is_table_kind c.kind) s.columns ≡ true) where
  value_set : (k : Kind) (val : AssignValue) → is_table_kind k ≡ true → AllByRecursion (IsKnown (s ∷ [])) (source_columns val) → assign_fits (s ∷ []) k val ≡ true → wide_assign val ≡ []
      → assigned_in_line val ≡ true → AllByRecursion IsShort (assign_texts val) → set_fits s.columns k (bound_value (s ∷ []) val) ≡ true
  value_set k (value.Literal l) kind known kinds wide line short = value_so k l.value kind kinds wide line short
  value_set k (value.Column col) kind known kinds wide line short =
      has_some (slice_get s.columns (place_of (s ∷ []) (unqualified col)).column) k (kind_of (s ∷ []) (unqualified col)) (kind_one s (unqualified col) known.0) (same_of_both k (kind_of (s ∷ []) (unqualified col)) kinds)
  value_set k (value.Plus col amount) kind known kinds wide line short =
      let numbers : (not (is_text k) ≡ true) × (not (is_text (kind_of (s ∷ []) (unqualified col))) ≡ true) = and_parts (not (is_text k)) (not (is_text (kind_of (s ∷ []) (unqualified col)))) kinds in
      let has : has_kind k (slice_get s.columns (place_of (s ∷ []) (unqualified col)).column) ≡ true =
      has_some (slice_get s.columns (place_of (s ∷ []) (unqualified col)).column) k (kind_of (s ∷ []) (unqualified col)) (kind_one s (unqualified col) known.0) (same_of_numbers k (kind_of (s ∷ []) (unqualified col)) numbers.0 numbers.1) in
      rw (numbers.0, has, line) refl

  any_comm : (at : ℕ) (ks : List ℕ) → list_any (nat_eq at) ks ≡ list_any (λ k. k == at) ks
  any_comm at [] = refl
  any_comm at (k ∷ ks) = rw (any_comm at ks, nat_comm at k) refl

  sets_so : (def : TableDef) → def.columns ≡ s.columns → def.key ≡ key → (sets : List Assign) → AllByRecursion (IsKnown (s ∷ [])) (flat_map assign_columns sets) → flat_map (assign_kinds (s ∷ [])) sets ≡ []
      → assigned_keys (s ∷ []) key sets ≡ [] → flat_map (λ a. wide_assign a.value) sets ≡ [] → list_all (λ a. assigned_in_line a.value) sets ≡ true
      → AllByRecursion IsShort (flat_map (λ a. assign_texts a.value) sets) → list_all (is_bound_set def) (map (bound_set (s ∷ [])) sets) ≡ true
  sets_so def same same_key [] known kinds keys wide line short = refl
  sets_so def same same_key (a ∷ sets) known kinds keys wide line short =
      let kn : AllByRecursion (IsKnown (s ∷ [])) (assign_columns a) × AllByRecursion (IsKnown (s ∷ [])) (flat_map assign_columns sets) = all_append (IsKnown (s ∷ [])) (assign_columns a) (flat_map assign_columns sets) known in
      let k : (assign_kinds (s ∷ []) a ≡ []) × (flat_map (assign_kinds (s ∷ [])) sets ≡ []) = append_parts (assign_kinds (s ∷ []) a) (flat_map (assign_kinds (s ∷ [])) sets) kinds in
      let ky : (shown_unless (not (list_any (nat_eq (place_of (s ∷ []) (unqualified a.column)).column) key)) a.column.name ≡ []) × (assigned_keys (s ∷ []) key sets ≡ []) =
      append_parts (shown_unless (not (list_any (nat_eq (place_of (s ∷ []) (unqualified a.column)).column) key)) a.column.name) (assigned_keys (s ∷ []) key sets) keys in
      let w : (wide_assign a.value ≡ []) × (flat_map (λ a. wide_assign a.value) sets ≡ []) = append_parts (wide_assign a.value) (flat_map (λ a. wide_assign a.value) sets) wide in
      let n : (assigned_in_line a.value ≡ true) × (list_all (λ a. assigned_in_line a.value) sets ≡ true) = and_parts (assigned_in_line a.value) (list_all (λ a. assigned_in_line a.value) sets) line in
      let sh : AllByRecursion IsShort (assign_texts a.value) × AllByRecursion IsShort (flat_map (λ a. assign_texts a.value) sets) = all_append IsShort (assign_texts a.value) (flat_map (λ a. assign_texts a.value) sets) short in
      let kind : is_table_kind (kind_of (s ∷ []) (unqualified a.column)) ≡ true = table_kind (s ∷ []) (unqualified a.column) (table, tt) kn.0.0 in
      let fits : set_fits s.columns (kind_of (s ∷ []) (unqualified a.column)) (bound_value (s ∷ []) a.value) ≡ true =
      value_set (kind_of (s ∷ []) (unqualified a.column)) a.value kind kn.0.1 (shown_well (assign_fits (s ∷ []) (kind_of (s ∷ []) (unqualified a.column)) a.value) (assign_byte a.value) k.0) w.0 n.0 sh.0 in
      let there : column_set s.columns (slice_get s.columns (place_of (s ∷ []) (unqualified a.column)).column) (bound_value (s ∷ []) a.value) ≡ true =
      set_some s.columns (slice_get s.columns (place_of (s ∷ []) (unqualified a.column)).column) (kind_of (s ∷ []) (unqualified a.column)) (bound_value (s ∷ []) a.value) (kind_one s (unqualified a.column) kn.0.0) fits in
      let free : not (list_any (λ k. k == (place_of (s ∷ []) (unqualified a.column)).column) key) ≡ true =
      rw (← any_comm (place_of (s ∷ []) (unqualified a.column)).column key) (shown_well (not (list_any (nat_eq (place_of (s ∷ []) (unqualified a.column)).column) key)) a.column.name ky.0) in
      let here : is_bound_set def (bound_set (s ∷ []) a) ≡ true = rw (same, same_key) (and_from _ _ there free) in
      and_from (is_bound_set def (bound_set (s ∷ []) a)) _ here (sets_so def same same_key sets kn.1 k.1 ky.1 w.1 n.1 sh.1)

  set_columns : (sets : List Assign) → map (λ (x : Set). x.column) (map (bound_set (s ∷ [])) sets) ≡ map (λ a. (place_of (s ∷ []) (unqualified a.column)).column) sets
  set_columns [] = refl
  set_columns (a ∷ sets) = ap (λ more. (place_of (s ∷ []) (unqualified a.column)).column ∷ more) (set_columns sets)

  each_set_known : (sets : List Assign) → AllByRecursion (IsKnown (s ∷ [])) (flat_map assign_columns sets) → AllByRecursion (λ a. IsKnown (s ∷ []) (unqualified a.column)) sets
  each_set_known [] h = tt
  each_set_known (a ∷ sets) h =
      let kn : AllByRecursion (IsKnown (s ∷ [])) (assign_columns a) × AllByRecursion (IsKnown (s ∷ [])) (flat_map assign_columns sets) = all_append (IsKnown (s ∷ [])) (assign_columns a) (flat_map assign_columns sets) h in
      (kn.0.0, each_set_known sets kn.1)

  sets_apart : (sets : List Assign) → AllByRecursion (IsKnown (s ∷ [])) (flat_map assign_columns sets) → repeated_sets sets ≡ []
      → are_apart nat_eq (map (λ (x : Set). x.column) (map (bound_set (s ∷ [])) sets)) ≡ true
  sets_apart sets h e =
      rw (set_columns sets) (apart_mapped (λ a. a.column.name) (λ a. (place_of (s ∷ []) (unqualified a.column)).column) bytes_eq nat_eq (λ a. IsKnown (s ∷ []) (unqualified a.column))
      (λ a b p q same. column_tells s a.column b.column p q same) sets (each_set_known sets h) (repeated_apart (map (λ a. a.column.name) sets) e))

-- ---- the whole

all_back : {X Y : Type 0} (P : Y → Type 0) (f : X → Y) (xs : List X) → AllByRecursion (λ x. P (f x)) xs → AllByRecursion P (map f xs)
all_back P f [] h = tt
all_back P f (x ∷ xs) h = (h.0, all_back P f xs h.1)

abbrev Number : List TableDef → List ViewDef → Named → ℕ
Number tables views table = table_number (rel_named tables views table.name)

abbrev IsAt : List TableDef → List ViewDef → Named → Type 0
IsAt tables views table = (rel_named tables views table.name ≡ Some (Table (Number tables views table))) × (Number tables views table < length tables)

table_there : (tables : List TableDef) (views : List ViewDef) (table : Named) (more : List (List ℕ)) → unknown_table tables views table ++ more ≡ [] → IsAt tables views table
table_there tables views table more e =
    table_in_use tables views table.name (shown_well (is_table (rel_named tables views table.name)) table.name (append_parts (unknown_table tables views table) more e).0)

module _ (tables : List TableDef) (views : List ViewDef) (sound : IsSchema tables views) (table : Named) where
  abbrev here : TableDef
  here = table_at tables (Number tables views table)

  abbrev source : Alias
  source = table_source tables views table

  kinds_here : IsAt tables views table → list_all (λ c. is_table_kind c.kind) here.columns ≡ true
  kinds_here at = (sound.each_table (Number tables views table) at.1).kinds

  columns_here : IsAt tables views table → source.columns ≡ here.columns
  columns_here at = ap (columns_of tables views) at.0

  insert_fits : (tuples : List Tuple) → IsSpoken (Insert table tuples) → IsFaultless tables views (Insert table tuples) → IsBoundChange tables (change.Insert (Number tables views table) (bound_rows tuples))
  insert_fits tuples spoken clean =
      let at : IsAt tables views table = table_there tables views table [] clean.known in
      let size : length (bound_rows tuples) ≡ length tuples = length-map tuples (λ t. map (λ l. l.value) t.values) in
      let columns : insert_columns tables (rel_named tables views table.name) ≡ here.columns = ap (insert_columns tables) at.0 in
      let kinds : flat_map (tuple_kinds here.columns) tuples ≡ [] = subst (λ cs. flat_map (tuple_kinds cs) tuples ≡ []) columns clean.kinds_agree in
      let short : AllByRecursion IsShort (flat_map tuple_texts tuples) = all_mapped (λ n. n ≤ 256) length (flat_map tuple_texts tuples) (none_over 256 (lengths (flat_map tuple_texts tuples)) clean.small.0) in
      (at.1, rw size (none_over 1000 (length tuples ∷ []) clean.small.1.0).0, rows_so here.columns tuples (kinds_here at) kinds clean.in_range spoken.1 short)

  update_fits : (sets : List Assign) (c : CondTree) → IsSpoken (Update table sets c) → IsFaultless tables views (Update table sets c)
      → IsBoundChange tables (change.Update (Number tables views table) (map (bound_set (source ∷ [])) sets) (bound_cond (source ∷ []) c))
  update_fits sets c spoken clean =
      let cols : List ColName = flat_map assign_columns sets ++ compared_columns (sides_of c) in
      let at : IsAt tables views table = table_there tables views table (unknown_columns (source ∷ []) cols ++ []) clean.known in
      let unknowns : (unknown_table tables views table ≡ []) × (unknown_columns (source ∷ []) cols ++ [] ≡ []) = append_parts (unknown_table tables views table) (unknown_columns (source ∷ []) cols ++ []) clean.known in
      let cols_known : AllByRecursion (IsKnown (source ∷ [])) (flat_map assign_columns sets ++ compared_columns (sides_of c)) = all_known (source ∷ []) cols (append_parts (unknown_columns (source ∷ []) cols) [] unknowns.1).0 in
      let known : AllByRecursion (IsKnown (source ∷ [])) (flat_map assign_columns sets) × AllByRecursion (IsKnown (source ∷ [])) (compared_columns (sides_of c)) =
      all_append (IsKnown (source ∷ [])) (flat_map assign_columns sets) (compared_columns (sides_of c)) cols_known in
      let kinds : (flat_map (assign_kinds (source ∷ [])) sets ≡ []) × (compared_kinds (source ∷ []) (sides_of c) ≡ []) =
      append_parts (flat_map (assign_kinds (source ∷ [])) sets) (compared_kinds (source ∷ []) (sides_of c)) clean.kinds_agree in
      let texts : AllByRecursion IsShort (flat_map (λ a. assign_texts a.value) sets ++ compared_texts (sides_of c)) =
      all_mapped (λ n. n ≤ 256) length (flat_map (λ a. assign_texts a.value) sets ++ compared_texts (sides_of c))
      (none_over 256 (lengths (flat_map (λ a. assign_texts a.value) sets ++ compared_texts (sides_of c))) clean.small.1.0) in
      let short : AllByRecursion IsShort (flat_map (λ a. assign_texts a.value) sets) × AllByRecursion IsShort (compared_texts (sides_of c)) =
      all_append IsShort (flat_map (λ a. assign_texts a.value) sets) (compared_texts (sides_of c)) texts in
      let table_kinds : list_all (λ c. is_table_kind c.kind) source.columns ≡ true = subst (λ cs. list_all (λ c. is_table_kind c.kind) cs ≡ true) (sym (columns_here at)) (kinds_here at) in
      let few : length (sides_of c) ≤ 16 = (none_over 16 (length (sides_of c) ∷ []) clean.small.0).0 in (
        at.1,
        sets_so source here.key table_kinds here (sym (columns_here at)) refl sets known.0 kinds.0 clean.keys_kept clean.in_range spoken.1 short.0,
        sets_apart source here.key table_kinds sets known.0 clean.free,
        cond_fits (here.columns ∷ []) (source ∷ []) c (ap (λ (cs : List Column). cs ∷ []) (columns_here at)) spoken.2 known.1 few (all_back (λ n. n ≤ 256) length (compared_texts (sides_of c)) short.1) kinds.1,
      )

  delete_fits : (c : CondTree) → IsSpoken (Delete table c) → IsFaultless tables views (Delete table c) → IsBoundChange tables (change.Delete (Number tables views table) (bound_cond (source ∷ []) c))
  delete_fits c spoken clean =
      let cols : List ColName = compared_columns (sides_of c) in
      let at : IsAt tables views table = table_there tables views table (unknown_columns (source ∷ []) cols ++ []) clean.known in
      let unknowns : (unknown_table tables views table ≡ []) × (unknown_columns (source ∷ []) cols ++ [] ≡ []) = append_parts (unknown_table tables views table) (unknown_columns (source ∷ []) cols ++ []) clean.known in
      let known : AllByRecursion (IsKnown (source ∷ [])) cols = all_known (source ∷ []) cols (append_parts (unknown_columns (source ∷ []) cols) [] unknowns.1).0 in
      let few : length (sides_of c) ≤ 16 = (none_over 16 (length (sides_of c) ∷ []) clean.small.0).0 in
      (at.1, cond_fits (here.columns ∷ []) (source ∷ []) c (ap (λ (cs : List Column). cs ∷ []) (columns_here at)) spoken known few (none_over 256 (lengths (compared_texts (sides_of c))) clean.small.1.0) clean.kinds_agree)

pub fits_change : (tables : List TableDef) (views : List ViewDef) (s : Stmt) (c : Change) → IsSchema tables views → IsSpoken s → IsFaultless tables views s
    → bound_among tables views (sources_of tables views s) s ≡ bound.Change c → IsBoundChange tables c
fits_change tables views (CreateTable name cols key) c sound spoken clean e = absurd cc
fits_change tables views (CreateView name items refs whole groups) c sound spoken clean e = absurd cc
fits_change tables views (Insert table tuples) c sound spoken clean e =
    let same : change.Insert (Number tables views table) (bound_rows tuples) ≡ c = cc in
    subst (IsBoundChange tables) same (insert_fits tables views sound table tuples spoken clean)
fits_change tables views (Update table sets only) c sound spoken clean e =
    let same : change.Update (Number tables views table) (map (bound_set (table_source tables views table ∷ [])) sets) (bound_cond (table_source tables views table ∷ []) only) ≡ c = cc in
    subst (IsBoundChange tables) same (update_fits tables views sound table sets only spoken clean)
fits_change tables views (Delete table only) c sound spoken clean e =
    let same : change.Delete (Number tables views table) (bound_cond (table_source tables views table ∷ []) only) ≡ c = cc in
    subst (IsBoundChange tables) same (delete_fits tables views sound table only spoken clean)
fits_change tables views (Select list refs whole order) c sound spoken clean e = absurd cc
fits_change tables views Begin c sound spoken clean e = absurd cc
fits_change tables views Commit c sound spoken clean e = absurd cc
fits_change tables views Rollback c sound spoken clean e = absurd cc
fits_change tables views ShowTasks c sound spoken clean e = absurd cc

pub bound_change_fits : (tables : List TableDef) (views : List ViewDef) (setup live : Bool) (s : Stmt) (c : Change) → IsSchema tables views → IsSpoken s
    → bound_of tables views setup live s ≡ Ok (bound.Change c) → IsBoundChange tables c
bound_change_fits tables views setup live s c sound spoken e =
    let clean : IsFaultless tables views s × (bound_among tables views (sources_of tables views s) s ≡ bound.Change c) = faultless tables views setup live s (bound.Change c) e in
    fits_change tables views s c sound spoken clean.0 clean.1
