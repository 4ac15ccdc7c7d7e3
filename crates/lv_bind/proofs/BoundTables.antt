-- A table that is made is bound against its schema.
use Rattle.std.proofs.Common.{◌≡◌, ◌<◌, ◌≤◌, ℕ, suc, Bool, true, ◌&&◌, List, [], ◌∷◌, ◌++◌, map, length, get_or, refl, sym, ap, subst, ◌∙◌, arith}
use Rattle.std.specs.Prelude.{nat_eq, nat_lt, is_none, position, unwrap_or, Some, Ok}
use Rattle.std.specs.List.{AllByRecursion, list_all}
use Rattle.std.specs.Str.{bytes_eq}
use Rattle.std.proofs.lemmas.Bool.{and_from, and_parts, lt-ltb, eqb-true}
use Rattle.std.proofs.lemmas.List.{length-map}
use Rattle.std.proofs.lemmas.List.Quantifiers.{position-Some}
use Rattle.std.proofs.lemmas.Slice.Eq.{bytes_eq-Decides}
use Rattle.lv_parser.specs.declared.tree.ColumnKind.{ColumnKind}
use Rattle.lv_parser.specs.declared.tree.ColumnKind.TheVariants as kind
use Rattle.lv_parser.specs.declared.tree.ColumnTree.{ColumnTree}
use Rattle.lv_parser.specs.declared.tree.Named.{Named}
use Rattle.lv_parser.specs.declared.tree.Stmt.{Stmt}
use Rattle.lv_parser.specs.declared.tree.Stmt.TheVariants.{CreateTable, CreateView, Insert, Update, Delete, Select, Begin, Commit, Rollback, ShowTasks}
use Rattle.lv_schema.specs.declared.bound.Bound.TheVariants as bound
use Rattle.lv_schema.specs.declared.table.Column.{Column}
use Rattle.lv_schema.specs.declared.table.TableDef.{TableDef}
use Rattle.lv_schema.specs.declared.view.ViewDef.{ViewDef}
use Rattle.lv_schema.specs.Bound.{IsBoundTable, is_table_kind}
use Rattle.lv_values.specs.Names.{is_name}
use Rattle.lv_schema.specs.Catalog.{rel_named}
use Rattle.lv_bind.specs.Binding.{bound_among, bound_column, bound_kind, bound_table, key_place}
use Rattle.lv_bind.specs.Faults.{bound_of}
use Rattle.lv_bind.specs.InUse.{taken, repeated_columns, repeated_names}
use Rattle.lv_bind.specs.Sources.{sources_of}
use Rattle.lv_bind.specs.Spoken.{IsSpoken, is_spoken_name}
use Rattle.lv_bind.specs.Unknown.{is_column}
use Rattle.lv_bind.proofs.FoundFaults.{IsFaultless, append_parts, faultless, none_over, none_shown, shown_well}
use Rattle.lv_bind.proofs.NameLemmas.{apart_mapped, name_fits, position_found, repeated_apart, taken_free}

abbrev named_so : List ℕ → ColumnTree → Bool
named_so name c = bytes_eq name c.name.name

-- the place of a key column that is among the columns
place_is : (cols : List ColumnTree) (name : List ℕ) → is_column cols name ≡ true → position (named_so name) cols ≡ Some (key_place cols name)
place_is cols name e = position_found (named_so name) cols e ∙ ap Some (sym (ap (λ o. unwrap_or o 0) (position_found (named_so name) cols e)))

place_below : (cols : List ColumnTree) (name : List ℕ) → is_column cols name ≡ true → key_place cols name < length cols
place_below [] name e = absurd cc
place_below (c ∷ cols) name e = (position-Some (named_so name) (c ∷ cols) (key_place (c ∷ cols) name) c (place_is (c ∷ cols) name e)).0

place_named : (c : ColumnTree) (cols : List ColumnTree) (name : List ℕ) → is_column (c ∷ cols) name ≡ true → bytes_eq name (get_or (c ∷ cols) (key_place (c ∷ cols) name) c).name.name ≡ true
place_named c cols name e = (position-Some (named_so name) (c ∷ cols) (key_place (c ∷ cols) name) c (place_is (c ∷ cols) name e)).1

same_place_name : (cols : List ColumnTree) (a b : List ℕ) → is_column cols a ≡ true → is_column cols b ≡ true → nat_eq (key_place cols a) (key_place cols b) ≡ true → bytes_eq a b ≡ true
same_place_name [] a b p q e = absurd cc
same_place_name (c ∷ cols) a b p q e =
    let same : key_place (c ∷ cols) a ≡ key_place (c ∷ cols) b = eqb-true _ _ e in
    let of_a : a ≡ (get_or (c ∷ cols) (key_place (c ∷ cols) a) c).name.name = (bytes_eq-Decides a _).0 (place_named c cols a p) in
    let of_b : b ≡ (get_or (c ∷ cols) (key_place (c ∷ cols) b) c).name.name = (bytes_eq-Decides b _).0 (place_named c cols b q) in
    (bytes_eq-Decides a b).1 (of_a ∙ ap (λ i. (get_or (c ∷ cols) i c).name.name) same ∙ sym of_b)

each_column : (cols : List ColumnTree) (key : List Named) → list_all (λ k. is_column cols k.name) key ≡ true → AllByRecursion (λ k. is_column cols k.name ≡ true) key
each_column cols [] e = tt
each_column cols (k ∷ key) e =
    let parts : (is_column cols k.name ≡ true) × (list_all (λ k. is_column cols k.name) key ≡ true) = and_parts (is_column cols k.name) (list_all (λ k. is_column cols k.name) key) e in
    (parts.0, each_column cols key parts.1)

places_below : (cols : List ColumnTree) (key : List Named) → AllByRecursion (λ k. is_column cols k.name ≡ true) key
    → list_all (λ k. nat_lt k (length (map bound_column cols))) (map (λ k. key_place cols k.name) key) ≡ true
places_below cols [] h = refl
places_below cols (k ∷ key) h =
    and_from (nat_lt (key_place cols k.name) (length (map bound_column cols))) _
    (lt-ltb _ _ (rw (length-map cols bound_column) (place_below cols k.name h.0))) (places_below cols key h.1)

kinds_fit : (cols : List ColumnTree) → list_all (λ c. is_table_kind c.kind) (map bound_column cols) ≡ true
kinds_fit [] = refl
kinds_fit (c ∷ cols) = by c.kind (kinds_fit cols)
  where
    by : (k : ColumnKind) → list_all (λ c. is_table_kind c.kind) (map bound_column cols) ≡ true → (is_table_kind (bound_kind k) && list_all (λ c. is_table_kind c.kind) (map bound_column cols)) ≡ true
    by kind.Int h = h
    by kind.Text h = h

column_names : (cols : List ColumnTree) → map (λ (c : Column). c.name) (map bound_column cols) ≡ map (λ c. c.name.name) cols
column_names [] = refl
column_names (c ∷ cols) = ap (λ names. c.name.name ∷ names) (column_names cols)

columns_named : (cols : List ColumnTree) → list_all (λ c. is_spoken_name c.name.name) cols ≡ true → AllByRecursion (λ n. n ≤ 32) (map length (map (λ c. c.name.name) cols))
    → list_all (λ c. is_name c.name) (map bound_column cols) ≡ true
columns_named [] e le = refl
columns_named (c ∷ cols) e le =
    let parts : (is_spoken_name c.name.name ≡ true) × (list_all (λ c. is_spoken_name c.name.name) cols ≡ true) =
    and_parts (is_spoken_name c.name.name) (list_all (λ c. is_spoken_name c.name.name) cols) e in
    and_from (is_name c.name.name) _ (name_fits c.name.name parts.0 le.0) (columns_named cols parts.1 le.1)

module _ (tables : List TableDef) (views : List ViewDef) (name : Named) (cols : List ColumnTree) (key : List Named)
    (spoken : IsSpoken (CreateTable name cols key)) (clean : IsFaultless tables views (CreateTable name cols key)) where
  unused : (taken tables views name ≡ []) × (repeated_columns cols ++ repeated_names key ≡ [])
  unused = append_parts (taken tables views name) (repeated_columns cols ++ repeated_names key) clean.free

  once_each : (repeated_columns cols ≡ []) × (repeated_names key ≡ [])
  once_each = append_parts (repeated_columns cols) (repeated_names key) unused.1

  key_known : AllByRecursion (λ k. is_column cols k.name ≡ true) key
  key_known = each_column cols key (none_shown (λ k. is_column cols k.name) (λ k. k.name) key clean.known)

  short_names : AllByRecursion (λ n. n ≤ 32) (map length (name.name ∷ map (λ c. c.name.name) cols))
  short_names = none_over 32 (map length (name.name ∷ map (λ c. c.name.name) cols)) clean.small.0

  pub table_fits : IsBoundTable tables views (bound_table tables name cols key)
  table_fits = record {
    next = refl;
    room = let le : suc (length tables) ≤ 32 = (none_over 32 (suc (length tables) ∷ []) clean.small.1.0).0 in omega arith;
    named = name_fits name.name spoken.0 short_names.0;
    free = taken_free tables views name.name (shown_well (is_none (rel_named tables views name.name)) name.name unused.0);
    some_columns = rw (length-map cols bound_column) spoken.1;
    few_columns = rw (length-map cols bound_column) (none_over 16 (length cols ∷ []) clean.small.1.1.0).0;
    columns_named = columns_named cols spoken.2 short_names.1;
    columns_apart = rw (column_names cols) (repeated_apart (map (λ c. c.name.name) cols) once_each.0);
    kinds = kinds_fit cols;
    some_key = rw (length-map key (λ k. key_place cols k.name)) spoken.3;
    key_apart = apart_mapped (λ k. k.name) (λ k. key_place cols k.name) bytes_eq nat_eq (λ k. is_column cols k.name ≡ true)
        (λ a b p q e. same_place_name cols a.name b.name p q e) key key_known (repeated_apart (map (λ k. k.name) key) once_each.1);
    key_in_range = places_below cols key key_known;
  }

pub fits_table : (tables : List TableDef) (views : List ViewDef) (s : Stmt) (def : TableDef) → IsSpoken s → IsFaultless tables views s
    → bound_among tables views (sources_of tables views s) s ≡ bound.Table def → IsBoundTable tables views def
fits_table tables views (CreateTable name cols key) def spoken clean e =
    let same : bound_table tables name cols key ≡ def = cc in
    subst (IsBoundTable tables views) same (table_fits tables views name cols key spoken clean)
fits_table tables views (CreateView name items refs c groups) def spoken clean e = absurd cc
fits_table tables views (Insert table tuples) def spoken clean e = absurd cc
fits_table tables views (Update table sets c) def spoken clean e = absurd cc
fits_table tables views (Delete table c) def spoken clean e = absurd cc
fits_table tables views (Select list refs c order) def spoken clean e = absurd cc
fits_table tables views Begin def spoken clean e = absurd cc
fits_table tables views Commit def spoken clean e = absurd cc
fits_table tables views Rollback def spoken clean e = absurd cc
fits_table tables views ShowTasks def spoken clean e = absurd cc

pub bound_table_fits : (tables : List TableDef) (views : List ViewDef) (setup live : Bool) (s : Stmt) (def : TableDef) → IsSpoken s
    → bound_of tables views setup live s ≡ Ok (bound.Table def) → IsBoundTable tables views def
bound_table_fits tables views setup live s def spoken e =
    let clean : IsFaultless tables views s × (bound_among tables views (sources_of tables views s) s ≡ bound.Table def) = faultless tables views setup live s (bound.Table def) e in
    fits_table tables views s def spoken clean.0 clean.1
