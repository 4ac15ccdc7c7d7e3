-- Places among few aliases of few columns fit in a byte.
use Rattle.std.proofs.Common.{◌≡◌, ◌<◌, ◌≤◌, ◌+◌, ◌-◌, ℕ, zero, suc, map, Bool, true, false, cond, List, [], ◌∷◌, length, Option, Some, None, IfSome, refl, sym, arith, get_or, ◌++◌, ap, ◌∙◌, ⊎_elim}
use Rattle.std.specs.List.{AllByRecursion, cons_option, range_with_len}
use Rattle.std.specs.Option.{option_map, unwrap_or}
use Rattle.std.specs.Str.{bytes_eq}
use Rattle.std.proofs.lemmas.Bool.{cases_lt}
use Rattle.std.proofs.lemmas.List.{append_assoc, length-map, map-append, get_or_past}
use Rattle.std.proofs.lemmas.List.Quantifiers.{position-Some}
use Rattle.lv_parser.specs.declared.tree.ColName.{ColName}
use Rattle.lv_schema.specs.declared.cond.Col.{Col}
use Rattle.lv_schema.specs.declared.query.Rel.{Rel}
use Rattle.lv_schema.specs.declared.query.Rel.TheVariants.{Table, View}
use Rattle.lv_schema.specs.declared.table.TableDef.{TableDef}
use Rattle.lv_schema.specs.declared.view.ViewDef.{ViewDef}
use Rattle.lv_schema.specs.Bound.{alias_columns, listed_column, view_columns}
use Rattle.lv_schema.specs.Sound.{IsSchema}
use Rattle.lv_schema.specs.World.{table_at, view_at, no_table, no_view}
use Rattle.lv_bind.specs.declared.sources.Place.{Place}
use Rattle.lv_bind.specs.declared.sources.Source.{Source}
use Rattle.lv_bind.specs.Binding.{IsNarrow}
use Rattle.lv_bind.specs.Seen.{alias_seen}
use Rattle.lv_bind.specs.Sources.{Alias, AreNarrow, no_column, columns_of, first, goes_by, column_named, place_at, place_in, places_from, places, place_of}

abbrev IsAt : ℕ → ℕ → Place → Type 0
IsAt n most p = (p.alias < n + most) × (p.column < 16)

narrow_in : (n : ℕ) (s : Alias) (col : ColName) → length s.columns ≤ 16 → IfSome (place_in n s col) (IsAt n 1)
narrow_in n s col h = by (goes_by col.qualifier s.name) (column_named col.name.name s.columns) refl
  where
    by : (b : Bool) (at : Option ℕ) → column_named col.name.name s.columns ≡ at → IfSome (cond b (option_map (place_at n) at) None) (IsAt n 1)
    by false at e = tt
    by true None e = tt
    by true (Some k) e = (omega arith, omega (arith, (position-Some (λ c. bytes_eq col.name.name c.name) s.columns k no_column e).0))

narrow_first : (n : ℕ) (sources : List Alias) (col : ColName) → AllByRecursion (λ s. length s.columns ≤ 16) sources → IfSome (first (places_from n sources col)) (IsAt n (length sources))
narrow_first n [] col h = tt
narrow_first n (s ∷ more) col h = by (place_in n s col) (first (places_from (suc n) more col)) refl (narrow_in n s col h.0) (narrow_first (suc n) more col h.1)
  where
    by : (p q : Option Place) → first (places_from (suc n) more col) ≡ q → IfSome p (IsAt n 1) → IfSome q (IsAt (suc n) (length more)) → IfSome (first (cons_option p (places_from (suc n) more col))) (IsAt n (suc (length more)))
    by (Some x) q e a b = (omega (arith, a.0), a.1)
    by None None e a b = rw e tt
    by None (Some x) e a b = rw e (omega (arith, b.0), b.1)

at_place_of : (sources : List Alias) (col : ColName) → IsNarrow sources → ((place_of sources col).alias < 4 + 1) × ((place_of sources col).column < 16)
at_place_of sources col h = by (first (places sources col)) (narrow_first 0 sources col h.narrow)
  where
    by : (p : Option Place) → IfSome p (IsAt 0 (length sources)) → ((unwrap_or p (place_at 0 0)).alias < 4 + 1) × ((unwrap_or p (place_at 0 0)).column < 16)
    by None a = (omega arith, omega arith)
    by (Some x) a = (omega (arith, a.0, h.few), a.1)

pub narrow_alias : (sources : List Alias) (col : ColName) → IsNarrow sources → (place_of sources col).alias < 5
narrow_alias sources col h = (at_place_of sources col h).0

pub narrow_column : (sources : List Alias) (col : ColName) → IsNarrow sources → (place_of sources col).column < 16
narrow_column sources col h = (at_place_of sources col h).1

narrow_at : (tables : List TableDef) (views : List ViewDef) (xs : List Source) (i : ℕ) (d : Source)
    → AllByRecursion (λ (s : Alias). length s.columns ≤ 16) (map (alias_seen tables views) xs) → i < length xs → length (alias_seen tables views (get_or xs i d)).columns ≤ 16
narrow_at tables views [] i d h lt = absurd (omega arith)
narrow_at tables views (x ∷ xs) zero d h lt = h.0
narrow_at tables views (x ∷ xs) (suc i) d h lt = narrow_at tables views xs i d h.1 (omega arith)

-- the columns of one of few aliases
pub narrow_width : (tables : List TableDef) (views : List ViewDef) (xs : List Source) (i : ℕ) (x : Source)
    → IsNarrow (map (alias_seen tables views) xs) → i < length xs → x ≡ get_or xs i x → length (alias_seen tables views x).columns ≤ 16
narrow_width tables views xs i x h lt at = rw at (narrow_at tables views xs i x h.narrow lt)

-- the numbers from a to below b
range_more : (a b : ℕ) → a < b → range_with_len a (b - a) ≡ a ∷ range_with_len (a + 1) (b - (a + 1))
range_more a b h = let e : b - a ≡ suc (b - (a + 1)) = omega arith in rw e refl

abbrev col_of : ℕ → ℕ → Col
col_of alias column = record { alias = alias; column = column }

-- one more column of an alias at the end
pub listed_more : (alias width column : ℕ) (out new start : List Col) → column < width → new ≡ out ++ col_of alias column ∷ []
    → out ++ map (col_of alias) (range_with_len column (width - column)) ≡ start → new ++ map (col_of alias) (range_with_len (column + 1) (width - (column + 1))) ≡ start
listed_more alias width column out new start lt n was =
    let more : range_with_len column (width - column) ≡ column ∷ range_with_len (column + 1) (width - (column + 1)) = range_more column width lt in
    rw n (append_assoc out (col_of alias column ∷ []) (map (col_of alias) (range_with_len (column + 1) (width - (column + 1))))
    ∙ ap (λ l. out ++ map (col_of alias) l) (sym more) ∙ was)

-- the columns of what a name stands for in a sound schema
module _ (tables : List TableDef) (views : List ViewDef) (sound : IsSchema tables views) where
  table_narrow : (t : ℕ) → length (table_at tables t).columns ≤ 16
  table_narrow t = ⊎_elim in_use past (cases_lt t (length tables))
    where
      in_use : t < length tables → length (table_at tables t).columns ≤ 16
      in_use lt = (sound.each_table t lt).few_columns

      past : length tables ≤ t → length (table_at tables t).columns ≤ 16
      past le = rw (get_or_past tables t no_table le) (omega arith)

  view_narrow : (v : ℕ) → length (view_columns tables (view_at views v)) ≤ 16
  view_narrow v = ⊎_elim in_use past (cases_lt v (length views))
    where
      in_use : v < length views → length (view_columns tables (view_at views v)) ≤ 16
      in_use lt = rw (length-map (view_at views v).items (listed_column (alias_columns tables (view_at views v).tables))) (sound.each_view v lt).few_items

      past : length views ≤ v → length (view_columns tables (view_at views v)) ≤ 16
      past le = rw (get_or_past views v no_view le) (omega arith)

  pub rel_narrow : (rel : Option Rel) → length (columns_of tables views rel) ≤ 16
  rel_narrow None = omega arith
  rel_narrow (Some (Table t)) = table_narrow t
  rel_narrow (Some (View v)) = view_narrow v

push_narrow : (xs : List Alias) (s : Alias) → AreNarrow xs → length s.columns ≤ 16 → AreNarrow (xs ++ s ∷ [])
push_narrow [] s h e = (e, tt)
push_narrow (x ∷ xs) s h e = (h.0, push_narrow xs s h.1 e)

-- one more alias at the end
pub narrow_pushed : (tables : List TableDef) (views : List ViewDef) (old new : List Source) (s : Source) → IsSchema tables views → new ≡ old ++ s ∷ []
    → AreNarrow (map (alias_seen tables views) old) → AreNarrow (map (alias_seen tables views) new)
narrow_pushed tables views old new s sound n h =
    rw (n, map-append (alias_seen tables views) old (s ∷ [])) (push_narrow (map (alias_seen tables views) old) (alias_seen tables views s) h (rel_narrow tables views sound s.rel))

-- one alias alone
pub narrow_one : (tables : List TableDef) (views : List ViewDef) (s : Source) → IsSchema tables views → AreNarrow (alias_seen tables views s ∷ [])
narrow_one tables views s sound = (rel_narrow tables views sound s.rel, tt)

-- few aliases
pub narrow_few : (tables : List TableDef) (views : List ViewDef) (xs : List Source) → length xs ≤ 4 → AreNarrow (map (alias_seen tables views) xs) → IsNarrow (map (alias_seen tables views) xs)
narrow_few tables views xs few narrow = record { few = rw (length-map xs (alias_seen tables views)) few; narrow = narrow }
