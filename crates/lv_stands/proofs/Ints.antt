-- The numbers of a sound world's databases have 64 bits, so those that a view sums have.
use Rattle.std.proofs.Common.{◌≡◌, ℕ, ◌<◌, ◌≤◌, Bool, true, false, ◌&&◌, List, [], ◌∷◌, map, length, get_or, pos, refl, arith}
use Rattle.std.specs.Prelude.{nat_lt}
use Rattle.std.specs.List.{AllByRecursion, list_all, flat_map}
use Rattle.std.proofs.lemmas.Bool.Decides.{nat_tests}
use Rattle.lv_values.specs.declared.value.Value.{Value}
use Rattle.lv_values.specs.declared.value.Value.TheVariants.{Num, Text as Word}
use Rattle.lv_values.specs.Order.{number_of}
use Rattle.lv_schema.specs.declared.cond.Col.{Col}
use Rattle.lv_schema.specs.declared.table.Column.{Column}
use Rattle.lv_schema.specs.declared.table.Kind.{Kind}
use Rattle.lv_schema.specs.declared.table.Kind.TheVariants.{Int, Text, Big}
use Rattle.lv_schema.specs.Bound.{is_table_kind}
use Rattle.lv_schema.specs.Databases.{Db, IsDatabase, is_int, rows_of, value_fits, row_fits}
use Rattle.lv_schema.specs.Differences.{summed_columns}
use Rattle.lv_schema.specs.Groups.{number_at}
use Rattle.lv_schema.specs.JoinViews.{parts_of, selected}
use Rattle.lv_schema.specs.SoundWorld.{IsSound}
use Rattle.lv_schema.specs.Truth.{holds}
use Rattle.lv_schema.specs.Tuples.{Tuple, tuples, value_at}
use Rattle.lv_schema.specs.World.{Visible, last, snap, view_at, table_at}
use Rattle.lv_schema.proofs.Apart.{all_append, all_filter, all_map, all_weaker}
use Rattle.lv_schema.proofs.ViewRows.{zip_at}
use Rattle.lv_group.specs.Gathered.{AreInts}
use Rattle.lv_stands.proofs.Lists.{all_get}

-- a number of 64 bits, or a text
abbrev HasBits : Value → Type 0
HasBits (Num n) = is_int n ≡ true
HasBits (Word t) = Unit {0}

abbrev RowsHaveBits : List (List Value) → Type 0
RowsHaveBits rows = AllByRecursion (AllByRecursion HasBits) rows

both : (a b : Bool) → (a && b) ≡ true → (a ≡ true) × (b ≡ true)
both true true e = (refl, refl)
both true false e = cc
both false b e = cc

fits_bits : (kind : Kind) (v : Value) → is_table_kind kind ≡ true → value_fits kind v ≡ true → HasBits v
fits_bits Int (Num n) k e = e
fits_bits Text (Num n) k e = cc
fits_bits Big (Num n) k e = cc
fits_bits kind (Word t) k e = tt

row_bits : (columns : List Column) (row : List Value) → list_all (λ (c : Column). is_table_kind c.kind) columns ≡ true → row_fits columns row ≡ true → AllByRecursion HasBits row
row_bits columns [] k e = tt
row_bits [] (v ∷ row) k e = cc
row_bits (c ∷ columns) (v ∷ row) k e =
    let ks = both (is_table_kind c.kind) (list_all (λ (c : Column). is_table_kind c.kind) columns) k in
    let es = both (value_fits c.kind v) (row_fits columns row) e in
    (fits_bits c.kind v ks.0 es.0, row_bits columns row ks.1 es.1)

flat_all : {X Y : Type 0} (f : X → List Y) (P : X → Type 0) (Q : Y → Type 0) → ((x : X) → P x → AllByRecursion Q (f x)) → (xs : List X) → AllByRecursion P xs → AllByRecursion Q (flat_map f xs)
flat_all f P Q h [] a = tt
flat_all f P Q h (x ∷ xs) a = all_append Q (f x) (flat_map f xs) (h x a.0) (flat_all f P Q h xs a.1)

tuples_bits : (parts : List (List (List Value))) → AllByRecursion RowsHaveBits parts → AllByRecursion RowsHaveBits (tuples parts)
tuples_bits [] a = (tt, tt)
tuples_bits (rows ∷ rest) a =
    flat_all (λ row. map (λ tuple. row ∷ tuple) (tuples rest)) (AllByRecursion HasBits) RowsHaveBits
    (λ row h. all_map (λ tuple. row ∷ tuple) RowsHaveBits (tuples rest) (all_weaker RowsHaveBits (λ tuple. RowsHaveBits (row ∷ tuple)) (λ tuple t. (h, t)) (tuples rest) (tuples_bits rest a.1)))
    rows a.0

number_bits : (v : Value) → HasBits v → is_int (number_of v) ≡ true
number_bits (Num n) h = h
number_bits (Word t) h = refl

tuple_bits : (cols : List Col) (tuple : Tuple) → RowsHaveBits tuple → list_all (λ col. is_int (number_at col tuple)) cols ≡ true
tuple_bits [] tuple a = refl
tuple_bits (col ∷ cols) tuple a =
    let first : is_int (number_at col tuple) ≡ true = number_bits (value_at tuple col) (all_get HasBits (get_or tuple col.alias []) col.column (Num (pos 0)) refl (all_get (AllByRecursion HasBits) tuple col.alias [] tt a)) in
    rw first (tuple_bits cols tuple a)

module _ (s : Visible) (sound : IsSound s) where
  parts_bits : (db : Db) → IsDatabase s.tables db → (tables : List ℕ) → list_all (λ t. nat_lt t (length s.tables)) tables ≡ true → AllByRecursion RowsHaveBits (parts_of tables db)
  parts_bits db fits [] e = tt
  parts_bits db fits (t ∷ tables) e =
      let es = both (nat_lt t (length s.tables)) (list_all (λ t. nat_lt t (length s.tables)) tables) e in
      let test = es.0 in
      let lt : t < length s.tables = grind (arith, nat_tests) in
      let is = zip_at s.tables db t fits lt in
      (all_weaker (λ row. row_fits (table_at s.tables t).columns row ≡ true) (AllByRecursion HasBits) (λ row h. row_bits (table_at s.tables t).columns row (sound.schema.each_table t lt).kinds h) (rows_of db t) is.fits, parts_bits db fits tables es.1)

  -- over any database of the tables
  pub tuples_over_are_ints : (db : Db) → IsDatabase s.tables db → (v : ℕ) → v < length s.views → AreInts (view_at s.views v) (selected (view_at s.views v).cond (parts_of (view_at s.views v).tables db))
  tuples_over_are_ints db fits v lt =
      let view = view_at s.views v in
      let parts = parts_of view.tables db in
      all_weaker RowsHaveBits (λ tuple. list_all (λ col. is_int (number_at col tuple)) (summed_columns view) ≡ true) (λ tuple a. tuple_bits (summed_columns view) tuple a)
      (selected view.cond parts)
      (all_filter RowsHaveBits (holds view.cond) (tuples parts) (tuples_bits parts (parts_bits db fits view.tables (sound.schema.each_view v lt).in_use)))

  pub tuples_are_ints : (k : ℕ) → k ≤ last s → (v : ℕ) → v < length s.views → AreInts (view_at s.views v) (selected (view_at s.views v).cond (parts_of (view_at s.views v).tables (snap s k)))
  tuples_are_ints k le = tuples_over_are_ints (snap s k) (sound.fits k le)
