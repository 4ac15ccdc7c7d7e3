-- The sums of a change that was bound fit: the numbers in a table have 64 bits, and its amounts have 38 digits at most.
use Rattle.std.proofs.Common.{◌≡◌, ℕ, zero, suc, ◌+◌, ◌^◌, ◌<◌, ◌≤◌, ℤ, pos, negsuc, neg_ℤ, ◌+ℤ◌, true, not, ◌&&◌, List, [], ◌∷◌, FitsSigned, refl, arith}
use Rattle.std.specs.Prelude.{◌==◌, nat_abs, nat_lt, nat_le, int_lt, int_le, unsigned_abs, slice_get, Option, Some, None}
use Rattle.std.proofs.lemmas.Int.{ints, fits_signed_from_abs}
use Rattle.std.proofs.lemmas.Bool.{and_parts}
use Rattle.std.proofs.lemmas.Bool.Decides.{nat_tests}
use Rattle.std.specs.Int.{w128}
use Rattle.std.specs.List.{AllByRecursion, list_all, list_any}
use Rattle.lv_values.specs.declared.value.Value.{Value}
use Rattle.lv_values.specs.declared.value.Value.TheVariants.{Num, Text as Word}
use Rattle.lv_values.specs.Order.{number_of}
use Rattle.lv_values.specs.Rows.{value_in}
use Rattle.lv_schema.specs.declared.change.Change.{Change}
use Rattle.lv_schema.specs.declared.change.Change.TheVariants.{Insert, Update, Delete}
use Rattle.lv_schema.specs.declared.change.Set.{Set}
use Rattle.lv_schema.specs.declared.change.SetValue.{SetValue}
use Rattle.lv_schema.specs.declared.change.SetValue.TheVariants.{Literal, Column as OfColumn, Plus}
use Rattle.lv_schema.specs.declared.table.Column.{Column}
use Rattle.lv_schema.specs.declared.table.Kind.{Kind}
use Rattle.lv_schema.specs.declared.table.Kind.TheVariants.{Int, Text, Big}
use Rattle.lv_schema.specs.declared.table.TableDef.{TableDef}
use Rattle.lv_schema.specs.declared.view.ViewDef.{ViewDef}
use Rattle.lv_schema.specs.Bound.{IsBoundChange, column_set, has_kind, is_bound_set, is_table_kind, is_text}
use Rattle.lv_schema.specs.Databases.{IsTable, is_int, row_fits, value_fits}
use Rattle.lv_schema.specs.Effects.{changed_table}
use Rattle.lv_schema.specs.Sound.{IsSchema}
use Rattle.lv_schema.specs.World.{table_at}
use Rattle.lv_effect.specs.Sums.{SumFits, RowSumsFit, SumsFit, ChangeSumsFit}

lt_of : (a b : ℕ) → nat_lt a b ≡ true → a < b
lt_of a b h = grind (arith, nat_tests)

le_of : (a b : ℕ) → nat_le a b ≡ true → a ≤ b
le_of a b h = grind (arith, nat_tests)

-- ---- the numbers of a table have 64 bits
value_bits : (kind : Kind) (v : Value) → is_table_kind kind ≡ true → value_fits kind v ≡ true → is_int (number_of v) ≡ true
value_bits Int (Num n) k e = e
value_bits Text (Num n) k e = cc
value_bits Big (Num n) k e = cc
value_bits kind (Word t) k e = refl

row_bits : (columns : List Column) (row : List Value) (at : ℕ) → list_all (λ (c : Column). is_table_kind c.kind) columns ≡ true → row_fits columns row ≡ true → is_int (number_of (value_in row at)) ≡ true
row_bits columns [] at k e = refl
row_bits [] (v ∷ row) at k e = cc
row_bits (c ∷ columns) (v ∷ row) zero k e =
    value_bits c.kind v (and_parts (is_table_kind c.kind) (list_all (λ (c : Column). is_table_kind c.kind) columns) k).0 (and_parts (value_fits c.kind v) (row_fits columns row) e).0
row_bits (c ∷ columns) (v ∷ row) (suc at) k e =
    row_bits columns row at (and_parts (is_table_kind c.kind) (list_all (λ (c : Column). is_table_kind c.kind) columns) k).1 (and_parts (value_fits c.kind v) (row_fits columns row) e).1

-- ---- a sum of such a number and a short amount
abs_int : (z : ℤ) → is_int z ≡ true → unsigned_abs z ≤ 2 ^ 63
abs_int (pos n) h =
    let t = (and_parts (int_le (neg_ℤ (pos (2 ^ 63))) (pos n)) (int_lt (pos n) (pos (2 ^ 63))) h).1 in
    let u : nat_lt n 9223372036854775808 ≡ true = t in
    let v = lt_of n 9223372036854775808 u in omega (arith, v)
abs_int (negsuc n) h =
    let t = (and_parts (int_le (neg_ℤ (pos (2 ^ 63))) (negsuc n)) (int_lt (negsuc n) (pos (2 ^ 63))) h).0 in
    let u : nat_le n 9223372036854775807 ≡ true = t in
    let v = le_of n 9223372036854775807 u in omega (arith, v)

abs_sum : (a b : ℤ) → unsigned_abs (a +ℤ b) ≤ unsigned_abs a + unsigned_abs b
abs_sum a b = omega (arith, ints)

sum_fits : (a b : ℤ) → is_int a ≡ true → nat_lt (nat_abs b) (10 ^ 38) ≡ true → FitsSigned w128 (a +ℤ b)
sum_fits a b h k =
    let s = lt_of (unsigned_abs b) (10 ^ 38) k in
    fits_signed_from_abs w128 (a +ℤ b) (omega (arith, abs_sum a b, abs_int a h, s))

-- ---- the sums of a change
set_sum : (columns : List Column) (o : Option Column) (row : List Value) (value : SetValue) → ((at : ℕ) → is_int (number_of (value_in row at)) ≡ true) → column_set columns o value ≡ true → SumFits row value
set_sum columns o row (Literal v) bits e = tt
set_sum columns o row (OfColumn c) bits e = tt
set_sum columns None row (Plus c amount) bits e = cc
set_sum columns (Some column) row (Plus c amount) bits e =
    sum_fits (number_of (value_in row c)) amount (bits c)
    (and_parts (not (is_text column.kind) && has_kind column.kind (slice_get columns c)) (nat_lt (nat_abs amount) (10 ^ 38)) e).1

row_sums : (def : TableDef) (row : List Value) (sets : List Set) → ((at : ℕ) → is_int (number_of (value_in row at)) ≡ true) → list_all (is_bound_set def) sets ≡ true → RowSumsFit sets row
row_sums def row [] bits e = tt
row_sums def row (s ∷ sets) bits e =
    let es = and_parts (is_bound_set def s) (list_all (is_bound_set def) sets) e in
    let set = and_parts (column_set def.columns (slice_get def.columns s.column) s.value) (not (list_any (λ k. k == s.column) def.key)) es.0 in
    (set_sum def.columns (slice_get def.columns s.column) row s.value bits set.0, row_sums def row sets bits es.1)

all_sums : (def : TableDef) (sets : List Set) (rows : List (List Value)) → list_all (λ (c : Column). is_table_kind c.kind) def.columns ≡ true → list_all (is_bound_set def) sets ≡ true
    → AllByRecursion (λ row. row_fits def.columns row ≡ true) rows → SumsFit sets rows
all_sums def sets [] kinds e fits = tt
all_sums def sets (row ∷ rows) kinds e fits = (row_sums def row sets (λ at. row_bits def.columns row at kinds fits.0) e, all_sums def sets rows kinds e fits.1)

pub bound_sums : (tables : List TableDef) (views : List ViewDef) (change : Change) (rows : List (List Value)) → IsSchema tables views → IsBoundChange tables change → IsTable (table_at tables (changed_table change)) rows → ChangeSumsFit change rows
bound_sums tables views (Insert table new) rows schema bound is = tt
bound_sums tables views (Update table sets c) rows schema bound is = all_sums (table_at tables table) sets rows (schema.each_table table bound.0).kinds bound.1 is.fits
bound_sums tables views (Delete table c) rows schema bound is = tt
