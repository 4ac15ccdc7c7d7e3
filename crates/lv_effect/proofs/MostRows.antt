-- A table has no more rows than the base shows and own writes are kept of it.
use Rattle.std.proofs.Common.{◌≡◌, ℕ, ◌+◌, ◌≤◌, Bool, true, false, cond, List, [], ◌∷◌, ◌++◌, length, map, filter, Option, Some, None, arith}
use Rattle.std.specs.Prelude.{nat_lt}
use Rattle.std.specs.List.{cons_option, filter_map}
use Rattle.std.specs.FinMap.Entries.{by_order}
use Rattle.std.specs.declared.cmp.Ordering.{Ordering}
use Rattle.std.specs.declared.cmp.Ordering.TheVariants.{Less, Equal, Greater}
use Rattle.std.proofs.lemmas.Bool.Decides.{nat_tests}
use Rattle.lv_values.specs.declared.value.Value.{Value}
use Rattle.lv_values.specs.Order.{row_cmp}
use Rattle.lv_values.specs.Rows.{values_at}
use Rattle.lv_schema.specs.declared.table.TableDef.{TableDef}
use Rattle.lv_schema.specs.declared.version.RowVersion.{RowVersion}
use Rattle.lv_schema.specs.Keys.{row_at}
use Rattle.lv_schema.specs.Once.{once, put_once}
use Rattle.lv_overlay.specs.declared.put.Put.{Put}
use Rattle.lv_overlay.specs.Puts.{over, put_keys}
use Rattle.lv_versions.specs.Versions.{is_at, state_at}
use Rattle.lv_effect.specs.Answered.{could_fill}
use Rattle.lv_effect.specs.Seen.{rows_seen}

most_picked : {X Y : Type 0} (f : X → Option Y) (xs : List X) → length (filter_map f xs) ≤ length xs
most_picked {Y = Y} f [] = omega arith
most_picked {Y = Y} f (x ∷ xs) = by (f x) (most_picked f xs)
  where
    by : (o : Option Y) → length (filter_map f xs) ≤ length xs → length (cons_option o (filter_map f xs)) ≤ length (x ∷ xs)
    by None h = omega (arith, h)
    by (Some y) h = omega (arith, h)

most_put : {K : Type 0} (R : K → K → Ordering) (x : K) (ys : List K) → length (put_once R x ys) ≤ length (x ∷ ys)
most_put {K = K} R x [] = omega arith
most_put {K = K} R x (y ∷ ys) = by (R x y) (most_put R x ys)
  where
    by : (o : Ordering) → length (put_once R x ys) ≤ length (x ∷ ys) → length (by_order o (x ∷ y ∷ ys) (y ∷ ys) (y ∷ put_once R x ys)) ≤ length (x ∷ y ∷ ys)
    by Less h = omega arith
    by Equal h = omega arith
    by Greater h = omega (arith, h)

most_once : {K : Type 0} (R : K → K → Ordering) (xs : List K) → length (once R xs) ≤ length xs
most_once R [] = omega arith
most_once R (x ∷ xs) = omega (arith, most_put R x (once R xs), most_once R xs)

both_lengths : {X Y : Type 0} (f : X → Y) (xs : List X) (ys : List Y) → length (map f xs ++ ys) ≡ length xs + length ys
both_lengths f [] ys = omega arith
both_lengths f (x ∷ xs) ys = omega (arith, both_lengths f xs ys)

-- and the base shows no more rows than versions are kept
pub most_alive : (n : ℕ) (versions : List RowVersion) → length (state_at n versions) ≤ length versions
most_alive n [] = omega arith
most_alive n (v ∷ versions) = by (is_at n v) (most_alive n versions)
  where
    by : (b : Bool) → length (state_at n versions) ≤ length versions
        → length (map (λ w. w.row) (cond b (v ∷ filter (is_at n) versions) (filter (is_at n) versions))) ≤ length (v ∷ versions)
    by true h = omega (arith, h)
    by false h = omega (arith, h)

most_seen : (def : TableDef) (versions : List RowVersion) (n : ℕ) (puts : List Put) → length (rows_seen def versions n puts) ≤ length (state_at n versions) + length (put_keys puts def.no)
most_seen def versions n puts =
    let below = state_at n versions in
    let keys : List (List Value) = map (values_at def.key) below ++ put_keys puts def.no in
    omega (
      arith,
      most_picked (λ k. over puts (def.no, k) (row_at def.key k below)) (once row_cmp keys),
      most_once row_cmp keys,
      both_lengths (values_at def.key) below (put_keys puts def.no),
    )

-- so it has room where these are few enough
pub has_room : (def : TableDef) (versions : List RowVersion) (n : ℕ) (puts : List Put) (most more : ℕ) → length (state_at n versions) ≤ most → could_fill (most + length (put_keys puts def.no)) more ≡ false
    → nat_lt 65535 (length (rows_seen def versions n puts) + more) ≡ false
has_room def versions n puts most more shown few = by (length (rows_seen def versions n puts)) (most + length (put_keys puts def.no)) (omega (arith, most_seen def versions n puts, shown)) few
  where
    by : (a b : ℕ) → a ≤ b → nat_lt 65535 (b + more) ≡ false → nat_lt 65535 (a + more) ≡ false
    by a b le h = grind (arith, nat_tests)
