-- The rows over a table's rows, one key after another.
use Rattle.std.proofs.Common.{◌≡◌, ℕ, zero, suc, ◌<◌, ◌≤◌, Bool, true, false, cond, ◌&&◌, List, [], ◌∷◌, ◌++◌, map, drop, Option, Some, None, refl, sym, ap, ap₂, ◌∙◌, subst, arith}
use Rattle.std.specs.Prelude.{◌==◌, nat_lt, slice_get, unwrap_or}
use Rattle.std.specs.List.{AllByRecursion, cons_option, filter_map}
use Rattle.std.specs.Ordering.{is_eq, ordering_reverse}
use Rattle.std.specs.FinMap.Entries.{by_order}
use Rattle.std.specs.declared.cmp.Ordering.{Ordering}
use Rattle.std.specs.declared.cmp.Ordering.TheVariants.{Less, Equal, Greater}
use Rattle.std.proofs.lemmas.Bool.Decides.{nat_tests}
use Rattle.std.proofs.lemmas.Cmp.{tied_itself}
use Rattle.lv_values.specs.declared.value.Value.{Value}
use Rattle.lv_values.specs.Order.{row_cmp, row_eq}
use Rattle.lv_values.specs.OrderLaws.{row_total}
use Rattle.lv_values.specs.Rows.{values_at, key_cmp}
use Rattle.lv_schema.specs.Commits.{place_cmp, same_place}
use Rattle.lv_schema.specs.Keys.{row_at}
use Rattle.lv_schema.specs.Once.{Ascends, once, put_once}
use Rattle.lv_schema.proofs.Apart.{all_append, all_map, all_weaker}
use Rattle.lv_schema.proofs.NetsLead.{row_itself}
use Rattle.lv_shelf.specs.Cuts.{IsCut}
use Rattle.lv_overlay.specs.declared.put.Put.{Put}
use Rattle.lv_overlay.specs.Ordered.{put_place, put_cmp, is_below, is_of, AreFrom}
use Rattle.lv_overlay.specs.Puts.{put_at, over, put_keys, rows_over}
use Rattle.lv_overlay.proofs.Cutting.{none_above, above_through, below_other}
use Rattle.lv_overlay.proofs.Places.{in_table, later_table, number_itself, same_number, table_order}

abbrev ARow : Type 0
ARow = List Value

abbrev Above : ARow → List ARow → Type 0
Above k ks = AllByRecursion (λ q. row_cmp k q ≡ Less) ks

-- ---- keys in order, each once
all_put_once : (P : ARow → Type 0) (x : ARow) (ys : List ARow) → P x → AllByRecursion P ys → AllByRecursion P (put_once row_cmp x ys)
all_put_once P x [] h a = (h, tt)
all_put_once P x (y ∷ ys) h a = by (row_cmp x y) (all_put_once P x ys h a.1)
  where
    by : (o : Ordering) → AllByRecursion P (put_once row_cmp x ys) → AllByRecursion P (by_order o (x ∷ y ∷ ys) (y ∷ ys) (y ∷ put_once row_cmp x ys))
    by Less r = (h, a)
    by Equal r = a
    by Greater r = (a.0, r)

all_once : (P : ARow → Type 0) (xs : List ARow) → AllByRecursion P xs → AllByRecursion P (once row_cmp xs)
all_once P [] a = tt
all_once P (x ∷ xs) a = all_put_once P x (once row_cmp xs) a.0 (all_once P xs a.1)

put_least : (k : ARow) (ys : List ARow) → Above k ys → put_once row_cmp k ys ≡ k ∷ ys
put_least k [] a = refl
put_least k (y ∷ ys) a = ap (λ o. by_order o (k ∷ y ∷ ys) (y ∷ ys) (y ∷ put_once row_cmp k ys)) a.0

once_least : (k : ARow) (xs : List ARow) → Above k xs → once row_cmp (k ∷ xs) ≡ k ∷ once row_cmp xs
once_least k xs a = put_least k (once row_cmp xs) (all_once (λ q. row_cmp k q ≡ Less) xs a)

once_middle : (k : ARow) (xs ys : List ARow) → Above k xs → Above k ys → once row_cmp (xs ++ k ∷ ys) ≡ k ∷ once row_cmp (xs ++ ys)
once_middle k [] ys a b = once_least k ys b
once_middle k (x ∷ xs) ys a b =
    ap (put_once row_cmp x) (once_middle k xs ys a.1 b)
    ∙ ap (λ o. by_order o (x ∷ k ∷ once row_cmp (xs ++ ys)) (k ∷ once row_cmp (xs ++ ys)) (k ∷ put_once row_cmp x (once row_cmp (xs ++ ys))))
    (row_total.antisymm x k ∙ ap ordering_reverse a.0)

once_twice : (k : ARow) (xs ys : List ARow) → Above k xs → Above k ys → once row_cmp (k ∷ xs ++ k ∷ ys) ≡ k ∷ once row_cmp (xs ++ ys)
once_twice k xs ys a b =
    ap (put_once row_cmp k) (once_middle k xs ys a b)
    ∙ ap (λ o. by_order o (k ∷ k ∷ once row_cmp (xs ++ ys)) (k ∷ once row_cmp (xs ++ ys)) (k ∷ put_once row_cmp k (once row_cmp (xs ++ ys)))) (tied_itself row_total k)

-- ---- what differs
same_picks : (f g : ARow → Option ARow) (xs : List ARow) → AllByRecursion (λ x. f x ≡ g x) xs → filter_map f xs ≡ filter_map g xs
same_picks f g [] a = refl
same_picks f g (x ∷ xs) a = ap₂ cons_option a.0 (same_picks f g xs a.1)

key_differs : (k q : ARow) → row_cmp k q ≡ Less → row_eq q k ≡ false
key_differs k q less = ap is_eq (row_total.antisymm q k ∙ ap ordering_reverse less)

-- the keys of the writes after a place
keys_after : (t : ℕ) (k : ARow) (puts : List Put) → AllByRecursion (λ q. place_cmp (t, k) (put_place q) ≡ Less) puts → Above k (put_keys puts t)
keys_after t k [] a = tt
keys_after t k (q ∷ puts) a = by (t == q.table) refl (keys_after t k puts a.1)
  where
    by : (b : Bool) → (t == q.table) ≡ b → Above k (put_keys puts t) → Above k (cond b (q.key ∷ put_keys puts t) (put_keys puts t))
    by true e r =
        let one : q.table ≡ t = sym (same_number t q.table e) in
        (sym (in_table t k q.key) ∙ subst (λ u. place_cmp (t, k) (u, q.key) ≡ Less) one a.0, r)
    by false e r = r

module _ (key : List ℕ) where
  -- the picks of two lists of writes and rows that differ at a key alone are the same above it
  -- ---- a row whose key comes before every write that is left
  pub row_first : (t : ℕ) (puts : List Put) (r : ARow) (rows : List ARow) → Ascends (key_cmp key) (r ∷ rows) → AllByRecursion (λ q. place_cmp (t, values_at key r) (put_place q) ≡ Less) puts
      → rows_over key puts t (r ∷ rows) ≡ r ∷ rows_over key puts t rows
  row_first t puts r rows up after =
      ap (filter_map was) (once_least k (map (values_at key) rows ++ put_keys puts t) above)
      ∙ ap₂ cons_option here (same_picks was is (once row_cmp (map (values_at key) rows ++ put_keys puts t)) (all_weaker (λ q. row_cmp k q ≡ Less) (λ q. was q ≡ is q) there (once row_cmp (map (values_at key) rows ++ put_keys puts t)) (all_once (λ q. row_cmp k q ≡ Less) (map (values_at key) rows ++ put_keys puts t) above)))
    where
      k : ARow
      k = values_at key r

      was : ARow → Option ARow
      was q = over puts (t, q) (row_at key q (r ∷ rows))

      is : ARow → Option ARow
      is q = over puts (t, q) (row_at key q rows)

      above : Above k (map (values_at key) rows ++ put_keys puts t)
      above = all_append (λ q. row_cmp k q ≡ Less) (map (values_at key) rows) (put_keys puts t) (all_map (values_at key) (λ q. row_cmp k q ≡ Less) rows up.0) (keys_after t k puts after)

      here : was k ≡ Some r
      here = ap (λ o. unwrap_or o (row_at key k (r ∷ rows))) (none_above (t, k) puts after) ∙ ap (λ b. cond b (Some r) (row_at key k rows)) (row_itself k)

      there : (q : ARow) → row_cmp k q ≡ Less → was q ≡ is q
      there q less = ap (λ b. over puts (t, q) (cond b (Some r) (row_at key q rows))) (key_differs k q less)

  -- ---- a write before every row that is left
  elsewhere : (t : ℕ) (a b : ARow) → row_cmp b a ≡ Less → same_place (t, a) (t, b) ≡ false
  elsewhere t a b less = ap (λ s. (t == t) && s) (key_differs b a less) ∙ and_false (t == t)
    where
      and_false : (s : Bool) → (s && false) ≡ false
      and_false true = refl
      and_false false = refl

  itself : (t : ℕ) (a : ARow) → same_place (t, a) (t, a) ≡ true
  itself t a = ap₂ (λ s u. s && u) (number_itself t) (row_itself a)

  write_first : (q : Put) (puts : List Put) (rows : List ARow) → AllByRecursion (λ s. put_cmp q s ≡ Less) puts → AllByRecursion (λ r. row_cmp q.key (values_at key r) ≡ Less) rows
      → rows_over key (q ∷ puts) q.table rows ≡ cons_option q.row (rows_over key puts q.table rows)
  write_first q puts rows up below =
      ap (λ ks. filter_map was (once row_cmp (map (values_at key) rows ++ ks))) own
      ∙ ap (filter_map was) (once_middle q.key (map (values_at key) rows) (put_keys puts t) above_rows above_puts)
      ∙ ap₂ cons_option here (same_picks was is (once row_cmp others) (all_weaker (λ k. row_cmp q.key k ≡ Less) (λ k. was k ≡ is k) there (once row_cmp others) (all_once (λ k. row_cmp q.key k ≡ Less) others above)))
    where
      t : ℕ
      t = q.table

      others : List ARow
      others = map (values_at key) rows ++ put_keys puts t

      was : ARow → Option ARow
      was k = over (q ∷ puts) (t, k) (row_at key k rows)

      is : ARow → Option ARow
      is k = over puts (t, k) (row_at key k rows)

      own : put_keys (q ∷ puts) t ≡ q.key ∷ put_keys puts t
      own = ap (λ b. cond b (q.key ∷ put_keys puts t) (put_keys puts t)) (number_itself t)

      above_rows : Above q.key (map (values_at key) rows)
      above_rows = all_map (values_at key) (λ k. row_cmp q.key k ≡ Less) rows below

      above_puts : Above q.key (put_keys puts t)
      above_puts = keys_after t q.key puts up

      above : Above q.key others
      above = all_append (λ k. row_cmp q.key k ≡ Less) (map (values_at key) rows) (put_keys puts t) above_rows above_puts

      here : was q.key ≡ q.row
      here = ap (λ b. unwrap_or (cond b (Some q.row) (put_at puts (t, q.key))) (row_at key q.key rows)) (itself t q.key)

      there : (k : ARow) → row_cmp q.key k ≡ Less → was k ≡ is k
      there k less = ap (λ b. unwrap_or (cond b (Some q.row) (put_at puts (t, k))) (row_at key k rows)) (elsewhere t k q.key less)

  -- ---- a write at the key of the first row that is left
  write_over : (q : Put) (puts : List Put) (r : ARow) (rows : List ARow) → AllByRecursion (λ s. put_cmp q s ≡ Less) puts → Ascends (key_cmp key) (r ∷ rows) → values_at key r ≡ q.key
      → rows_over key (q ∷ puts) q.table (r ∷ rows) ≡ cons_option q.row (rows_over key puts q.table rows)
  write_over q puts r rows up rise same =
      ap (λ ks. filter_map was (once row_cmp (values_at key r ∷ map (values_at key) rows ++ ks))) own
      ∙ ap (λ k. filter_map was (once row_cmp (k ∷ map (values_at key) rows ++ q.key ∷ put_keys puts t))) same
      ∙ ap (filter_map was) (once_twice q.key (map (values_at key) rows) (put_keys puts t) above_rows above_puts)
      ∙ ap₂ cons_option here (same_picks was is (once row_cmp others) (all_weaker (λ k. row_cmp q.key k ≡ Less) (λ k. was k ≡ is k) there (once row_cmp others) (all_once (λ k. row_cmp q.key k ≡ Less) others above)))
    where
      t : ℕ
      t = q.table

      others : List ARow
      others = map (values_at key) rows ++ put_keys puts t

      was : ARow → Option ARow
      was k = over (q ∷ puts) (t, k) (row_at key k (r ∷ rows))

      is : ARow → Option ARow
      is k = over puts (t, k) (row_at key k rows)

      own : put_keys (q ∷ puts) t ≡ q.key ∷ put_keys puts t
      own = ap (λ b. cond b (q.key ∷ put_keys puts t) (put_keys puts t)) (number_itself t)

      above_rows : Above q.key (map (values_at key) rows)
      above_rows = all_map (values_at key) (λ k. row_cmp q.key k ≡ Less) rows (subst (λ v. AllByRecursion (λ s. row_cmp v (values_at key s) ≡ Less) rows) same rise.0)

      above_puts : Above q.key (put_keys puts t)
      above_puts = keys_after t q.key puts up

      above : Above q.key others
      above = all_append (λ k. row_cmp q.key k ≡ Less) (map (values_at key) rows) (put_keys puts t) above_rows above_puts

      here : was q.key ≡ q.row
      here = ap (λ b. unwrap_or (cond b (Some q.row) (put_at puts (t, q.key))) (row_at key q.key (r ∷ rows))) (itself t q.key)

      there : (k : ARow) → row_cmp q.key k ≡ Less → was k ≡ is k
      there k less =
          ap₂ (λ b c. unwrap_or (cond b (Some q.row) (put_at puts (t, k))) (cond c (Some r) (row_at key k rows))) (elsewhere t k q.key less)
          (ap (row_eq k) same ∙ key_differs q.key k less)

  -- the same for writes of the table that is asked for
  pub put_first : (t : ℕ) (q : Put) (puts : List Put) (rows : List ARow) → q.table ≡ t → Ascends put_cmp (q ∷ puts) → AllByRecursion (λ r. row_cmp q.key (values_at key r) ≡ Less) rows
      → rows_over key (q ∷ puts) t rows ≡ cons_option q.row (rows_over key puts t rows)
  put_first t q puts rows e up below = subst (λ u. rows_over key (q ∷ puts) u rows ≡ cons_option q.row (rows_over key puts u rows)) e (write_first q puts rows up.0 below)

  pub put_over : (t : ℕ) (q : Put) (puts : List Put) (r : ARow) (rows : List ARow) → q.table ≡ t → Ascends put_cmp (q ∷ puts) → Ascends (key_cmp key) (r ∷ rows) → values_at key r ≡ q.key
      → rows_over key (q ∷ puts) t (r ∷ rows) ≡ cons_option q.row (rows_over key puts t rows)
  put_over t q puts r rows e up rise same = subst (λ u. rows_over key (q ∷ puts) u (r ∷ rows) ≡ cons_option q.row (rows_over key puts u rows)) e (write_over q puts r rows up.0 rise same)

  -- ---- writes of other tables
  put_elsewhere : (t : ℕ) (q : Put) (puts : List Put) (rows : List ARow) → (t == q.table) ≡ false → rows_over key (q ∷ puts) t rows ≡ rows_over key puts t rows
  put_elsewhere t q puts rows e =
      ap (λ b. filter_map (λ k. unwrap_or (cond (b && row_eq k q.key) (Some q.row) (put_at puts (t, k))) (row_at key k rows)) (once row_cmp (map (values_at key) rows ++ cond b (q.key ∷ put_keys puts t) (put_keys puts t)))) e

  pub rows_from : (t n : ℕ) (puts : List Put) (rows : List ARow) → IsCut (is_below t) n puts → rows_over key puts t rows ≡ rows_over key (drop n puts) t rows
  rows_from t zero puts rows cut = refl
  rows_from t (suc n) [] rows cut = absurd cut
  rows_from t (suc n) (q ∷ puts) rows cut = put_elsewhere t q puts rows (below_other t q cut.0) ∙ rows_from t n puts rows cut.1

  table_from : (t : ℕ) (q : Put) → is_below t q ≡ false → t ≤ q.table
  table_from t q h = by q.table h
    where
      by : (n : ℕ) → nat_lt n t ≡ false → t ≤ n
      by n lt = grind (arith, nat_tests)

  pub all_from_table : (t n : ℕ) (puts : List Put) → IsCut (is_below t) n puts → AreFrom t (drop n puts)
  all_from_table t zero puts cut = all_weaker (λ q. is_below t q ≡ false) (λ q. t ≤ q.table) (λ q h. table_from t q h) puts cut
  all_from_table t (suc n) [] cut = absurd cut
  all_from_table t (suc n) (q ∷ puts) cut = all_from_table t n puts cut.1

  -- writes of later tables come after every place of the table
  pub all_later : (t : ℕ) (k : ARow) (puts : List Put) → AreFrom t puts → Ascends put_cmp puts → is_of t (slice_get puts 0) ≡ false → AllByRecursion (λ q. place_cmp (t, k) (put_place q) ≡ Less) puts
  all_later t k [] from up other = tt
  all_later t k (q ∷ puts) from up other =
      let le : t ≤ q.table = from.0 in
      let less = later_table t q.table k q.key (ahead t q.table le other) in
      (less, above_through (t, k) q puts less up.0)
    where
      ahead : (a b : ℕ) → a ≤ b → (a == b) ≡ false → a < b
      ahead a b le e = grind (arith, nat_tests)

  pub no_keys : (t : ℕ) (puts : List Put) → AreFrom t puts → Ascends put_cmp puts → is_of t (slice_get puts 0) ≡ false → put_keys puts t ≡ []
  no_keys t [] from up other = refl
  no_keys t (q ∷ puts) from up other =
      ap (λ b. cond b (q.key ∷ put_keys puts t) (put_keys puts t)) other ∙ no_keys t puts from.1 up.1 (next puts from.1 up)
    where
      ahead : (a b : ℕ) → a ≤ b → (a == b) ≡ false → a < b
      ahead a b le e = grind (arith, nat_tests)

      behind : (a b c : ℕ) → a < b → b ≤ c → (a == c) ≡ false
      behind a b c lt le = grind (arith, nat_tests)

      next : (qs : List Put) → AreFrom t qs → Ascends put_cmp (q ∷ qs) → is_of t (slice_get qs 0) ≡ false
      next [] f u = refl
      next (s ∷ qs) f u = behind t q.table s.table (ahead t q.table from.0 other) (table_order q s u.0.0)

  -- with no write of the table the rows are those below
  pub rows_alone : (t : ℕ) (puts : List Put) (rows : List ARow) → AreFrom t puts → Ascends put_cmp puts → is_of t (slice_get puts 0) ≡ false → Ascends (key_cmp key) rows → rows_over key puts t rows ≡ rows
  rows_alone t puts [] from up other rise = ap (λ ks. filter_map (λ k. over puts (t, k) None) (once row_cmp ks)) (no_keys t puts from up other)
  rows_alone t puts (r ∷ rows) from up other rise = row_first t puts r rows rise (all_later t (values_at key r) puts from up other) ∙ ap (λ l. r ∷ l) (rows_alone t puts rows from up other rise.1)
