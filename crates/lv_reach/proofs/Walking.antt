-- The walk over the near rows: what holds of the rows that are found, from the changed ones to the last.
use Rattle.std.proofs.Common.{◌≡◌, ℕ, zero, suc, ◌+◌, ◌-◌, ◌<◌, ◌≤◌, Bool, true, false, cond, not, ◌&&◌, ◌||◌, ◌==◌, List, [], ◌∷◌, ◌++◌, map, length, take, drop, get_or, slice_get, Some, refl, sym, ap, ◌∙◌, subst, append_assoc, append-nil, length-append, arith}
use Rattle.std.proofs.lemmas.List.{take-append-le}
use Rattle.std.proofs.lemmas.List.Elements.{filter-append}
use Rattle.std.proofs.lemmas.List.Folds.{list_any-append}
use Rattle.std.specs.List.{filter, list_any, AllByRecursion}
use Rattle.std.specs.Cmp.Lexicographic.{pointwise, lists_ties}
use Rattle.indexmap.specs.IndexSet.{insert_key}
use Rattle.lv_values.specs.Order.{value_cmp, value_eq}
use Rattle.lv_schema.specs.declared.part.Part.{Part}
use Rattle.lv_schema.specs.Nets.{has_row}
use Rattle.lv_schema.specs.Once.{are_apart}
use Rattle.lv_schema.proofs.Apart.{all_weaker, all_append, all_both, all_filter, all_true}
use Rattle.lv_schema.proofs.ChangeLists.{ARow}
use Rattle.lv_schema.proofs.NetsLead.{passes}
use Rattle.lv_reach.specs.declared.link.Link.{Link}
use Rattle.lv_reach.specs.declared.rows.AliasRow.{AliasRow}
use Rattle.lv_reach.specs.Cost.{AreFound, IsReach, neighbours}
use Rattle.lv_reach.specs.Far.{AreFlags}
use Rattle.lv_reach.specs.Reach.{of_alias, alike, part_at, agree, is_changed, IsNear, IsFar, has_alias_row, rows_from, changed_rows, old_rows, with_old_from, with_old}
use Rattle.lv_reach.specs.Walk.{put_behind, put_all, rows_below, HasNear, IsWalk}
use Rattle.lv_reach.proofs.Gathering.{one_row, row_alike, among, first_there, second_there, there_before, there_behind, all_changed, changed_there, all_old, old_there, filter_there}
use Rattle.lv_reach.proofs.NearLaws.{changed_near, agreeing_near, near_least}

-- ---- rows put behind others
-- those that were there stay, and only rows that are put come behind them
pub put_tail : (P : AliasRow → Type 0) (more rows : List AliasRow) → AllByRecursion P more → (t : List AliasRow) × (put_all more rows ≡ rows ++ t) × AllByRecursion P t
put_tail P [] rows all = ([], sym (append-nil rows), tt)
put_tail P (a ∷ more) rows all = by (has_alias_row a rows) (put_tail P more rows all.1) (put_tail P more (rows ++ a ∷ []) all.1)
  where
    by : (b : Bool) → (t : List AliasRow) × (put_all more rows ≡ rows ++ t) × AllByRecursion P t → (t : List AliasRow) × (put_all more (rows ++ a ∷ []) ≡ (rows ++ a ∷ []) ++ t) × AllByRecursion P t
        → (t : List AliasRow) × (put_all more (cond b rows (rows ++ a ∷ [])) ≡ rows ++ t) × AllByRecursion P t
    by true h k = h
    by false h k = (a ∷ k.0, k.1 ∙ append_assoc rows (a ∷ []) k.0, (all.0, k.2))

pub stays : (b : AliasRow) (more rows : List AliasRow) → has_alias_row b rows ≡ true → has_alias_row b (put_all more rows) ≡ true
stays b [] rows h = h
stays b (a ∷ more) rows h = stays b more (put_behind a rows) (by (has_alias_row a rows))
  where
    by : (t : Bool) → has_alias_row b (cond t rows (rows ++ a ∷ [])) ≡ true
    by true = h
    by false = there_before b rows (a ∷ []) h

itself_put : (a : AliasRow) (rows : List AliasRow) → has_alias_row a (put_behind a rows) ≡ true
itself_put a rows = by (has_alias_row a rows) refl
  where
    by : (t : Bool) → has_alias_row a rows ≡ t → has_alias_row a (cond t rows (rows ++ a ∷ [])) ≡ true
    by true e = e
    by false e = there_behind a rows (a ∷ []) (first_there _ _ (row_alike a))

pub put_there : (b : AliasRow) (more rows : List AliasRow) → has_alias_row b more ≡ true → has_alias_row b (put_all more rows) ≡ true
put_there b [] rows h = cc
put_there b (a ∷ more) rows h = by (alike b a) refl h (put_there b more (put_behind a rows))
  where
    by : (t : Bool) → alike b a ≡ t → (t || has_alias_row b more) ≡ true → (has_alias_row b more ≡ true → has_alias_row b (put_all more (put_behind a rows)) ≡ true)
        → has_alias_row b (put_all more (put_behind a rows)) ≡ true
    by true e k rest = stays b more (put_behind a rows) (subst (λ c. has_alias_row c (put_behind a rows) ≡ true) (sym (one_row b a e)) (itself_put a rows))
    by false e k rest = rest k

other_way : (a b : AliasRow) → alike a b ≡ false → alike b a ≡ false
other_way a b h = by (alike b a) refl
  where
    by : (t : Bool) → alike b a ≡ t → alike b a ≡ false
    by true e = let no : true ≡ false = sym (row_alike a) ∙ ap (λ c. alike a c) (sym (one_row b a e)) ∙ h in cc
    by false e = e

apart_last : (a : AliasRow) (rows : List AliasRow) → are_apart alike rows ≡ true → has_alias_row a rows ≡ false → are_apart alike (rows ++ a ∷ []) ≡ true
apart_last a [] h none = refl
apart_last a (x ∷ rows) h none = by (has_alias_row x rows) (alike a x) refl refl h none (apart_last a rows)
  where
    by : (s t : Bool) → has_alias_row x rows ≡ s → alike a x ≡ t → (not s && are_apart alike rows) ≡ true → (t || has_alias_row a rows) ≡ false
        → (are_apart alike rows ≡ true → has_alias_row a rows ≡ false → are_apart alike (rows ++ a ∷ []) ≡ true)
        → (not (has_alias_row x (rows ++ a ∷ [])) && are_apart alike (rows ++ a ∷ [])) ≡ true
    by true t e d h none rest = cc
    by false true e d h none rest = cc
    by false false e d h none rest =
        (λ i. not (list_any-append (alike x) rows (a ∷ []) i) && are_apart alike (rows ++ a ∷ []))
        ∙ (λ i. not (e i || (other_way a x d i || false)) && are_apart alike (rows ++ a ∷ []))
        ∙ rest h none

pub apart_behind : (a : AliasRow) (rows : List AliasRow) → are_apart alike rows ≡ true → are_apart alike (put_behind a rows) ≡ true
apart_behind a rows h = by (has_alias_row a rows) refl
  where
    by : (t : Bool) → has_alias_row a rows ≡ t → are_apart alike (cond t rows (rows ++ a ∷ [])) ≡ true
    by true e = h
    by false e = apart_last a rows h e

apart_all : (more rows : List AliasRow) → are_apart alike rows ≡ true → are_apart alike (put_all more rows) ≡ true
apart_all [] rows h = h
apart_all (a ∷ more) rows h = apart_all more (put_behind a rows) (apart_behind a rows h)

-- a set of them keeps the rows so
by_eq : (eq : AliasRow → AliasRow → Bool) → ((a b : AliasRow) → eq a b ≡ alike a b) → (a : AliasRow) (rows : List AliasRow) → list_any (eq a) rows ≡ has_alias_row a rows
by_eq eq same a [] = refl
by_eq eq same a (b ∷ rows) = λ i. same a b i || by_eq eq same a rows i

pub put_is : (eq : AliasRow → AliasRow → Bool) → ((a b : AliasRow) → eq a b ≡ alike a b) → (a : AliasRow) (rows : List AliasRow) → insert_key eq rows a ≡ put_behind a rows
put_is eq same a rows = λ i. cond (by_eq eq same a rows i) rows (rows ++ a ∷ [])

pub eq_alike : (a b : AliasRow) → ((a.alias == b.alias) && pointwise value_eq a.row b.row) ≡ alike a b
eq_alike a b = λ i. (a.alias == b.alias) && lists_ties value_cmp (λ x y. refl) a.row b.row i

-- one more, in a loop over rows
pub put_last : (more : List AliasRow) (a : AliasRow) (rows : List AliasRow) → put_all (more ++ a ∷ []) rows ≡ put_behind a (put_all more rows)
put_last [] a rows = refl
put_last (b ∷ more) a rows = put_last more a (put_behind b rows)

-- ---- the first rows
take_all : {X : Type 0} (xs : List X) → take (length xs) xs ≡ xs
take_all [] = refl
take_all (x ∷ xs) = ap (λ l. x ∷ l) (take_all xs)

pub take_one : {X : Type 0} (xs : List X) (n : ℕ) (x : X) → slice_get xs n ≡ Some x → take (suc n) xs ≡ take n xs ++ x ∷ []
take_one [] n x h = cc
take_one (y ∷ xs) zero x h = by h
  where
    by : Some y ≡ Some x → y ∷ [] ≡ x ∷ []
    by e = cc
take_one (y ∷ xs) (suc n) x h = ap (λ l. y ∷ l) (take_one xs n x h)

pub below : {X : Type 0} (xs : List X) (n : ℕ) (x : X) → slice_get xs n ≡ Some x → suc n ≤ length xs
below [] n x h = cc
below (y ∷ xs) zero x h = omega arith
below (y ∷ xs) (suc n) x h = let rest = below xs n x h in omega (arith, rest)

there_at : (rows : List AliasRow) (n : ℕ) (a : AliasRow) → slice_get rows n ≡ Some a → has_alias_row a rows ≡ true
there_at [] n a h = cc
there_at (b ∷ rows) zero a h = by h
  where
    by : Some b ≡ Some a → (alike a b || has_alias_row a rows) ≡ true
    by e = let same : b ≡ a = cc in first_there _ _ (ap (λ c. alike a c) same ∙ row_alike a)
there_at (b ∷ rows) (suc n) a h = second_there _ _ (there_at rows n a h)

-- ---- the walk
module _ (links : List Link) (parts : List Part) where
  abbrev IsOld : AliasRow → Type 0
  IsOld a = has_row a.row (part_at parts a.alias).old ≡ true

  neighbours_old : (a : AliasRow) → AllByRecursion IsOld (neighbours links parts a)
  neighbours_old a = all_filter IsOld (agree links a) (old_rows parts) (all_old parts)

  neighbours_near : (a : AliasRow) → IsNear links parts a → AllByRecursion (IsNear links parts) (neighbours links parts a)
  neighbours_near a near =
      all_both IsOld (λ b. agree links a b ≡ true) (IsNear links parts) (λ b old e. agreeing_near links parts a b near old e)
      (neighbours links parts a) (neighbours_old a) (passes (agree links a) (old_rows parts))

  pub walk_starts : (first : List AliasRow) → first ≡ put_all (changed_rows parts) [] → IsWalk links parts first first 0
  walk_starts first is =
      let tail = put_tail (λ a. is_changed (part_at parts a.alias) a.row ≡ true) (changed_rows parts) [] (all_changed parts) in
      record {
        more = [];
        near_is = sym (append-nil first);
        old = tt;
        once = ap (are_apart alike) is ∙ apart_all (changed_rows parts) [] refl;
        sound = subst (AllByRecursion (IsNear links parts)) (sym (is ∙ tail.1))
            (all_weaker (λ a. is_changed (part_at parts a.alias) a.row ≡ true) (IsNear links parts) (changed_near links parts) tail.0 tail.2);
        within = omega arith;
        closed = λ a b h k. cc;
      }

  pub walk_goes_on : (first near new : List AliasRow) (at next : ℕ) (a : AliasRow) → IsWalk links parts first near at → slice_get near at ≡ Some a → next ≡ suc at → new ≡ put_all (neighbours links parts a) near → IsWalk links parts first new next
  walk_goes_on first near new at next a w here next_is is =
      let near_a : IsNear links parts a = among (IsNear links parts) near a w.sound (there_at near at a here) in
      let tail = put_tail (λ b. IsOld b × IsNear links parts b) (neighbours links parts a) near
      (all_both IsOld (IsNear links parts) (λ b. IsOld b × IsNear links parts b) (λ b o n. (o, n)) (neighbours links parts a) (neighbours_old a) (neighbours_near a near_a)) in
      let long : suc at ≤ length near = below near at a here in
      let all : new ≡ near ++ tail.0 = is ∙ tail.1 in
      let old_tail = all_weaker (λ b. IsOld b × IsNear links parts b) IsOld (λ b h. h.0) tail.0 tail.2 in
      let near_tail = all_weaker (λ b. IsOld b × IsNear links parts b) (IsNear links parts) (λ b h. h.1) tail.0 tail.2 in
      let same : take next new ≡ take at near ++ a ∷ [] = (λ i. take (next_is i) (all i)) ∙ take-append-le (suc at) near tail.0 long ∙ take_one near at a here in
      record {
        more = w.more ++ tail.0;
        near_is = all ∙ ap (λ l. l ++ tail.0) w.near_is ∙ append_assoc first w.more tail.0;
        old = all_append IsOld w.more tail.0 w.old old_tail;
        once = ap (are_apart alike) is ∙ apart_all (neighbours links parts a) near w.once;
        sound = subst (AllByRecursion (IsNear links parts)) (sym all) (all_append (IsNear links parts) near tail.0 w.sound near_tail);
        within = subst (λ n. n ≤ length new) (sym next_is) (longer near tail.0 new all long);
        closed = λ x b h k. subst (λ l. has_alias_row b l ≡ true) (sym is) (each x b (sym (list_any-append (alike x) (take at near) (a ∷ [])) ∙ ap (has_alias_row x) (sym same) ∙ h) k);
      }
    where
      longer : (near tail new : List AliasRow) → new ≡ near ++ tail → suc at ≤ length near → suc at ≤ length new
      longer near tail new e l = let long = sum_long near tail in let same = ap (λ (l : List AliasRow). length l) e in omega (arith, long, same, l)
        where
          sum_long : (near tail : List AliasRow) → length (near ++ tail) ≡ length near + length tail
          sum_long [] tail = omega arith
          sum_long (x ∷ near) tail = omega (arith, sum_long near tail)

      each : (x b : AliasRow) → (has_alias_row x (take at near) || (alike x a || false)) ≡ true → has_alias_row b (neighbours links parts x) ≡ true → has_alias_row b (put_all (neighbours links parts a) near) ≡ true
      each x b h k = by (has_alias_row x (take at near)) (alike x a) refl refl h
        where
          by : (s t : Bool) → has_alias_row x (take at near) ≡ s → alike x a ≡ t → (s || (t || false)) ≡ true → has_alias_row b (put_all (neighbours links parts a) near) ≡ true
          by true t e d h = stays b (neighbours links parts a) near (w.closed x b e k)
          by false true e d h = put_there b (neighbours links parts a) near (subst (λ c. has_alias_row b (neighbours links parts c) ≡ true) (one_row x a d) k)
          by false false e d h = cc

  module _ (first near : List AliasRow) (is : first ≡ put_all (changed_rows parts) []) (w : IsWalk links parts first near (length near)) where
    first_has : (a : AliasRow) → is_changed (part_at parts a.alias) a.row ≡ true → has_alias_row a first ≡ true
    first_has a h = ap (has_alias_row a) is ∙ put_there a (changed_rows parts) [] (changed_there parts a h)

    pub walk_has : HasNear links parts near
    walk_has = near_least links parts (λ a. has_alias_row a near)
        (λ a h. ap (has_alias_row a) w.near_is ∙ there_before a first w.more (first_has a h))
        (λ a b h old e. w.closed a b (ap (has_alias_row a) (take_all near) ∙ h) (filter_there (agree links a) (old_rows parts) b (old_there parts b old) e))

    pub walk_sound : (a : AliasRow) → has_alias_row a near ≡ true → IsNear links parts a
    walk_sound a h = among (IsNear links parts) near a w.sound h

    pub walk_found : AreFound parts first w.more
    walk_found = record {
      changed = λ a h.
          let tail = put_tail (λ a. is_changed (part_at parts a.alias) a.row ≡ true) (changed_rows parts) [] (all_changed parts) in
          among (λ a. is_changed (part_at parts a.alias) a.row ≡ true) tail.0 a tail.2 (ap (has_alias_row a) (sym (is ∙ tail.1)) ∙ h);
      all = first_has;
      old = w.old;
    }

-- ---- old rows that are looked up elsewhere
below_more : (rows : ℕ → List ARow) (i : ℕ) (parts : List Part) → rows_below rows i ++ rows_from (λ (p : Part). p.old) i (with_old_from rows i parts) ≡ rows_below rows (i + length parts)
below_more rows i [] = let same : i ≡ i + 0 = omega arith in append-nil (rows_below rows i) ∙ ap (rows_below rows) same
below_more rows i (p ∷ parts) =
    let same : suc i + length parts ≡ i + suc (length parts) = omega arith in
    sym (append_assoc (rows_below rows i) (map (of_alias i) (rows i)) (rows_from (λ (p : Part). p.old) (suc i) (with_old_from rows (suc i) parts)))
    ∙ below_more rows (suc i) parts
    ∙ ap (rows_below rows) same

pub old_rows_are : (rows : ℕ → List ARow) (parts : List Part) → old_rows (with_old rows parts) ≡ rows_below rows (length parts)
old_rows_are rows parts = let same : 0 + length parts ≡ length parts = omega arith in below_more rows 0 parts ∙ ap (rows_below rows) same

pub changed_rows_are : (rows : ℕ → List ARow) (parts : List Part) → changed_rows (with_old rows parts) ≡ changed_rows parts
changed_rows_are rows parts = from 0 parts
  where
    from : (i : ℕ) (parts : List Part) → rows_from (λ (p : Part). p.minus ++ p.plus) i (with_old_from rows i parts) ≡ rows_from (λ (p : Part). p.minus ++ p.plus) i parts
    from i [] = refl
    from i (p ∷ parts) = ap (λ l. map (of_alias i) (p.minus ++ p.plus) ++ l) (from (suc i) parts)

-- one alias more, in a loop over the aliases
pub below_next : (rows : ℕ → List ARow) (f : AliasRow → Bool) (n next : ℕ) → next ≡ n + 1 → filter f (rows_below rows next) ≡ filter f (rows_below rows n) ++ filter f (map (of_alias n) (rows n))
below_next rows f n next is =
    let same : n + 1 ≡ suc n = omega arith in
    ap (λ k. filter f (rows_below rows k)) (is ∙ same) ∙ filter-append f (rows_below rows n) (map (of_alias n) (rows n))

pub below_longer : (rows : ℕ → List ARow) (f : AliasRow → Bool) (n more : ℕ) → length (filter f (rows_below rows n)) ≤ length (filter f (rows_below rows (n + more)))
below_longer rows f n zero = let same : n + 0 ≡ n = omega arith in let long = ap (λ k. length (filter f (rows_below rows k))) same in omega (arith, long)
below_longer rows f n (suc more) =
    let same : n + suc more ≡ suc (n + more) = omega arith in
    let long = ap (λ k. length (filter f (rows_below rows k))) same ∙ ap (λ (l : List AliasRow). length l) (filter-append f (rows_below rows (n + more)) (map (of_alias (n + more)) (rows (n + more)))) ∙ length-append (filter f (rows_below rows (n + more))) (filter f (map (of_alias (n + more)) (rows (n + more)))) in
    omega (arith, long, below_longer rows f n more)

-- a failure at an alias, where so many are to come
pub fails_below : (rows : ℕ → List ARow) (f : AliasRow → Bool) (n count start here there : ℕ) → n < count → here ≤ start + length (filter f (rows_below rows n)) → there ≤ here + length (filter f (map (of_alias n) (rows n)))
    → there ≤ start + length (filter f (rows_below rows count))
fails_below rows f n count start here there lt e le =
    let same : (n + 1) + (count - (n + 1)) ≡ count = omega (arith, lt) in
    let all = ap (λ k. length (filter f (rows_below rows k))) same in
    let one = ap (λ (l : List AliasRow). length l) (below_next rows f n (n + 1) refl) ∙ length-append (filter f (rows_below rows n)) (filter f (map (of_alias n) (rows n))) in
    omega (arith, e, le, all, one, below_longer rows f (n + 1) (count - (n + 1)))

pub neighbours_are : (links : List Link) (rows : ℕ → List ARow) (parts : List Part) (a : AliasRow) (count : ℕ) → count ≡ length parts → filter (agree links a) (rows_below rows count) ≡ neighbours links (with_old rows parts) a
neighbours_are links rows parts a count is = ap (λ l. filter (agree links a) l) (ap (rows_below rows) is ∙ sym (old_rows_are rows parts))

-- ---- the same changes with other old rows
part_changes : (rows : ℕ → List ARow) (i : ℕ) (parts : List Part) (j : ℕ) (row : ARow) → is_changed (part_at (with_old_from rows i parts) j) row ≡ is_changed (part_at parts j) row
part_changes rows i [] j row = refl
part_changes rows i (p ∷ parts) zero row = refl
part_changes rows i (p ∷ parts) (suc j) row = part_changes rows (suc i) parts j row

as_many_from : (rows : ℕ → List ARow) (i : ℕ) (parts : List Part) → length (with_old_from rows i parts) ≡ length parts
as_many_from rows i [] = refl
as_many_from rows i (p ∷ parts) = omega (arith, as_many_from rows (suc i) parts)

pub as_many : (rows : ℕ → List ARow) (parts : List Part) → length (with_old rows parts) ≡ length parts
as_many rows parts = as_many_from rows 0 parts

far_with : (links : List Link) (rows : ℕ → List ARow) (parts : List Part) (j : ℕ) → IsFar links parts j → IsFar links (with_old rows parts) j
far_with links rows parts j far = record { from = far.from; changed = part_changes rows 0 parts far.from.alias far.from.row ∙ far.changed; apart = far.apart }

far_without : (links : List Link) (rows : ℕ → List ARow) (parts : List Part) (j : ℕ) → IsFar links (with_old rows parts) j → IsFar links parts j
far_without links rows parts j far = record { from = far.from; changed = sym (part_changes rows 0 parts far.from.alias far.from.row) ∙ far.changed; apart = far.apart }

pub reach_is : (links : List Link) (rows : ℕ → List ARow) (parts : List Part) (first near : List AliasRow) (far : List Bool)
    → first ≡ put_all (changed_rows parts) [] → IsWalk links (with_old rows parts) first near (length near) → AreFlags links parts (length parts) far
    → IsReach links (with_old rows parts) near (λ j. get_or far j true)
reach_is links rows parts first near far is w flags =
    let whole = with_old rows parts in
    let starts : first ≡ put_all (changed_rows whole) [] = is ∙ ap (λ l. put_all l []) (sym (changed_rows_are rows parts)) in
    record {
      near_rows = λ a. (walk_sound links whole first near starts w a, walk_has links whole first near starts w a);
      once = w.once;
      far_aliases = λ j lt. let each = flags.each j (subst (λ n. j < n) (as_many rows parts) lt) in (λ e. far_with links rows parts j (each.0 e), λ f. each.1 (far_without links rows parts j f));
    }

pub found_is : (links : List Link) (rows : ℕ → List ARow) (parts : List Part) (first near : List AliasRow) (changed : ℕ)
    → first ≡ put_all (changed_rows parts) [] → IsWalk links (with_old rows parts) first near (length near) → changed ≡ length first
    → AreFound (with_old rows parts) (take changed near) (drop changed near)
found_is links rows parts first near changed is w long =
    let whole = with_old rows parts in
    let starts : first ≡ put_all (changed_rows whole) [] = is ∙ ap (λ l. put_all l []) (sym (changed_rows_are rows parts)) in
    let before : take changed near ≡ first = (λ i. take (long i) (w.near_is i)) ∙ take-append-le (length first) first w.more (omega arith) ∙ take_all first in
    let behind : drop changed near ≡ w.more = (λ i. drop (long i) (w.near_is i)) ∙ drop_first first w.more in
    subst (λ l. AreFound whole l (drop changed near)) (sym before) (subst (AreFound whole first) (sym behind) (walk_found links whole first near starts w))
  where
    drop_first : (xs ys : List AliasRow) → drop (length xs) (xs ++ ys) ≡ ys
    drop_first [] ys = refl
    drop_first (x ∷ xs) ys = drop_first xs ys

pub one_at : (rows : List AliasRow) (n : ℕ) → n < length rows → (a : AliasRow) × (slice_get rows n ≡ Some a)
one_at [] n lt = absurd (let none = lt in omega (arith, none))
one_at (a ∷ rows) zero lt = (a, refl)
one_at (a ∷ rows) (suc n) lt = one_at rows n (omega arith)

-- what is put leaves the first rows
pub same_first : (more rows new : List AliasRow) (n : ℕ) → new ≡ put_all more rows → n ≤ length rows → take n new ≡ take n rows
same_first more rows new n is le =
    let tail = put_tail (λ a. Unit {0}) more rows (all_true (λ a. Unit {0}) (λ a. tt) more) in
    ap (λ l. take n l) (is ∙ tail.1) ∙ take-append-le n rows tail.0 le
