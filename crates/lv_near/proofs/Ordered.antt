-- Rows in the order of their keys.
use Rattle.std.proofs.Common.{◌≡◌, ℕ, zero, suc, ◌+◌, ◌-◌, ◌<◌, Bool, true, false, ◌||◌, List, [], ◌∷◌, ◌++◌, length, take, slice_get, Some, get_or, refl, sym, ap, ◌∙◌, subst, arith, add-one}
use Rattle.std.proofs.lemmas.Cmp.{upto}
use Rattle.std.proofs.lemmas.List.{take_more}
use Rattle.std.proofs.lemmas.List.Folds.{list_any-append}
use Rattle.std.specs.List.{AllByRecursion}
use Rattle.std.specs.List.Sorted.{IsSortedByKey}
use Rattle.std.specs.Ordering.{is_gt, is_lt, ordering_reverse}
use Rattle.std.specs.declared.cmp.Ordering.{Ordering}
use Rattle.std.specs.declared.cmp.Ordering.TheVariants.{Less, Equal, Greater}
use Rattle.lv_values.specs.Order.{row_cmp, row_eq}
use Rattle.lv_values.specs.Rows.{key_cmp, values_at}
use Rattle.lv_schema.specs.Nets.{has_row}
use Rattle.lv_schema.specs.Once.{Ascends}
use Rattle.lv_schema.proofs.ChangeLists.{ARow}
use Rattle.lv_schema.proofs.NetsLead.{key_total, row_itself, same_row}
use Rattle.lv_near.specs.Small.{HaveOwnKeys, is_above}

module _ (key : List ℕ) where
  -- none is above a row
  abbrev NoneAbove : ARow → List ARow → Type 0
  NoneAbove row rows = AllByRecursion (λ r. is_gt (key_cmp key r row) ≡ false) rows

  -- each is below a row
  abbrev AllBelow : ARow → List ARow → Type 0
  AllBelow row rows = AllByRecursion (λ r. key_cmp key r row ≡ Less) rows

  -- ---- rows that are sorted
  not_gt : (x y : ARow) → is_lt (key_cmp key y x) ≡ false → is_gt (key_cmp key x y) ≡ false
  not_gt x y g = by (key_cmp key x y) refl
    where
      by : (r : Ordering) → key_cmp key x y ≡ r → is_gt r ≡ false
      by Less e = refl
      by Equal e = refl
      by Greater e = let t : is_lt (key_cmp key y x) ≡ true = ap is_lt ((key_total key).antisymm y x ∙ ap ordering_reverse e) in cc

  abbrev pub Climbs : List ARow → Type 0
  Climbs [] = Unit {0}
  Climbs (x ∷ rows) = AllByRecursion (λ r. is_gt (key_cmp key x r) ≡ false) rows × Climbs rows

  least_along : (x y : ARow) (rows : List ARow) → is_gt (key_cmp key x y) ≡ false → AllByRecursion (λ r. is_gt (key_cmp key y r) ≡ false) rows → AllByRecursion (λ r. is_gt (key_cmp key x r) ≡ false) rows
  least_along x y [] h a = tt
  least_along x y (r ∷ rows) h a = (upto (key_total key) x y r h a.0, least_along x y rows h a.1)

  pub climbs_from_sorted : (rows : List ARow) → IsSortedByKey (values_at key) row_cmp rows → Climbs rows
  climbs_from_sorted [] s = tt
  climbs_from_sorted (x ∷ []) s = (tt, tt)
  climbs_from_sorted (x ∷ y ∷ rows) s =
      let rest = climbs_from_sorted (y ∷ rows) (λ k d l h. simp add-one (simp add-one at (s (suc k) d (omega arith) (omega arith)))) in
      let here = not_gt x y (s 0 x (omega arith) (omega arith)) in
      ((here, least_along x y rows here rest.0), rest)

  in_middle : (P : ARow → Type 0) (xs : List ARow) (r : ARow) (ys : List ARow) → AllByRecursion P (xs ++ r ∷ ys) → P r
  in_middle P [] r ys a = a.0
  in_middle P (x ∷ xs) r ys a = in_middle P xs r ys a.1

  pub none_above : (xs : List ARow) (r : ARow) (ys : List ARow) → Climbs (xs ++ r ∷ ys) → NoneAbove r xs
  none_above [] r ys c = tt
  none_above (x ∷ xs) r ys c = (in_middle (λ q. is_gt (key_cmp key x q) ≡ false) xs r ys c.0, none_above xs r ys c.1)

  -- ---- one row behind those that ascend
  less_is : (o : Ordering) → is_lt o ≡ true → o ≡ Less
  less_is Less e = refl
  less_is Equal e = cc
  less_is Greater e = cc

  all_below : (row : ARow) (rows : List ARow) → Ascends (key_cmp key) rows → is_above key rows row ≡ true → AllBelow row rows
  all_below row [] up h = tt
  all_below row (r ∷ []) up h = (less_is _ h, tt)
  all_below row (r ∷ s ∷ rows) up h =
      let rest = all_below row (s ∷ rows) up.1 h in
      ((key_total key).trans r s row up.0.0 rest.0, rest)

  pub ascends_behind : (row : ARow) (rows : List ARow) → Ascends (key_cmp key) rows → AllBelow row rows → Ascends (key_cmp key) (rows ++ row ∷ [])
  ascends_behind row [] up h = (tt, tt)
  ascends_behind row (r ∷ rows) up h = (last rows up.0 h.0, ascends_behind row rows up.1 h.1)
    where
      last : (rows : List ARow) → AllByRecursion (λ s. key_cmp key r s ≡ Less) rows → key_cmp key r row ≡ Less → AllByRecursion (λ s. key_cmp key r s ≡ Less) (rows ++ row ∷ [])
      last [] a l = (l, tt)
      last (s ∷ rows) a l = (a.0, last rows a.1 l)

  -- one more of some rows, of which those before it ascend
  pub ascends_more : (rows : List ARow) (i : ℕ) (d : ARow) → i < length rows → Ascends (key_cmp key) (take i rows) → is_above key (take i rows) (get_or rows i d) ≡ true → Ascends (key_cmp key) (take (i + 1) rows)
  ascends_more rows i d lt up above = subst (Ascends (key_cmp key)) (sym (take_more rows i d lt)) (ascends_behind (get_or rows i d) (take i rows) up (all_below (get_or rows i d) (take i rows) up above))

  -- where the last is not below a row, and not above, they have the same key
  ties : (o : Ordering) → is_lt o ≡ false → is_gt o ≡ false → o ≡ Equal
  ties Less e f = cc
  ties Equal e f = refl
  ties Greater e f = cc

  pub one_tied : (row : ARow) (rows : List ARow) → is_above key rows row ≡ false → NoneAbove row rows → (r : ARow) × (has_row r rows ≡ true) × (key_cmp key r row ≡ Equal)
  one_tied row [] h a = cc
  one_tied row (r ∷ []) h a = (r, ap (λ b. b || false) (row_itself r), ties _ h a.0)
  one_tied row (r ∷ s ∷ rows) h a =
      let rest = one_tied row (s ∷ rows) h a.1 in (rest.0, second _ _ rest.1, rest.2)
    where
      second : (a b : Bool) → b ≡ true → (a || b) ≡ true
      second true b h = refl
      second false b h = h

  -- ---- the rows that were put so far
  pub record IsRisen (seen out : List ARow) : Type 0 where
    pub up : Ascends (key_cmp key) out
    pub same : (q : ARow) → has_row q out ≡ has_row q seen

  pub starts_risen : IsRisen [] []
  starts_risen = record { up = tt; same = λ q. refl }

  none_above_out : (row : ARow) (seen out : List ARow) → ((q : ARow) → has_row q out ≡ true → has_row q seen ≡ true) → NoneAbove row seen → NoneAbove row out
  none_above_out row seen [] h a = tt
  none_above_out row seen (r ∷ out) h a = (
    each seen a (h r (ap (λ b. b || has_row r out) (row_itself r))),
    none_above_out row seen out (λ q e. h q (second (row_eq q r) _ e)) a,
  )
    where
      second : (a b : Bool) → b ≡ true → (a || b) ≡ true
      second true b h = refl
      second false b h = h

      each : (seen : List ARow) → NoneAbove row seen → has_row r seen ≡ true → is_gt (key_cmp key r row) ≡ false
      each [] a e = cc
      each (s ∷ seen) a e = by (row_eq r s) refl e (each seen a.1)
        where
          by : (t : Bool) → row_eq r s ≡ t → (t || has_row r seen) ≡ true → (has_row r seen ≡ true → is_gt (key_cmp key r row) ≡ false) → is_gt (key_cmp key r row) ≡ false
          by true d k rest = ap (λ x. is_gt (key_cmp key x row)) (same_row r s d) ∙ a.0
          by false d k rest = rest k

  has_last : (q row : ARow) (rows : List ARow) → has_row q (rows ++ row ∷ []) ≡ (has_row q rows || (row_eq q row || false))
  has_last q row rows = list_any-append (row_eq q) rows (row ∷ [])

  pub rises_more : (row : ARow) (seen out new : List ARow) → IsRisen seen out → NoneAbove row seen → is_above key out row ≡ true → new ≡ out ++ row ∷ [] → IsRisen (seen ++ row ∷ []) new
  rises_more row seen out new r none above is = record {
    up = subst (Ascends (key_cmp key)) (sym is) (ascends_behind row out r.up (all_below row out r.up above));
    same = λ q. ap (has_row q) is ∙ has_last q row out ∙ ap (λ b. b || (row_eq q row || false)) (r.same q) ∙ sym (has_last q row seen);
  }

  pub rises_same : (row : ARow) (seen out rest all : List ARow) → IsRisen seen out → NoneAbove row seen → is_above key out row ≡ false → HaveOwnKeys key all → ((q : ARow) → has_row q (seen ++ row ∷ rest) ≡ has_row q all) → IsRisen (seen ++ row ∷ []) out
  rises_same row seen out rest all r none above own same =
      let tied = one_tied row out above (none_above_out row seen out (λ q e. sym (r.same q) ∙ e) none) in
      let in_seen : has_row tied.0 seen ≡ true = sym (r.same tied.0) ∙ tied.1 in
      let in_all : has_row tied.0 all ≡ true = sym (same tied.0) ∙ list_any-append (row_eq tied.0) seen (row ∷ rest) ∙ first _ _ in_seen in
      let row_all : has_row row all ≡ true = sym (same row) ∙ list_any-append (row_eq row) seen (row ∷ rest) ∙ second (has_row row seen) _ (first _ _ (row_itself row)) in
      let one : tied.0 ≡ row = own tied.0 row in_all row_all tied.2 in
      record {
        up = r.up;
        same = λ q. r.same q ∙ sym (has_last q row seen ∙ absorbed q (has_row q seen) (row_eq q row) refl refl (subst (λ x. has_row x seen ≡ true) one in_seen));
      }
    where
      first : (a b : Bool) → a ≡ true → (a || b) ≡ true
      first true b h = refl
      first false b h = cc

      second : (a b : Bool) → b ≡ true → (a || b) ≡ true
      second true b h = refl
      second false b h = h

      absorbed : (q : ARow) (s t : Bool) → has_row q seen ≡ s → row_eq q row ≡ t → has_row row seen ≡ true → (s || (t || false)) ≡ s
      absorbed q true t e d h = refl
      absorbed q false true e d h = let no : true ≡ false = sym h ∙ ap (λ x. has_row x seen) (sym (same_row q row d)) ∙ e in cc
      absorbed q false false e d h = refl

-- the last row decides
pub above_last : (key : List ℕ) (row : ARow) (rows : List ARow) (n : ℕ) (last : ARow) → n + 1 ≡ length rows → slice_get rows n ≡ Some last → is_above key rows row ≡ is_lt (key_cmp key last row)
above_last key row [] n last long e = cc
above_last key row (r ∷ []) zero last long e = by e
  where
    by : Some r ≡ Some last → is_lt (key_cmp key r row) ≡ is_lt (key_cmp key last row)
    by h = let same : r ≡ last = cc in ap (λ x. is_lt (key_cmp key x row)) same
above_last key row (r ∷ []) (suc n) last long e = cc
above_last key row (r ∷ s ∷ rows) zero last long e = absurd (omega (arith, long))
above_last key row (r ∷ s ∷ rows) (suc n) last long e = above_last key row (s ∷ rows) n last (omega (arith, long)) e

pub some_last : (rows : List ARow) (last : ARow) → slice_get rows (length rows - 1) ≡ Some last → (length rows - 1) + 1 ≡ length rows
some_last [] last e = cc
some_last (r ∷ rows) last e = omega arith
