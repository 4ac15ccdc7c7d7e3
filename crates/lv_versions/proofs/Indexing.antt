-- Indexes: the versions in the order of their values in some columns.
use Rattle.std.proofs.Common.{◌≡◌, ℕ, zero, suc, ◌≤◌, Bool, true, false, cond, List, [], ◌∷◌, ◌++◌, drop, take, map, filter, Some, refl, sym, ap, ap₂, ◌∙◌, subst, arith}
use Rattle.std.specs.Prelude.{◌&&◌, slice_get}
use Rattle.std.specs.List.{AllByRecursion, remove}
use Rattle.std.specs.Ordering.{is_eq, is_lt, nat_cmp, ordering_reverse, ordering_then}
use Rattle.std.specs.Cmp.{IsTotalOrder}
use Rattle.std.specs.FinMap.{nat_cmp-IsAntisymmetric}
use Rattle.std.specs.declared.cmp.Ordering.{Ordering}
use Rattle.std.specs.declared.cmp.Ordering.TheVariants.{Less, Equal, Greater}
use Rattle.std.proofs.lemmas.Cmp.{on_total, then_total, tied_itself}
use Rattle.lv_values.specs.declared.value.Value.{Value}
use Rattle.lv_values.specs.Ascending.{placed}
use Rattle.lv_values.specs.Order.{row_cmp, row_eq}
use Rattle.lv_values.specs.OrderLaws.{row_exact, row_total}
use Rattle.lv_values.specs.Rows.{key_cmp, values_at}
use Rattle.lv_schema.specs.Once.{Ascends}
use Rattle.lv_schema.proofs.Apart.{Untied, all_append, all_both, all_weaker, apart_both, apart_filter, apart_weaker, ascends_placed}
use Rattle.lv_schema.proofs.NetsLead.{same_row}
use Rattle.lv_schema.specs.declared.version.RowVersion.{RowVersion}
use Rattle.lv_shelf.specs.Cuts.{Apart, Falls, IsCut}
use Rattle.lv_shelf.specs.Shelves.{LacksItem}
use Rattle.lv_shelf.proofs.Among.{all_remove, apart_remove}
use Rattle.lv_shelf.proofs.Cutting.{all_at, all_kept, got, got_within}
use Rattle.lv_versions.specs.Versions.{AreIndexed, AreIndexedBut, IsIn, Precedes, closed, hits, index_cmp, is_at, is_upto, reaches_by, rows_hit, state_at, version_cmp}
use Rattle.lv_versions.proofs.Bringing.{all_last}
use Rattle.lv_versions.proofs.Cleaning.{all_unplaced, back_lacks, kept_here, placed_here, rest_lacks, same_version_or}
use Rattle.lv_versions.proofs.Ending.{all_mapped}
use Rattle.lv_versions.proofs.Standing.{all_placed, falls_from, is_less, less_reaches, precedes_less, true_not_false, version_total}

pub index_total : (cs ps : List ℕ) → IsTotalOrder (index_cmp cs ps)
index_total cs ps = then_total (on_total (λ (v : RowVersion). values_at cs v.row) row_total) (version_total ps)

pub in_at : (vs : List RowVersion) (at : ℕ) (v : RowVersion) → slice_get vs at ≡ Some v → IsIn v vs
in_at vs at v e l = all_at (λ y. y ≡ v → ⊥) vs at v (got_within vs at v e) l (got vs at v v e)

-- ---- lists that ascend by an order of versions
module _ {R : RowVersion → RowVersion → Ordering} (o : IsTotalOrder R) where
  pub not_less : (x y : RowVersion) → x ≡ y → R x y ≡ Less → ⊥
  not_less x y same e = let t : R x x ≡ Equal = tied_itself o x in let f : R x x ≡ Less = subst (λ z. R x z ≡ Less) (sym same) e in cc

  turn : (x y : RowVersion) (r : Ordering) → R x y ≡ r → R y x ≡ ordering_reverse r
  turn x y r e = o.antisymm y x ∙ ap ordering_reverse e

  pub cut_falls : (v : RowVersion) (xs : List RowVersion) → Ascends R xs → Falls (λ w. is_lt (R w v)) xs
  cut_falls v xs a = falls_from (λ w. is_lt (R w v)) (λ x y. R x y ≡ Less) (λ x y e t. ap is_lt (o.trans x y v e (is_less (R y v) t))) xs a

  pub found_in : (v : RowVersion) (at : ℕ) (xs : List RowVersion) → Ascends R xs → IsIn v xs → IsCut (λ w. is_lt (R w v)) at xs → slice_get xs at ≡ Some v
  found_in v zero [] a i cut = absurd (i tt)
  found_in v zero (z ∷ zs) a i cut =
      ap Some (same_version_or z v (λ ne. i (ne, all_weaker (λ w. R z w ≡ Less) (λ w. w ≡ v → ⊥) (λ w e same. true_not_false (is_lt (R z v)) (ap is_lt (subst (λ y. R z y ≡ Less) same e)) cut.0) zs a.0)))
  found_in v (suc at) [] a i cut = absurd cut
  found_in v (suc at) (z ∷ zs) a i cut = found_in v at zs a.1 (λ l. i ((λ same. not_less z v same (is_less (R z v) cut.0)), l)) cut.1

  -- no other element is the one at a place
  pub others_lack : (xs : List RowVersion) (at : ℕ) (v : RowVersion) → Ascends R xs → slice_get xs at ≡ Some v → LacksItem v (remove xs at)
  others_lack [] zero v a e = tt
  others_lack [] (suc at) v a e = tt
  others_lack (z ∷ zs) zero v a e =
      let is : z ≡ v = got (z ∷ zs) zero v v e in
      all_weaker (λ w. R z w ≡ Less) (λ w. w ≡ v → ⊥) (λ w r same. not_less z w (is ∙ sym same) r) zs a.0
  others_lack (z ∷ zs) (suc at) v a e =
      let before : R z v ≡ Less = subst (λ y. R z y ≡ Less) (got zs at v v e) (all_at (λ y. R z y ≡ Less) zs at v (got_within zs at v e) a.0) in
      ((λ same. not_less z v same before), others_lack zs at v a.1 e)

  pub earlier_lack : (xs : List RowVersion) (at : ℕ) (v : RowVersion) → Ascends R xs → slice_get xs at ≡ Some v → LacksItem v (take at xs)
  earlier_lack [] zero v a e = tt
  earlier_lack [] (suc at) v a e = tt
  earlier_lack (z ∷ zs) zero v a e = tt
  earlier_lack (z ∷ zs) (suc at) v a e =
      let before : R z v ≡ Less = subst (λ y. R z y ≡ Less) (got zs at v v e) (all_at (λ y. R z y ≡ Less) zs at v (got_within zs at v e) a.0) in
      ((λ same. not_less z v same before), earlier_lack zs at v a.1 e)

  above : (x y : RowVersion) (ys : List RowVersion) → R x y ≡ Less → AllByRecursion (λ z. R y z ≡ Less) ys → LacksItem x (y ∷ ys)
  above x y ys e a = ((λ same. not_less x y (sym same) e), all_weaker (λ z. R y z ≡ Less) (λ z. z ≡ x → ⊥) (λ z f same. not_less x z (sym same) (o.trans x y z e f)) ys a)

  -- two of them that have the same elements are equal
  pub same_ascending : (xs ys : List RowVersion) → Ascends R xs → Ascends R ys → AllByRecursion (λ x. IsIn x ys) xs → AllByRecursion (λ y. IsIn y xs) ys → xs ≡ ys
  same_ascending [] [] a b h k = refl
  same_ascending [] (y ∷ ys) a b h k = absurd (k.0 tt)
  same_ascending (x ∷ xs) [] a b h k = absurd (h.0 tt)
  same_ascending (x ∷ xs) (y ∷ ys) a b h k = by (R x y) refl (same_ascending xs ys a.1 b.1)
    where
      behind : (u v : RowVersion) (us vs : List RowVersion) → R u v ≡ Equal → AllByRecursion (λ z. R u z ≡ Less) us → AllByRecursion (λ z. IsIn z (v ∷ vs)) us → AllByRecursion (λ z. IsIn z vs) us
      behind u v us vs e below i =
          all_both (λ z. R u z ≡ Less) (λ z. IsIn z (v ∷ vs)) (λ z. IsIn z vs)
          (λ z less there l. there ((λ same. let f : R u v ≡ Less = subst (λ w. R u w ≡ Less) (sym same) less in cc), l)) us below i

      first : R x y ≡ Equal → x ≡ y
      first e = same_version_or x y (λ ne. h.0 ((λ same. ne (sym same)), all_weaker (λ z. R y z ≡ Less) (λ z. z ≡ x → ⊥) (λ z less same. let f : R y x ≡ Less = subst (λ w. R y w ≡ Less) same less in let g = turn x y Equal e in cc) ys b.0))

      by : (r : Ordering) → R x y ≡ r → (AllByRecursion (λ z. IsIn z ys) xs → AllByRecursion (λ z. IsIn z xs) ys → xs ≡ ys) → (x ∷ xs) ≡ (y ∷ ys)
      by Less e f = absurd (h.0 (above x y ys e b.0))
      by Equal e f = ap₂ (λ z zs. z ∷ zs) (first e) (f (behind x y xs ys e a.0 h.1) (behind y x ys xs (turn x y Equal e) b.0 k.1))
      by Greater e f = absurd (k.0 (above y x xs (turn x y Greater e) a.0))

pub stand_ascend : (ps : List ℕ) (vs : List RowVersion) → Apart (Precedes ps) vs → Ascends (version_cmp ps) vs
stand_ascend ps vs a = apart_weaker (Precedes ps) (λ v w. version_cmp ps v w ≡ Less) (precedes_less ps) vs a

-- ---- a version more, which the index lacks
pub indexed_but : (cs ps : List ℕ) (v : RowVersion) (order us us' : List RowVersion) → ((P : RowVersion → Type 0) → AllByRecursion P us' → AllByRecursion P us) → ((P : RowVersion → Type 0) → P v → AllByRecursion P us → AllByRecursion P us')
    → LacksItem v us → AreIndexed cs ps order us → AreIndexedBut cs ps v order us'
indexed_but cs ps v order us us' less more absent a = record {
  ascends = a.ascends;
  here = all_weaker (λ w. IsIn w us) (λ w. IsIn w us') (λ w i l. i (less (λ y. y ≡ w → ⊥) l)) order a.here;
  lacks = all_weaker (λ w. IsIn w us) (λ w. w ≡ v → ⊥) (λ w i same. i (subst (λ x. LacksItem x us) (sym same) absent)) order a.here;
  all = more (λ w. (w ≡ v → ⊥) → IsIn w order) (λ ne. absurd (ne refl)) (all_weaker (λ w. IsIn w order) (λ w. (w ≡ v → ⊥) → IsIn w order) (λ w i ne. i) us a.all);
}

-- ---- a version that comes into the index
tie_parts : (a b : Ordering) → ordering_then a b ≡ Equal → (a ≡ Equal) × (b ≡ Equal)
tie_parts Less b h = cc
tie_parts Equal b h = (refl, h)
tie_parts Greater b h = cc

-- no other version has its key and its number
untied_in : (cs ps : List ℕ) (us : List RowVersion) (at : ℕ) (v w : RowVersion) → Apart (Precedes ps) us → slice_get us at ≡ Some v → IsIn w us → (w ≡ v → ⊥) → index_cmp cs ps v w ≡ Equal → ⊥
untied_in cs ps us at v w a e i ne tie = i (back_lacks us at v w e (λ same. ne (sym same)) (rest_lacks ps us at v w left right a e))
  where
    parts : (key_cmp ps v.row w.row ≡ Equal) × (nat_cmp v.from w.from ≡ Equal)
    parts = tie_parts (key_cmp ps v.row w.row) (nat_cmp v.from w.from) (tie_parts (row_cmp (values_at cs v.row) (values_at cs w.row)) (version_cmp ps v w) tie).1

    keys : values_at ps v.row ≡ values_at ps w.row
    keys = row_exact (values_at ps v.row) (values_at ps w.row) parts.0

    numbers : v.from ≡ w.from
    numbers = nat_cmp-IsAntisymmetric v.from w.from parts.1

    left : (z : RowVersion) → version_cmp ps w z ≡ version_cmp ps v z
    left z = sym (ap₂ (λ k n. ordering_then (row_cmp k (values_at ps z.row)) (nat_cmp n z.from)) keys numbers)

    right : (z : RowVersion) → version_cmp ps z w ≡ version_cmp ps z v
    right z = sym (ap₂ (λ k n. ordering_then (row_cmp (values_at ps z.row) k) (nat_cmp z.from n)) keys numbers)

pub indexed_entered : (cs ps : List ℕ) (us : List RowVersion) (at : ℕ) (v : RowVersion) (order : List RowVersion) → Apart (Precedes ps) us → slice_get us at ≡ Some v → AreIndexedBut cs ps v order us → AreIndexed cs ps (placed (index_cmp cs ps) v order) us
indexed_entered cs ps us at v order stand e a = record {
  ascends = ascends_placed (index_total cs ps) v order (all_both (λ w. IsIn w us) (λ w. w ≡ v → ⊥) (Untied (index_total cs ps) v) (λ w i ne tie. untied_in cs ps us at v w stand e i ne tie) order a.here a.lacks) a.ascends;
  here = all_placed (index_cmp cs ps) (λ w. IsIn w us) v order (in_at us at v e) a.here;
  all = all_weaker (λ w. (w ≡ v → ⊥) → IsIn w order) (λ w. IsIn w (placed (index_cmp cs ps) v order))
      (λ w i l. i (λ same. placed_here (index_cmp cs ps) (λ y. y ≡ w → ⊥) v order l (sym same)) (all_unplaced (index_cmp cs ps) (λ y. y ≡ w → ⊥) v order l)) us a.all;
}

-- ---- a version that leaves the index, and then the versions
pub indexed_left : (cs ps : List ℕ) (v : RowVersion) (order us : List RowVersion) (place : ℕ) → slice_get order place ≡ Some v → AreIndexed cs ps order us → AreIndexedBut cs ps v (remove order place) us
indexed_left cs ps v order us place e a = record {
  ascends = apart_remove (λ x y. index_cmp cs ps x y ≡ Less) order place a.ascends;
  here = all_remove (λ w. IsIn w us) order place a.here;
  lacks = others_lack (index_total cs ps) order place v a.ascends e;
  all = all_weaker (λ w. IsIn w order) (λ w. (w ≡ v → ⊥) → IsIn w (remove order place)) (λ w i ne l. i (back_lacks order place v w e (λ same. ne (sym same)) l)) us a.all;
}

pub indexed_rest : (cs ps : List ℕ) (v : RowVersion) (order us : List RowVersion) (at : ℕ) → Apart (Precedes ps) us → slice_get us at ≡ Some v → AreIndexedBut cs ps v order us → AreIndexed cs ps order (remove us at)
indexed_rest cs ps v order us at stand e a = record {
  ascends = a.ascends;
  here = all_both (λ w. IsIn w us) (λ w. w ≡ v → ⊥) (λ w. IsIn w (remove us at)) (λ w i ne l. i (back_lacks us at v w e (λ same. ne (sym same)) l)) order a.here a.lacks;
  all = all_both (λ w. w ≡ v → ⊥) (λ w. (w ≡ v → ⊥) → IsIn w order) (λ w. IsIn w order) (λ w ne i. i ne) (remove us at)
      (rest_lacks ps us at v v (λ z. refl) (λ z. refl) stand e) (all_remove (λ w. (w ≡ v → ⊥) → IsIn w order) us at a.all);
}

-- ---- versions that are kept
pub indexed_kept : (cs ps : List ℕ) (p : RowVersion → Bool) (order us : List RowVersion) → AreIndexed cs ps order us → AreIndexed cs ps (filter p order) (filter p us)
indexed_kept cs ps p order us a = record {
  ascends = apart_filter (λ x y. index_cmp cs ps x y ≡ Less) p order a.ascends;
  here = kept_here p order us a.here;
  all = kept_here p us order a.all;
}

-- ---- a version that ends
lacks_closed : (ps : List ℕ) (number : ℕ) (rows : List (List Value)) (v : RowVersion) (us : List RowVersion) → LacksItem (closed ps number rows v) (map (closed ps number rows) us) → LacksItem v us
lacks_closed ps number rows v [] l = tt
lacks_closed ps number rows v (u ∷ us) l = ((λ same. l.0 (ap (closed ps number rows) same)), lacks_closed ps number rows v us l.1)

in_closed : (ps : List ℕ) (number : ℕ) (rows : List (List Value)) (order us : List RowVersion) → AllByRecursion (λ v. IsIn v us) order → AllByRecursion (λ v. IsIn v (map (closed ps number rows) us)) (map (closed ps number rows) order)
in_closed ps number rows order us a =
    all_mapped (closed ps number rows) (λ v. IsIn v (map (closed ps number rows) us)) order
    (all_weaker (λ v. IsIn v us) (λ v. IsIn (closed ps number rows v) (map (closed ps number rows) us)) (λ v i l. i (lacks_closed ps number rows v us l)) order a)

ascends_closed : (cs ps : List ℕ) (number : ℕ) (rows : List (List Value)) (order : List RowVersion) → Ascends (index_cmp cs ps) order → Ascends (index_cmp cs ps) (map (closed ps number rows) order)
ascends_closed cs ps number rows [] a = tt
ascends_closed cs ps number rows (v ∷ order) a = (all_mapped (closed ps number rows) (λ w. index_cmp cs ps (closed ps number rows v) w ≡ Less) order a.0, ascends_closed cs ps number rows order a.1)

pub indexed_closed : (cs ps : List ℕ) (number : ℕ) (rows : List (List Value)) (order us : List RowVersion) → AreIndexed cs ps order us → AreIndexed cs ps (map (closed ps number rows) order) (map (closed ps number rows) us)
indexed_closed cs ps number rows order us a = record {
  ascends = ascends_closed cs ps number rows order a.ascends;
  here = in_closed ps number rows order us a.here;
  all = in_closed ps number rows us order a.all;
}

-- ---- the rows with some values, found in an index
pub upto_falls : (cs ps : List ℕ) (values : List Value) (b : Bool) (order : List RowVersion) → Ascends (index_cmp cs ps) order → Falls (is_upto cs values b) order
upto_falls cs ps values b order a = falls_from (is_upto cs values b) (λ v w. index_cmp cs ps v w ≡ Less) step order a
  where
    step : (v w : RowVersion) → index_cmp cs ps v w ≡ Less → is_upto cs values b w ≡ true → is_upto cs values b v ≡ true
    step v w r t = by (row_cmp (values_at cs v.row) (values_at cs w.row)) refl r
      where
        by : (o : Ordering) → row_cmp (values_at cs v.row) (values_at cs w.row) ≡ o → ordering_then o (version_cmp ps v w) ≡ Less → is_upto cs values b v ≡ true
        by Less e r' = less_reaches (values_at cs v.row) (values_at cs w.row) values (row_cmp (values_at cs w.row) values) b b e refl t
        by Equal e r' = ap (λ k. reaches_by (row_cmp k values) b) (row_exact (values_at cs v.row) (values_at cs w.row) e) ∙ t
        by Greater e r' = cc

and_false : (a : Bool) → (a && false) ≡ false
and_false true = refl
and_false false = refl

pub below_misses : (cs : List ℕ) (values : List Value) (n : ℕ) (v : RowVersion) → is_upto cs values false v ≡ true → hits cs values n v ≡ false
below_misses cs values n v t = by (row_cmp (values_at cs v.row) values) t
  where
    by : (o : Ordering) → reaches_by o false ≡ true → (is_at n v && is_eq o) ≡ false
    by Less e = and_false (is_at n v)
    by Equal e = cc
    by Greater e = and_false (is_at n v)

pub above_misses : (cs : List ℕ) (values : List Value) (n : ℕ) (v : RowVersion) → is_upto cs values true v ≡ false → hits cs values n v ≡ false
above_misses cs values n v t = by (row_cmp (values_at cs v.row) values) t
  where
    by : (o : Ordering) → reaches_by o true ≡ false → (is_at n v && is_eq o) ≡ false
    by Less e = cc
    by Equal e = cc
    by Greater e = and_false (is_at n v)

none_hit : (cs : List ℕ) (values : List Value) (n : ℕ) (xs : List RowVersion) → AllByRecursion (λ x. is_upto cs values true x ≡ false) xs → rows_hit cs values n xs ≡ []
none_hit cs values n [] a = refl
none_hit cs values n (x ∷ xs) a = ap (λ b. map (λ (w : RowVersion). w.row) (cond b (x ∷ filter (hits cs values n) xs) (filter (hits cs values n) xs))) (above_misses cs values n x a.0) ∙ none_hit cs values n xs a.1

-- between the two places a version has these values
and_true : (a : Bool) → a ≡ (a && true)
and_true true = refl
and_true false = refl

shown_hits : (cs : List ℕ) (values : List Value) (n : ℕ) (v : RowVersion) → is_upto cs values false v ≡ false → is_upto cs values true v ≡ true → is_at n v ≡ hits cs values n v
shown_hits cs values n v above upto = by (row_cmp (values_at cs v.row) values) above upto
  where
    by : (o : Ordering) → reaches_by o false ≡ false → reaches_by o true ≡ true → is_at n v ≡ (is_at n v && is_eq o)
    by Less e f = cc
    by Equal e f = and_true (is_at n v)
    by Greater e f = cc

-- what stands between the two places are the rows with these values
pub hits_between : (cs : List ℕ) (values : List Value) (n first end : ℕ) (xs : List RowVersion) → IsCut (is_upto cs values false) first xs → IsCut (is_upto cs values true) end xs → state_at n (drop first (take end xs)) ≡ rows_hit cs values n xs
hits_between cs values n zero zero xs below upto = sym (none_hit cs values n xs upto)
hits_between cs values n zero (suc end) [] below upto = absurd upto
hits_between cs values n zero (suc end) (x ∷ xs) below upto = by (is_at n x) (hits cs values n x) (shown_hits cs values n x below.0 upto.0) (hits_between cs values n zero end xs below.1 upto.1)
  where
    by : (a b : Bool) → a ≡ b → state_at n (take end xs) ≡ rows_hit cs values n xs
        → map (λ (w : RowVersion). w.row) (cond a (x ∷ filter (is_at n) (take end xs)) (filter (is_at n) (take end xs))) ≡ map (λ (w : RowVersion). w.row) (cond b (x ∷ filter (hits cs values n) xs) (filter (hits cs values n) xs))
    by true true e ih = ap (λ l. x.row ∷ l) ih
    by true false e ih = cc
    by false true e ih = cc
    by false false e ih = ih
hits_between cs values n (suc first) zero xs below upto = sym (none_hit cs values n xs upto)
hits_between cs values n (suc first) (suc end) [] below upto = absurd upto
hits_between cs values n (suc first) (suc end) (x ∷ xs) below upto =
    hits_between cs values n first end xs below.1 upto.1
    ∙ sym (ap (λ b. map (λ (w : RowVersion). w.row) (cond b (x ∷ filter (hits cs values n) xs) (filter (hits cs values n) xs))) (below_misses cs values n x below.0))

pub cuts_apart : (cs : List ℕ) (values : List Value) (first end : ℕ) (xs : List RowVersion) → IsCut (is_upto cs values false) first xs → IsCut (is_upto cs values true) end xs → first ≤ end
cuts_apart cs values zero end xs below upto = omega arith
cuts_apart cs values (suc first) end [] below upto = absurd below
cuts_apart cs values (suc first) zero (x ∷ xs) below upto = by (row_cmp (values_at cs x.row) values) below.0 upto.0
  where
    by : (o : Ordering) → reaches_by o false ≡ true → reaches_by o true ≡ false → suc first ≤ 0
    by Less e f = cc
    by Equal e f = cc
    by Greater e f = cc
cuts_apart cs values (suc first) (suc end) (x ∷ xs) below upto = let le = cuts_apart cs values first end xs below.1 upto.1 in omega (arith, le)

hit_values : (cs : List ℕ) (values : List Value) (n : ℕ) (v : RowVersion) → hits cs values n v ≡ true → values_at cs v.row ≡ values
hit_values cs values n v t = same_row (values_at cs v.row) values (second (is_at n v) (row_eq (values_at cs v.row) values) t)
  where
    second : (a b : Bool) → (a && b) ≡ true → b ≡ true
    second true b h = h
    second false b h = cc

-- an index gives what a pass over the versions does
pub indexed_hits : (cs ps : List ℕ) (values : List Value) (n : ℕ) (order us : List RowVersion) → Apart (Precedes ps) us → AreIndexed cs ps order us → rows_hit cs values n order ≡ rows_hit cs values n us
indexed_hits cs ps values n order us stand a =
    ap (map (λ (w : RowVersion). w.row))
    (same_ascending (version_total ps) (filter hit order) (filter hit us)
    (apart_both (λ v. hit v ≡ true) (λ v w. index_cmp cs ps v w ≡ Less) (λ v w. version_cmp ps v w ≡ Less) within (filter hit order) (all_kept hit order) (apart_filter (λ v w. index_cmp cs ps v w ≡ Less) hit order a.ascends))
    (stand_ascend ps (filter hit us) (apart_filter (Precedes ps) hit us stand))
    (kept_here hit order us a.here) (kept_here hit us order a.all))
  where
    hit : RowVersion → Bool
    hit = hits cs values n

    within : (v w : RowVersion) → hits cs values n v ≡ true → hits cs values n w ≡ true → index_cmp cs ps v w ≡ Less → version_cmp ps v w ≡ Less
    within v w h k e =
        let tied : row_cmp (values_at cs v.row) (values_at cs w.row) ≡ Equal = ap₂ row_cmp (hit_values cs values n v h) (hit_values cs values n w k) ∙ tied_itself row_total values in
        sym (ap (λ o. ordering_then o (version_cmp ps v w)) tied) ∙ e

-- ---- versions put into an index one after another
-- what is among some of them is among them
pub in_part : (part us : List RowVersion) → AllByRecursion (λ y. IsIn y us) part → (w : RowVersion) → IsIn w part → IsIn w us
in_part part us a w i l = i (all_weaker (λ y. IsIn y us) (λ y. y ≡ w → ⊥) (λ y j same. j (subst (λ x. LacksItem x us) (sym same) l)) part a)

cut_there : {X : Type 0} (p : X → Bool) (xs : List X) → Falls p xs → (n : ℕ) × IsCut p n xs
cut_there p [] f = (0, tt)
cut_there p (x ∷ xs) f = by (p x) refl (cut_there p xs f.1)
  where
    fails : (e : p x ≡ false) (y : _) (b : Bool) → p y ≡ b → (p y ≡ true → p x ≡ true) → b ≡ false
    fails e y true g h = absurd (true_not_false (p x) (h g) e)
    fails e y false g h = refl

    by : (b : Bool) → p x ≡ b → ((n : ℕ) × IsCut p n xs) → (n : ℕ) × IsCut p n (x ∷ xs)
    by true e more = (suc more.0, (e, more.1))
    by false e more = (0, (e, all_weaker (λ y. p y ≡ true → p x ≡ true) (λ y. p y ≡ false) (λ y h. fails e y (p y) refl h) xs f.0))

-- a version that is among them has a place
pub place_there : (ps : List ℕ) (us : List RowVersion) (v : RowVersion) → Apart (Precedes ps) us → IsIn v us → (at : ℕ) × (slice_get us at ≡ Some v)
place_there ps us v stand i =
    let a = stand_ascend ps us stand in
    let cut = cut_there (λ w. is_lt (version_cmp ps w v)) us (cut_falls (version_total ps) v us a) in
    (cut.0, found_in (version_total ps) v cut.0 us a i cut.1)

pub indexed_lacks : (cs ps : List ℕ) (order part : List RowVersion) (v : RowVersion) → LacksItem v part → AreIndexed cs ps order part → LacksItem v order
indexed_lacks cs ps order part v lacks a = all_weaker (λ w. IsIn w part) (λ w. w ≡ v → ⊥) (λ w i same. i (subst (λ x. LacksItem x part) (sym same) lacks)) order a.here

pub indexed_next : (cs ps : List ℕ) (order part us : List RowVersion) (v : RowVersion) → Apart (Precedes ps) us → IsIn v us → AllByRecursion (λ y. IsIn y us) part → LacksItem v part → AreIndexed cs ps order part
    → AreIndexed cs ps (placed (index_cmp cs ps) v order) (part ++ v ∷ [])
indexed_next cs ps order part us v stand i within lacks a =
    let at = place_there ps us v stand i in
    record {
      ascends = ascends_placed (index_total cs ps) v order
          (all_weaker (λ w. IsIn w part) (Untied (index_total cs ps) v) (λ w j tie. untied_in cs ps us at.0 v w stand at.1 (in_part part us within w j) (λ same. j (subst (λ x. LacksItem x part) (sym same) lacks)) tie) order a.here)
          a.ascends;
      here = all_placed (index_cmp cs ps) (λ w. IsIn w (part ++ v ∷ [])) v order (λ l. (all_last (λ y. y ≡ v → ⊥) part v l).1 refl)
          (all_weaker (λ w. IsIn w part) (λ w. IsIn w (part ++ v ∷ [])) (λ w j l. j (all_last (λ y. y ≡ w → ⊥) part v l).0) order a.here);
      all = all_append (λ w. IsIn w (placed (index_cmp cs ps) v order)) part (v ∷ [])
          (all_weaker (λ w. IsIn w order) (λ w. IsIn w (placed (index_cmp cs ps) v order)) (λ w j l. j (all_unplaced (index_cmp cs ps) (λ y. y ≡ w → ⊥) v order l)) part a.all)
          ((λ l. placed_here (index_cmp cs ps) (λ y. y ≡ v → ⊥) v order l refl), tt);
    }
