-- The rows of a part that go and those that come balance its rows before and after; and its rows without those that go
-- are found in one pass over both.
use Rattle.std.proofs.Common.{◌≡◌, ℕ, zero, suc, ◌+◌, ℤ, pos, ◌+ℤ◌, Bool, true, false, cond, not, ◌||◌, List, [], ◌∷◌, ◌++◌, drop, refl, sym, ap, ◌∙◌, subst, arith}
use Rattle.std.specs.Prelude.{slice_get}
use Rattle.std.proofs.lemmas.Int.{ints}
use Rattle.std.specs.List.{AllByRecursion, AllZip}
use Rattle.std.specs.declared.cmp.Ordering.TheVariants.{Less, Equal}
use Rattle.std.specs.Cmp.{eq_by_cmp_equiv}
use Rattle.std.proofs.lemmas.Cmp.{tied_itself}
use Rattle.lv_values.specs.Order.{row_eq}
use Rattle.lv_values.specs.OrderLaws.{row_total}
use Rattle.lv_values.specs.Rows.{key_cmp}
use Rattle.lv_schema.specs.declared.part.Part.{Part}
use Rattle.lv_schema.specs.declared.table.TableDef.{TableDef}
use Rattle.lv_schema.specs.declared.view.ViewDef.{ViewDef}
use Rattle.lv_schema.specs.Groups.{total}
use Rattle.lv_schema.specs.Jobs.{IsPart, new_rows}
use Rattle.lv_schema.specs.Nets.{has_row, lacking}
use Rattle.lv_schema.specs.Once.{Ascends}
use Rattle.lv_schema.specs.World.{table_at}
use Rattle.lv_schema.proofs.ChangeLists.{ARow}
use Rattle.lv_schema.proofs.NetsLead.{same_row, key_total, not_above}
use Rattle.lv_schema.proofs.Totals.{total-append, total-filter, total-add, total_same}
use Rattle.lv_maint.specs.Inputs.{Fit, IsOfTable, AreOfTables}
use Rattle.lv_maint.specs.Terms.{is_row, without}
use Rattle.lv_maint.proofs.DeltaRule.{IsBalanced}

flipped : (r x : ARow) → row_eq x r ≡ row_eq r x
flipped r x = (eq_by_cmp_equiv row_total).symm x r

-- ---- the rows that are r
no_such : (f : ARow → ℤ) (r : ARow) (rows : List ARow) → has_row r rows ≡ false → total (λ x. cond (row_eq r x) (f x) (pos 0)) rows ≡ pos 0
no_such f r [] h = refl
no_such f r (x ∷ rows) h = by (row_eq r x) h (no_such f r rows)
  where
    by : (b : Bool) → (b || has_row r rows) ≡ false → (has_row r rows ≡ false → total (λ x. cond (row_eq r x) (f x) (pos 0)) rows ≡ pos 0) → cond b (f x) (pos 0) +ℤ total (λ x. cond (row_eq r x) (f x) (pos 0)) rows ≡ pos 0
    by true h rest = cc
    by false h rest = omega (arith, ints, rest h)

module _ (key : List ℕ) where
  one_such : (f : ARow → ℤ) (r : ARow) (rows : List ARow) → Ascends (key_cmp key) rows → has_row r rows ≡ true → total (λ x. cond (row_eq r x) (f x) (pos 0)) rows ≡ f r
  one_such f r [] up h = cc
  one_such f r (x ∷ rows) up h = by (row_eq r x) refl h (one_such f r rows up.1)
    where
      by : (b : Bool) → row_eq r x ≡ b → (b || has_row r rows) ≡ true → (has_row r rows ≡ true → total (λ x. cond (row_eq r x) (f x) (pos 0)) rows ≡ f r) → cond b (f x) (pos 0) +ℤ total (λ x. cond (row_eq r x) (f x) (pos 0)) rows ≡ f r
      by true e h rest =
          let same : r ≡ x = same_row r x e in
          let none : has_row r rows ≡ false = ap (λ y. has_row y rows) same ∙ not_above (key_total key) x rows up.0 in
          omega (arith, ints, ap f same, no_such f r rows none)
      by false e h rest = omega (arith, ints, rest h)

  either_part : (a b : Bool) (n : ℤ) → (a ≡ true → b ≡ false) → cond (a || b) n (pos 0) ≡ cond a n (pos 0) +ℤ cond b n (pos 0)
  either_part true true n h = let e = h refl in cc
  either_part true false n h = omega (arith, ints)
  either_part false b n h = omega (arith, ints)

  total_zero : (rows : List ARow) → total (λ _. pos 0) rows ≡ pos 0
  total_zero [] = refl
  total_zero (x ∷ rows) = omega (arith, ints, total_zero rows)

  -- the rows that go are those before that are among them
  going : (f : ARow → ℤ) (old minus : List ARow) → Ascends (key_cmp key) old → Ascends (key_cmp key) minus → AllByRecursion (λ row. has_row row old ≡ true) minus → total (λ x. cond (has_row x minus) (f x) (pos 0)) old ≡ total f minus
  going f old [] up d t = total_zero old
  going f old (r ∷ rows) up d t =
      let first : ARow → ℤ = λ x. cond (row_eq r x) (f x) (pos 0) in
      let rest : ARow → ℤ = λ x. cond (has_row x rows) (f x) (pos 0) in
      total_same (λ x. cond (has_row x (r ∷ rows)) (f x) (pos 0)) (λ x. first x +ℤ rest x)
      (λ x. ap (λ b. cond (b || has_row x rows) (f x) (pos 0)) (flipped r x)
      ∙ either_part (row_eq r x) (has_row x rows) (f x) (λ e. ap (λ y. has_row y rows) (sym (same_row r x e)) ∙ not_above (key_total key) r rows d.0)) old
      ∙ total-add first rest old
      ∙ (λ i. one_such f r old up t.0 i +ℤ going f old rows up d.1 t.1 i)

  -- ---- one pass
  key_itself : (x : ARow) → key_cmp key x x ≡ Equal
  key_itself x = tied_itself (key_total key) x

  other : (x r : ARow) → key_cmp key x r ≡ Less → row_eq r x ≡ false
  other x r l = by (row_eq r x) refl
    where
      by : (b : Bool) → row_eq r x ≡ b → b ≡ false
      by true e = let same : key_cmp key x r ≡ Equal = ap (key_cmp key x) (same_row r x e) ∙ key_itself x in cc
      by false e = refl

  there_behind : (x : ARow) (xs rs : List ARow) → AllByRecursion (λ r. key_cmp key x r ≡ Less) rs → AllByRecursion (λ r. has_row r (x ∷ xs) ≡ true) rs → AllByRecursion (λ r. has_row r xs ≡ true) rs
  there_behind x xs [] l t = tt
  there_behind x xs (r ∷ rs) l t = ((λ i. sym (other x r l.0) i || has_row r xs) ∙ t.0, there_behind x xs rs l.1 t.1)

  less_there : (x r : ARow) (xs : List ARow) → AllByRecursion (λ y. key_cmp key x y ≡ Less) xs → has_row r xs ≡ true → key_cmp key x r ≡ Less
  less_there x r [] a h = cc
  less_there x r (y ∷ xs) a h = by (row_eq r y) refl h (less_there x r xs a.1)
    where
      by : (b : Bool) → row_eq r y ≡ b → (b || has_row r xs) ≡ true → (has_row r xs ≡ true → key_cmp key x r ≡ Less) → key_cmp key x r ≡ Less
      by true e h rest = ap (key_cmp key x) (same_row r y e) ∙ a.0
      by false e h rest = rest h

  less_through : (x m : ARow) (ms : List ARow) → key_cmp key x m ≡ Less → AllByRecursion (λ r. key_cmp key m r ≡ Less) ms → AllByRecursion (λ r. key_cmp key x r ≡ Less) ms
  less_through x m [] l a = tt
  less_through x m (r ∷ ms) l a = ((key_total key).trans x m r l a.0, less_through x m ms l a.1)

  -- rows above one that goes do not see it
  lacking_above : (m : ARow) (xs ms : List ARow) → AllByRecursion (λ y. key_cmp key m y ≡ Less) xs → lacking xs (m ∷ ms) ≡ lacking xs ms
  lacking_above m [] ms a = refl
  lacking_above m (y ∷ xs) ms a = λ i. cond (not (other m y a.0 i || has_row y ms)) (y ∷ lacking_above m xs ms a.1 i) (lacking_above m xs ms a.1 i)

  without_is : (old minus : List ARow) → Ascends (key_cmp key) old → Ascends (key_cmp key) minus → AllByRecursion (λ row. has_row row old ≡ true) minus → without old minus ≡ lacking old minus
  without_is [] ms up d t = refl
  without_is (x ∷ xs) [] up d t = ap (λ l. x ∷ l) (without_is xs [] up.1 tt tt)
  without_is (x ∷ xs) (m ∷ ms) up d t = by (row_eq x m) refl (without_is xs)
    where
      by : (b : Bool) → row_eq x m ≡ b → ((minus : List ARow) → Ascends (key_cmp key) xs → Ascends (key_cmp key) minus → AllByRecursion (λ row. has_row row xs ≡ true) minus → without xs minus ≡ lacking xs minus)
          → cond b (without xs ms) (x ∷ without xs (m ∷ ms)) ≡ cond (not (b || has_row x ms)) (x ∷ lacking xs (m ∷ ms)) (lacking xs (m ∷ ms))
      by true e rest =
          let same : x ≡ m = same_row x m e in
          let above : AllByRecursion (λ r. key_cmp key x r ≡ Less) ms = subst (λ (q : ARow). AllByRecursion (λ r. key_cmp key q r ≡ Less) ms) (sym same) d.0 in
          let behind : AllByRecursion (λ y. key_cmp key m y ≡ Less) xs = subst (λ (q : ARow). AllByRecursion (λ y. key_cmp key q y ≡ Less) xs) same up.0 in
          rest ms up.1 d.1 (there_behind x xs ms above t.1) ∙ sym (lacking_above m xs ms behind)
      by false e rest =
          let in_rest : has_row m xs ≡ true = (λ i. sym (flipped x m ∙ e) i || has_row m xs) ∙ t.0 in
          let first : key_cmp key x m ≡ Less = less_there x m xs up.0 in_rest in
          let above : AllByRecursion (λ r. key_cmp key x r ≡ Less) (m ∷ ms) = (first, less_through x m ms first d.0) in
          let none : has_row x ms ≡ false = not_above (key_total key) x ms above.1 in
          ap (λ l. x ∷ l) (rest (m ∷ ms) up.1 d (there_behind x xs (m ∷ ms) above t))
          ∙ sym (λ i. cond (not (none i)) (x ∷ lacking xs (m ∷ ms)) (lacking xs (m ∷ ms)))

either_side : (b : Bool) (n : ℤ) → n ≡ cond b n (pos 0) +ℤ cond (not b) n (pos 0)
either_side true n = omega (arith, ints)
either_side false n = omega (arith, ints)

balanced : (def : TableDef) (p : Part) → IsPart def p → IsBalanced p
balanced def p h = record {
  balance = λ f.
      let among : ARow → ℤ = λ x. cond (has_row x p.minus) (f x) (pos 0) in
      let others : ARow → ℤ = λ x. cond (not (has_row x p.minus)) (f x) (pos 0) in
      let all : total f p.old ≡ total among p.old +ℤ total others p.old = total_same f (λ x. among x +ℤ others x) (λ x. either_side (has_row x p.minus) (f x)) p.old ∙ total-add among others p.old in
      let left : total f (lacking p.old p.minus) ≡ total others p.old = total-filter f (λ row. not (has_row row p.minus)) p.old in
      let gone : total among p.old ≡ total f p.minus = going def.key f p.old p.minus h.old_keyed h.minus_keyed h.there in
      let more : total f (new_rows p) ≡ total f (lacking p.old p.minus) +ℤ total f p.plus = total-append f (lacking p.old p.minus) p.plus in
      omega (arith, ints, more, left, all, gone);
}

pub all_balanced : (parts : List Part) → AreOfTables parts → AllByRecursion IsBalanced parts
all_balanced [] h = tt
all_balanced (p ∷ parts) h = (balanced h.0.0 p h.0.1, all_balanced parts h.1)

zip_tables : (tables : List TableDef) (ts : List ℕ) (ps : List Part) → AllZip (λ t p. IsPart (table_at tables t) p) ts ps → AreOfTables ps
zip_tables tables [] [] h = tt
zip_tables tables [] (p ∷ ps) h = absurd h
zip_tables tables (t ∷ ts) [] h = absurd h
zip_tables tables (t ∷ ts) (p ∷ ps) h = ((table_at tables t, h.0), zip_tables tables ts ps h.1)

pub of_tables : (def : ViewDef) (parts : List Part) → Fit def parts → AreOfTables parts
of_tables def parts f = zip_tables f.0 def.tables parts f.1.1.each

-- ---- the new rows
pub kept_is : (p : Part) → IsOfTable p → without p.old p.minus ++ p.plus ≡ new_rows p
kept_is p h = ap (λ l. l ++ p.plus) (without_is h.0.key p.old p.minus h.1.old_keyed h.1.minus_keyed h.1.there)

nothing_lacking : (rows : List ARow) → lacking rows [] ++ [] ≡ rows
nothing_lacking [] = refl
nothing_lacking (row ∷ rows) = ap (λ l. row ∷ l) (nothing_lacking rows)

pub unchanged : (p : Part) → p.minus ≡ [] → p.plus ≡ [] → new_rows p ≡ p.old
unchanged p m q = (λ i. lacking p.old (m i) ++ q i) ∙ nothing_lacking p.old

-- ---- a loop's step
pub without_there : (x : ARow) (xs ms : List ARow) (n : ℕ) → is_row x (slice_get ms n) ≡ true → without (x ∷ xs) (drop n ms) ≡ without xs (drop (n + 1) ms)
without_there x xs [] n h = cc
without_there x xs (m ∷ ms) zero h = λ i. cond (h i) (without xs ms) (x ∷ without xs (m ∷ ms))
without_there x xs (m ∷ ms) (suc n) h = without_there x xs ms n h ∙ ap (λ k. without xs (drop k (m ∷ ms))) (suc_more n)
  where
    suc_more : (n : ℕ) → suc (n + 1) ≡ suc n + 1
    suc_more n = omega arith

pub without_other : (x : ARow) (xs ms : List ARow) (n : ℕ) → is_row x (slice_get ms n) ≡ false → without (x ∷ xs) (drop n ms) ≡ x ∷ without xs (drop n ms)
without_other x xs [] zero h = refl
without_other x xs [] (suc n) h = refl
without_other x xs (m ∷ ms) zero h = λ i. cond (h i) (without xs ms) (x ∷ without xs (m ∷ ms))
without_other x xs (m ∷ ms) (suc n) h = without_other x xs ms n h
