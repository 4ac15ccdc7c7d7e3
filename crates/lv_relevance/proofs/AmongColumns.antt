-- Columns that are all that a view uses of an alias: rows that have the same values in them make the same tuples.
use Rattle.std.proofs.Common.{◌≡◌, ℕ, zero, suc, ◌+◌, Bool, true, false, not, ◌||◌, ◌==◌, nat_eq, List, [], ◌∷◌, map, slice_set, refl, sym, ap, ◌∙◌, subst, arith}
use Rattle.std.proofs.lemmas.Bool.{and_parts, eqb-true}
use Rattle.std.specs.List.{list_all, list_any}
use Rattle.lv_values.specs.Order.{value_eq}
use Rattle.lv_values.specs.Rows.{value_in, values_at}
use Rattle.lv_schema.specs.declared.cond.Col.{Col}
use Rattle.lv_schema.specs.declared.view.ViewDef.{ViewDef}
use Rattle.lv_schema.specs.Differences.{key_of, summed_columns}
use Rattle.lv_schema.specs.Groups.{number_at}
use Rattle.lv_schema.specs.Truth.{holds}
use Rattle.lv_schema.specs.Tuples.{Tuple}
use Rattle.lv_schema.proofs.ChangeLists.{ARow}
use Rattle.lv_relevance.specs.Relevance.{is_among, same_in, used_columns}
use Rattle.lv_relevance.proofs.Untold.{Alike, alike_itself, alike_more, both_true, holds_same, key_same, numbers_same, same_itself, value_itself}

-- ---- rows that have the same values in them
same_value : (a b : ARow) (columns : List ℕ) (n : ℕ) → list_any (λ column. nat_eq column n) columns ≡ true → values_at columns a ≡ values_at columns b → value_in a n ≡ value_in b n
same_value a b [] n h same = cc
same_value a b (column ∷ columns) n h same = let rest : values_at columns a ≡ values_at columns b = cc in by (nat_eq column n) refl h (λ k. same_value a b columns n k rest)
  where
    by : (t : Bool) → nat_eq column n ≡ t → (t || list_any (λ column. nat_eq column n) columns) ≡ true → (list_any (λ column. nat_eq column n) columns ≡ true → value_in a n ≡ value_in b n) → value_in a n ≡ value_in b n
    by true e h' more =
        let is : column ≡ n = eqb-true column n e in
        let here : value_in a column ≡ value_in b column = cc in
        subst (λ m. value_in a m ≡ value_in b m) is here
    by false e h' more = more h'

pub same_among : (alias : ℕ) (columns : List ℕ) (a b : ARow) → values_at columns a ≡ values_at columns b → (cols : List Col) → list_all (is_among alias columns) cols ≡ true → same_in cols alias a b ≡ true
same_among alias columns a b same [] h = refl
same_among alias columns a b same (col ∷ cols) h =
    let both = and_parts (is_among alias columns col) (list_all (is_among alias columns) cols) h in
    both_true _ _ (by (not (col.alias == alias)) (list_any (λ column. nat_eq column col.column) columns) refl both.0) (same_among alias columns a b same cols both.1)
  where
    by : (s t : Bool) → list_any (λ column. nat_eq column col.column) columns ≡ t → (s || t) ≡ true → (s || value_eq (value_in a col.column) (value_in b col.column)) ≡ true
    by true t e h' = refl
    by false t e h' = ap (value_eq (value_in a col.column)) (sym (same_value a b columns col.column (e ∙ h') same)) ∙ value_itself (value_in a col.column)

-- ---- tuples with the one and with the other
alike_set : (cols : List Col) (i alias : ℕ) (tuple : Tuple) (a b : ARow) → same_in cols (i + alias) a b ≡ true → Alike cols i (slice_set tuple alias a) (slice_set tuple alias b)
alike_set cols i alias [] a b h = alike_itself cols i []
alike_set cols i zero (row ∷ tuple) a b h = let e : i + 0 ≡ i = omega arith in alike_more cols i a b tuple tuple (subst (λ n. same_in cols n a b ≡ true) e h) (alike_itself cols (suc i) tuple)
alike_set cols i (suc alias) (row ∷ tuple) a b h =
    let e : i + suc alias ≡ suc i + alias = omega arith in
    alike_more cols i row row (slice_set tuple alias a) (slice_set tuple alias b) (same_itself cols i row) (alike_set cols (suc i) alias tuple a b (subst (λ n. same_in cols n a b ≡ true) e h))

module _ (view : ViewDef) (alias : ℕ) (tuple : Tuple) (a b : ARow) (same : same_in (used_columns view) alias a b ≡ true) where
  alike : Alike (used_columns view) 0 (slice_set tuple alias a) (slice_set tuple alias b)
  alike = let e : alias ≡ 0 + alias = omega arith in alike_set (used_columns view) 0 alias tuple a b (subst (λ n. same_in (used_columns view) n a b ≡ true) e same)

  pub same_truth : holds view.cond (slice_set tuple alias a) ≡ holds view.cond (slice_set tuple alias b)
  same_truth = holds_same view _ _ alike

  pub same_key : key_of view (slice_set tuple alias a) ≡ key_of view (slice_set tuple alias b)
  same_key = key_same view _ _ alike

  pub same_numbers : map (λ col. number_at col (slice_set tuple alias a)) (summed_columns view) ≡ map (λ col. number_at col (slice_set tuple alias b)) (summed_columns view)
  same_numbers = numbers_same view _ _ alike
