-- Changes that a view cannot tell make no difference to it.
use Rattle.std.proofs.Common.{◌≡◌, ℕ, zero, suc, ◌+◌, ℤ, pos, ◌+ℤ◌, ◌-ℤ◌, Bool, true, false, cond, not, ◌&&◌, ◌||◌, ◌==◌, Some, None, List, [], ◌∷◌, ◌++◌, map, length, slice_index_or, refl, sym, ap, ◌∙◌, subst, arith}
use Rattle.std.proofs.lemmas.Bool.{and_parts}
use Rattle.std.proofs.lemmas.Bool.Decides.{Decides-eqb}
use Rattle.std.proofs.lemmas.Cmp.{tied_itself}
use Rattle.std.specs.Cmp.Lexicographic.{pointwise}
use Rattle.std.specs.Int.{int_wrap, w128}
use Rattle.std.specs.List.{AllByRecursion, AllZip}
use Rattle.std.specs.Ordering.{is_eq}
use Rattle.std.specs.declared.cmp.Ordering.{Ordering}
use Rattle.std.specs.declared.cmp.Ordering.TheVariants.{Less, Equal, Greater}
use Rattle.lv_values.specs.declared.value.Value.{Value}
use Rattle.lv_values.specs.Order.{row_eq, value_cmp, value_eq, number_of}
use Rattle.lv_values.specs.OrderLaws.{value_exact, value_total}
use Rattle.lv_values.specs.Rows.{value_in}
use Rattle.lv_schema.specs.declared.cond.Col.{Col}
use Rattle.lv_schema.specs.declared.part.Part.{Part}
use Rattle.lv_schema.specs.declared.table.TableDef.{TableDef}
use Rattle.lv_schema.specs.declared.view.ViewDef.{ViewDef}
use Rattle.lv_schema.specs.Differences.{key_columns, summed_columns, key_of, tuples_of, change_of, is_change, changes, difference}
use Rattle.lv_schema.specs.Groups.{total, number_at}
use Rattle.lv_schema.specs.Jobs.{IsPart, new_rows, old_sides, new_sides}
use Rattle.lv_schema.specs.JoinViews.{selected}
use Rattle.lv_schema.specs.Nets.{lacking}
use Rattle.lv_schema.specs.Truth.{holds, is_yes}
use Rattle.lv_schema.specs.Tuples.{Tuple, tuples, value_at}
use Rattle.lv_schema.specs.World.{table_at}
use Rattle.lv_schema.proofs.Apart.{all_weaker}
use Rattle.lv_schema.proofs.ChangeLists.{ARow, same_changes, change_covers}
use Rattle.lv_schema.proofs.Totals.{total_same, total-append, total-filter, total-ones, total-tuples}
use Rattle.lv_relevance.specs.Relevance.{columns_of, used_columns, same_in, is_untold, unchanged, told_part, told_from, told}
use Rattle.lv_relevance.proofs.Balance.{IsSplit, split}
use Rattle.lv_relevance.proofs.ToldParts.{old_again, old_told}
use Rattle.lv_relevance.proofs.UsedColumns.{Agree, all_back, all_front, listed_same, map_on, truth_same}

-- ---- rows that are the same in some columns
equal_values : (r : Ordering) → is_eq r ≡ true → r ≡ Equal
equal_values Less h = cc
equal_values Equal h = refl
equal_values Greater h = cc

value_same : (a b : Value) → value_eq a b ≡ true → a ≡ b
value_same a b h = value_exact a b (equal_values (value_cmp a b) h)

own_value : (n : ℕ) (b : Bool) → (not (n == n) || b) ≡ true → b ≡ true
own_value n b h = (λ i. not (sym ((Decides-eqb n n).1 refl) i) || b) ∙ h

either_true : (a b : Bool) → b ≡ true → (a || b) ≡ true
either_true true b e = refl
either_true false b e = e

pub both_true : (a b : Bool) → a ≡ true → b ≡ true → (a && b) ≡ true
both_true a b h k = (λ i. h i && b) ∙ k

pub value_itself : (v : Value) → value_eq v v ≡ true
value_itself v = ap is_eq (tied_itself value_total v)

pub same_itself : (cols : List Col) (alias : ℕ) (row : ARow) → same_in cols alias row row ≡ true
same_itself [] alias row = refl
same_itself (col ∷ cols) alias row =
    both_true _ _ (either_true (not (col.alias == alias)) _ (value_itself (value_in row col.column))) (same_itself cols alias row)

-- ---- tuples whose rows are the same
abbrev pub row_at : Tuple → ℕ → ARow
row_at tuple j = slice_index_or tuple j []

-- row by row, the first one of alias i
abbrev pub Alike : List Col → ℕ → Tuple → Tuple → Type 0
Alike cols i t u = (j : ℕ) → same_in cols (i + j) (row_at t j) (row_at u j) ≡ true

pub alike_more : (cols : List Col) (i : ℕ) (r s : ARow) (t u : Tuple) → same_in cols i r s ≡ true → Alike cols (suc i) t u → Alike cols i (r ∷ t) (s ∷ u)
alike_more cols i r s t u here rest zero = let e : i ≡ i + 0 = omega arith in subst (λ n. same_in cols n r s ≡ true) e here
alike_more cols i r s t u here rest (suc j) = let e : suc i + j ≡ i + suc j = omega arith in subst (λ n. same_in cols n (row_at t j) (row_at u j) ≡ true) e (rest j)

pub alike_itself : (cols : List Col) (i : ℕ) (t : Tuple) → Alike cols i t t
alike_itself cols i t j = same_itself cols (i + j) (row_at t j)

-- such tuples have the same value in each of the columns
values_same : (cols : List Col) → AllByRecursion (λ col. (t u : Tuple) → Alike cols 0 t u → value_at t col ≡ value_at u col) cols
values_same [] = tt
values_same (col ∷ cols) = (
  λ t u a.
      let e : 0 + col.alias ≡ col.alias = omega arith in
      let here : same_in (col ∷ cols) col.alias (row_at t col.alias) (row_at u col.alias) ≡ true = subst (λ n. same_in (col ∷ cols) n (row_at t col.alias) (row_at u col.alias) ≡ true) e (a col.alias) in
      value_same (value_at t col) (value_at u col) (own_value col.alias (value_eq (value_at t col) (value_at u col)) (and_parts _ _ here).0),
  all_weaker (λ c. (t u : Tuple) → Alike cols 0 t u → value_at t c ≡ value_at u c) (λ c. (t u : Tuple) → Alike (col ∷ cols) 0 t u → value_at t c ≡ value_at u c)
      (λ c h t u a. h t u (λ j. (and_parts _ _ (a j)).1)) cols (values_same cols),
)

-- what does not see the other columns
abbrev IsBlind : List Col → ℕ → (Tuple → ℤ) → Type 0
IsBlind cols i f = (t u : Tuple) → Alike cols i t u → f t ≡ f u

-- ---- one alias
module _ (cols : List Col) (i : ℕ) (g : ARow → ℤ) (blind : (r s : ARow) → same_in cols i r s ≡ true → g r ≡ g s) where
  in_place : (rows others : List ARow) → pointwise (same_in cols i) rows others ≡ true → total g rows ≡ total g others
  in_place [] [] h = refl
  in_place [] (s ∷ others) h = cc
  in_place (r ∷ rows) [] h = cc
  in_place (r ∷ rows) (s ∷ others) h =
      let both = and_parts (same_in cols i r s) (pointwise (same_in cols i) rows others) h in
      λ k. blind r s both.0 k +ℤ in_place rows others both.1 k

  new_same : (p : Part) → IsSplit p → total g (new_rows (told_part cols i p)) ≡ total g (new_rows p)
  new_same p s = by (is_untold cols i p) refl
    where
      by : (b : Bool) → is_untold cols i p ≡ b → total g (new_rows (cond b (unchanged p) p)) ≡ total g (new_rows p)
      by true e =
          ap (total g) (old_again p) ∙ s.old_is g
          ∙ ap (λ n. total g (lacking p.old p.minus) +ℤ n) (in_place p.minus p.plus e)
          ∙ sym (total-append g (lacking p.old p.minus) p.plus)
      by false e = refl

-- ---- all of them
total_told : (cols : List Col) (i : ℕ) (parts : List Part) → AllByRecursion IsSplit parts → (f : Tuple → ℤ) → IsBlind cols i f → total f (tuples (new_sides (told_from cols i parts))) ≡ total f (tuples (new_sides parts))
total_told cols i [] s f blind = refl
total_told cols i (p ∷ parts) s f blind =
    let rest = new_sides parts in
    let left = new_sides (told_from cols (suc i) parts) in
    let g : ARow → ℤ = λ row. total (λ tuple. f (row ∷ tuple)) (tuples rest) in
    total-tuples f (new_rows (told_part cols i p)) left
    ∙ total_same _ g (λ row. total_told cols (suc i) parts s.1 (λ tuple. f (row ∷ tuple)) (λ t u a. blind (row ∷ t) (row ∷ u) (alike_more cols i row row t u (same_itself cols i row) a))) (new_rows (told_part cols i p))
    ∙ new_same cols i g (λ r s h. total_same _ _ (λ t. blind (r ∷ t) (s ∷ t) (alike_more cols i r s t t h (alike_itself cols (suc i) t))) (tuples rest)) p s.0
    ∙ sym (total-tuples f (new_rows p) rest)

-- ---- the view
module _ (view : ViewDef) where
  abbrev Blind : (Tuple → ℤ) → Type 0
  Blind f = IsBlind (used_columns view) 0 f

  abbrev Seen : Col → Type 0
  Seen col = (t u : Tuple) → Alike (used_columns view) 0 t u → value_at t col ≡ value_at u col

  all_seen : AllByRecursion Seen (used_columns view)
  all_seen = values_same (used_columns view)

  tested_seen : AllByRecursion Seen (columns_of view.cond)
  tested_seen = all_front Seen (columns_of view.cond) (key_columns view ++ summed_columns view) all_seen

  keys_seen : AllByRecursion Seen (key_columns view)
  keys_seen = all_front Seen (key_columns view) (summed_columns view) (all_back Seen (columns_of view.cond) (key_columns view ++ summed_columns view) all_seen)

  sums_seen : AllByRecursion Seen (summed_columns view)
  sums_seen = all_back Seen (key_columns view) (summed_columns view) (all_back Seen (columns_of view.cond) (key_columns view ++ summed_columns view) all_seen)

  agree : (cols : List Col) → AllByRecursion Seen cols → (t u : Tuple) → Alike (used_columns view) 0 t u → Agree t u cols
  agree cols seen t u a = all_weaker Seen (λ col. value_at t col ≡ value_at u col) (λ col h. h t u a) cols seen

  pub holds_same : (t u : Tuple) → Alike (used_columns view) 0 t u → holds view.cond t ≡ holds view.cond u
  holds_same t u a = ap is_yes (truth_same t u view.cond (agree (columns_of view.cond) tested_seen t u a))

  pub key_same : (t u : Tuple) → Alike (used_columns view) 0 t u → key_of view t ≡ key_of view u
  key_same t u a = listed_same t u (key_columns view) (agree (key_columns view) keys_seen t u a)

  pub numbers_same : (t u : Tuple) → Alike (used_columns view) 0 t u → map (λ col. number_at col t) (summed_columns view) ≡ map (λ col. number_at col u) (summed_columns view)
  numbers_same t u a =
      map_on (λ col. number_at col t) (λ col. number_at col u) (summed_columns view)
      (all_weaker Seen (λ col. number_at col t ≡ number_at col u) (λ col h. ap number_of (h t u a)) (summed_columns view) sums_seen)

  module _ (was is is' : List Tuple) (same : (f : Tuple → ℤ) → Blind f → total f is' ≡ total f is) where
    of_row : (q : ARow) (f : Tuple → ℤ) → Blind f → total f (tuples_of view q is') ≡ total f (tuples_of view q is)
    of_row q f blind =
        let own : Tuple → Bool = λ tuple. row_eq q (key_of view tuple) in
        total-filter f own is'
        ∙ same (λ t. cond (own t) (f t) (pos 0)) (λ t u a k. cond (row_eq q (key_same t u a k)) (blind t u a k) (pos 0))
        ∙ sym (total-filter f own is)

    counted : (q : ARow) → pos (length (tuples_of view q is')) ≡ pos (length (tuples_of view q is))
    counted q = sym (total-ones (tuples_of view q is')) ∙ of_row q (λ _. pos 1) (λ t u a. refl) ∙ total-ones (tuples_of view q is)

    abbrev sum_of : ARow → List Tuple → Col → ℤ
    sum_of q now col = int_wrap w128 (total (number_at col) (tuples_of view q now) -ℤ total (number_at col) (tuples_of view q was))

    summed : (q : ARow) → map (sum_of q is') (summed_columns view) ≡ map (sum_of q is) (summed_columns view)
    summed q =
        map_on (sum_of q is') (sum_of q is) (summed_columns view)
        (all_weaker Seen (λ col. sum_of q is' col ≡ sum_of q is col)
        (λ col h k. int_wrap w128 (of_row q (number_at col) (λ t u a. ap number_of (h t u a)) k -ℤ total (number_at col) (tuples_of view q was)))
        (summed_columns view) sums_seen)

    change_same : (q : ARow) → change_of view was is' q ≡ change_of view was is q
    change_same q = λ k. record {
      row = q;
      count = counted q k -ℤ pos (length (tuples_of view q was));
      sums = summed q k;
    }

    changes_same : changes (change_of view was is') (map (key_of view) (was ++ is')) ≡ changes (change_of view was is) (map (key_of view) (was ++ is))
    changes_same = same_changes (change_of view was is') (change_of view was is) (map (key_of view) (was ++ is')) (map (key_of view) (was ++ is))
        (change_covers view was is') (change_covers view was is) (λ q. ap (λ s. cond (is_change s) (Some s) None) (change_same q))

  selected_same : (parts : List Part) → AllByRecursion IsSplit parts → (f : Tuple → ℤ) → Blind f → total f (selected view.cond (new_sides (told view parts))) ≡ total f (selected view.cond (new_sides parts))
  selected_same parts s f blind =
      total-filter f (holds view.cond) (tuples (new_sides (told view parts)))
      ∙ total_told (used_columns view) 0 parts s (λ t. cond (holds view.cond t) (f t) (pos 0)) (λ t u a k. cond (holds_same t u a k) (blind t u a k) (pos 0))
      ∙ sym (total-filter f (holds view.cond) (tuples (new_sides parts)))

  untold : (parts : List Part) → AllByRecursion IsSplit parts → difference view (old_sides (told view parts)) (new_sides (told view parts)) ≡ difference view (old_sides parts) (new_sides parts)
  untold parts s =
      ap (λ old. difference view old (new_sides (told view parts))) (old_told (used_columns view) 0 parts)
      ∙ changes_same (selected view.cond (old_sides parts)) (selected view.cond (new_sides parts)) (selected view.cond (new_sides (told view parts))) (selected_same parts s)

all_split : (defs : List TableDef) (tables : List ℕ) (parts : List Part) → AllZip (λ t p. IsPart (table_at defs t) p) tables parts → AllByRecursion IsSplit parts
all_split defs [] [] h = tt
all_split defs [] (p ∷ parts) h = absurd h
all_split defs (t ∷ tables) [] h = absurd h
all_split defs (t ∷ tables) (p ∷ parts) h = (split (table_at defs t) p h.0, all_split defs tables parts h.1)

pub no_difference : (defs : List TableDef) (view : ViewDef) (parts : List Part) → AllZip (λ t p. IsPart (table_at defs t) p) view.tables parts → difference view (old_sides (told view parts)) (new_sides (told view parts)) ≡ difference view (old_sides parts) (new_sides parts)
no_difference defs view parts h = untold view parts (all_split defs view.tables parts h)
