-- Columns that are the rows of one alias as they stand, and the tuples of one alias.
use Rattle.std.proofs.Common.{◌≡◌, ℕ, zero, suc, pos, ◌+◌, ◌<◌, Bool, true, false, cond, List, [], ◌∷◌, ◌++◌, length, drop, map, filter, refl, sym, ap, ◌∙◌, arith, get_or, slice_index_or}
use Rattle.std.specs.Prelude.{◌&&◌, ◌==◌}
use Rattle.std.proofs.lemmas.List.{append-nil, at_drop_more, drop_more, map-append}
use Rattle.std.proofs.lemmas.List.Elements.{filter-append}
use Rattle.std.proofs.lemmas.Bool.{eq-eqb, eqb-true}
use Rattle.lv_values.specs.declared.value.Value.{Value}
use Rattle.lv_values.specs.declared.value.Value.TheVariants.{Num}
use Rattle.lv_schema.specs.declared.cond.Col.{Col}
use Rattle.lv_schema.specs.declared.cond.Cond.{Cond}
use Rattle.lv_schema.specs.declared.query.Query.{Query}
use Rattle.lv_schema.specs.Answers.{sorted_row}
use Rattle.lv_schema.specs.Effects.{matching}
use Rattle.lv_schema.specs.JoinViews.{selected}
use Rattle.lv_schema.specs.Truth.{holds}
use Rattle.lv_schema.specs.Tuples.{Tuple, listed, tuples, value_at}
use Rattle.lv_query.specs.Whole.{alone, whole_from}

-- one column more
whole_more : (i : ℕ) (col : Col) (cols : List Col) → col.alias ≡ 0 → col.column ≡ i → whole_from i (col ∷ cols) ≡ whole_from (suc i) cols
whole_more i col cols a c =
    ap (λ (s : Bool). s && ((col.column == i) && whole_from (suc i) cols)) (eq-eqb col.alias 0 a)
    ∙ ap (λ (s : Bool). s && whole_from (suc i) cols) (eq-eqb col.column i c)

pub whole_step : (i : ℕ) (cols : List Col) (d : Col) → i < length cols → (get_or cols i d).alias ≡ 0 → (get_or cols i d).column ≡ i → whole_from i (drop i cols) ≡ whole_from (i + 1) (drop (i + 1) cols)
whole_step i cols d lt a c =
    let next : suc i ≡ i + 1 = omega arith in
    at_drop_more (whole_from i) cols i d lt ∙ whole_more i (get_or cols i d) (drop (i + 1) cols) a c ∙ ap (λ (n : ℕ). whole_from n (drop (i + 1) cols)) next

-- what is listed then is the row
first : (a b : Bool) → (a && b) ≡ true → a ≡ true
first true b e = refl
first false b e = e

second : (a b : Bool) → (a && b) ≡ true → b ≡ true
second true b e = e
second false b e = absurd_false e
  where
    absurd_false : {b : Bool} → false ≡ true → b ≡ true
    absurd_false e = cc

listed_from : (i : ℕ) (cols : List Col) (row : List Value) → whole_from i cols ≡ true → i + length cols ≡ length row → map (value_at (alone row)) cols ≡ drop i row
listed_from i [] row w n = sym (drop_all row i (omega (arith, n)))
  where
    drop_all : (xs : List Value) (k : ℕ) → length xs ≡ k → drop k xs ≡ []
    drop_all [] zero e = refl
    drop_all [] (suc k) e = refl
    drop_all (x ∷ xs) zero e = cc
    drop_all (x ∷ xs) (suc k) e = drop_all xs k (omega (arith, e))
listed_from i (col ∷ cols) row w n =
    let a : col.alias ≡ 0 = eqb-true col.alias 0 (first (col.alias == 0) ((col.column == i) && whole_from (suc i) cols) w) in
    let rest = second (col.alias == 0) ((col.column == i) && whole_from (suc i) cols) w in
    let c : col.column ≡ i = eqb-true col.column i (first (col.column == i) (whole_from (suc i) cols) rest) in
    let more : map (value_at (alone row)) cols ≡ drop (suc i) row = listed_from (suc i) cols row (second (col.column == i) (whole_from (suc i) cols) rest) (omega (arith, n)) in
    let next : i + 1 ≡ suc i = omega arith in
    ap (λ (k : ℕ). slice_index_or (slice_index_or (alone row) k []) col.column (Num (pos 0)) ∷ map (value_at (alone row)) cols) a
    ∙ ap (λ (k : ℕ). slice_index_or row k (Num (pos 0)) ∷ map (value_at (alone row)) cols) c
    ∙ ap (λ (l : List Value). slice_index_or row i (Num (pos 0)) ∷ l) (more ∙ ap (λ (k : ℕ). drop k row) (sym next))
    ∙ sym (drop_more row i (Num (pos 0)) (omega (arith, n)))

pub whole_is_row : (cols : List Col) (row : List Value) → whole_from 0 cols ≡ true → length row ≡ length cols → row ≡ listed cols (alone row)
whole_is_row cols row w n = sym (listed_from 0 cols row w (omega (arith, n)))

-- the tuples of one alias
tuples_alone : (rows : List (List Value)) → tuples (rows ∷ []) ≡ map alone rows
tuples_alone [] = refl
tuples_alone (row ∷ rows) = ap (λ (ts : List Tuple). alone row ∷ ts) (tuples_alone rows)

kept_alone : (c : Cond) (rows : List (List Value)) → filter (holds c) (map alone rows) ≡ map alone (matching c rows)
kept_alone c [] = refl
kept_alone c (row ∷ rows) = by (holds c (alone row)) refl (kept_alone c rows)
  where
    by : (b : Bool) → holds c (alone row) ≡ b → filter (holds c) (map alone rows) ≡ map alone (matching c rows) → filter (holds c) (alone row ∷ map alone rows) ≡ map alone (matching c (row ∷ rows))
    by true e more = rw e (ap (λ (ts : List Tuple). alone row ∷ ts) more)
    by false e more = rw e more

selected_alone : (c : Cond) (rows : List (List Value)) → selected c (rows ∷ []) ≡ map alone (matching c rows)
selected_alone c rows = ap (filter (holds c)) (tuples_alone rows) ∙ kept_alone c rows

-- one row more, which the condition keeps or not
all_more : (q : Query) (c : Cond) (ys : List (List Value)) (row : List Value) → map (sorted_row q) (map alone (matching c (ys ++ row ∷ []))) ≡ map (sorted_row q) (map alone (matching c ys)) ++ map (sorted_row q) (map alone (matching c (row ∷ [])))
all_more q c ys row =
    ap (λ (l : List (List Value)). map (sorted_row q) (map alone l)) (filter-append (λ (r : List Value). holds c (alone r)) ys (row ∷ []))
    ∙ ap (map (sorted_row q)) (map-append alone (matching c ys) (matching c (row ∷ [])))
    ∙ map-append (sorted_row q) (map alone (matching c ys)) (map alone (matching c (row ∷ [])))

pub kept_more : (q : Query) (c : Cond) (ys : List (List Value)) (row : List Value) → holds c (alone row) ≡ true → map (sorted_row q) (map alone (matching c (ys ++ row ∷ []))) ≡ map (sorted_row q) (map alone (matching c ys)) ++ sorted_row q (alone row) ∷ []
kept_more q c ys row e = all_more q c ys row ∙ ap (λ (b : Bool). map (sorted_row q) (map alone (matching c ys)) ++ map (sorted_row q) (map alone (cond b (row ∷ []) []))) e

pub left_more : (q : Query) (c : Cond) (ys : List (List Value)) (row : List Value) → holds c (alone row) ≡ false → map (sorted_row q) (map alone (matching c (ys ++ row ∷ []))) ≡ map (sorted_row q) (map alone (matching c ys))
left_more q c ys row e = all_more q c ys row ∙ ap (λ (b : Bool). map (sorted_row q) (map alone (matching c ys)) ++ map (sorted_row q) (map alone (cond b (row ∷ []) []))) e ∙ append-nil (map (sorted_row q) (map alone (matching c ys)))

-- a list of one part
pub one_part : (c : Cond) (parts : List (List (List Value))) (rows : List (List Value)) → length parts ≡ 1 → rows ≡ get_or parts 0 rows → map alone (matching c rows) ≡ selected c parts
one_part c [] rows e is = cc
one_part c (first ∷ []) rows e is = ap (λ (r : List (List Value)). map alone (matching c r)) is ∙ sym (selected_alone c first)
one_part c (first ∷ more ∷ parts) rows e is = absurd (omega (arith, e))
