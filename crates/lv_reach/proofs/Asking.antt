-- What is looked up for a row: the rows that have its values in the columns of the links agree with it.
use Rattle.std.proofs.Common.{◌≡◌, ℕ, suc, ◌+◌, ◌<◌, Bool, true, false, cond, not, ◌&&◌, ◌||◌, List, [], ◌∷◌, ◌++◌, map, length, drop, get_or, refl, sym, ap, ◌∙◌, append_assoc, arith}
use Rattle.std.proofs.lemmas.List.{drop_more}
use Rattle.std.specs.List.{filter}
use Rattle.std.specs.Prelude.{Result, Ok, Err, OnErr}
use Rattle.std.specs.Ordering.{is_eq, ordering_then}
use Rattle.std.specs.declared.cmp.Ordering.{Ordering}
use Rattle.std.specs.declared.cmp.Ordering.TheVariants.{Less, Equal, Greater}
use Rattle.std.proofs.lemmas.Cmp.{tied_itself}
use Rattle.lv_values.specs.declared.value.Value.{Value}
use Rattle.lv_values.specs.Order.{value_cmp, value_eq, row_cmp, row_eq}
use Rattle.lv_values.specs.OrderLaws.{value_total, value_exact}
use Rattle.lv_values.specs.Rows.{value_in, values_at}
use Rattle.lv_schema.proofs.ChangeLists.{ARow}
use Rattle.lv_reach.specs.declared.link.Link.{Link}
use Rattle.lv_reach.specs.declared.rows.AliasRow.{AliasRow}
use Rattle.lv_reach.specs.Reach.{of_alias, goes, are_linked, all_fit, agree}
use Rattle.lv_reach.specs.Walk.{if_goes, columns_to, values_to}

-- ---- loops over the links
pub columns_step : (i j : ℕ) (out all : List ℕ) (n : ℕ) (links : List Link) (link : Link) → n < length links → link ≡ get_or links n link
    → out ++ columns_to (drop n links) i j ≡ all
    → ((out ++ if_goes link i j link.right.column) ++ if_goes link j i link.left.column) ++ columns_to (drop (n + 1) links) i j ≡ all
columns_step i j out all n links link lt is h =
    let next : suc n ≡ n + 1 = omega arith in
    ap (λ l. l ++ columns_to (drop (n + 1) links) i j) (append_assoc out (if_goes link i j link.right.column) (if_goes link j i link.left.column))
    ∙ append_assoc out (if_goes link i j link.right.column ++ if_goes link j i link.left.column) (columns_to (drop (n + 1) links) i j)
    ∙ ap (λ l. out ++ columns_to l i j) (ap (λ q. q ∷ drop (n + 1) links) is ∙ sym (drop_more links n link lt))
    ∙ h

pub values_step : (a : AliasRow) (j : ℕ) (out all : List Value) (n : ℕ) (links : List Link) (link : Link) → n < length links → link ≡ get_or links n link
    → out ++ values_to (drop n links) a j ≡ all
    → ((out ++ if_goes link a.alias j (value_in a.row link.left.column)) ++ if_goes link j a.alias (value_in a.row link.right.column)) ++ values_to (drop (n + 1) links) a j ≡ all
values_step a j out all n links link lt is h =
    let next : suc n ≡ n + 1 = omega arith in
    let first = if_goes link a.alias j (value_in a.row link.left.column) in
    let second = if_goes link j a.alias (value_in a.row link.right.column) in
    ap (λ l. l ++ values_to (drop (n + 1) links) a j) (append_assoc out first second)
    ∙ append_assoc out (first ++ second) (values_to (drop (n + 1) links) a j)
    ∙ ap (λ l. out ++ values_to l a j) (ap (λ q. q ∷ drop (n + 1) links) is ∙ sym (drop_more links n link lt))
    ∙ h

-- ---- rows value by value
row_eq_cons : (x y : Value) (xs ys : List Value) → row_eq (x ∷ xs) (y ∷ ys) ≡ (value_eq x y && row_eq xs ys)
row_eq_cons x y xs ys = by (value_cmp x y)
  where
    by : (o : Ordering) → is_eq (ordering_then o (row_cmp xs ys)) ≡ (is_eq o && is_eq (row_cmp xs ys))
    by Less = refl
    by Equal = refl
    by Greater = refl

pub same_value : (x y : Value) → value_eq x y ≡ true → x ≡ y
same_value x y h = value_exact x y (by (value_cmp x y) h)
  where
    by : (o : Ordering) → is_eq o ≡ true → o ≡ Equal
    by Less e = cc
    by Equal e = refl
    by Greater e = cc

value_itself : (x : Value) → value_eq x x ≡ true
value_itself x = ap is_eq (tied_itself value_total x)

either_way : (x y : Value) → value_eq x y ≡ value_eq y x
either_way x y = by (value_eq x y) (value_eq y x) refl refl
  where
    by : (s t : Bool) → value_eq x y ≡ s → value_eq y x ≡ t → value_eq x y ≡ value_eq y x
    by true true e f = e ∙ sym f
    by false false e f = e ∙ sym f
    by true false e f = let no : true ≡ false = sym (value_itself y) ∙ ap (λ z. value_eq y z) (sym (same_value x y e)) ∙ f in cc
    by false true e f = let no : true ≡ false = sym (value_itself x) ∙ ap (λ z. value_eq x z) (sym (same_value y x f)) ∙ e in cc

one : (b : Bool) (c : ℕ) (v : Value) (columns : List ℕ) (values : List Value) (row : ARow)
    → row_eq (values_at (cond b (c ∷ []) [] ++ columns) row) (cond b (v ∷ []) [] ++ values) ≡ ((not b || value_eq (value_in row c) v) && row_eq (values_at columns row) values)
one true c v columns values row = row_eq_cons (value_in row c) v (values_at columns row) values
one false c v columns values row = refl

and_assoc : (a b c : Bool) → (a && (b && c)) ≡ ((a && b) && c)
and_assoc true b c = refl
and_assoc false b c = refl

-- a row that has these values agrees in each link
pub asked : (links : List Link) (a : AliasRow) (j : ℕ) (row : ARow) → row_eq (values_at (columns_to links a.alias j) row) (values_to links a j) ≡ all_fit links a (of_alias j row)
asked [] a j row = refl
asked (link ∷ links) a j row =
    let there = goes link a.alias j in
    let back = goes link j a.alias in
    let c = link.right.column in
    let d = link.left.column in
    let v = value_in a.row link.left.column in
    let w = value_in a.row link.right.column in
    let columns = columns_to links a.alias j in
    let values = values_to links a j in
    (λ t. row_eq (values_at (append_assoc (cond there (c ∷ []) []) (cond back (d ∷ []) []) columns t) row) (append_assoc (cond there (v ∷ []) []) (cond back (w ∷ []) []) values t))
    ∙ one there c v (cond back (d ∷ []) [] ++ columns) (cond back (w ∷ []) [] ++ values) row
    ∙ (λ t. (not there || either_way (value_in row c) v t) && one back d w columns values row t)
    ∙ (λ t. (not there || value_eq v (value_in row c)) && ((not back || value_eq (value_in row d) w) && asked links a j row t))
    ∙ and_assoc (not there || value_eq v (value_in row c)) (not back || value_eq (value_in row d) w) (all_fit links a (of_alias j row))

-- ---- the rows of an alias that agree
filter_mapped : (f : AliasRow → Bool) (g : ARow → Bool) (j : ℕ) → ((row : ARow) → g row ≡ f (of_alias j row)) → (rows : List ARow) → map (of_alias j) (filter g rows) ≡ filter f (map (of_alias j) rows)
filter_mapped f g j same [] = refl
filter_mapped f g j same (row ∷ rows) = by (g row) (f (of_alias j row)) (same row) (filter_mapped f g j same rows)
  where
    by : (s t : Bool) → s ≡ t → map (of_alias j) (filter g rows) ≡ filter f (map (of_alias j) rows)
        → map (of_alias j) (cond s (row ∷ filter g rows) (filter g rows)) ≡ cond t (of_alias j row ∷ filter f (map (of_alias j) rows)) (filter f (map (of_alias j) rows))
    by true true e h = ap (λ l. of_alias j row ∷ l) h
    by true false e h = cc
    by false true e h = cc
    by false false e h = h

pub looked_up_rows : (links : List Link) (a : AliasRow) (j : ℕ) (rows : List ARow) (columns : List ℕ) (values : List Value) → are_linked links a.alias j ≡ true → columns ≡ columns_to links a.alias j → values ≡ values_to links a j
    → map (of_alias j) (filter (λ row. row_eq (values_at columns row) values) rows) ≡ filter (agree links a) (map (of_alias j) rows)
looked_up_rows links a j rows columns values linked c v =
    (λ i. map (of_alias j) (filter (λ row. row_eq (values_at (c i) row) (v i)) rows))
    ∙ filter_mapped (agree links a) (λ row. row_eq (values_at (columns_to links a.alias j) row) (values_to links a j)) j
    (λ row. asked links a j row ∙ sym (ap (λ b. b && all_fit links a (of_alias j row)) linked)) rows

long_map : (j : ℕ) (rows : List ARow) → length (map (of_alias j) rows) ≡ length rows
long_map j [] = refl
long_map j (row ∷ rows) = omega (arith, long_map j rows)

pub looked_up_long : (links : List Link) (a : AliasRow) (j : ℕ) (rows : List ARow) (columns : List ℕ) (values : List Value) → are_linked links a.alias j ≡ true → columns ≡ columns_to links a.alias j → values ≡ values_to links a j
    → length (filter (λ row. row_eq (values_at columns row) values) rows) ≡ length (filter (agree links a) (map (of_alias j) rows))
looked_up_long links a j rows columns values linked c v =
    sym (long_map j (filter (λ row. row_eq (values_at columns row) values) rows)) ∙ ap (λ (l : List AliasRow). length l) (looked_up_rows links a j rows columns values linked c v)

pub none_linked : (links : List Link) (a : AliasRow) (j : ℕ) (rows : List ARow) → are_linked links a.alias j ≡ false → filter (agree links a) (map (of_alias j) rows) ≡ []
none_linked links a j [] linked = refl
none_linked links a j (row ∷ rows) linked =
    ap (λ b. cond (b && all_fit links a (of_alias j row)) (of_alias j row ∷ filter (agree links a) (map (of_alias j) rows)) (filter (agree links a) (map (of_alias j) rows))) linked
    ∙ none_linked links a j rows linked

pub on_err : {T E P : Type 0} (r : Result T E) → P → OnErr r P
on_err (Ok a) p = tt
on_err (Err e) p = p

-- ---- values that are compared with those of a row, link by link
module _ (link : Link) (i j : ℕ) (v : Value) where
  -- the first one is the one in the column, or another, or there is none
  pub behind_first : (first : Value) (values rest : List Value) → goes link i j ≡ true → values ≡ first ∷ rest → value_eq first v ≡ true → values ≡ if_goes link i j v ++ rest
  behind_first first values rest g is same = is ∙ ap (λ x. x ∷ rest) (same_value first v same) ∙ sym (ap (λ b. cond b (v ∷ []) [] ++ rest) g)

  pub behind_other : (first : Value) (values left : List Value) → goes link i j ≡ true → values ≡ first ∷ left → value_eq first v ≡ false → (rest : List Value) → values ≡ if_goes link i j v ++ rest → ⊥
  behind_other first values left g is other rest h =
      let both : first ∷ left ≡ v ∷ rest = sym is ∙ h ∙ ap (λ b. cond b (v ∷ []) [] ++ rest) g in
      let same : first ≡ v = cc in
      let no : true ≡ false = sym (value_itself v) ∙ ap (λ x. value_eq x v) (sym same) ∙ other in
      cc
