-- Rows of aliases, gathered from parts; and that the changed rows are near.
use Rattle.std.proofs.Common.{◌≡◌, ℕ, zero, suc, ◌+◌, ◌<◌, Bool, true, false, cond, not, ◌&&◌, ◌||◌, ◌==◌, List, [], ◌∷◌, ◌++◌, map, length, drop, get_or, refl, sym, ap, ◌∙◌, subst, append_assoc, arith}
use Rattle.std.proofs.lemmas.Bool.{and_parts, eqb-true, eq-eqb}
use Rattle.std.proofs.lemmas.List.{drop_more}
use Rattle.std.proofs.lemmas.List.Folds.{list_any-append}
use Rattle.std.specs.List.{filter, AllByRecursion}
use Rattle.lv_values.specs.Order.{row_eq}
use Rattle.lv_schema.specs.declared.part.Part.{Part}
use Rattle.lv_schema.specs.Nets.{has_row}
use Rattle.lv_schema.proofs.Apart.{all_weaker, all_map, all_append}
use Rattle.lv_schema.proofs.ChangeLists.{ARow}
use Rattle.lv_schema.proofs.NetsLead.{elements, same_row, row_itself}
use Rattle.lv_reach.specs.declared.rows.AliasRow.{AliasRow}
use Rattle.lv_reach.specs.Reach.{of_alias, alike, part_at, is_changed, has_alias_row, rows_from, changed_rows, old_rows}

-- ---- a loop over the parts
pub rows_step : (pick : Part → List ARow) (out all : List AliasRow) (i : ℕ) (parts : List Part) (p : Part) → i < length parts → p ≡ get_or parts i p
    → out ++ rows_from pick i (drop i parts) ≡ all → (out ++ map (of_alias i) (pick p)) ++ rows_from pick (i + 1) (drop (i + 1) parts) ≡ all
rows_step pick out all i parts p lt is h =
    let next : suc i ≡ i + 1 = omega arith in
    append_assoc out (map (of_alias i) (pick p)) (rows_from pick (i + 1) (drop (i + 1) parts))
    ∙ ap (λ n. out ++ (map (of_alias i) (pick p) ++ rows_from pick n (drop (i + 1) parts))) (sym next)
    ∙ ap (λ l. out ++ rows_from pick i l) (ap (λ q. q ∷ drop (i + 1) parts) is ∙ sym (drop_more parts i p lt))
    ∙ h

-- ---- rows of aliases
pub one_row : (a b : AliasRow) → alike a b ≡ true → a ≡ b
one_row a b h =
    let both = and_parts (a.alias == b.alias) (row_eq a.row b.row) h in
    let alias : a.alias ≡ b.alias = eqb-true a.alias b.alias both.0 in
    let row : a.row ≡ b.row = same_row a.row b.row both.1 in
    λ i. record { alias = alias i; row = row i }

pub row_alike : (a : AliasRow) → alike a a ≡ true
row_alike a = (λ i. eq-eqb a.alias a.alias refl i && row_eq a.row a.row) ∙ row_itself a.row

-- what holds of each holds of one among them
pub among : (P : AliasRow → Type 0) (rows : List AliasRow) (a : AliasRow) → AllByRecursion P rows → has_alias_row a rows ≡ true → P a
among P [] a all h = cc
among P (b ∷ rows) a all h = by (alike a b) refl h (among P rows a all.1)
  where
    by : (t : Bool) → alike a b ≡ t → (t || has_alias_row a rows) ≡ true → (has_alias_row a rows ≡ true → P a) → P a
    by true e h rest = subst P (sym (one_row a b e)) all.0
    by false e h rest = rest h

-- each is among them, and among more of them
more_there : (a b : AliasRow) (rows : List AliasRow) → has_alias_row a rows ≡ true → has_alias_row a (b ∷ rows) ≡ true
more_there a b rows h = by (alike a b)
  where
    by : (t : Bool) → (t || has_alias_row a rows) ≡ true
    by true = refl
    by false = h

pub each_there : (rows : List AliasRow) → AllByRecursion (λ a. has_alias_row a rows ≡ true) rows
each_there [] = tt
each_there (b ∷ rows) = (ap (λ t. t || has_alias_row b rows) (row_alike b), all_weaker (λ a. has_alias_row a rows ≡ true) (λ a. has_alias_row a (b ∷ rows) ≡ true) (λ a h. more_there a b rows h) rows (each_there rows))

pub first_there : (a b : Bool) → a ≡ true → (a || b) ≡ true
first_there true b h = refl
first_there false b h = cc

pub second_there : (a b : Bool) → b ≡ true → (a || b) ≡ true
second_there true b h = refl
second_there false b h = h

pub there_before : (a : AliasRow) (xs ys : List AliasRow) → has_alias_row a xs ≡ true → has_alias_row a (xs ++ ys) ≡ true
there_before a xs ys h = list_any-append (alike a) xs ys ∙ first_there _ _ h

pub there_behind : (a : AliasRow) (xs ys : List AliasRow) → has_alias_row a ys ≡ true → has_alias_row a (xs ++ ys) ≡ true
there_behind a xs ys h = list_any-append (alike a) xs ys ∙ second_there _ _ h

-- ---- rows of parts
mapped : (i : ℕ) (row : ARow) (rows : List ARow) → has_row row rows ≡ true → has_alias_row (of_alias i row) (map (of_alias i) rows) ≡ true
mapped i row rows h = same_tests rows ∙ h
  where
    same_tests : (rows : List ARow) → has_alias_row (of_alias i row) (map (of_alias i) rows) ≡ has_row row rows
    same_tests [] = refl
    same_tests (r ∷ rows) = λ t. (eq-eqb i i refl t && row_eq row r) || same_tests rows t

module _ (pick : Part → List ARow) (nothing : pick (record { old = []; minus = []; plus = [] }) ≡ []) where
  none_there : (row : ARow) (n : ℕ) → has_row row (pick (part_at [] n)) ≡ true → true ≡ false
  none_there row n h = sym h ∙ ap (has_row row) nothing

  -- each is a row of its alias
  pub each_of_alias : (P : AliasRow → Type 0) (i : ℕ) (parts : List Part) → ((j : ℕ) (row : ARow) → has_row row (pick (part_at parts j)) ≡ true → P (of_alias (i + j) row)) → AllByRecursion P (rows_from pick i parts)
  each_of_alias P i [] h = tt
  each_of_alias P i (p ∷ parts) h =
      let here : i + 0 ≡ i = omega arith in
      all_append P (map (of_alias i) (pick p)) (rows_from pick (suc i) parts)
      (all_map (of_alias i) P (pick p) (all_weaker (λ row. has_row row (pick p) ≡ true) (λ row. P (of_alias i row)) (λ row e. subst (λ n. P (of_alias n row)) here (h 0 row e)) (pick p) (elements (pick p))))
      (each_of_alias P (suc i) parts (λ j row e. let next : i + suc j ≡ suc i + j = omega arith in subst (λ n. P (of_alias n row)) next (h (suc j) row e)))

  -- each row of an alias is there
  pub there_of_alias : (i : ℕ) (parts : List Part) (j : ℕ) (row : ARow) → has_row row (pick (part_at parts j)) ≡ true → has_alias_row (of_alias (i + j) row) (rows_from pick i parts) ≡ true
  there_of_alias i [] j row h = let none = none_there row j h in cc
  there_of_alias i (p ∷ parts) zero row h =
      let here : i ≡ i + 0 = omega arith in
      there_before (of_alias (i + 0) row) (map (of_alias i) (pick p)) (rows_from pick (suc i) parts) (subst (λ n. has_alias_row (of_alias n row) (map (of_alias i) (pick p)) ≡ true) here (mapped i row (pick p) h))
  there_of_alias i (p ∷ parts) (suc j) row h =
      let next : suc i + j ≡ i + suc j = omega arith in
      there_behind (of_alias (i + suc j) row) (map (of_alias i) (pick p)) (rows_from pick (suc i) parts) (subst (λ n. has_alias_row (of_alias n row) (rows_from pick (suc i) parts) ≡ true) next (there_of_alias (suc i) parts j row h))

module _ (parts : List Part) where
  abbrev IsOld : AliasRow → Type 0
  IsOld a = has_row a.row (part_at parts a.alias).old ≡ true

  abbrev IsChanged : AliasRow → Type 0
  IsChanged a = is_changed (part_at parts a.alias) a.row ≡ true

  changed_is : (p : Part) (row : ARow) → has_row row (p.minus ++ p.plus) ≡ is_changed p row
  changed_is p row = list_any-append (row_eq row) p.minus p.plus

  pub all_changed : AllByRecursion IsChanged (changed_rows parts)
  all_changed = each_of_alias (λ p. p.minus ++ p.plus) refl IsChanged 0 parts (λ j row h.
      let e : j ≡ 0 + j = omega arith in
      subst (λ n. IsChanged (of_alias n row)) e (sym (changed_is (part_at parts j) row) ∙ h))

  pub changed_there : (a : AliasRow) → IsChanged a → has_alias_row a (changed_rows parts) ≡ true
  changed_there a h =
      let e : 0 + a.alias ≡ a.alias = omega arith in
      subst (λ n. has_alias_row (of_alias n a.row) (changed_rows parts) ≡ true) e (there_of_alias (λ p. p.minus ++ p.plus) refl 0 parts a.alias a.row (changed_is (part_at parts a.alias) a.row ∙ h))

  pub all_old : AllByRecursion IsOld (old_rows parts)
  all_old = each_of_alias (λ p. p.old) refl IsOld 0 parts (λ j row h.
      let e : j ≡ 0 + j = omega arith in
      subst (λ n. IsOld (of_alias n row)) e h)

  pub old_there : (a : AliasRow) → IsOld a → has_alias_row a (old_rows parts) ≡ true
  old_there a h =
      let e : 0 + a.alias ≡ a.alias = omega arith in
      subst (λ n. has_alias_row (of_alias n a.row) (old_rows parts) ≡ true) e (there_of_alias (λ p. p.old) refl 0 parts a.alias a.row h)

-- a row that is there and passes a test passes the filter
pub filter_there : (f : AliasRow → Bool) (left : List AliasRow) (a : AliasRow) → has_alias_row a left ≡ true → f a ≡ true → has_alias_row a (filter f left) ≡ true
filter_there f [] a h e = cc
filter_there f (b ∷ left) a h e = by (alike a b) (f b) refl refl h (λ k. filter_there f left a k e)
  where
    by : (s t : Bool) → alike a b ≡ s → f b ≡ t → (s || has_alias_row a left) ≡ true → (has_alias_row a left ≡ true → has_alias_row a (filter f left) ≡ true)
        → has_alias_row a (cond t (b ∷ filter f left) (filter f left)) ≡ true
    by true true d k h rest = ap (λ s. s || has_alias_row a (filter f left)) d
    by true false d k h rest = let no : true ≡ false = sym e ∙ ap f (one_row a b d) ∙ k in cc
    by false true d k h rest = second_there _ _ (rest h)
    by false false d k h rest = rest h

-- ---- a round leaves fewer
both_halves : {X : Type 0} (f : X → Bool) (xs : List X) → length (filter f xs) + length (filter (λ x. not (f x)) xs) ≡ length xs
both_halves f [] = refl
both_halves f (x ∷ xs) = by (f x) (both_halves f xs)
  where
    by : (t : Bool) → length (filter f xs) + length (filter (λ x. not (f x)) xs) ≡ length xs → length (cond t (x ∷ filter f xs) (filter f xs)) + length (cond (not t) (x ∷ filter (λ x. not (f x)) xs) (filter (λ x. not (f x)) xs)) ≡ suc (length xs)
    by true e = omega (arith, e)
    by false e = omega (arith, e)

pub fewer_left : {X : Type 0} (f : X → Bool) (xs : List X) → 0 < length (filter f xs) → length (filter (λ x. not (f x)) xs) < length xs
fewer_left f xs h = omega (arith, both_halves f xs)

pub some_one : {X : Type 0} (xs : List X) → (xs ≡ [] → ⊥) → 0 < length xs
some_one [] h = absurd (h refl)
some_one (x ∷ xs) h = omega arith

pub none_left : {X : Type 0} (f : X → Bool) (xs : List X) → length xs ≡ 0 → filter f xs ≡ []
none_left f [] e = refl
none_left f (x ∷ xs) e = absurd (let none = e in omega (arith, none))

pub never : false ≡ true → ⊥
never e = cc
