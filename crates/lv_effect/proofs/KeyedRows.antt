-- The row at a key, among rows that ascend by it.
use Rattle.std.proofs.Common.{◌≡◌, ℕ, Bool, true, false, cond, List, [], ◌∷◌, Option, Some, None, option_to_list, refl, sym, ap, ◌∙◌, subst}
use Rattle.std.specs.Prelude.{◌||◌, is_some, slice_get, MatchOption, Result, Ok, Err, IfOk}
use denote.Ref.{Bor}
use Rattle.std.specs.List.{AllByRecursion}
use Rattle.std.specs.Ordering.{is_eq, ordering_reverse}
use Rattle.std.specs.declared.cmp.Ordering.{Ordering}
use Rattle.std.specs.declared.cmp.Ordering.TheVariants.{Less, Equal, Greater}
use Rattle.std.proofs.lemmas.Cmp.{tied_itself}
use Rattle.lv_values.specs.declared.value.Value.{Value}
use Rattle.lv_values.specs.Order.{row_cmp, row_eq}
use Rattle.lv_values.specs.OrderLaws.{row_total}
use Rattle.lv_values.specs.Rows.{key_cmp, values_at}
use Rattle.lv_schema.specs.declared.cond.Cond.{Cond}
use Rattle.lv_schema.specs.Effects.{has_key, matching}
use Rattle.lv_schema.specs.Keys.{row_at}
use Rattle.lv_schema.specs.Once.{Ascends}
use Rattle.lv_schema.specs.Truth.{holds}
use Rattle.lv_schema.proofs.NetsLead.{same_row}
use Rattle.lv_versions.specs.Versions.{row_with, rows_with}
use Rattle.lv_effect.specs.FixedKeys.{FixesKey}

turned_eq : (o : Ordering) → is_eq (ordering_reverse o) ≡ is_eq o
turned_eq Less = refl
turned_eq Equal = refl
turned_eq Greater = refl

eq_back : (a b : List Value) → row_eq a b ≡ row_eq b a
eq_back a b = ap is_eq (row_total.antisymm a b) ∙ turned_eq (row_cmp b a)

eq_self : (a : List Value) → row_eq a a ≡ true
eq_self a = ap is_eq (tied_itself row_total a)

-- what a read by key finds
pub read_row : (key : List ℕ) (k : List Value) (rows : List (List Value)) → row_with key k rows ≡ row_at key k rows
read_row key k [] = refl
read_row key k (row ∷ rows) = by (row_eq (values_at key row) k) refl (read_row key k rows)
  where
    by : (b : Bool) → row_eq (values_at key row) k ≡ b → row_with key k rows ≡ row_at key k rows
        → slice_get (cond b (row ∷ rows_with key k rows) (rows_with key k rows)) 0 ≡ cond (row_eq k (values_at key row)) (Some row) (row_at key k rows)
    by true e ih = sym (ap (λ b. cond b (Some row) (row_at key k rows)) (eq_back k (values_at key row) ∙ e))
    by false e ih = ih ∙ sym (ap (λ b. cond b (Some row) (row_at key k rows)) (eq_back k (values_at key row) ∙ e))

-- a row's key is taken where a row is at that key
pub taken_at : (key : List ℕ) (row : List Value) (rows : List (List Value)) → has_key key row rows ≡ is_some (row_at key (values_at key row) rows)
taken_at key row [] = refl
taken_at key row (r ∷ rows) = by (row_eq (values_at key row) (values_at key r)) (taken_at key row rows)
  where
    by : (b : Bool) → has_key key row rows ≡ is_some (row_at key (values_at key row) rows) → (b || has_key key row rows) ≡ is_some (cond b (Some r) (row_at key (values_at key row) rows))
    by true ih = refl
    by false ih = ih

pub found_some : {X : Type 0} (o : Option (Bor X)) (x : Option X) → MatchOption o (x ≡ None) (λ r. x ≡ Some r.now) → is_some o ≡ is_some x
found_some None x h = ap is_some (sym h)
found_some (Some r) x h = ap is_some (sym h)

-- what holds of all rows holds of the one at a key
pub all_there : (P : List Value → Type 0) (key : List ℕ) (k : List Value) (rows : List (List Value)) → AllByRecursion P rows → AllByRecursion P (option_to_list (row_at key k rows))
all_there P key k [] a = tt
all_there P key k (row ∷ rows) a = by (row_eq k (values_at key row)) (all_there P key k rows a.1)
  where
    by : (b : Bool) → AllByRecursion P (option_to_list (row_at key k rows)) → AllByRecursion P (option_to_list (cond b (Some row) (row_at key k rows)))
    by true ih = (a.0, tt)
    by false ih = ih

-- a condition that fixes the key keeps none of the rows with other keys
none_match : (key : List ℕ) (c : Cond) (k row : List Value) (rows : List (List Value)) → FixesKey key c k → values_at key row ≡ k → AllByRecursion (λ y. key_cmp key row y ≡ Less) rows → matching c rows ≡ []
none_match key c k row [] f e a = refl
none_match key c k row (y ∷ rows) f e a = by (holds c (y ∷ [])) refl (none_match key c k row rows f e a.1)
  where
    by : (b : Bool) → holds c (y ∷ []) ≡ b → matching c rows ≡ [] → cond b (y ∷ matching c rows) (matching c rows) ≡ []
    by true h ih =
        let same : values_at key row ≡ values_at key y = e ∙ sym (f y h) in
        let tied : key_cmp key row y ≡ Equal = subst (λ v. row_cmp (values_at key row) v ≡ Equal) same (tied_itself row_total (values_at key row)) in
        let less = a.0 in
        cc
    by false h ih = ih

-- so it keeps as much of the one row with the key as of all rows
pub matching_there : (key : List ℕ) (c : Cond) (k : List Value) (rows : List (List Value)) → FixesKey key c k → Ascends (key_cmp key) rows → matching c (option_to_list (row_at key k rows)) ≡ matching c rows
matching_there key c k [] f a = refl
matching_there key c k (row ∷ rows) f a = by (row_eq k (values_at key row)) refl (matching_there key c k rows f a.1)
  where
    skipped : row_eq k (values_at key row) ≡ false → (b : Bool) → holds c (row ∷ []) ≡ b → cond b (row ∷ matching c rows) (matching c rows) ≡ matching c rows
    skipped e true h = let t = ap (row_eq k) (f row h) ∙ eq_self k in cc
    skipped e false h = refl

    by : (b : Bool) → row_eq k (values_at key row) ≡ b → matching c (option_to_list (row_at key k rows)) ≡ matching c rows
        → matching c (option_to_list (cond b (Some row) (row_at key k rows))) ≡ matching c (row ∷ rows)
    by true e ih =
        let there : values_at key row ≡ k = sym (same_row k (values_at key row) e) in
        ap (λ l. cond (holds c (row ∷ [])) (row ∷ l) l) (sym (none_match key c k row rows f there a.0))
    by false e ih = ih ∙ sym (skipped e (holds c (row ∷ [])) refl)

pub if_ok : {A E : Type 0} (P Q : A → Type 0) → ((a : A) → P a → Q a) → (r : Result A E) → IfOk r P → IfOk r Q
if_ok P Q f (Ok a) h = f a h
if_ok P Q f (Err e) h = h
