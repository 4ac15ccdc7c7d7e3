-- The first new row whose key is taken, by a row of the table or by an earlier new row.
use Rattle.std.proofs.Common.{◌≡◌, ℕ, ◌+◌, ◌<◌, Bool, true, false, cond, ◌&&◌, List, [], ◌∷◌, ◌++◌, length, take, drop, get_or, Option, Some, None, refl, sym, ◌∙◌, ap, ap₂}
use Rattle.std.specs.Prelude.{◌||◌, is_some, reverse}
use Rattle.std.specs.List.{list_any}
use Rattle.std.proofs.lemmas.List.{take_more, drop_more, reverse-append}
use Rattle.std.proofs.lemmas.List.Folds.{list_any-append}
use Rattle.lv_values.specs.declared.value.Value.{Value}
use Rattle.lv_values.specs.Order.{row_eq}
use Rattle.lv_values.specs.Rows.{values_at}
use Rattle.lv_schema.specs.Commits.{same_place}
use Rattle.lv_schema.specs.Effects.{same_key, has_key, first_taken}
use Rattle.lv_schema.specs.Keys.{row_at}
use Rattle.lv_overlay.specs.declared.put.Put.{Put}
use Rattle.lv_overlay.specs.Puts.{PutIs, put_at}
use Rattle.lv_overlay.proofs.Places.{number_itself}
use Rattle.lv_effect.proofs.KeyedRows.{taken_at}

or_comm : (a b : Bool) → (a || b) ≡ (b || a)
or_comm true true = refl
or_comm true false = refl
or_comm false true = refl
or_comm false false = refl

or_false : (a : Bool) → (a || false) ≡ a
or_false true = refl
or_false false = refl

any_reverse : {A : Type 0} (p : A → Bool) (xs : List A) → list_any p (reverse xs) ≡ list_any p xs
any_reverse p [] = refl
any_reverse p (x ∷ xs) =
    ap (list_any p) (reverse-append (x ∷ []) xs)
    ∙ list_any-append p (reverse xs) (x ∷ [])
    ∙ or_comm (list_any p (reverse xs)) (p x || false)
    ∙ ap (λ b. b || list_any p (reverse xs)) (or_false (p x))
    ∙ ap (λ b. p x || b) (any_reverse p xs)

abbrev before : ℕ → List (List Value) → List (List Value) → List (List Value)
before i new rows = reverse (take i new) ++ rows

pub has_before : (key : List ℕ) (row : List Value) (i : ℕ) (new rows : List (List Value))
    → has_key key row (before i new rows) ≡ (has_key key row (take i new) || has_key key row rows)
has_before key row i new rows =
    list_any-append (same_key key row) (reverse (take i new)) rows
    ∙ ap (λ b. b || has_key key row rows) (any_reverse (same_key key row) (take i new))

before_more : (i : ℕ) (new rows : List (List Value)) (d : List Value) → i < length new → before (i + 1) new rows ≡ get_or new i d ∷ before i new rows
before_more i new rows d h =
    ap (λ l. reverse l ++ rows) (take_more new i d h)
    ∙ ap (λ l. l ++ rows) (reverse-append (take i new) (get_or new i d ∷ []))

here : (key : List ℕ) (i : ℕ) (new rows : List (List Value)) (x : List Value) → i < length new → x ≡ get_or new i x
    → first_taken key (before i new rows) (drop i new)
    ≡ cond (has_key key x (take i new) || has_key key x rows) (Some (values_at key x)) (first_taken key (x ∷ before i new rows) (drop (i + 1) new))
here key i new rows x h e =
    ap (first_taken key (before i new rows)) (drop_more new i x h ∙ ap (λ y. y ∷ drop (i + 1) new) (sym e))
    ∙ ap (λ b. cond b (Some (values_at key x)) (first_taken key (x ∷ before i new rows) (drop (i + 1) new))) (has_before key x i new rows)

-- whether a key is among those kept of the new rows so far, or a row is there
pub searched : (key : List ℕ) (t : ℕ) (row k : List Value) (i : ℕ) (new rows : List (List Value)) (earlier : List Put) (found b : Bool) → k ≡ values_at key row
    → is_some (put_at earlier (t, values_at key row)) ≡ has_key key row (take i new) → found ≡ (is_some (put_at earlier (t, k)) || is_some (row_at key k rows)) → found ≡ b
    → (has_key key row (take i new) || has_key key row rows) ≡ b
searched key t row k i new rows earlier found b is seen tested e =
    ap₂ (λ s u. s || u) (sym seen) (taken_at key row rows)
    ∙ ap (λ v. is_some (put_at earlier (t, v)) || is_some (row_at key v rows)) (sym is)
    ∙ sym tested
    ∙ e

pub taken_here : (key : List ℕ) (i : ℕ) (new rows : List (List Value)) (x : List Value) (o : Option (List Value))
    → i < length new → x ≡ get_or new i x → (has_key key x (take i new) || has_key key x rows) ≡ true
    → o ≡ first_taken key (before i new rows) (drop i new) → o ≡ Some (values_at key x)
taken_here key i new rows x o h e t inv =
    inv ∙ here key i new rows x h e ∙ ap (λ b. cond b (Some (values_at key x)) (first_taken key (x ∷ before i new rows) (drop (i + 1) new))) t

pub taken_later : (key : List ℕ) (i : ℕ) (new rows : List (List Value)) (x : List Value) (o : Option (List Value))
    → i < length new → x ≡ get_or new i x → (has_key key x (take i new) || has_key key x rows) ≡ false
    → o ≡ first_taken key (before i new rows) (drop i new) → o ≡ first_taken key (before (i + 1) new rows) (drop (i + 1) new)
taken_later key i new rows x o h e t inv =
    inv ∙ here key i new rows x h e
    ∙ ap (λ b. cond b (Some (values_at key x)) (first_taken key (x ∷ before i new rows) (drop (i + 1) new))) t
    ∙ ap (λ l. first_taken key l (drop (i + 1) new)) (ap (λ y. y ∷ before i new rows) e ∙ sym (before_more i new rows x h))

-- ---- the keys of the rows so far
put_there : (b : Bool) (o : Option (Option (List Value))) → is_some (cond b (Some None) o) ≡ (b || is_some o)
put_there true o = refl
put_there false o = refl

-- a loop that keeps the key of one row more
pub seen_more : (key : List ℕ) (t : ℕ) (other : List Value) (i : ℕ) (new : List (List Value)) (x k : List Value) (earlier next : List Put) → i < length new → x ≡ get_or new i x → k ≡ values_at key x
    → PutIs (record { table = t; key = k; row = None }) earlier next → is_some (put_at earlier (t, values_at key other)) ≡ has_key key other (take i new)
    → is_some (put_at next (t, values_at key other)) ≡ has_key key other (take (i + 1) new)
seen_more key t other i new x k earlier next lt is key_is put so_far =
    ap is_some (put (t, values_at key other))
    ∙ put_there (same_place (t, values_at key other) (t, k)) (put_at earlier (t, values_at key other))
    ∙ ap₂ (λ b c. (b && row_eq (values_at key other) k) || c) (number_itself t) so_far
    ∙ ap (λ v. row_eq (values_at key other) v || has_key key other (take i new)) (key_is ∙ ap (values_at key) is)
    ∙ or_comm (same_key key other (get_or new i x)) (has_key key other (take i new))
    ∙ ap (λ b. has_key key other (take i new) || b) (sym (or_false (same_key key other (get_or new i x))))
    ∙ sym (list_any-append (same_key key other) (take i new) (get_or new i x ∷ []))
    ∙ ap (has_key key other) (sym (take_more new i x lt))
