-- Going over the rows of a table one by one: what a condition keeps, and the actions on it.
use Rattle.std.proofs.Common.{◌≡◌, ℕ, ◌+◌, ◌<◌, ℤ, Bool, true, false, cond, List, [], ◌∷◌, ◌++◌, length, drop, get_or, map, refl, sym, ◌∙◌, ap, append_assoc, ◌*◌, ◌/◌, arith}
use Rattle.std.specs.Prelude.{Option, Some, None, Ok, is_some, slice_get}
use Rattle.std.specs.List.{flat_map, filter_map}
use Rattle.std.proofs.lemmas.List.{drop_more, append-nil}
use Rattle.std.proofs.Math.Nat.{mul-div_cancel}
use Rattle.lv_values.specs.declared.value.Value.{Value}
use Rattle.lv_schema.specs.declared.action.Action.{Action}
use Rattle.lv_schema.specs.declared.change.Change.TheVariants.{Update}
use Rattle.lv_schema.specs.declared.change.Set.{Set}
use Rattle.lv_schema.specs.declared.cond.Cond.{Cond}
use Rattle.lv_schema.specs.declared.table.TableDef.{TableDef}
use Rattle.lv_schema.specs.Effects.{matching, wide_number, first_wide, deletes, effect_on}
use Rattle.lv_schema.specs.Truth.{holds}
use Rattle.lv_effect.specs.TableActions.{delete_actions, update_actions, replaces}

-- a list that a loop makes piece by piece, where f of a list is that of its head and that of its rest
pub one_more : {X Y : Type 0} (f : List X → List Y) → ((x : X) (xs : List X) → f (x ∷ xs) ≡ f (x ∷ []) ++ f xs)
    → (x : X) (xs here : List X) (out all : List Y) → here ≡ x ∷ xs
    → out ++ f here ≡ all → (out ++ f (x ∷ [])) ++ f xs ≡ all
one_more f split x xs here out all e inv =
    append_assoc out (f (x ∷ [])) (f xs)
    ∙ ap (λ l. out ++ l) (sym (split x xs))
    ∙ ap (λ l. out ++ f l) (sym e)
    ∙ inv

-- it is whole where nothing is left
pub none_left : {X Y : Type 0} (f : List X → List Y) → f [] ≡ [] → (left : List X) (out all : List Y) → length left ≡ 0
    → out ++ f left ≡ all → out ≡ all
none_left f empty [] out all e inv = sym (append-nil out) ∙ ap (λ l. out ++ l) (sym empty) ∙ inv
none_left f empty (_ ∷ _) out all e inv = cc

pub matching_split : (c : Cond) (x : List Value) (xs : List (List Value)) → matching c (x ∷ xs) ≡ matching c (x ∷ []) ++ matching c xs
matching_split c x xs = by (holds c (x ∷ []))
  where
    by : (b : Bool) → cond b (x ∷ matching c xs) (matching c xs) ≡ cond b (x ∷ []) [] ++ matching c xs
    by true = refl
    by false = refl

map_append : {X Y : Type 0} (f : X → Y) (xs ys : List X) → map f (xs ++ ys) ≡ map f xs ++ map f ys
map_append f [] ys = refl
map_append f (x ∷ xs) ys = ap (λ l. f x ∷ l) (map_append f xs ys)

flat_append : {X Y : Type 0} (f : X → List Y) (xs ys : List X) → flat_map f (xs ++ ys) ≡ flat_map f xs ++ flat_map f ys
flat_append f [] ys = refl
flat_append f (x ∷ xs) ys = ap (λ l. f x ++ l) (flat_append f xs ys) ∙ sym (append_assoc (f x) (flat_map f xs) (flat_map f ys))

pub deletes_split : (table : ℕ) (c : Cond) (x : List Value) (xs : List (List Value))
    → delete_actions table c (x ∷ xs) ≡ delete_actions table c (x ∷ []) ++ delete_actions table c xs
deletes_split table c x xs = ap (map (deletes table)) (matching_split c x xs) ∙ map_append (deletes table) (matching c (x ∷ [])) (matching c xs)

pub updates_split : (table : ℕ) (sets : List Set) (c : Cond) (x : List Value) (xs : List (List Value))
    → update_actions table sets c (x ∷ xs) ≡ update_actions table sets c (x ∷ []) ++ update_actions table sets c xs
updates_split table sets c x xs = ap (flat_map (replaces table sets)) (matching_split c x xs) ∙ flat_append (replaces table sets) (matching c (x ∷ [])) (matching c xs)

-- an UPDATE has two actions for each row
length_replaces : (table : ℕ) (sets : List Set) (rows : List (List Value)) → length (flat_map (replaces table sets) rows) ≡ length rows * 2
length_replaces table sets [] = refl
length_replaces table sets (row ∷ rows) = omega (arith, length_replaces table sets rows)

pub half_updates : (table : ℕ) (sets : List Set) (c : Cond) (rows : List (List Value)) → length (update_actions table sets c rows) / 2 ≡ length (matching c rows)
half_updates table sets c rows = ap (λ n. n / 2) (length_replaces table sets (matching c rows)) ∙ mul-div_cancel (length (matching c rows)) two
  where
    two : 0 < 2
    two = omega arith

-- what an UPDATE does where no number is wide: its rows are half its actions
pub update_done : (def : TableDef) (table : ℕ) (sets : List Set) (c : Cond) (rows : List (List Value)) (n : ℕ) (actions : List Action)
    → first_wide sets (matching c rows) ≡ None → n ≡ length actions → actions ≡ update_actions table sets c rows
    → effect_on def (Update table sets c) rows ≡ Ok (record { count = n / 2; actions = actions })
update_done def table sets c rows n actions none size made =
    rw (none, size, made, half_updates table sets c rows) refl

-- the one, and where there is none the other
abbrev pub first_or : {X : Type 0} → Option X → Option X → Option X
first_or None other = other
first_or (Some x) other = Some x

-- the first of two lists' elements
first_of : {X : Type 0} (xs ys : List X) (o : Option X) → slice_get xs 0 ≡ o → slice_get (xs ++ ys) 0 ≡ first_or o (slice_get ys 0)
first_of [] ys None e = refl
first_of [] ys (Some x) e = cc
first_of (x ∷ xs) ys None e = cc
first_of (x ∷ xs) ys (Some y) e = e

wide_of : List Set → List Value → List ℤ
wide_of sets row = filter_map (λ s. wide_number row s.value) sets

wide_split : (sets : List Set) (c : Cond) (x : List Value) (xs : List (List Value)) (o : Option ℤ)
    → o ≡ first_wide sets (matching c (x ∷ [])) → first_wide sets (matching c (x ∷ xs)) ≡ first_or o (first_wide sets (matching c xs))
unfolding wide_of
wide_split sets c x xs o e =
    ap (first_wide sets) (matching_split c x xs)
    ∙ ap (λ l. slice_get l 0) (flat_append (wide_of sets) (matching c (x ∷ [])) (matching c xs))
    ∙ first_of (flat_map (wide_of sets) (matching c (x ∷ []))) (flat_map (wide_of sets) (matching c xs)) o (sym e)

-- a loop that looks for the first wide number
pub wide_step : (sets : List Set) (c : Cond) (rows : List (List Value)) (i : ℕ) (x : List Value) (o all : Option ℤ)
    → i < length rows → x ≡ get_or rows i x → o ≡ first_wide sets (matching c (x ∷ []))
    → all ≡ first_wide sets (matching c (drop i rows)) → all ≡ first_or o (first_wide sets (matching c (drop (i + 1) rows)))
wide_step sets c rows i x o all h e found inv =
    inv
    ∙ ap (λ l. first_wide sets (matching c l)) (drop_more rows i x h ∙ ap (λ y. y ∷ drop (i + 1) rows) (sym e))
    ∙ wide_split sets c x (drop (i + 1) rows) o found

pub first_some : {X : Type 0} (o other : Option X) → is_some o ≡ true → first_or o other ≡ o
first_some None other h = cc
first_some (Some x) other h = refl

pub first_none : {X : Type 0} (o other : Option X) → is_some o ≡ false → first_or o other ≡ other
first_none None other h = refl
first_none (Some x) other h = cc
