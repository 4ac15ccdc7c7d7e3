-- What touches come to, key by key, is what actions condense to.
use Rattle.std.proofs.Common.{◌≡◌, ℕ, Bool, true, false, cond, not, ◌&&◌, List, [], ◌∷◌, map, Option, None, refl, sym, ap, ap₂, ◌∙◌, ◌<◌, length, arith}
use Rattle.std.specs.Prelude.{◌==◌, IfOk, Result, Ok, Err}
use Rattle.std.specs.List.{AllByRecursion, cons_option, filter, filter_map}
use Rattle.std.specs.List.Sorted.{IsPermutation, IsStable, ties}
use Rattle.std.specs.Ordering.{is_eq, is_lt, ordering_reverse}
use Rattle.std.specs.declared.cmp.Ordering.{Ordering}
use Rattle.std.specs.declared.cmp.Ordering.TheVariants.{Less, Equal, Greater}
use Rattle.std.specs.FinMap.Entries.{by_order}
use Rattle.std.proofs.lemmas.Bool.Decides.{nat_tests}
use Rattle.std.proofs.lemmas.List.Sorted.{IsPermutation-map, list_any-IsPermutation}
use Rattle.lv_values.specs.declared.value.Value.{Value}
use Rattle.lv_values.specs.Order.{row_cmp, row_eq}
use Rattle.lv_values.specs.OrderLaws.{row_total}
use Rattle.lv_values.specs.Rows.{values_at}
use Rattle.lv_schema.specs.declared.action.Action.{Action}
use Rattle.lv_schema.specs.declared.net.Net.{Net}
use Rattle.lv_schema.specs.declared.table.TableDef.{TableDef}
use Rattle.lv_schema.proofs.Condenses.{condenses}
use Rattle.lv_schema.specs.Databases.{Db, rows_of, IsDatabase}
use Rattle.lv_schema.specs.Effects.{acted_all}
use Rattle.lv_schema.specs.Nets.{net_of}
use Rattle.lv_schema.specs.SoundWorld.{CanAct}
use Rattle.lv_schema.specs.Commits.{same_place, written_place}
use Rattle.lv_schema.specs.Condensed.{condensed, first_found, found_by, last_left, unless, written_keys}
use Rattle.lv_schema.specs.Keys.{carried, left_by}
use Rattle.lv_schema.specs.Once.{once, put_once}
use Rattle.lv_schema.specs.World.{table_at}
use Rattle.lv_schema.proofs.DifferencesAddUp.{any_once}
use Rattle.lv_schema.proofs.NetsLead.{only_rows}
use Rattle.lv_schema.proofs.OnceLists.{once_up}
use Rattle.lv_condense.specs.Touches.{Alike, ATouch, key_of, touch_by, touch_cmp, touched, found_in, left_in, lost_in, gained_in, of_key, by_key}
use Rattle.lv_condense.proofs.Runs.{same_picks}

abbrev Key : Type 0
Key = List Value

-- ---- a sort that keeps the order of the touches of each key changes nothing
ties_are : (x y : ATouch) → ties (λ a b. is_lt (touch_cmp a b)) x y ≡ row_eq (key_of x) (key_of y)
ties_are x y = by (row_cmp (key_of x) (key_of y)) (row_cmp (key_of y) (key_of x)) refl (row_total.antisymm (key_of y) (key_of x))
  where
    by : (o r : Ordering) → row_cmp (key_of x) (key_of y) ≡ o → r ≡ ordering_reverse (row_cmp (key_of x) (key_of y)) → (not (is_lt o) && not (is_lt r)) ≡ is_eq o
    by Less r e f = refl
    by Equal r e f = let g : r ≡ Equal = f ∙ ap ordering_reverse e in ap (λ s. not (is_lt s)) g
    by Greater r e f = let g : r ≡ Less = f ∙ ap ordering_reverse e in ap (λ s. not (is_lt s)) g

same_tests : (p q : ATouch → Bool) → ((x : ATouch) → p x ≡ q x) → (xs : List ATouch) → filter p xs ≡ filter q xs
same_tests p q same [] = refl
same_tests p q same (x ∷ xs) = ap₂ (λ b l. cond b (x ∷ l) l) (same x) (same_tests p q same xs)

of_key_kept : (x : ATouch) (xs ys : List ATouch) → IsStable touch_cmp xs ys → of_key (key_of x) ys ≡ of_key (key_of x) xs
of_key_kept x xs ys stable =
    same_tests (λ y. row_eq (key_of x) (key_of y)) (ties (λ a b. is_lt (touch_cmp a b)) x) (λ y. sym (ties_are x y)) ys
    ∙ stable x
    ∙ same_tests (ties (λ a b. is_lt (touch_cmp a b)) x) (λ y. row_eq (key_of x) (key_of y)) (λ y. ties_are x y) xs

same_keys : (xs ys : List ATouch) → IsPermutation xs ys → once row_cmp (map key_of ys) ≡ once row_cmp (map key_of xs)
same_keys xs ys moved =
    only_rows row_total (once row_cmp (map key_of ys)) (once row_cmp (map key_of xs)) (once_up row_total (map key_of ys)) (once_up row_total (map key_of xs))
    (λ q. any_once q (map key_of ys) ∙ sym (list_any-IsPermutation (row_eq q) (map key_of xs) (map key_of ys) (IsPermutation-map key_of xs ys moved)) ∙ sym (any_once q (map key_of xs)))

all_put_once : (P : Key → Type 0) (x : Key) (ys : List Key) → P x → AllByRecursion P ys → AllByRecursion P (put_once row_cmp x ys)
all_put_once P x [] h a = (h, tt)
all_put_once P x (y ∷ ys) h a = by (row_cmp x y) (all_put_once P x ys h a.1)
  where
    by : (o : Ordering) → AllByRecursion P (put_once row_cmp x ys) → AllByRecursion P (by_order o (x ∷ y ∷ ys) (y ∷ ys) (y ∷ put_once row_cmp x ys))
    by Less r = (h, a)
    by Equal r = a
    by Greater r = (a.0, r)

all_keys : (P : Key → Type 0) (f : (x : ATouch) → P (key_of x)) (xs : List ATouch) → AllByRecursion P (once row_cmp (map key_of xs))
all_keys P f [] = tt
all_keys P f (x ∷ xs) = all_put_once P (key_of x) (once row_cmp (map key_of xs)) (f x) (all_keys P f xs)

pub by_key_kept : (f : List ATouch → Option Key) (xs ys : List ATouch) → IsPermutation xs ys → IsStable touch_cmp xs ys → by_key f ys ≡ by_key f xs
by_key_kept f xs ys moved stable =
    ap (filter_map (λ k. f (of_key k ys))) (same_keys xs ys moved)
    ∙ same_picks (λ k. f (of_key k ys)) (λ k. f (of_key k xs)) (once row_cmp (map key_of xs))
    (all_keys (λ k. f (of_key k ys) ≡ f (of_key k xs)) (λ x. ap f (of_key_kept x xs ys stable)) xs)

-- ---- the touches of a table's actions
same_number : (x y : ℕ) → (x == y) ≡ true → x ≡ y
same_number x y e = grind (arith, nat_tests)

all_same : (f g : Key → Option Key) → ((k : Key) → f k ≡ g k) → (ks : List Key) → filter_map f ks ≡ filter_map g ks
all_same f g same [] = refl
all_same f g same (k ∷ ks) = ap₂ cons_option (same k) (all_same f g same ks)

module _ (tables : List TableDef) (t : ℕ) where
  abbrev key : List ℕ
  key = (table_at tables t).key

  abbrev mine : List Action → List ATouch
  mine actions = touched key t actions

  keys_are : (actions : List Action) → map key_of (mine actions) ≡ written_keys tables actions t
  keys_are [] = refl
  keys_are (a ∷ actions) = by (t == a.table) (keys_are actions)
    where
      by : (b : Bool) → map key_of (mine actions) ≡ written_keys tables actions t
          → map key_of (map (touch_by key) (cond b (a ∷ filter (λ (x : Action). t == x.table) actions) (filter (λ (x : Action). t == x.table) actions)))
          ≡ cond b (values_at key a.row ∷ written_keys tables actions t) (written_keys tables actions t)
      by true e = ap (λ ks. values_at key a.row ∷ ks) e
      by false e = e

  -- an action on the place of a key of the table is a touch of the key
  place_is : (k : Key) (a : Action) → same_place (t, k) (written_place tables a) ≡ ((t == a.table) && row_eq k (values_at key a.row))
  place_is k a = by (t == a.table) refl
    where
      by : (b : Bool) → (t == a.table) ≡ b → (b && row_eq k (values_at (table_at tables a.table).key a.row)) ≡ (b && row_eq k (values_at key a.row))
      by true e = ap (λ u. row_eq k (values_at (table_at tables u).key a.row)) (sym (same_number t a.table e))
      by false e = refl

  own_with : (k : Key) (a : Action) (actions : List Action) → of_key k (mine (a ∷ actions)) ≡ cond ((t == a.table) && row_eq k (values_at key a.row)) (touch_by key a ∷ of_key k (mine actions)) (of_key k (mine actions))
  own_with k a actions = by (t == a.table)
    where
      by : (b : Bool) → of_key k (map (touch_by key) (cond b (a ∷ filter (λ (x : Action). t == x.table) actions) (filter (λ (x : Action). t == x.table) actions)))
          ≡ cond (b && row_eq k (values_at key a.row)) (touch_by key a ∷ of_key k (mine actions)) (of_key k (mine actions))
      by true = refl
      by false = refl

  first_is : (k : Key) (actions : List Action) → found_in (of_key k (mine actions)) ≡ first_found tables actions (t, k)
  first_is k [] = refl
  first_is k (a ∷ actions) =
      ap found_in (own_with k a actions)
      ∙ by ((t == a.table) && row_eq k (values_at key a.row)) (first_is k actions)
      ∙ ap (λ b. cond b (found_by a.kind a.row) (first_found tables actions (t, k))) (sym (place_is k a))
    where
      by : (b : Bool) → found_in (of_key k (mine actions)) ≡ first_found tables actions (t, k)
          → found_in (cond b (touch_by key a ∷ of_key k (mine actions)) (of_key k (mine actions))) ≡ cond b (found_by a.kind a.row) (first_found tables actions (t, k))
      by true e = refl
      by false e = e

  last_is : (k : Key) (row : Option Key) (actions : List Action) → left_in row (of_key k (mine actions)) ≡ carried tables (t, k) row actions
  last_is k row [] = refl
  last_is k row (a ∷ actions) =
      ap (left_in row) (own_with k a actions)
      ∙ by ((t == a.table) && row_eq k (values_at key a.row)) (last_is k (left_by a.kind a.row) actions) (last_is k row actions)
      ∙ ap (λ b. carried tables (t, k) (cond b (left_by a.kind a.row) row) actions) (sym (place_is k a))
    where
      by : (b : Bool) → left_in (left_by a.kind a.row) (of_key k (mine actions)) ≡ carried tables (t, k) (left_by a.kind a.row) actions → left_in row (of_key k (mine actions)) ≡ carried tables (t, k) row actions
          → left_in row (cond b (touch_by key a ∷ of_key k (mine actions)) (of_key k (mine actions))) ≡ carried tables (t, k) (cond b (left_by a.kind a.row) row) actions
      by true e f = e
      by false e f = f

  pub lost_is : (actions : List Action) → by_key lost_in (mine actions) ≡ (condensed tables actions t).minus
  lost_is actions =
      ap (λ ks. filter_map (λ k. lost_in (of_key k (mine actions))) (once row_cmp ks)) (keys_are actions)
      ∙ all_same (λ k. lost_in (of_key k (mine actions))) (λ k. unless (first_found tables actions (t, k)) (last_left tables actions (t, k)))
      (λ k. ap₂ unless (first_is k actions) (last_is k None actions)) (once row_cmp (written_keys tables actions t))

  pub gained_is : (actions : List Action) → by_key gained_in (mine actions) ≡ (condensed tables actions t).plus
  gained_is actions =
      ap (λ ks. filter_map (λ k. gained_in (of_key k (mine actions))) (once row_cmp ks)) (keys_are actions)
      ∙ all_same (λ k. gained_in (of_key k (mine actions))) (λ k. unless (last_left tables actions (t, k)) (first_found tables actions (t, k)))
      (λ k. ap₂ unless (last_is k None actions) (first_is k actions)) (once row_cmp (written_keys tables actions t))

-- touches that come to the same at each key come to the same
by_key_alike : (f : List ATouch → Option Key) (xs ys : List ATouch) → Alike xs ys → ((k : Key) → f (of_key k xs) ≡ f (of_key k ys)) → by_key f xs ≡ by_key f ys
by_key_alike f xs ys alike same =
    ap (filter_map (λ k. f (of_key k xs)))
    (only_rows row_total (once row_cmp (map key_of xs)) (once row_cmp (map key_of ys)) (once_up row_total (map key_of xs)) (once_up row_total (map key_of ys))
    (λ q. any_once q (map key_of xs) ∙ alike.keys q ∙ sym (any_once q (map key_of ys))))
    ∙ all_same (λ k. f (of_key k xs)) (λ k. f (of_key k ys)) same (once row_cmp (map key_of ys))

pub lost_alike : (xs ys : List ATouch) → Alike xs ys → by_key lost_in xs ≡ by_key lost_in ys
lost_alike xs ys alike = by_key_alike lost_in xs ys alike (λ k. ap₂ unless (alike.found k) (alike.left k None))

pub gained_alike : (xs ys : List ATouch) → Alike xs ys → by_key gained_in xs ≡ by_key gained_in ys
gained_alike xs ys alike = by_key_alike gained_in xs ys alike (λ k. ap₂ unless (alike.left k None) (alike.found k))

-- the whole: what is gathered of touches that come to what the actions on the table come to
pub condensed_is : (tables : List TableDef) (def : TableDef) (actions : List Action) (touches : List ATouch) (net : Net) → table_at tables def.no ≡ def → Alike touches (touched def.key def.no actions)
    → net.minus ≡ by_key lost_in touches → net.plus ≡ by_key gained_in touches → net ≡ condensed tables actions def.no
condensed_is tables def actions touches net is alike minus plus = λ i. record { minus = lost i; plus = gained i }
  where
    keyed : touched (table_at tables def.no).key def.no actions ≡ touched def.key def.no actions
    keyed = ap (λ (d : TableDef). touched d.key def.no actions) is

    lost : net.minus ≡ (condensed tables actions def.no).minus
    lost = minus ∙ lost_alike touches (touched def.key def.no actions) alike ∙ ap (by_key lost_in) (sym keyed) ∙ lost_is tables def.no actions

    gained : net.plus ≡ (condensed tables actions def.no).plus
    gained = plus ∙ gained_alike touches (touched def.key def.no actions) alike ∙ ap (by_key gained_in) (sym keyed) ∙ gained_is tables def.no actions

-- ---- what an answer says twice
pub ok_both : {T E : Type 0} (r : Result T E) (P Q R : T → Type 0) → ((a : T) → P a → Q a → R a) → IfOk r P → IfOk r Q → IfOk r R
ok_both (Ok a) P Q R f p q = f a p q
ok_both (Err e) P Q R f p q = tt

-- what is gathered of touches that come to the same as the table's
module _ {X E : Type 0} (as_net : X → Net) (r : Result X E) (def : TableDef) (touches : List ATouch) where
  pub whole : (gathered : List ATouch) → by_key lost_in gathered ≡ by_key lost_in touches → by_key gained_in gathered ≡ by_key gained_in touches
      → IfOk r (λ x. (as_net x).minus ≡ by_key lost_in gathered) → IfOk r (λ x. (as_net x).plus ≡ by_key gained_in gathered)
      → IfOk r (λ x. (tables : List TableDef) (actions : List Action) → Alike touches (touched def.key def.no actions) → table_at tables def.no ≡ def → as_net x ≡ condensed tables actions def.no)
  whole gathered lost gained =
      ok_both r (λ x. (as_net x).minus ≡ by_key lost_in gathered) (λ x. (as_net x).plus ≡ by_key gained_in gathered)
      (λ x. (tables : List TableDef) (actions : List Action) → Alike touches (touched def.key def.no actions) → table_at tables def.no ≡ def → as_net x ≡ condensed tables actions def.no)
      (λ x minus plus tables actions alike is. condensed_is tables def actions touches (as_net x) is alike (minus ∙ lost) (plus ∙ gained))

  pub whole_net : IfOk r (λ x. (tables : List TableDef) (actions : List Action) → Alike touches (touched def.key def.no actions) → table_at tables def.no ≡ def → as_net x ≡ condensed tables actions def.no)
      → IfOk r (λ x. (tables : List TableDef) (db : Db) (actions : List Action) → Alike touches (touched def.key def.no actions) → IsDatabase tables db → CanAct tables db actions → def.no < length tables → table_at tables def.no ≡ def
      → as_net x ≡ net_of (rows_of db def.no) (rows_of (acted_all tables db actions) def.no))
  whole_net p =
      ok_both r _ _
      (λ x. (tables : List TableDef) (db : Db) (actions : List Action) → Alike touches (touched def.key def.no actions) → IsDatabase tables db → CanAct tables db actions → def.no < length tables → table_at tables def.no ≡ def
      → as_net x ≡ net_of (rows_of db def.no) (rows_of (acted_all tables db actions) def.no))
      (λ x is again tables db actions alike fits may lt at. is tables actions alike at ∙ condenses tables db actions def.no fits may lt) p p
