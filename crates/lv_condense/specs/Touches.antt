-- Touches of one table, each the first and the last of some actions on one key, with the positions of the table's key, and
-- what those of each key come to.
use Rattle.std.specs.Prelude.{◌≡◌, ℕ, ◌+◌, ℤ, false, ◌==◌, List, [], ◌∷◌, ◌++◌, map, filter, Option, None, MatchOption, FitsSigned}
use Rattle.std.specs.Int.{w64}
use Rattle.std.specs.List.{AllByRecursion, cons_option, filter_map, list_any, prefix_len}
use Rattle.std.specs.Ordering.{is_eq, is_gt, on}
use Rattle.std.specs.declared.cmp.Ordering.{Ordering}
use Rattle.std.specs.Cmp.{IsTotalOrder}
use Rattle.std.proofs.lemmas.Cmp.{on_total}
use Rattle.lv_values.specs.declared.value.Value.{Value}
use Rattle.lv_values.specs.declared.value.Value.TheVariants.{Num}
use Rattle.lv_values.specs.Order.{row_cmp, row_eq}
use Rattle.lv_values.specs.OrderLaws.{row_total}
use Rattle.lv_values.specs.Rows.{values_at}
use Rattle.lv_schema.specs.declared.action.Action.{Action}
use Rattle.lv_schema.specs.Condensed.{found_by, unless}
use Rattle.lv_schema.specs.Keys.{left_by}
use Rattle.lv_schema.specs.Once.{once}

pub record ATouch : Type 0 where
  pub key : List ℕ
  pub first : Action
  pub last : Action

-- the key that is touched, and touches by their keys
abbrev pub key_of : ATouch → List Value
key_of x = values_at x.key x.first.row

abbrev pub touch_cmp : ATouch → ATouch → Ordering
touch_cmp = on key_of row_cmp

pub touch_total : IsTotalOrder touch_cmp
touch_total = on_total key_of row_total

-- a key that is one number, which 64 bits hold, and the number of a key, if it is such
abbrev pub IsNumber : List Value → ℤ → Type 0
IsNumber k n = FitsSigned w64 n × (k ≡ Num n ∷ [])

abbrev pub IsNumberOf : List Value → Option ℤ → Type 0
IsNumberOf k number = MatchOption number ((n : ℤ) → ¬ IsNumber k n) (IsNumber k)

-- the touch by one action, and a touch with an action after its last one
abbrev pub touch_by : List ℕ → Action → ATouch
touch_by key a = record { key = key; first = a; last = a }

abbrev pub then_by : ATouch → Action → ATouch
then_by x a = record { key = x.key; first = x.first; last = a }

-- the actions on a table, each a touch of its own
abbrev pub touched : List ℕ → ℕ → List Action → List ATouch
touched key t actions = map (touch_by key) (filter (λ (a : Action). t == a.table) actions)

-- what the first touch finds, and what the last one leaves
abbrev pub found_in : List ATouch → Option (List Value)
found_in [] = None
found_in (x ∷ xs) = found_by x.first.kind x.first.row

abbrev pub left_in : Option (List Value) → List ATouch → Option (List Value)
left_in row [] = row
left_in row (x ∷ xs) = left_in (left_by x.last.kind x.last.row) xs

-- the row that touches of one key take away, and the one that they bring
abbrev pub lost_in : List ATouch → Option (List Value)
lost_in xs = unless (found_in xs) (left_in None xs)

abbrev pub gained_in : List ATouch → Option (List Value)
gained_in xs = unless (left_in None xs) (found_in xs)

-- the touches of one key, and what comes of those of each key, in the order of the keys
abbrev pub of_key : List Value → List ATouch → List ATouch
of_key k xs = filter (λ x. row_eq k (key_of x)) xs

abbrev pub by_key : (List ATouch → Option (List Value)) → List ATouch → List (List Value)
by_key f xs = filter_map (λ k. f (of_key k xs)) (once row_cmp (map key_of xs))

-- touches and the latest one behind them, if there is one
abbrev pub collected : List ATouch → Option ATouch → List ATouch
collected list latest = list ++ cons_option latest []

-- touches that come to the same at each key
pub record Alike (xs ys : List ATouch) : Type 0 where
  pub keys : (k : List Value) → list_any (row_eq k) (map key_of xs) ≡ list_any (row_eq k) (map key_of ys)
  pub found : (k : List Value) → found_in (of_key k xs) ≡ found_in (of_key k ys)
  pub left : (k : List Value) (row : Option (List Value)) → left_in row (of_key k xs) ≡ left_in row (of_key k ys)

-- no touch is of a greater key than one behind it
abbrev pub AtLeast : List Value → List ATouch → Type 0
AtLeast k xs = AllByRecursion (λ x. is_gt (row_cmp k (key_of x)) ≡ false) xs

abbrev pub Rises : List ATouch → Type 0
Rises [] = Unit {0}
Rises (x ∷ xs) = AtLeast (key_of x) xs × Rises xs

-- how many touches at the front are of the first one's key
abbrev pub run_of : List ATouch → ℕ
run_of [] = 0
run_of (x ∷ xs) = 1 + prefix_len (λ y. is_eq (touch_cmp x y)) xs
