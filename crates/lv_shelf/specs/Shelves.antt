-- Elements that lie in slots, in an order that the numbers of the slots give.
use Rattle.std.specs.Prelude.{◌≡◌, ℕ, zero, suc, ◌+◌, ◌<◌, ◌≤◌, ◌==◌, Bool, cond, List, [], ◌∷◌, length, map, slice_index_or, slice_set, Option, Some, None, is_some, true, false, refl}
use Rattle.std.specs.Coded.{Coded, code_by, coded×, coded_ℕ, coded_list}
use Rattle.std.specs.List.{AllByRecursion, filter_map, list_any}
pub use Rattle.lv_places.specs.Blocks.{Roomed}
use Rattle.lv_shelf.specs.Cuts.{Apart}

-- a list, lists of some of its elements in other orders, and how many more elements go in without memory
pub record Shelved (T : Type 0) : Type 0 where
  pub list : List T
  pub others : List (List T)
  pub spare : ℕ

abbrev pub shelved_code : {T : Type 0} → Coded T → Coded (Shelved T)
shelved_code {T} c =
    code_by ((List T × List (List T)) × ℕ) (coded× (coded× (coded_list c) (coded_list (coded_list c))) coded_ℕ) (λ s. ((s.list, s.others), s.spare)) (λ p. record { list = p.0.0; others = p.0.1; spare = p.1 }) (λ _. refl)

-- the further order with this number
abbrev pub other_at : {T : Type 0} → List (List T) → ℕ → List T
other_at others j = slice_index_or others j []

-- a change leaves each element as it is but the one at a place
abbrev pub ChangesOnly : {T : Type 0} → (T → T) → ℕ → List T → Type 0
ChangesOnly f at [] = Unit {0}
ChangesOnly f zero (x ∷ xs) = AllByRecursion (λ y. f y ≡ y) xs
ChangesOnly f (suc at) (x ∷ xs) = (f x ≡ x) × ChangesOnly f at xs

-- no element is this one
abbrev pub LacksItem : {T : Type 0} → T → List T → Type 0
LacksItem item xs = AllByRecursion (λ y. y ≡ item → ⊥) xs

-- what lies in a slot
abbrev pub slot_of : {T : Type 0} → List (Option T) → ℕ → Option T
slot_of slots p = slice_index_or slots p None

-- the elements in these slots, in their order
abbrev pub items_at : {T : Type 0} → List (Option T) → List ℕ → List T
items_at slots places = filter_map (slot_of slots) places

-- whether a slot has an element, and whether it has one that passes
abbrev pub is_taken : {T : Type 0} → List (Option T) → ℕ → Bool
is_taken slots p = is_some (slot_of slots p)

abbrev pub passes : {T : Type 0} → (T → Bool) → Option T → Bool
passes test None = false
passes test (Some x) = test x

abbrev pub passes_in : {T : Type 0} → (T → Bool) → List (Option T) → ℕ → Bool
passes_in test slots p = passes test (slot_of slots p)

abbrev pub IsHeld : {T : Type 0} → List (Option T) → ℕ → Type 0
IsHeld slots p = is_taken slots p ≡ true

abbrev pub IsEmpty : {T : Type 0} → List (Option T) → ℕ → Type 0
IsEmpty slots p = (p < length slots) × (slot_of slots p ≡ None)

-- the one number is not the other
abbrev pub Differ : ℕ → ℕ → Type 0
Differ p q = p ≡ q → ⊥

-- the slots where those among these whose elements do not pass are emptied, and the numbers of the emptied ones
abbrev pub clear_of : {T : Type 0} → Bool → List (Option T) → ℕ → List (Option T)
clear_of stays slots p = cond stays slots (slice_set slots p None)

abbrev pub cleared : {T : Type 0} → (T → Bool) → List (Option T) → List ℕ → List (Option T)
cleared test slots [] = slots
cleared test slots (p ∷ ps) = cleared test (clear_of (passes_in test slots p) slots p) ps

abbrev pub dropped : {T : Type 0} → (T → Bool) → List (Option T) → List ℕ → List ℕ
dropped test slots [] = []
dropped test slots (p ∷ ps) = cond (passes_in test slots p) (dropped test slots ps) (p ∷ dropped test (slice_set slots p None) ps)

-- so many numbers from one on, the last of them first
abbrev pub falling : ℕ → ℕ → List ℕ
falling from zero = []
falling from (suc n) = (from + n) ∷ falling from n

-- whether a number is among others
abbrev pub is_among : ℕ → List ℕ → Bool
is_among q ps = list_any (λ p. q == p) ps

-- the slots in order have elements, and each slot that has one is among them and the free ones have none; each of the two lists has room for
-- every slot
pub record IsShelf {T : Type 0} (slots : List (Option T)) (order free : List ℕ) (order_room free_room : ℕ) : Type 0 where
  pub held : AllByRecursion (IsHeld slots) order
  pub apart : Apart Differ order
  pub empty : AllByRecursion (IsEmpty slots) free
  pub free_apart : Apart Differ free
  pub all : (q : ℕ) → is_taken slots q ≡ true → is_among q order ≡ true
  pub long : length order + length free ≤ length slots
  pub order_long : length slots ≤ order_room
  pub free_long : length slots ≤ free_room

-- slots that have elements, none of them twice
pub record IsOrder {T : Type 0} (slots : List (Option T)) (order : List ℕ) : Type 0 where
  pub held : AllByRecursion (IsHeld slots) order
  pub apart : Apart Differ order

abbrev pub lists_of : List Roomed → List (List ℕ)
lists_of others = map (λ o. o.list) others

abbrev pub HaveRoom : ℕ → List Roomed → Type 0
HaveRoom n others = AllByRecursion (λ o. n ≤ o.room) others

-- the first order, and the further ones, each with room for every slot
pub record AreShelved {T : Type 0} (slots : List (Option T)) (order free : List ℕ) (order_room free_room : ℕ) (others : List Roomed) : Type 0 where
  pub own : IsShelf slots order free order_room free_room
  pub lists : AllByRecursion (IsOrder slots) (lists_of others)
  pub rooms : HaveRoom (length slots) others
