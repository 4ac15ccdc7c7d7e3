-- Two tuples with the same values in the columns that a condition names get the same truth from it.
use Rattle.std.proofs.Common.{◌≡◌, List, [], ◌∷◌, ◌++◌, map, refl, sym, ap, ap₂, ◌∙◌, subst}
use Rattle.std.specs.List.{AllByRecursion}
use Rattle.lv_schema.specs.declared.cond.Col.{Col}
use Rattle.lv_schema.specs.declared.cond.Cond.{Cond}
use Rattle.lv_schema.specs.declared.cond.Cond.TheFolds.{fold-roll-Cond, ind-Cond, map-Cond}
use Rattle.lv_schema.specs.declared.cond.Cond.TheOpen.{Cond-F, True, Cmp, And, Or, Not}
use Rattle.lv_schema.specs.declared.cond.Operand.{Operand}
use Rattle.lv_schema.specs.declared.cond.Operand.TheVariants.{Column, Number, Text}
use Rattle.lv_schema.specs.declared.logic.Truth.{Truth}
use Rattle.lv_schema.specs.Truth.{operand_value, compared, opposite, all_of, any_of, truth_step, truth}
use Rattle.lv_schema.specs.Tuples.{Tuple, value_at, listed}
use Rattle.lv_relevance.specs.Relevance.{operand_columns, joined, columns_step, columns_of}

-- what holds of each element of two lists, one behind the other
pub all_front : {X : Type 0} (P : X → Type 0) (xs ys : List X) → AllByRecursion P (xs ++ ys) → AllByRecursion P xs
all_front P [] ys a = tt
all_front P (x ∷ xs) ys a = (a.0, all_front P xs ys a.1)

pub all_back : {X : Type 0} (P : X → Type 0) (xs ys : List X) → AllByRecursion P (xs ++ ys) → AllByRecursion P ys
all_back P [] ys a = a
all_back P (x ∷ xs) ys a = all_back P xs ys a.1

pub map_on : {X Y : Type 0} (f g : X → Y) (xs : List X) → AllByRecursion (λ x. f x ≡ g x) xs → map f xs ≡ map g xs
map_on f g [] a = refl
map_on f g (x ∷ xs) a = λ i. a.0 i ∷ map_on f g xs a.1 i

module _ (t u : Tuple) where
  -- the two tuples have the same values in these columns
  abbrev pub Agree : List Col → Type 0
  Agree cols = AllByRecursion (λ col. value_at t col ≡ value_at u col) cols

  pub listed_same : (cols : List Col) → Agree cols → listed cols t ≡ listed cols u
  listed_same cols a = map_on (value_at t) (value_at u) cols a

  operand_same : (o : Operand) → Agree (operand_columns o) → operand_value t o ≡ operand_value u o
  operand_same (Column col) a = a.0
  operand_same (Number n) a = refl
  operand_same (Text s) a = refl

  abbrev Same : Cond → Type 0
  Same c = Agree (columns_of c) → truth c t ≡ truth c u

  parts_same : (ys : List ((c : Cond) × Same c)) → Agree (joined (map columns_of (map (λ y. y.0) ys))) → map (λ c. truth c t) (map (λ y. y.0) ys) ≡ map (λ c. truth c u) (map (λ y. y.0) ys)
  parts_same [] a = refl
  parts_same (y ∷ ys) a =
      let more = joined (map columns_of (map (λ y. y.0) ys)) in
      λ i. y.1 (all_front _ (columns_of y.0) more a) i ∷ parts_same ys (all_back _ (columns_of y.0) more a) i

  layer_same : (y : Cond-F ((c : Cond) × Same c))
      → Agree (columns_step (map-Cond Cond (List Col) columns_of (map-Cond ((c : Cond) × Same c) Cond (λ e. e.0) y)))
      → truth_step t (map-Cond Cond Truth (λ c. truth c t) (map-Cond ((c : Cond) × Same c) Cond (λ e. e.0) y)) ≡ truth_step u (map-Cond Cond Truth (λ c. truth c u) (map-Cond ((c : Cond) × Same c) Cond (λ e. e.0) y))
  layer_same True a = refl
  layer_same (Cmp op l r) a = ap₂ (λ v w. compared op v w) (operand_same l (all_front _ (operand_columns l) (operand_columns r) a)) (operand_same r (all_back _ (operand_columns l) (operand_columns r) a))
  layer_same (And ys) a = ap all_of (parts_same ys a)
  layer_same (Or ys) a = ap any_of (parts_same ys a)
  layer_same (Not y) a = ap opposite (y.1 a)

  pub truth_same : (c : Cond) → Agree (columns_of c) → truth c t ≡ truth c u
  truth_same = ind-Cond Same (λ x y is a.
      fold-roll-Cond Truth (truth_step t) x
      ∙ subst (λ z. Agree (columns_step (map-Cond Cond (List Col) columns_of z)) → truth_step t (map-Cond Cond Truth (λ c. truth c t) z) ≡ truth_step u (map-Cond Cond Truth (λ c. truth c u) z)) is (layer_same y)
      (subst Agree (fold-roll-Cond (List Col) columns_step x) a)
      ∙ sym (fold-roll-Cond Truth (truth_step u) x))
