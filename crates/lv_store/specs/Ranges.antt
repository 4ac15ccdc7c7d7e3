-- Ranges: the values among which a condition says that a column is.
use Rattle.std.specs.Prelude.{◌≡◌, ℕ, true, false, Option, Some, None, MatchOption}
use Rattle.lv_values.specs.declared.value.Value.{Value}
use Rattle.lv_schema.specs.declared.cond.Cond.{Cond}
use Rattle.lv_effect.specs.declared.bounding.Side.TheVariants.{Low, High}
use Rattle.lv_effect.specs.Bounds.{Bounds, bound_of}
use Rattle.lv_effect.specs.FixedKeys.{Fixes, says_column}
use Rattle.lv_store.specs.declared.sought.FirstRange.{FirstRange}
use Rattle.lv_store.specs.declared.sought.FirstRange.TheVariants.{Only, Between}

-- the lowest and the highest value of a range, where there is one
abbrev pub lowest_of : FirstRange → Option Value
lowest_of (Only v) = Some v
lowest_of (Between low high) = low

abbrev pub highest_of : FirstRange → Option Value
highest_of (Only v) = Some v
highest_of (Between low high) = high

-- a condition that says of no literal that the column equals it: what bounds it, on each side the first that it says
pub record AreSaid (column : ℕ) (cond : Cond) (low high : Option Value) : Type 0 where
  pub not_fixed : says_column cond column ≡ false
  pub low_is : low ≡ bound_of Low cond column
  pub high_is : high ≡ bound_of High cond column
  pub from : MatchOption low (Unit {0}) (Bounds Low column cond)
  pub up_to : MatchOption high (Unit {0}) (Bounds High column cond)

-- the range that a condition says of a column: one value, where it says that the column equals a literal, or else what
-- bounds it
abbrev pub IsSaid : ℕ → Cond → FirstRange → Type 0
IsSaid column cond (Only v) = (says_column cond column ≡ true) × Fixes column cond v
IsSaid column cond (Between low high) = AreSaid column cond low high

-- and of a column that there may be
abbrev pub IsSaidOf : Option ℕ → Cond → FirstRange → Type 0
IsSaidOf None cond range = range ≡ Between None None
IsSaidOf (Some column) cond range = IsSaid column cond range
