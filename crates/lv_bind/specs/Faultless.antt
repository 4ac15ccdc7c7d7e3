-- Parts of a statement that show at one look that none of the faults 2 to 6 is in them. They need not hold where there is
-- no fault.
use Rattle.std.specs.Prelude.{◌≡◌, ◌+◌, ◌≤◌, ℕ, Bool, true, false, not, ◌&&◌, is_some, nat_lt, List, length, Option, None}
use Rattle.std.specs.List.{flat_map, list_all, list_any}
use Rattle.lv_values.specs.declared.value.Value.{Value}
use Rattle.lv_parser.specs.declared.tree.Assign.{Assign}
use Rattle.lv_parser.specs.declared.tree.AssignValue.{AssignValue}
use Rattle.lv_parser.specs.declared.tree.AssignValue.TheVariants as value
use Rattle.lv_parser.specs.declared.tree.ColName.{ColName}
use Rattle.lv_parser.specs.declared.tree.CondTree.{CondTree}
use Rattle.lv_parser.specs.declared.tree.OperandTree.{OperandTree}
use Rattle.lv_parser.specs.declared.tree.OperandTree.TheVariants as side
use Rattle.lv_parser.specs.declared.tree.RefTree.{RefTree}
use Rattle.lv_parser.specs.declared.tree.Tuple.{Tuple}
use Rattle.lv_schema.specs.declared.query.Rel.{Rel}
use Rattle.lv_schema.specs.declared.table.Column.{Column}
use Rattle.lv_schema.specs.Bound.{is_text}
use Rattle.lv_bind.specs.declared.sources.Fit.{Fit}
use Rattle.lv_bind.specs.declared.sources.Fit.TheVariants.{Nothing, One, Several}
use Rattle.lv_bind.specs.InUse.{repeated_aliases, repeated_sets}
use Rattle.lv_bind.specs.Kinds.{assign_fits, both_or_none, kind_of, side_is_text, tuple_kinds}
use Rattle.lv_bind.specs.Limits.{alias_names, lengths, list_length, tuple_texts, value_texts}
use Rattle.lv_bind.specs.Pieces.{Sides, listed_columns, sides_of, unqualified}
use Rattle.lv_bind.specs.Sources.{Alias, first, fit_of, places}

abbrev pub is_one : Fit → Bool
is_one Nothing = false
is_one (One place) = true
is_one (Several place) = false

-- a column that fits one place
abbrev pub is_known : List Alias → ColName → Bool
is_known sources col = is_one (fit_of (places sources col))

-- and whether it holds texts
pub record IsKnown (sources : List Alias) (col : ColName) (text : Bool) : Type 0 where
  pub known : is_known sources col ≡ true
  pub kind : is_text (kind_of sources col) ≡ text

-- a number, or a text that is not too long
abbrev pub is_short : Value → Bool
is_short value = not (list_any (nat_lt 256) (lengths (value_texts value)))

-- one side of a comparison
abbrev pub side_is_sound : List Alias → OperandTree → Bool
side_is_sound sources (side.Column col) = is_known sources col
side_is_sound sources (side.Literal l) = is_short l.value

-- and whether it is a text
pub record IsSoundSide (sources : List Alias) (s : OperandTree) (text : Bool) : Type 0 where
  pub sound : side_is_sound sources s ≡ true
  pub kind : side_is_text sources s ≡ text

-- a comparison of two numbers or two texts
abbrev pub sides_are_sound : List Alias → Sides → Bool
sides_are_sound sources sides = side_is_sound sources sides.0 && (side_is_sound sources sides.1 && both_or_none (side_is_text sources sides.0) (side_is_text sources sides.1))

-- comparisons, behind which so many may still follow of so many in all
pub record AreSoundSides (sources : List Alias) (sides : List Sides) (most left : ℕ) : Type 0 where
  pub sound : list_all (sides_are_sound sources) sides ≡ true
  pub count : left + length sides ≡ most

pub record IsSoundCond (sources : List Alias) (c : CondTree) : Type 0 where
  pub sound : list_all (sides_are_sound sources) (sides_of c) ≡ true
  pub few : length (sides_of c) ≤ 16

-- what a column is set to
abbrev pub value_is_sound : List Alias → AssignValue → Bool
value_is_sound sources (value.Literal l) = is_short l.value
value_is_sound sources (value.Column col) = is_known sources (unqualified col)
value_is_sound sources (value.Plus col amount) = is_known sources (unqualified col)

abbrev pub assign_is_sound : List Alias → Assign → Bool
assign_is_sound sources a =
    is_known sources (unqualified a.column) && (value_is_sound sources a.value && assign_fits sources (kind_of sources (unqualified a.column)) a.value)

-- what UPDATE sets
pub record AreSoundSets (sources : List Alias) (sets : List Assign) : Type 0 where
  pub sound : list_all (assign_is_sound sources) sets ≡ true
  pub apart : first (repeated_sets sets) ≡ None

-- the tuples of an INSERT
pub record AreSoundTuples (columns : List Column) (tuples : List Tuple) : Type 0 where
  pub kinds : first (flat_map (tuple_kinds columns) tuples) ≡ None
  pub short : list_any (nat_lt 256) (lengths (flat_map tuple_texts tuples)) ≡ false
  pub few : length tuples ≤ 1000

-- the tables and views after FROM, which stand for these
pub record AreSoundRefs (rels : List (Option Rel)) (refs : List RefTree) : Type 0 where
  pub found : list_all is_some rels ≡ true
  pub apart : first (repeated_aliases refs) ≡ None
  pub short : list_any (nat_lt 32) (lengths (alias_names refs)) ≡ false
  pub few : length refs ≤ 4

-- the list of a query
pub record IsSoundList (sources : List Alias) (list : Option (List ColName)) : Type 0 where
  pub known : list_all (is_known sources) (listed_columns list) ≡ true
  pub few : list_length sources list ≤ 64

-- the columns after ORDER BY
pub record IsSoundOrder (sources : List Alias) (order : List (ColName × Bool)) : Type 0 where
  pub known : list_all (λ by. is_known sources by.0) order ≡ true
  pub few : length order ≤ 16
