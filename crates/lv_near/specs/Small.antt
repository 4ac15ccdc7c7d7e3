-- What a step of a view is computed from, told from the committed states as they are kept.
use Rattle.std.specs.Prelude.{◌≡◌, ℕ, ◌≤◌, ◌&&◌, ◌||◌, ◌==◌, Bool, true, false, cond, nat_lt, List, [], ◌∷◌, map, length, drop, slice_index_or, Option, Some, None}
use Rattle.std.specs.List.{AllByRecursion, list_all}
use Rattle.std.specs.Ordering.{is_lt}
use Rattle.std.specs.declared.cmp.Ordering.TheVariants.{Equal}
use Rattle.lv_values.specs.declared.value.Value.{Value}
use Rattle.lv_values.specs.Rows.{key_cmp}
use Rattle.lv_schema.specs.declared.part.Part.{Part}
use Rattle.lv_schema.specs.declared.view.ViewDef.{ViewDef}
use Rattle.lv_schema.specs.Nets.{has_row}
use Rattle.lv_schema.specs.Once.{Ascends}
use Rattle.lv_stands.specs.Kept.{shown}
use Rattle.lv_stands.specs.Moves.{part_in}
use Rattle.lv_base.specs.Bases.{BaseRoom, base_of, defs_of, table_in}
use Rattle.lv_maint.specs.Inputs.{Input}
use Rattle.lv_reach.specs.declared.rows.AliasRow.{AliasRow}
use Rattle.lv_reach.specs.Links.{links_of}
use Rattle.lv_reach.specs.Reach.{IsReachOf, has_alias_row, of_alias, part_at, with_old}

-- the rows of a table at a commit, and of an alias
abbrev pub table_at_commit : BaseRoom → ℕ → ℕ → List (List Value)
table_at_commit b lo t = shown lo (table_in b.tables t).versions

abbrev pub old_at : BaseRoom → List ℕ → ℕ → ℕ → List (List Value)
old_at b tables lo alias = slice_index_or (map (table_at_commit b lo) tables) alias []

-- changes with the whole tables before them
abbrev pub with_tables : BaseRoom → List ℕ → ℕ → List Part → List Part
with_tables b tables lo changes = with_old (λ alias. old_at b tables lo alias) changes

-- whether an alias is the one that alone changes, if there is one
abbrev pub is_alone : Option ℕ → ℕ → Bool
is_alone None alias = false
is_alone (Some i) alias = alias == i

-- the rows of an alias that can be looked up: none of the one that alone changes
abbrev pub looked_at : BaseRoom → List ℕ → ℕ → Option ℕ → ℕ → List (List Value)
looked_at b tables lo changing alias = cond (is_alone changing alias) [] (old_at b tables lo alias)

-- the rows of an alias that a step needs some of: of the one that alone changes those that go
abbrev pub needed_of : BaseRoom → List ℕ → ℕ → Option ℕ → List Part → ℕ → List (List Value)
needed_of b tables lo changing changes alias = cond (is_alone changing alias) (part_at changes alias).minus (old_at b tables lo alias)

-- no row of a part changes
abbrev pub StaysSame : Part → Type 0
StaysSame p = (p.minus ≡ []) × (p.plus ≡ [])

-- tables that can be read at a commit
pub record CanRead (b : BaseRoom) (tables : List ℕ) (lo : ℕ) : Type 0 where
  pub in_use : list_all (λ t. nat_lt t (length b.tables)) tables ≡ true
  pub kept : b.pruned ≤ lo

-- the parts of a step with whole tables, and the change alone of a table
abbrev pub whole_parts : BaseRoom → List ℕ → ℕ → ℕ → List Part
whole_parts b tables lo hi = map (part_in (defs_of b) (base_of b) lo hi) tables

abbrev pub change_in : BaseRoom → ℕ → ℕ → ℕ → Part
change_in b lo hi t = let p = part_in (defs_of b) (base_of b) lo hi t in record { old = []; minus = p.minus; plus = p.plus }

-- none of these tables has a row at a commit
abbrev pub AreEmptyAt : BaseRoom → ℕ → List ℕ → Type 0
AreEmptyAt b lo tables = AllByRecursion (λ t. table_at_commit b lo t ≡ []) tables

-- a change with those rows before it alone that go
abbrev pub with_lost : Part → Part
with_lost p = record { old = p.minus; minus = p.minus; plus = p.plus }

-- what a step is computed from where these are its parts with whole tables: of them the reach of the change
pub record IsSmallInput (def : ViewDef) (lo hi : ℕ) (whole : List Part) (input : Input) : Type 0 where
  pub def_is : input.def ≡ def
  pub lo_is : input.lo ≡ lo
  pub hi_is : input.hi ≡ hi
  pub reach : IsReachOf (links_of def.cond) whole input.parts

-- ---- the old rows of one alias
-- no two of some rows have the same key
abbrev pub HaveOwnKeys : List ℕ → List (List Value) → Type 0
HaveOwnKeys key rows = (q r : List Value) → has_row q rows ≡ true → has_row r rows ≡ true → key_cmp key q r ≡ Equal → q ≡ r

-- the near rows of an alias that are old are those that go, and those that were found behind the changed ones
pub record IsSplit (key : List ℕ) (near : List AliasRow) (changed alias : ℕ) (minus old : List (List Value)) : Type 0 where
  pub up : Ascends (key_cmp key) old
  pub old_near : (q : List Value) → (has_row q minus || has_alias_row (of_alias alias q) (drop changed near)) ≡ (has_row q old && has_alias_row (of_alias alias q) near)

-- the old rows of an alias that a step needs: all of them where it is far, else these, in the order of their keys
pub record IsPicked (key : List ℕ) (far : Bool) (whole picked old : List (List Value)) : Type 0 where
  pub all : far ≡ true → old ≡ whole
  pub up : far ≡ false → Ascends (key_cmp key) old
  pub same : far ≡ false → (q : List Value) → has_row q old ≡ has_row q picked

-- whether the key of a row is above that of the last of these
abbrev pub is_above : List ℕ → List (List Value) → List Value → Bool
is_above key [] row = true
is_above key (r ∷ []) row = is_lt (key_cmp key r row)
is_above key (r ∷ s ∷ rows) row = is_above key (s ∷ rows) row
