-- What taking one record says and keeps, and the actions of a commit, told from what is kept.
use Rattle.std.specs.Prelude.{◌≡◌, ℕ, ◌≤◌, ◌+◌, ◌<◌, ◌^◌, Bool, true, false, not, ◌&&◌, ◌==◌, nat_lt, nat_le, cond, is_some, List, [], ◌∷◌, ◌++◌, length, Option, Some, None, Result, Ok, Err}
use Rattle.std.specs.List.{list_all}
use Rattle.lv_values.specs.declared.memory.NoMemory.{NoMemory}
use Rattle.lv_values.specs.declared.value.Value.{Value}
use Rattle.lv_values.specs.Order.{row_eq}
use Rattle.lv_schema.specs.declared.action.Action.{Action}
use Rattle.lv_schema.specs.declared.action.ActionKind.{ActionKind}
use Rattle.lv_schema.specs.declared.action.ActionKind.TheVariants.{Insert, Delete}
use Rattle.lv_schema.specs.declared.rec.Rec.{Rec}
use Rattle.lv_schema.specs.declared.table.TableDef.{TableDef}
use Rattle.lv_schema.specs.declared.view.ViewDef.{ViewDef}
use Rattle.lv_schema.specs.Commits.{Place, action_fits, same_place, written_place}
use Rattle.lv_schema.specs.Effects.{acted_all}
use Rattle.lv_schema.specs.Keys.{at_place, left_by}
use Rattle.lv_schema.specs.World.{World}
use Rattle.lv_overlay.specs.declared.put.Put.{Put}
use Rattle.lv_overlay.specs.Puts.{over}
use Rattle.lv_upkeep.specs.Moves.{upkeep_with_view}
use Rattle.lv_stands.specs.Moves.{table_new}
use Rattle.lv_replay.specs.Applies.{applies, can_act}
use Rattle.lv_replay.specs.Numbers.{number_rises}
use Rattle.lv_replay.specs.Replayed.{replayed}
use Rattle.lv_base.specs.Bases.{BaseRoom, IsReady, base_of, defs_of, last_state}
use Rattle.lv_base.specs.declared.ready.Ready.{Ready}
use Rattle.lv_loading.specs.declared.parts.Parts.{Parts}
use Rattle.lv_loading.specs.Loads.{LoadingKept, LoadingStands}

-- what is kept in the parts, without the room for more
abbrev pub kept_in : Parts → LoadingKept
kept_in p = record { tables = p.schema.tables; views = p.schema.views; base = base_of p.base; upkeep = p.upkeep.kept }

-- the parts stand for a world
abbrev pub IsWhole : Parts → Type 0
IsWhole p = (w : World) × LoadingStands w (kept_in p)

-- a record that is taken applies in each world that the parts stood for, and they stand then for what it makes of it; one
-- that is refused does not apply, and like want of memory it leaves everything
abbrev pub Takes : Rec → Parts → Parts → Result Bool NoMemory → Type 0
Takes rec old new (Ok true) = (w : World) → LoadingStands w (kept_in old) → (applies rec w ≡ true) × LoadingStands (replayed rec w) (kept_in new)
Takes rec old new (Ok false) = ((w : World) → LoadingStands w (kept_in old) → applies rec w ≡ false) × (kept_in new ≡ kept_in old)
Takes rec old new (Err e) = kept_in new ≡ kept_in old

-- what is kept with one table, or one view, more
abbrev pub with_table : TableDef → LoadingKept → LoadingKept
with_table def k = record k { tables = k.tables ++ def ∷ []; base = record k.base { tables = k.base.tables ++ table_new def ∷ [] } }

abbrev pub with_view : ViewDef → LoadingKept → LoadingKept
with_view def k = record k { views = k.views ++ def ∷ []; upkeep = upkeep_with_view def.created k.upkeep }

-- ---- the actions of a commit
-- what is at a place: what writes left there, and else the row of the last state
abbrev pub seen : BaseRoom → List Put → Place → Option (List Value)
seen b puts p = over puts p (at_place (defs_of b) (last_state b) p)

-- whether an action can be taken where this row stands at its key: an inserted row's key is free, a deleted row is there
abbrev pub is_row : List Value → Option (List Value) → Bool
is_row row None = false
is_row row (Some there) = row_eq row there

abbrev pub allows : ActionKind → List Value → Option (List Value) → Bool
allows Insert row there = not (is_some there)
allows Delete row there = is_row row there

-- actions in their order, told from what is at each place
abbrev pub may_take : List TableDef → (Place → Option (List Value)) → Action → Bool
may_take tables at a = action_fits tables a && allows a.kind a.row (at (written_place tables a))

abbrev pub with_action : List TableDef → (Place → Option (List Value)) → Action → Place → Option (List Value)
with_action tables at a p = cond (same_place p (written_place tables a)) (left_by a.kind a.row) (at p)

abbrev pub may_act : List TableDef → (Place → Option (List Value)) → List Action → Bool
may_act tables at [] = true
may_act tables at (a ∷ actions) = may_take tables at a && may_act tables (with_action tables at a) actions

-- whether a commit can be the next, but for what its actions do: it has the next number and an action, and its actions are
-- numbered by statements; and whether they can be taken
abbrev pub is_numbered : ℕ → List Action → BaseRoom → Bool
is_numbered number actions b = (number == b.number + 1) && (nat_lt 0 (length actions) && number_rises 1 actions)

abbrev pub may_commit : ℕ → List Action → BaseRoom → Bool
may_commit number actions b = is_numbered number actions b && can_act (defs_of b) (last_state b) actions

-- whether no table has more rows than it may have after the actions
abbrev pub has_few : List Action → BaseRoom → Bool
has_few actions b = list_all (λ rows. nat_le (length rows) 65535) (acted_all (defs_of b) (last_state b) actions)

-- a commit that is prepared: all that it needs is there
pub record MayCommit (p : Parts) (r : Ready) : Type 0 where
  pub ready : IsReady p.base r.actions r.nets
  pub room : length p.schema.views ≤ p.upkeep.task_spare
  pub entries : length p.base.deltas.entries + length r.actions < 2 ^ 64

-- what is prepared of actions, where no table gets too many rows
abbrev pub IsPrepared : List Action → Parts → Option Ready → Type 0
IsPrepared actions p None = has_few actions p.base ≡ false
IsPrepared actions p (Some r) = (has_few actions p.base ≡ true) × (r.actions ≡ actions) × MayCommit p r
