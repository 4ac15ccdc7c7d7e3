-- Actions in their order, told from what is at each place.
use Rattle.std.proofs.Common.{◌≡◌, ℕ, ◌<◌, Bool, true, false, cond, not, ◌&&◌, nat_lt, zero, suc, ◌+◌, List, [], ◌∷◌, drop, get_or, length, Option, Some, None, refl, sym, ap, ◌∙◌, arith}
use Rattle.std.specs.Prelude.{slice_get, unwrap_or, MatchOption}
use Rattle.std.specs.Borrow.{Bor}
use Rattle.std.specs.Option.{option_copied}
use Rattle.lv_values.specs.declared.value.Value.{Value}
use Rattle.lv_values.specs.Order.{row_eq}
use Rattle.lv_values.specs.Rows.{values_at}
use Rattle.lv_schema.specs.declared.action.Action.{Action}
use Rattle.lv_schema.specs.declared.action.ActionKind.{ActionKind}
use Rattle.lv_schema.specs.declared.action.ActionKind.TheVariants.{Insert, Delete}
use Rattle.lv_schema.specs.declared.table.TableDef.{TableDef}
use Rattle.lv_schema.specs.Commits.{Place, action_fits, written_place}
use Rattle.lv_schema.specs.Databases.{Db, rows_of}
use Rattle.lv_schema.specs.Effects.{acted}
use Rattle.lv_schema.specs.Keys.{at_place, row_at}
use Rattle.lv_schema.specs.SoundWorld.{CanAct, CanTake, is_there}
use Rattle.lv_schema.specs.World.{table_at}
use Rattle.lv_schema.proofs.KeyedRows.{has_key_at, has_row_at, is_at, row_flip}
use Rattle.lv_schema.proofs.Replay.{IsKeyed, acted_at, acted_up}
use Rattle.lv_replay.specs.Applies.{can_act, can_take}
use Rattle.lv_replay.proofs.Tests.{and_left, and_right, lt_of}
use Rattle.lv_overlay.specs.declared.put.Put.{Put}
use Rattle.lv_overlay.specs.Puts.{put_at}
use Rattle.lv_versions.specs.Versions.{Kept, row_with, rows_with, state_at}
use Rattle.lv_base.specs.Bases.{BaseRoom, defs_of, last_state, table_in}
use Rattle.lv_base.proofs.Places.{def_at}
use Rattle.lv_base.proofs.Prepared.{state_at_place}
use Rattle.lv_loading.specs.Taking.{allows, is_row, may_act, may_take, seen, with_action}

abbrev ARow : Type 0
ARow = List Value

module _ (tables : List TableDef) where
  same_row : (key : List ℕ) (row : ARow) (o : Option ARow) → is_at key row o ≡ is_row row o
  same_row key row None = refl
  same_row key row (Some r) = refl

  there_told : (db : Db) (a : Action) → IsKeyed tables db → a.table < length tables → (k : ActionKind)
      → allows k a.row (at_place tables db (written_place tables a)) ≡ is_there (table_at tables a.table).key k a.row (rows_of db a.table)
  there_told db a keyed lt Insert = ap not (sym (has_key_at (table_at tables a.table).key a.row (rows_of db a.table)))
  there_told db a keyed lt Delete =
      sym (same_row (table_at tables a.table).key a.row (at_place tables db (written_place tables a)))
      ∙ sym (has_row_at (table_at tables a.table).key a.row (rows_of db a.table) (keyed.up a.table lt))

  take_told : (db : Db) (a : Action) → IsKeyed tables db → may_take tables (at_place tables db) a ≡ can_take tables db a
  take_told db a keyed = by (action_fits tables a) refl
    where
      by : (b : Bool) → action_fits tables a ≡ b
          → (b && allows a.kind a.row (at_place tables db (written_place tables a))) ≡ (b && is_there (table_at tables a.table).key a.kind a.row (rows_of db a.table))
      by true e = there_told db a keyed (lt_of a.table (length tables) (and_left _ _ e)) a.kind
      by false e = refl

  can_of : (db : Db) (a : Action) → can_take tables db a ≡ true → CanTake tables db a
  can_of db a e =
      let fits = and_left (action_fits tables a) _ e in
      record {
        in_use = lt_of a.table (length tables) (and_left _ _ fits);
        fits = and_right (nat_lt a.table (length tables)) _ fits;
        there = and_right (action_fits tables a) _ e;
      }

  pub act_of : (actions : List Action) (db : Db) → can_act tables db actions ≡ true → CanAct tables db actions
  act_of [] db h = tt
  act_of (a ∷ actions) db h = (can_of db a (and_left (can_take tables db a) _ h), act_of actions (acted tables db a) (and_right (can_take tables db a) _ h))

  pub act_told : (actions : List Action) (db : Db) → IsKeyed tables db → may_act tables (at_place tables db) actions ≡ can_act tables db actions
  act_told [] db keyed = refl
  act_told (a ∷ actions) db keyed = by (λ next up. act_told actions next up) (can_take tables db a) refl (take_told db a keyed)
    where
      then : ((next : Db) → IsKeyed tables next → may_act tables (at_place tables next) actions ≡ can_act tables next actions) → CanTake tables db a → may_act tables (with_action tables (at_place tables db) a) actions ≡ can_act tables (acted tables db a) actions
      then rest may =
          let same : with_action tables (at_place tables db) a ≡ at_place tables (acted tables db a) = λ i p. sym (acted_at tables db a keyed may p) i in
          ap (λ (at : Place → Option ARow). may_act tables at actions) same ∙ rest (acted tables db a) (acted_up tables db a keyed may)

      by : ((next : Db) → IsKeyed tables next → may_act tables (at_place tables next) actions ≡ can_act tables next actions) → (b : Bool) → can_take tables db a ≡ b → may_take tables (at_place tables db) a ≡ can_take tables db a
          → (may_take tables (at_place tables db) a && may_act tables (with_action tables (at_place tables db) a) actions) ≡ (can_take tables db a && can_act tables (acted tables db a) actions)
      by rest true e told =
          (λ i. told i && may_act tables (with_action tables (at_place tables db) a) actions)
          ∙ (λ i. e i && may_act tables (with_action tables (at_place tables db) a) actions)
          ∙ then rest (can_of db a e)
          ∙ (λ i. sym e i && can_act tables (acted tables db a) actions)
      by rest false e told =
          (λ i. told i && may_act tables (with_action tables (at_place tables db) a) actions)
          ∙ (λ i. e i && may_act tables (with_action tables (at_place tables db) a) actions)
          ∙ (λ i. sym e i && can_act tables (acted tables db a) actions)

-- ---- a row that is read
found_copied : {X : Type 0} (o : Option (Bor X)) (x : Option X) → MatchOption o (x ≡ None) (λ r. x ≡ Some r.now) → option_copied o ≡ x
found_copied None x h = sym h
found_copied (Some r) x h = sym h

read_row : (key : List ℕ) (k : ARow) (rows : List ARow) → row_with key k rows ≡ row_at key k rows
read_row key k [] = refl
read_row key k (row ∷ rows) = by (row_eq (values_at key row) k) refl (read_row key k rows)
  where
    by : (b : Bool) → row_eq (values_at key row) k ≡ b → row_with key k rows ≡ row_at key k rows
        → slice_get (cond b (row ∷ rows_with key k rows) (rows_with key k rows)) 0 ≡ cond (row_eq k (values_at key row)) (Some row) (row_at key k rows)
    by true e ih = sym (ap (λ b. cond b (Some row) (row_at key k rows)) (row_flip k (values_at key row) ∙ e))
    by false e ih = ih ∙ sym (ap (λ b. cond b (Some row) (row_at key k rows)) (row_flip k (values_at key row) ∙ e))

-- what a read finds where nothing was left is what is seen
pub read_seen : (b : BaseRoom) (puts : List Put) (t : ℕ) (k : ARow) (o : Option (Bor ARow)) (versions : Kept) (number : ℕ) → versions ≡ table_in b.tables t → number ≡ b.number → put_at puts (t, k) ≡ None
    → MatchOption o (row_with versions.def.key k (state_at number versions.versions) ≡ None) (λ row. row_with versions.def.key k (state_at number versions.versions) ≡ Some row.now)
    → option_copied o ≡ seen b puts (t, k)
read_seen b puts t k o versions number there last none found =
    found_copied o (row_with versions.def.key k (state_at number versions.versions)) found
    ∙ (λ i. row_with (there i).def.key k (state_at (last i) (there i).versions))
    ∙ read_row (table_in b.tables t).def.key k (state_at b.number (table_in b.tables t).versions)
    ∙ (λ i. row_at (sym (def_at b.tables t) i).key k (sym (state_at_place b t) i))
    ∙ sym (ap (λ (x : Option (Option ARow)). unwrap_or x (at_place (defs_of b) (last_state b) (t, k))) none)

-- ---- one after another
pub drop_item : {X : Type 0} (xs : List X) (i : ℕ) (x : X) → i < length xs → x ≡ get_or xs i x → drop i xs ≡ x ∷ drop (i + 1) xs
drop_item [] i x lt e = absurd (omega (arith, lt))
drop_item (y ∷ ys) zero x lt e = ap (λ z. z ∷ ys) (sym e)
drop_item (y ∷ ys) (suc i) x lt e = drop_item ys i x (omega (arith, lt)) e ∙ ap (λ k. x ∷ drop k (y ∷ ys)) (let one : suc (i + 1) ≡ suc i + 1 = omega arith in one)

module _ (b : BaseRoom) where
  pub act_step : (a : Action) (rest actions : List Action) (old new : List Put) → may_act (defs_of b) (seen b old) (a ∷ rest) ≡ can_act (defs_of b) (last_state b) actions
      → may_take (defs_of b) (seen b old) a ≡ true → ((p : Place) → seen b new p ≡ with_action (defs_of b) (seen b old) a p)
      → may_act (defs_of b) (seen b new) rest ≡ can_act (defs_of b) (last_state b) actions
  act_step a rest actions old new held taken left =
      ap (λ (at : Place → Option ARow). may_act (defs_of b) at rest) (let same : seen b new ≡ with_action (defs_of b) (seen b old) a = λ i p. left p i in same)
      ∙ (λ i. sym taken i && may_act (defs_of b) (with_action (defs_of b) (seen b old) a) rest)
      ∙ held
