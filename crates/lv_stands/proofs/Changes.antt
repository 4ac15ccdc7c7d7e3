-- INSERT, UPDATE and DELETE: the writes of a transaction over its snapshot are its own database.
use Rattle.std.proofs.Common.{◌≡◌, ℕ, zero, suc, ◌+◌, ◌<◌, ◌≤◌, Bool, true, false, cond, List, [], ◌∷◌, ◌++◌, length, get_or, Option, Some, None, refl, sym, ap, ◌∙◌, subst, arith}
use Rattle.std.specs.Prelude.{slice_index_or, unwrap_or, Ok}
use mathlib.Core.Logic.{inl, inr}
use Rattle.lv_values.specs.declared.value.Value.{Value}
use Rattle.lv_schema.specs.declared.action.Action.{Action}
use Rattle.lv_schema.specs.declared.change.Change.{Change}
use Rattle.lv_schema.specs.declared.fault.Fault.{Fault}
use Rattle.lv_schema.specs.declared.open.Open.{Open}
use Rattle.lv_schema.specs.declared.table.TableDef.{TableDef}
use Rattle.lv_schema.specs.Bound.{IsBoundChange}
use Rattle.lv_schema.specs.Cases.{Case, answered, with_session, numbered, with_change, changed_by, changed}
use Rattle.lv_schema.specs.Commits.{same_place, written_place}
use Rattle.lv_schema.specs.Databases.{rows_of}
use Rattle.lv_schema.specs.Effects.{Effect, ok_unless, change_fault, change_actions, change_count, changed_table, effect_on, effect_of}
use Rattle.lv_schema.specs.GoesOn.{GoesOn}
use Rattle.lv_schema.specs.Greatest.{Among}
use Rattle.lv_schema.specs.Keys.{row_at, at_place, left_by, carried}
use Rattle.lv_schema.specs.SoundWorld.{CanAct, IsOpen}
use Rattle.lv_schema.specs.Steady.{IsSteady}
use Rattle.lv_schema.specs.WholeWorld.{world_after}
use Rattle.lv_schema.specs.World.{World, last, snap, table_at, live, opened, transaction}
use Rattle.lv_schema.proofs.GoingOn.{changed_goes_on}
use Rattle.lv_schema.proofs.KeyedRows.{only_table}
use Rattle.lv_schema.proofs.Replay.{keyed_database, all_at}
use Rattle.lv_schema.proofs.ServedQueries.{kept_live, live_within}
use Rattle.lv_schema.proofs.SoundChanges.{change_leads}
use Rattle.lv_schema.proofs.SoundSteps.{transaction_live}
use Rattle.lv_schema.proofs.SteadySteps.{changed_steady}
use Rattle.lv_overlay.specs.Puts.{put_at, over, PutsTake, AreOwnRows}
use Rattle.lv_overlay.specs.declared.put.Put.{Put}
use Rattle.lv_txn.specs.Kept.{TransactionKept, changed_by as kept_changed}
use Rattle.lv_txn.specs.Written.{put_of}
use Rattle.lv_stands.specs.Kept.{EngineKept, table_kept, shown}
use Rattle.lv_stands.specs.Moves.{with_puts, engine_changed}
use Rattle.lv_stands.specs.Stands.{TransactionStands, StandsFor}
use Rattle.lv_stands.proofs.Statements.{session_moves, transaction_of}

-- writes can take any actions
puts_take : (tables : List TableDef) (actions : List Action) (puts : List Put) → PutsTake tables actions puts (with_puts tables actions puts)
puts_take tables [] puts p below = refl
puts_take tables (a ∷ actions) puts p below = puts_take tables actions (put_of tables a ∷ puts) p below ∙ ap (λ r. carried tables p r actions) (by (same_place p (written_place tables a)))
  where
    by : (t : Bool) → unwrap_or (cond t (Some (left_by a.kind a.row)) (put_at puts p)) below ≡ cond t (left_by a.kind a.row) (unwrap_or (put_at puts p) below)
    by true = refl
    by false = refl

pub writes_can_take : (tables : List TableDef) (actions : List Action) (puts : List Put) → PutsTake tables actions puts (with_puts tables actions puts)
writes_can_take = puts_take

-- ---- the rows that a transaction reads
pub live_at : (xs : List (Option Open)) (i : ℕ) (o : Open) → get_or xs i None ≡ Some o → Among (live xs) o.snapshot
live_at [] i o e = absurd (cc)
live_at (None ∷ xs) zero o e = absurd (cc)
live_at (Some p ∷ xs) zero o e = let same : o ≡ p = cc in inl (ap (λ (x : Open). x.snapshot) same)
live_at (None ∷ xs) (suc i) o e = live_at xs i o e
live_at (Some p ∷ xs) (suc i) o e = inr (live_at xs i o e)

-- the snapshot of a session's transaction is one that the base can read
pub snapshot_kept : (w : World) (session : ℕ) → IsSteady w → w.upkeep.pruned ≤ last w.visible → (w.upkeep.pruned ≤ (transaction session w.visible).snapshot) × ((transaction session w.visible).snapshot ≤ last w.visible)
snapshot_kept w session steady le = by (slice_index_or w.visible.sessions session None) refl
  where
    by : (x : Option Open) → slice_index_or w.visible.sessions session None ≡ x → (w.upkeep.pruned ≤ (unwrap_or x (opened w.visible)).snapshot) × ((unwrap_or x (opened w.visible)).snapshot ≤ last w.visible)
    by None e = (le, omega arith)
    by (Some o) e = let l = live_at w.visible.sessions session o e in (kept_live w o.snapshot steady l, live_within w o.snapshot steady l)

pub own_rows_are : (w : World) (e : EngineKept) (session t : ℕ) (k : TransactionKept) (rows : List (List Value)) → StandsFor w e → slice_index_or e.sessions session None ≡ Some k → t < length e.tables → w.upkeep.pruned ≤ last w.visible
    → AreOwnRows (table_at e.tables t).key k.puts t (shown k.snapshot (table_kept e.base.tables t).versions) rows → rows ≡ rows_of (transaction session w.visible).own t
own_rows_are w e session t k rows is at lt le own =
    let kt = transaction_of w.visible e.sessions session k is.sessions_stand at in
    let there : t < length w.visible.tables = subst (λ ts. t < length ts) is.tables_are lt in
    let here : AreOwnRows (table_at w.visible.tables t).key k.puts t (shown k.snapshot (table_kept e.base.tables t).versions) rows = subst (λ ts. AreOwnRows (table_at ts t).key k.puts t (shown k.snapshot (table_kept e.base.tables t).versions) rows) is.tables_are own in
    let at_snapshot = snapshot_kept w session is.steady le in
    let below : shown k.snapshot (table_kept e.base.tables t).versions ≡ rows_of (snap w.visible (transaction session w.visible).snapshot) t =
    ap (λ n. shown n (table_kept e.base.tables t).versions) kt.snapshot_is ∙ (is.base_stands.each t there).reads (transaction session w.visible).snapshot at_snapshot.0 at_snapshot.1 in
    only_table (table_at w.visible.tables t).key rows (rows_of (transaction session w.visible).own t) here.ascend
    ((keyed_database w.visible.tables (transaction session w.visible).own (transaction_live w.visible session is.steady.sound).fits).up t there)
    (λ key. here.each key ∙ ap (λ rs. over k.puts (t, key) (row_at (table_at w.visible.tables t).key key rs)) below ∙ kt.own (t, key))

-- ---- a change
pub ok_means : {A : Type 0} (x : Option Fault) (a b : A) → ok_unless x a ≡ Ok b → (x ≡ None) × (a ≡ b)
ok_means None a b e = let same : a ≡ b = cc in (refl, same)
ok_means (Some f) a b e = absurd (cc)

pub changed_stands : (session : ℕ) (change : Change) (w : World) (e : EngineKept) (k : TransactionKept) (rows : List (List Value)) (effect : Effect) (puts : List Put) → StandsFor w e → slice_index_or e.sessions session None ≡ Some k
    → IsBoundChange w.visible.tables change → rows ≡ rows_of (transaction session w.visible).own (changed_table change) → effect_on (table_at e.tables (changed_table change)) change rows ≡ Ok effect → PutsTake e.tables effect.actions k.puts puts
    → StandsFor (world_after (changed session change w.visible) w) (engine_changed session puts effect.actions k e)
changed_stands session change w e k rows effect puts is at bound own ok take =
    subst (λ (x : Case ℕ). StandsFor (world_after x w) (engine_changed session puts effect.actions k e)) (sym now)
    (session_moves w e session (Some changed_one) (Some (kept_changed puts effect.actions k)) is
    (subst (λ (x : Case ℕ). GoesOn w.visible x.next) now (changed_goes_on session change w.visible is.steady.sound))
    (subst (λ (x : Case ℕ). IsSteady (world_after x w)) now (changed_steady session change w is.steady bound))
    (record {
      snapshot_is = kt.snapshot_is;
      actions_are = λ i. kt.actions_are i ++ numbered (kt.changes_are i + 1) effect.actions;
      changes_are = ap (λ n. n + 1) kt.changes_are;
      own = λ p.
          taken p (at_place w.visible.tables (snap w.visible (transaction session w.visible).snapshot) p)
          ∙ ap (λ r. carried w.visible.tables p r effect.actions) (kt.own p)
          ∙ sym (all_at w.visible.tables (transaction session w.visible).own effect.actions (keyed_database w.visible.tables (transaction session w.visible).own live_one.fits) can_act p);
    }))
  where
    changed_one : Open
    changed_one = with_change w.visible.tables effect.actions (transaction session w.visible)

    kt : TransactionStands w.visible (transaction session w.visible) k
    kt = transaction_of w.visible e.sessions session k is.sessions_stand at

    live_one : IsOpen w.visible (transaction session w.visible)
    live_one = transaction_live w.visible session is.steady.sound

    taken : PutsTake w.visible.tables effect.actions k.puts puts
    taken = subst (λ ts. PutsTake ts effect.actions k.puts puts) is.tables_are take

    ok_here : effect_of w.visible.tables change (transaction session w.visible).own ≡ Ok effect
    ok_here = (λ i. effect_on (table_at (sym is.tables_are i) (changed_table change)) change (sym own i)) ∙ ok

    now : changed session change w.visible ≡ answered effect.count (with_session session (Some (with_change w.visible.tables effect.actions (transaction session w.visible))) w.visible)
    now = ap (λ r. changed_by r session (transaction session w.visible) w.visible) ok_here

    can_act : CanAct w.visible.tables (transaction session w.visible).own effect.actions
    can_act =
        let t = changed_table change in
        let own_now = rows_of (transaction session w.visible).own t in
        let means = ok_means (change_fault (table_at w.visible.tables t) change own_now) (record { count = change_count change own_now; actions = change_actions change own_now }) effect ok_here in
        subst (λ (x : Effect). CanAct w.visible.tables (transaction session w.visible).own x.actions) means.1
        (change_leads w.visible.tables w.visible.views change (transaction session w.visible).own is.steady.sound.schema bound live_one.fits means.0).can_act
