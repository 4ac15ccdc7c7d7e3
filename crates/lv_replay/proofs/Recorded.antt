-- What a stop leaves after a statement is what its record makes of what it left before.
use Rattle.std.proofs.Common.{◌≡◌, ℕ, suc, ◌+◌, ◌<◌, Bool, true, false, cond, not, List, [], ◌∷◌, ◌++◌, length, Option, Some, None, refl, sym, ap, ◌∙◌, subst, arith}
use Rattle.std.specs.Prelude.{◌==◌, is_some, nat_le, Result, Ok, Err}
use Rattle.std.specs.List.{list_all}
use Rattle.std.proofs.lemmas.Bool.Decides.{nat_tests}
use Rattle.lv_schema.specs.declared.action.Action.{Action}
use Rattle.lv_schema.specs.declared.change.Change.{Change}
use Rattle.lv_schema.specs.declared.fault.Fault.{Fault}
use Rattle.lv_schema.specs.declared.rec.Rec.{Rec}
use Rattle.lv_schema.specs.declared.table.TableDef.{TableDef}
use Rattle.lv_schema.specs.declared.view.ViewDef.{ViewDef}
use Rattle.lv_schema.specs.Bound.{IsBoundTable, IsBoundView, IsBoundChange, first}
use Rattle.lv_schema.specs.Cases.{Outcome, good, failed, full, Case, answered, if_written, closed, with_table, table_made, with_view, view_made, began, changed_by, changed, with_commit, committed_unless, committed, with_count, alone_committed, alone}
use Rattle.lv_schema.specs.Commits.{conflict_of, merged, merged_full}
use Rattle.lv_schema.specs.Databases.{Db, IsDatabase}
use Rattle.lv_schema.specs.Effects.{Effect, effect_of, first_fault, acted_all}
use Rattle.lv_schema.specs.Records.{table_record, view_record, commit_record}
use Rattle.lv_schema.specs.SoundWorld.{CanAct, IsOpen, IsSound}
use Rattle.lv_schema.specs.UpkeepCases.{with_record}
use Rattle.lv_schema.specs.WholeWorld.{world_after}
use Rattle.lv_schema.specs.World.{Visible, World, last, snap, transaction}
use Rattle.lv_schema.proofs.FirstCommitter.{possible_now, merged_is_replay}
use Rattle.lv_schema.proofs.SoundSteps.{began_sound, commit_sound, transaction_live}
use Rattle.lv_schema.proofs.SoundChanges.{changed_sound}
use Rattle.std.proofs.lemmas.List.{get_or_push, length_push}
use Rattle.lv_replay.specs.Applies.{same_flag, table_applies, view_applies, can_act, applies}
use Rattle.lv_replay.specs.Numbers.{AreNumbered}
use Rattle.lv_replay.specs.Replayed.{durable_visible, durable_upkeep, durable, replayed}
use Rattle.lv_replay.specs.Runs.{Keeps}
use Rattle.lv_replay.proofs.Numbered.{transaction_numbered, began_numbered, changed_numbered}
use Rattle.lv_replay.proofs.Tests.{both, lt_test, le_test, eq_test}

abbrev CaseKeeps : {A : Type 0} → Case A → World → Type 0
CaseKeeps c w = Keeps c.written w (world_after c w)

-- ---- CREATE TABLE
bound_table_applies : (s : Visible) (def : TableDef) → IsBoundTable s.tables s.views def → table_applies (record def { no = 0 }) s ≡ true
bound_table_applies s def is =
    both _ _ is.free
    (both _ _ (lt_test _ _ is.room)
    (both _ _ (lt_test _ _ is.some_columns)
    (both _ _ (le_test _ _ is.few_columns)
    (both _ _ is.columns_apart
    (both _ _ (lt_test _ _ is.some_key)
    (both _ _ is.key_apart is.key_in_range))))))

pub table_keeps : (outcome : Rec → Outcome) (def : TableDef) (w : World) → IsBoundTable w.visible.tables w.visible.views def → CaseKeeps (table_made outcome def w.visible) w
table_keeps outcome def w is = by (outcome (table_record def))
  where
    by : (out : Outcome) → CaseKeeps (if_written {A = Unit {0}} out (table_record def) tt (with_table def w.visible) w.visible) w
    by good = (bound_table_applies (durable_visible w.visible) def is, ap (λ no. durable (record { visible = with_table (record def { no = no }) w.visible; upkeep = with_record (Some (table_record def)) w.upkeep })) is.next)
    by failed = refl
    by (full need limit) = refl

-- ---- CREATE VIEW
flag_itself : (b : Bool) → same_flag b b ≡ true
flag_itself true = refl
flag_itself false = refl

bound_view_applies : (s : Visible) (def : ViewDef) → IsBoundView s.tables s.views def → view_applies (record def { no = 0; created = last s }) s ≡ true
bound_view_applies s def is =
    both _ _ is.free
    (both _ _ (lt_test _ _ is.room)
    (both _ _ (eq_test (last s) (last s) refl)
    (both _ _ (lt_test _ _ is.some_aliases)
    (both _ _ (le_test _ _ is.few_aliases)
    (both _ _ is.in_use
    (both _ _ (lt_test _ _ is.some_items)
    (both _ _ (le_test _ _ is.few_items)
    (both _ _ is.items_apart
    (both _ _ (both _ _ is.bound_cond.compares_well (both _ _ is.plain_in_range (both _ _ is.sums_are_ints is.groups_in_range)))
    (both _ _ (ap (same_flag def.grouped) (sym is.profile.grouped) ∙ flag_itself def.grouped) (ap (λ rs. not (is_some (first rs))) is.profile.keeps)))))))))))

pub view_keeps : (outcome : Rec → Outcome) (def : ViewDef) (w : World) → IsBoundView w.visible.tables w.visible.views def → CaseKeeps (view_made outcome def w.visible) w
view_keeps outcome def w is = by (outcome (view_record def w.visible))
  where
    by : (out : Outcome) → CaseKeeps (if_written {A = Unit {0}} out (view_record def w.visible) tt (with_view def w.visible) w.visible) w
    by good = (bound_view_applies (durable_visible w.visible) def is, ap (λ no. durable (record { visible = with_view (record def { no = no }) w.visible; upkeep = with_record (Some (view_record def w.visible)) w.upkeep })) is.next)
    by failed = refl
    by (full need limit) = refl

-- ---- COMMIT
can_act_of : (tables : List TableDef) (actions : List Action) (db : Db) → CanAct tables db actions → can_act tables db actions ≡ true
can_act_of tables [] db may = refl
can_act_of tables (a ∷ actions) db may = both _ _ (both _ _ (both _ _ (lt_test _ _ may.0.in_use) may.0.fits) may.0.there) (can_act_of tables actions _ may.1)

database_few : (tables : List TableDef) (db : Db) → IsDatabase tables db → list_all (λ rows. nat_le (length rows) 65535) db ≡ true
database_few [] [] d = refl
database_few [] (rows ∷ db) d = absurd d
database_few (def ∷ tables) [] d = absurd d
database_few (def ∷ tables) (rows ∷ db) d = both _ _ (le_test (length rows) 65535 d.0.few) (database_few tables db d.1)

some_or_none : (n : ℕ) → (n == 0) ≡ false → 0 < n
some_or_none n e = grind (arith, nat_tests)

module _ (outcome : Rec → Outcome) (session : ℕ) (w : World) (sound : IsSound w.visible) (are : AreNumbered w.visible) where
  live : IsOpen w.visible (transaction session w.visible)
  live = transaction_live w.visible session sound

  abbrev Made : Db → World
  Made db = record {
    visible = record (durable_visible w.visible) { snaps = w.visible.snaps ++ db ∷ []; commits = w.visible.commits ++ (transaction session w.visible).actions ∷ [] };
    upkeep = durable_upkeep (with_record (Some (commit_record (transaction session w.visible) w.visible)) w.upkeep);
  }

  module _ (free : conflict_of w.visible (transaction session w.visible) ≡ None) (room : merged_full w.visible (transaction session w.visible) ≡ None) (some : 0 < length (transaction session w.visible).actions) where
    leads : merged w.visible (transaction session w.visible) ≡ acted_all w.visible.tables (snap w.visible (last w.visible)) (transaction session w.visible).actions
    leads = merged_is_replay w.visible sound (transaction session w.visible) live free

    merged_fits : IsDatabase w.visible.tables (merged w.visible (transaction session w.visible))
    merged_fits =
        let after = commit_sound w.visible sound (transaction session w.visible) live free room session some in
        subst (IsDatabase w.visible.tables) (get_or_push w.visible.snaps (merged w.visible (transaction session w.visible)) [] (suc (last w.visible)) sound.states)
        (after.fits (suc (last w.visible)) (omega (arith, length_push w.visible.commits (transaction session w.visible).actions)))

    commit_does : applies (commit_record (transaction session w.visible) w.visible) (durable w) ≡ true
    commit_does =
        both _ _ (eq_test (last w.visible + 1) (last w.visible + 1) refl)
        (both _ _ (lt_test _ _ some)
        (both _ _ (transaction_numbered session w.visible are).rises
        (both _ _ (can_act_of w.visible.tables (transaction session w.visible).actions (snap w.visible (last w.visible)) (possible_now w.visible sound (transaction session w.visible) live free))
        (database_few w.visible.tables _ (subst (IsDatabase w.visible.tables) leads merged_fits)))))

    written : (out : Outcome) → CaseKeeps (if_written out (commit_record (transaction session w.visible) w.visible) (Some (last w.visible + 1)) (with_commit session (transaction session w.visible) w.visible) w.visible) w
    written good = (commit_does, ap Made leads)
    written failed = refl
    written (full need limit) = refl

  unless : 0 < length (transaction session w.visible).actions → (x : Option Fault) → conflict_of w.visible (transaction session w.visible) ≡ x → (y : Option Fault) → merged_full w.visible (transaction session w.visible) ≡ y
      → CaseKeeps (committed_unless (first_fault x y) outcome session (transaction session w.visible) w.visible) w
  unless some None e None f = written e f some (outcome (commit_record (transaction session w.visible) w.visible))
  unless some None e (Some fault) f = refl
  unless some (Some fault) e y f = refl

  cases : (t : Bool) → (length (transaction session w.visible).actions == 0) ≡ t
      → CaseKeeps (cond {A = Case (Option ℕ)} t (answered None (closed session w.visible)) (committed_unless (first_fault (conflict_of w.visible (transaction session w.visible)) (merged_full w.visible (transaction session w.visible))) outcome session (transaction session w.visible) w.visible)) w
  cases true e = refl
  cases false e = unless (some_or_none _ e) (conflict_of w.visible (transaction session w.visible)) refl (merged_full w.visible (transaction session w.visible)) refl

  pub commit_keeps : CaseKeeps (committed outcome session w.visible) w
  commit_keeps = cases (length (transaction session w.visible).actions == 0) refl

-- ---- statements without a record
changed_durable : (session : ℕ) (change : Change) (s : Visible) → durable_visible (changed session change s).next ≡ durable_visible s
changed_durable session change s = by (effect_of s.tables change (transaction session s).own)
  where
    by : (r : Result Effect Fault) → durable_visible (changed_by r session (transaction session s) s).next ≡ durable_visible s
    by (Err fault) = refl
    by (Ok effect) = refl

pub changed_keeps : (session : ℕ) (change : Change) (w : World) → CaseKeeps (changed session change w.visible) w
changed_keeps session change w = by (effect_of w.visible.tables change (transaction session w.visible).own)
  where
    by : (r : Result Effect Fault) → CaseKeeps (changed_by r session (transaction session w.visible) w.visible) w
    by (Err fault) = refl
    by (Ok effect) = refl

-- ---- a change outside a transaction
keeps_from : (written : Option Rec) (v w x : World) → durable v ≡ durable w → Keeps written v x → Keeps written w x
keeps_from None v w x e keeps = keeps ∙ e
keeps_from (Some r) v w x e keeps = (subst (λ y. applies r y ≡ true) e keeps.0, keeps.1 ∙ ap (replayed r) e)

pub alone_keeps : (outcome : Rec → Outcome) (session : ℕ) (change : Change) (w : World) → IsSound w.visible → AreNumbered w.visible → IsBoundChange w.visible.tables change → CaseKeeps (alone outcome session change w.visible) w
alone_keeps outcome session change w sound are bound = by (changed session change (began session w.visible).next).answer
  where
    next : Visible
    next = (changed session change (began session w.visible).next).next

    open_one : World
    open_one = record { visible = next; upkeep = w.upkeep }

    same : durable open_one ≡ durable w
    same = ap (λ (s : Visible). record { visible = s; upkeep = durable_upkeep w.upkeep }) (changed_durable session change (began session w.visible).next)

    committed_keeps : CaseKeeps (committed outcome session next) open_one
    committed_keeps = commit_keeps outcome session open_one (changed_sound session change (began session w.visible).next (began_sound w.visible session sound) bound)
        (changed_numbered session change (began session w.visible).next (began_numbered session w.visible are))

    counted : (count : ℕ) (answer : Result (Option ℕ) Fault) (commit : Case (Option ℕ)) → CaseKeeps commit open_one → CaseKeeps (with_count count answer commit w.visible) w
    counted count (Err fault) commit after = refl
    counted count (Ok number) commit after = keeps_from commit.written open_one w (world_after commit open_one) same after

    by : (answer : Result ℕ Fault) → CaseKeeps (alone_committed answer outcome session next w.visible) w
    by (Err fault) = refl
    by (Ok count) = counted count (committed outcome session next).answer (committed outcome session next) committed_keeps
