-- BEGIN, ROLLBACK and COMMIT: what is kept stands for the world after them.
use Rattle.std.proofs.Common.{◌≡◌, ℕ, zero, suc, ◌+◌, ◌<◌, ◌≤◌, false, List, [], ◌∷◌, ◌++◌, map, length, get_or, Option, Some, None, refl, sym, ap, ◌∙◌, subst, arith}
use Rattle.std.specs.Prelude.{◌==◌, slice_index_or, unwrap_or, Ok}
use Rattle.std.proofs.lemmas.Bool.Decides.{nat_tests}
use Rattle.std.specs.List.{filter, sum_by}
use Rattle.std.proofs.lemmas.List.{length_push, get_or_append_left, get_or_push}
use Rattle.lv_schema.specs.declared.action.Action.{Action}
use Rattle.lv_schema.specs.declared.open.Open.{Open}
use Rattle.lv_schema.specs.declared.rec.Rec.{Rec}
use Rattle.lv_schema.specs.declared.rec.Rec.TheVariants.{Commit}
use Rattle.lv_schema.specs.Cases.{Outcome, good, Case, began, rolled_back, with_session, with_commit, committed}
use Rattle.lv_schema.specs.Commits.{conflict_of, merged, merged_full}
use Rattle.lv_schema.specs.Condensed.{condensed}
use Rattle.lv_schema.specs.Databases.{rows_of}
use Rattle.lv_schema.specs.GoesOn.{GoesOn}
use Rattle.lv_schema.specs.Nets.{net_of}
use Rattle.lv_schema.specs.Records.{commit_record}
use Rattle.lv_schema.specs.SoundWorld.{IsOpen, IsSound}
use Rattle.lv_schema.specs.Steady.{IsSteady}
use Rattle.lv_schema.specs.WholeWorld.{world_after}
use Rattle.lv_schema.specs.Tasks.{actions_on}
use Rattle.lv_schema.specs.UpkeepCases.{need}
use Rattle.lv_schema.specs.Versions.{delta_entry, ends_after, versions_of, kept_versions, kept_entries}
use Rattle.lv_schema.specs.World.{Visible, Upkeep, World, last, snap, commit_at, table_at, view_at, live, opened, transaction, point}
use Rattle.lv_schema.proofs.Condenses as condenses
use Rattle.lv_schema.proofs.FirstCommitter.{possible_now, merged_is_replay}
use Rattle.lv_schema.proofs.GoingOn.{began_goes_on, rolled_back_goes_on, committed_goes_on}
use Rattle.lv_schema.proofs.Replay.{keyed_database}
use Rattle.lv_schema.proofs.SoundSteps.{transaction_live}
use Rattle.lv_schema.proofs.SteadySteps.{began_steady, rolled_back_steady, committed_steady}
use Rattle.lv_schema.proofs.SteadyWorlds.{floor_last}
use Rattle.lv_txn.specs.Kept.{TransactionKept, begun}
use Rattle.lv_upkeep.specs.Kept.{UpkeepKept}
use Rattle.lv_upkeep.specs.Stands.{UpkeepStands}
use Rattle.lv_stands.specs.Kept.{TableKept, BaseKept, ViewKept, EngineKept, table_kept, view_kept}
use Rattle.lv_stands.specs.Moves.{TableCommits, BaseCommits, with_task, with_tasks, with_transaction, engine_began, engine_rolled_back, journal_with, engine_committed}
use Rattle.lv_stands.specs.Stands.{TableStands, BaseStands, ViewStands, ViewsStand, TransactionStands, SessionStands, SessionsStand, StandsFor}
use Rattle.lv_stands.proofs.Commits.{versions_alike, IsNext, table_commits}
use Rattle.lv_stands.proofs.Tasks.{entries_next, tasks_next, with_tasks_long, with_tasks_at}
use Rattle.lv_stands.proofs.Carried.{view_goes_on, sessions_go_on}
use Rattle.lv_stands.proofs.Lists.{zip_set, zip_get}

-- a session's transaction comes or goes; all else stands as it did
same_tables : (s t : Visible) (pruned n : ℕ) (k : TableKept) → t.tables ≡ s.tables → t.snaps ≡ s.snaps → t.commits ≡ s.commits → TableStands s pruned n k → TableStands t pruned n k
same_tables s t pruned n k a b c is = record {
  def_is = is.def_is ∙ ap (λ ts. table_at ts n) (sym a);
  by = omega (arith, is.by, ap length c);
  floor_by = is.floor_by;
  reads = λ m above upto. is.reads m above (omega (arith, upto, ap length c)) ∙ ap (λ ss. rows_of (get_or ss m []) n) (sym b);
  newest = λ m from. is.newest m (omega (arith, from, ap length c)) ∙ (λ i. rows_of (get_or (sym b i) (length (sym c i)) []) n);
  kept = λ f. is.kept f ∙ ap (sum_by f) (sym kept_same);
}
  where
    kept_same : kept_versions t pruned n ≡ kept_versions s pruned n
    kept_same =
        ap (λ m. filter (λ v. ends_after pruned v.until) (versions_of t n m)) (ap length c)
        ∙ ap (filter (λ v. ends_after pruned v.until)) (versions_alike s t n (last s) (λ k le. ap (λ ss. rows_of (get_or ss k []) n) b) (last s) (omega arith))

pub same_base : (s t : Visible) (pruned : ℕ) (b : BaseKept) → t.tables ≡ s.tables → t.snaps ≡ s.snaps → t.commits ≡ s.commits → kept_entries t pruned ≡ kept_entries s pruned → BaseStands s pruned b → BaseStands t pruned b
same_base s t pruned b x y z entries is = record {
  all = is.all ∙ ap length (sym x);
  each = λ n lt. same_tables s t pruned n (table_kept b.tables n) x y z (is.each n (subst (λ ts. n < length ts) x lt));
  entries_are = is.entries_are ∙ sym entries;
  number_is = is.number_is ∙ ap length (sym z);
  pruned_is = is.pruned_is;
}

pub point_within : (w : World) (v : ℕ) → IsSteady w → v < length w.visible.views → point w.upkeep v ≤ last w.visible
point_within w v steady lt = (steady.views v lt).within

pub session_moves : (w : World) (e : EngineKept) (session : ℕ) (o : Option Open) (k : Option TransactionKept) → StandsFor w e → GoesOn w.visible (with_session session o w.visible)
    → IsSteady (record { visible = with_session session o w.visible; upkeep = w.upkeep }) → SessionStands (with_session session o w.visible) o k
    → StandsFor (record { visible = with_session session o w.visible; upkeep = w.upkeep }) (with_transaction session k e)
session_moves w e session o k is on steady now = record {
  steady = steady;
  tables_are = is.tables_are;
  views_are = is.views_are;
  base_stands = same_base w.visible (with_session session o w.visible) w.upkeep.pruned e.base refl refl refl refl is.base_stands;
  upkeep_stands = record { points_are = is.upkeep_stands.points_are; marks_are = is.upkeep_stands.marks_are; claims_are = is.upkeep_stands.claims_are; all = is.upkeep_stands.all; each = is.upkeep_stands.each };
  views_stand = record { all = is.views_stand.all; each = λ v lt. view_goes_on w.visible (with_session session o w.visible) on (view_at w.visible.views v) (point w.upkeep v) (view_kept e.rows v) (point_within w v is.steady lt) (is.views_stand.each v lt) };
  sessions_stand = zip_set (SessionStands (with_session session o w.visible)) w.visible.sessions e.sessions session o k now (sessions_go_on w.visible (with_session session o w.visible) w.visible.sessions e.sessions refl (λ n le. refl) is.steady.sound.open_ones is.sessions_stand);
  journal_is = is.journal_is;
}

pub began_stands : (session : ℕ) (w : World) (e : EngineKept) → StandsFor w e → StandsFor (world_after (began session w.visible) w) (engine_began session e)
began_stands session w e is =
    session_moves w e session (Some (opened w.visible)) (Some (begun e.base.number)) is (began_goes_on session w.visible is.steady.sound) (began_steady session w is.steady)
    (record { snapshot_is = is.base_stands.number_is; actions_are = refl; changes_are = refl; own = λ p. refl })

pub rolled_back_stands : (session : ℕ) (w : World) (e : EngineKept) → StandsFor w e → StandsFor (world_after (rolled_back session w.visible) w) (engine_rolled_back session e)
rolled_back_stands session w e is = session_moves w e session None None is (rolled_back_goes_on session w.visible is.steady.sound) (rolled_back_steady session w is.steady) tt

-- ---- COMMIT
module _ (s : Visible) (sound : IsSound s) (session : ℕ) (o : Open) where
  abbrev pub after_commit : Visible
  after_commit = with_commit session o s

  one_more : last after_commit ≡ suc (last s)
  one_more = length_push s.commits o.actions ∙ (let e : last s + 1 ≡ suc (last s) = omega arith in e)

  pub snap_old : (k : ℕ) → k ≤ last s → snap after_commit k ≡ snap s k
  snap_old k le = get_or_append_left s.snaps (merged s o ∷ []) [] k (omega (arith, sound.states))

  snap_new : snap after_commit (suc (last s)) ≡ merged s o
  snap_new = get_or_push s.snaps (merged s o) [] (suc (last s)) sound.states

  commit_old : (k : ℕ) → k ≤ last s → commit_at after_commit.commits k ≡ commit_at s.commits k
  commit_old zero le = refl
  commit_old (suc k) le = get_or_append_left s.commits (o.actions ∷ []) [] k (omega arith)

  commit_new : commit_at after_commit.commits (suc (last s)) ≡ o.actions
  commit_new = get_or_push s.commits o.actions [] (last s) refl

  is_next : IsNext s after_commit
  is_next = record { one_more = one_more; rows = λ k table le. ap (λ db. rows_of db table) (snap_old k le); tables = refl }

  pub base_committed : (pruned : ℕ) (b next : BaseKept) → pruned ≤ last s → IsSound after_commit → IsOpen s o → conflict_of s o ≡ None → BaseStands s pruned b → BaseCommits s.tables o.actions b next → BaseStands after_commit pruned next
  base_committed pruned b next le sound_next live free is c = record {
    all = c.all ∙ is.all;
    each = λ t lt. table_commits s after_commit is_next t pruned (table_kept b.tables t) (table_kept next.tables t) le
        ((keyed_database s.tables (snap s (last s)) (sound.fits (last s) (omega arith))).up t lt)
        ((keyed_database s.tables (snap after_commit (suc (last s))) (sound_next.fits (suc (last s)) (omega (arith, one_more)))).up t lt)
        (is.each t lt)
        (subst (λ n. TableCommits n (net_of (rows_of (snap s (last s)) t) (rows_of (snap after_commit (suc (last s))) t)) (table_kept b.tables t) (table_kept next.tables t)) is.number_is
        (subst (λ net. TableCommits b.number net (table_kept b.tables t) (table_kept next.tables t)) (nets t lt) (c.each t (omega (arith, is.all, lt)))));
    entries_are = c.entries_are ∙ (λ i. is.entries_are i ++ map (delta_entry (suc (is.number_is i))) (sym commit_new i)) ∙ sym (entries_next s after_commit one_more commit_old pruned le);
    number_is = c.number_is ∙ ap suc is.number_is ∙ sym one_more;
    pruned_is = c.pruned_stays ∙ is.pruned_is;
  }
    where
      nets : (t : ℕ) → t < length s.tables → condensed s.tables o.actions t ≡ net_of (rows_of (snap s (last s)) t) (rows_of (snap after_commit (suc (last s))) t)
      nets t lt =
          condenses.condenses s.tables (snap s (last s)) o.actions t (sound.fits (last s) (omega arith)) (possible_now s sound o live free) lt
          ∙ ap (λ db. net_of (rows_of (snap s (last s)) t) (rows_of db t)) (sym (snap_new ∙ merged_is_replay s sound o live free))

  pub upkeep_committed : (u : Upkeep) (k : UpkeepKept) (j number : ℕ) → length u.points ≡ length s.views → ((v : ℕ) → v < length s.views → point u v ≤ last s) → number ≡ suc (last s) → UpkeepStands (record { visible = s; upkeep = u }) k
      → UpkeepStands (record { visible = after_commit; upkeep = record u { journal = j } }) (record k { tasks = with_tasks number o.actions s.views k.tasks })
  upkeep_committed u k j number points within e is = record {
    points_are = is.points_are;
    marks_are = is.marks_are;
    claims_are = is.claims_are;
    all = with_tasks_long number o.actions s.views k.tasks is.all;
    each = λ v lt.
        with_tasks_at number o.actions s.views k.tasks v is.all lt
        ∙ (λ i. with_task (e i) (actions_on (view_at s.views v) (sym commit_new i)) (is.each v lt i))
        ∙ sym (tasks_next s after_commit one_more commit_old (view_at s.views v) (point u v) (sound.created v lt) (within v lt));
  }

pub view_rows_committed : (w : World) (t : Visible) (j : ℕ) (rows : List ViewKept) → GoesOn w.visible t → t.views ≡ w.visible.views → IsSteady w → ViewsStand w rows → ViewsStand (record { visible = t; upkeep = record w.upkeep { journal = j } }) rows
view_rows_committed w t j rows on views steady is = record {
  all = is.all ∙ ap length (sym views);
  each = λ v lt.
      let there : v < length w.visible.views = subst (λ vs. v < length vs) views lt in
      subst (λ vs. ViewStands t (view_at vs v) (point w.upkeep v) (view_kept rows v)) (sym views)
      (view_goes_on w.visible t on (view_at w.visible.views v) (point w.upkeep v) (view_kept rows v) (point_within w v steady there) (is.each v there));
}

-- where nothing refuses it
pub committed_is : (outcome : Rec → Outcome) (session : ℕ) (s : Visible) → 0 < length (transaction session s).actions → conflict_of s (transaction session s) ≡ None → merged_full s (transaction session s) ≡ None
    → outcome (commit_record (transaction session s) s) ≡ good
    → committed outcome session s ≡ record { answer = Ok (Some (last s + 1)); next = with_commit session (transaction session s) s; written = Some (commit_record (transaction session s) s); attempted = Some (commit_record (transaction session s) s) }
committed_is outcome session s some free room written =
    let test : (length (transaction session s).actions == 0) ≡ false = grind (arith, nat_tests) in
    rw (test, free, room, written) refl

pub transaction_of : (s : Visible) (sessions : List (Option TransactionKept)) (session : ℕ) (k : TransactionKept) → SessionsStand s sessions → slice_index_or sessions session None ≡ Some k
    → TransactionStands s (transaction session s) k
transaction_of s sessions session k is e = by (slice_index_or s.sessions session None) refl (subst (SessionStands s (slice_index_or s.sessions session None)) e (zip_get (SessionStands s) s.sessions sessions session None None tt is))
  where
    by : (x : Option Open) → slice_index_or s.sessions session None ≡ x → SessionStands s x (Some k) → TransactionStands s (unwrap_or x (opened s)) k
    by None f h = absurd h
    by (Some o) f h = h

pub committed_stands : (outcome : Rec → Outcome) (session : ℕ) (w : World) (e : EngineKept) (k : TransactionKept) (base : BaseKept) → StandsFor w e → slice_index_or e.sessions session None ≡ Some k → 0 < length k.actions
    → conflict_of w.visible (transaction session w.visible) ≡ None → merged_full w.visible (transaction session w.visible) ≡ None → outcome (Commit (e.base.number + 1) k.actions) ≡ good → BaseCommits e.tables k.actions e.base base
    → StandsFor (world_after (committed outcome session w.visible) w) (engine_committed session k base e)
committed_stands outcome session w e k base is at some free room written c =
    subst (λ (x : Case (Option ℕ)). StandsFor (world_after x w) (engine_committed session k base e)) (sym now)
    (record {
      steady = steady_next;
      tables_are = is.tables_are;
      views_are = is.views_are;
      base_stands = base_committed s sound session o w.upkeep.pruned e.base base pruned_last steady_next.sound (transaction_live s session sound) free is.base_stands
          (subst (λ acts. BaseCommits s.tables acts e.base base) kt.actions_are (subst (λ ts. BaseCommits ts k.actions e.base base) is.tables_are c));
      upkeep_stands =
          subst (λ acts. UpkeepStands next (record e.upkeep { tasks = with_tasks (suc e.base.number) acts e.views e.upkeep.tasks })) (sym kt.actions_are)
          (subst (λ vs. UpkeepStands next (record e.upkeep { tasks = with_tasks (suc e.base.number) o.actions vs e.upkeep.tasks })) (sym is.views_are)
          (upkeep_committed s sound session o w.upkeep e.upkeep (need w.upkeep (commit_record o s)) (suc e.base.number) is.steady.points (λ v lt. point_within w v is.steady lt) (ap suc is.base_stands.number_is) is.upkeep_stands));
      views_stand = view_rows_committed w (with_commit session o s) (need w.upkeep (commit_record o s)) e.rows (subst (λ (x : Case (Option ℕ)). GoesOn s x.next) now (committed_goes_on outcome session s sound)) refl is.steady is.views_stand;
      sessions_stand = zip_set (SessionStands (with_commit session o s)) s.sessions e.sessions session None None tt
          (sessions_go_on s (with_commit session o s) s.sessions e.sessions refl (λ n le. snap_old s sound session o n le) sound.open_ones is.sessions_stand);
      journal_is = (λ i. journal_with (Commit (is.base_stands.number_is i + 1) (kt.actions_are i)) (is.journal_is i));
    })
  where
    s : Visible
    s = w.visible

    o : Open
    o = transaction session w.visible

    sound : IsSound w.visible
    sound = is.steady.sound

    kt : TransactionStands w.visible (transaction session w.visible) k
    kt = transaction_of w.visible e.sessions session k is.sessions_stand at

    one : Rec
    one = commit_record (transaction session w.visible) w.visible

    same_record : Commit (e.base.number + 1) k.actions ≡ one
    same_record = λ i. Commit (is.base_stands.number_is i + 1) (kt.actions_are i)

    now : committed outcome session w.visible ≡ record { answer = Ok (Some (last w.visible + 1)); next = with_commit session (transaction session w.visible) w.visible; written = Some (commit_record (transaction session w.visible) w.visible); attempted = Some (commit_record (transaction session w.visible) w.visible) }
    now = committed_is outcome session w.visible (subst (λ (acts : List Action). 0 < length acts) kt.actions_are some) free room (ap outcome (sym same_record) ∙ written)

    next : World
    next = record { visible = with_commit session (transaction session w.visible) w.visible; upkeep = record w.upkeep { journal = need w.upkeep (commit_record (transaction session w.visible) w.visible) } }

    steady_next : IsSteady next
    steady_next = subst (λ (x : Case (Option ℕ)). IsSteady (world_after x w)) now (committed_steady outcome session w is.steady)

    pruned_last : w.upkeep.pruned ≤ last w.visible
    pruned_last = omega (arith, is.steady.pruned, floor_last w)
