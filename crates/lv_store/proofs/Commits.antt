-- Commits of parts that stand for a world.
use Rattle.std.proofs.Common.{◌≡◌, ℕ, zero, suc, ◌+◌, ◌<◌, ◌≤◌, true, false, cond, List, length, Option, Some, None, refl, sym, ap, ap₂, ◌∙◌, subst, arith}
use Rattle.std.specs.Prelude.{◌==◌, filter, nat_lt, option_map, slice_get, slice_set, unwrap_or}
use Rattle.std.specs.List.{AllByRecursion, list_all, range_with_len}
use Rattle.std.proofs.lemmas.Bool.Decides.{nat_tests}
use Rattle.std.proofs.lemmas.List.{length-map}
use Rattle.lv_values.specs.Room.{Roomy}
use Rattle.lv_schema.specs.declared.action.Action.{Action}
use Rattle.lv_schema.specs.declared.fault.Fault.{Fault}
use Rattle.lv_schema.specs.declared.fault.Fault.TheVariants.{MergedFull}
use Rattle.lv_schema.specs.declared.net.Net.{Net}
use Rattle.lv_schema.specs.declared.rec.Rec.{Rec}
use Rattle.lv_schema.specs.declared.rec.Rec.TheVariants.{Commit}
use Rattle.lv_schema.specs.declared.table.TableDef.{TableDef}
use Rattle.lv_schema.specs.Cases.{Case, Outcome, answered, closed, committed, committed_unless, good, if_written, refused}
use Rattle.lv_schema.specs.Cases as cases
use Rattle.lv_schema.specs.Records.{commit_record}
use Rattle.lv_schema.specs.Commits.{conflict_in, conflict_of}
use Rattle.lv_schema.specs.Condensed.{condensed}
use Rattle.lv_schema.specs.SoundWorld.{CanAct}
use Rattle.lv_schema.specs.WholeWorld.{world_after}
use Rattle.lv_schema.specs.World.{World, last, snap, table_at, transaction, view_at}
use Rattle.lv_schema.proofs.FirstCommitter.{possible_now}
use Rattle.lv_schema.proofs.SoundSteps.{transaction_live}
use Rattle.lv_schema.specs.Catalog.{Catalog}
use Rattle.lv_overlay.specs.Puts.{StandUnder}
use Rattle.lv_txn.specs.Kept.{IsLive, TransactionKept, begun, transaction_at, transaction_of}
use Rattle.lv_stands.specs.Kept.{BaseKept, EngineKept, TableKept, shown, table_kept}
use Rattle.lv_stands.specs.Moves.{BaseCommits, commit_kept, engine_committed, full_in, refusal_in, rows_after, with_tasks}
use Rattle.lv_stands.specs.Stands.{BaseStands, StandsFor, TransactionStands}
use Rattle.lv_stands.proofs.CommitCases.{commit_stands}
use Rattle.lv_stands.proofs.Refusals.{conflict_is, refusal_is}
use Rattle.lv_stands.proofs.Statements as stands
use Rattle.lv_stands.proofs.Tasks.{filter_alike}
use Rattle.lv_upkeep.specs.Kept.{UpkeepKept}
use Rattle.lv_versions.specs.Versions.{Kept}
use Rattle.lv_viewrows.specs.Kept as viewrows
use Rattle.lv_base.specs.declared.ready.Ready.{Ready}
use Rattle.lv_base.specs.Bases.{BaseRoom, CanCommit, IsReady, base_of, defs_of}
use Rattle.lv_base.proofs.Places.{kept_at}
use Rattle.lv_base.proofs.Told.{told_commit, told_tables}
use Rattle.lv_made.specs.Limits.{is_full}
use Rattle.lv_store.specs.declared.store.Store.{Store}
use Rattle.lv_store.specs.Answering.{wrote}
use Rattle.lv_store.specs.declared.settings.Settings.{Settings}
use Rattle.lv_store.specs.Committing.{MayCommit, next_record, with_commit}
use Rattle.lv_store.specs.Kept.{IsStore, Stands, StoreKept, is_used, kept, rows_in, store_of}
use Rattle.lv_store.proofs.Standing.{any_journal, each_set, live_at}

-- a number that a test finds to be 0, or not
pub is_none : (n : ℕ) → n == 0 ≡ true → n ≡ 0
is_none n e = grind (arith, nat_tests)

pub is_more : (n : ℕ) → n == 0 ≡ false → 0 < n
is_more n e = grind (arith, nat_tests)

module _ (p : Store) (session : ℕ) (whole : IsStore p) (live : IsLive p.txns session) where
  -- without a conflict the last state can take the actions
  pub can_commit : conflict_in p.schema.tables p.base.deltas.entries (transaction_of p.txns session).snapshot (transaction_of p.txns session).actions ≡ None → CanCommit p.base (transaction_of p.txns session).actions
  can_commit none =
      let w = whole.world in
      let s = w.visible in
      let is = whole.stands in
      let k = transaction_of p.txns session in
      let at = live_at p.txns session live in
      let kt = stands.transaction_of s p.txns session k is.sessions_stand at in
      let free : conflict_of s (transaction session s) ≡ None = sym (conflict_is w (kept w.upkeep.journal (store_of p)) session k is at) ∙ none in
      let may = possible_now s is.steady.sound (transaction session s) (transaction_live s session is.steady.sound) free in
      told_commit s w.upkeep.pruned p.base is.base_stands k.actions is.steady.sound (subst (λ (actions : List Action). CanAct s.tables (snap s (last s)) actions) (sym kt.actions_are) may)

  -- the first table that would be full is told from what is prepared
  module _ (base : BaseRoom) (nets : List Net) (same : base_of base ≡ base_of p.base) (ready : IsReady base (transaction_of p.txns session).actions nets) where
    tables_same : defs_of base ≡ p.schema.tables
    tables_same =
        let w = whole.world in
        let is = whole.stands in
        told_tables w.visible w.upkeep.pruned base (subst (λ (b : BaseKept). BaseStands w.visible w.upkeep.pruned b) (sym same) is.base_stands) ∙ sym is.tables_are

    each_told : (t : ℕ) → t < length base.tables
        → is_full base nets t ≡ nat_lt 65535 (rows_after (length (shown (base_of base).number (table_kept (base_of base).tables t).versions)) (condensed p.schema.tables (transaction_of p.txns session).actions t))
    each_told t lt = ap₂ (λ (k : TableKept) (net : Net). nat_lt 65535 (rows_after (length (shown base.number k.versions)) net)) (sym (kept_at base.tables t))
        (ready.each t lt ∙ ap (λ (defs : List TableDef). condensed defs (transaction_of p.txns session).actions t) tables_same)

    each_range : (a n b : ℕ) → a + n ≤ b → b ≤ length base.tables
        → AllByRecursion (λ t. is_full base nets t ≡ nat_lt 65535 (rows_after (length (shown (base_of base).number (table_kept (base_of base).tables t).versions)) (condensed p.schema.tables (transaction_of p.txns session).actions t))) (range_with_len a n)
    each_range a zero b le all = tt
    each_range a (suc n) b le all = (each_told a (omega (arith, le, all)), each_range (a + 1) n b (omega (arith, le)) all)

    long : length p.schema.tables ≡ length base.tables
    long = ap length (sym tables_same) ∙ length-map base.tables (λ (k : Kept). k.def)

    pub full_told : (found : Option ℕ) → found ≡ slice_get (filter (is_full base nets) (range_with_len 0 (length nets))) 0 → full_in p.schema.tables (base_of p.base) (transaction_of p.txns session).actions ≡ option_map MergedFull found
    full_told found e =
        ap (λ (b : BaseKept). full_in p.schema.tables b (transaction_of p.txns session).actions) (sym same)
        ∙ ap (λ ts. option_map MergedFull (slice_get ts 0))
        (sym (filter_alike (λ t. nat_lt 65535 (rows_after (length (shown (base_of base).number (table_kept (base_of base).tables t).versions)) (condensed p.schema.tables (transaction_of p.txns session).actions t))) (is_full base nets)
        (range_with_len 0 (length p.schema.tables)) (each_range 0 (length p.schema.tables) (length p.schema.tables) (omega arith) (omega (arith, long)))))
        ∙ ap (λ n. option_map MergedFull (slice_get (filter (is_full base nets) (range_with_len 0 n)) 0)) (long ∙ sym ready.all)
        ∙ ap (option_map MergedFull) (sym e)

  -- ---- what a commit is, told from what is kept
  module _ (w : World) (is : Stands w (store_of p)) (outcome : Rec → Outcome) where
    abbrev k_now : TransactionKept
    k_now = transaction_of p.txns session

    at_now : transaction_at p.txns session ≡ Some k_now
    at_now = live_at p.txns session live

    kt : TransactionStands w.visible (transaction session w.visible) k_now
    kt = stands.transaction_of w.visible p.txns session k_now is.sessions_stand at_now

    committed_told : committed outcome session w.visible
        ≡ cond {A = Case (Option ℕ)} (length k_now.actions == 0) (answered None (closed session w.visible)) (committed_unless (refusal_in (kept 0 (store_of p)) k_now) outcome session (transaction session w.visible) w.visible)
    committed_told = λ i. cond {A = Case (Option ℕ)} (length (sym kt.actions_are i) == 0) (answered None (closed session w.visible))
        (committed_unless (sym (refusal_is w (kept w.upkeep.journal (store_of p)) session k_now is at_now) i) outcome session (transaction session w.visible) w.visible)

    some_actions : 0 < length k_now.actions → length k_now.actions == 0 ≡ false
    some_actions lt = grind (arith, nat_tests)

    pub commit_of_none : length k_now.actions ≡ 0 → committed outcome session w.visible ≡ answered None (closed session w.visible)
    commit_of_none none = let zero : length k_now.actions == 0 ≡ true = rw none refl in committed_told ∙ rw zero refl

    pub commit_refused : (fault : Fault) → 0 < length k_now.actions → refusal_in (kept 0 (store_of p)) k_now ≡ Some fault → committed outcome session w.visible ≡ refused fault (closed session w.visible)
    commit_refused fault lt refusal = let some = some_actions lt in committed_told ∙ rw (some, refusal) refl

    -- the record of the commit
    same_record : commit_record (transaction session w.visible) w.visible ≡ next_record (store_of p) k_now.actions
    same_record = λ i. Commit (sym is.base_stands.number_is i + 1) (sym kt.actions_are i)

    pub commit_written : 0 < length k_now.actions → refusal_in (kept 0 (store_of p)) k_now ≡ None
        → committed outcome session w.visible
        ≡ if_written (outcome (next_record (store_of p) k_now.actions)) (next_record (store_of p) k_now.actions) (Some (p.base.number + 1)) (cases.with_commit session (transaction session w.visible) w.visible) w.visible
    commit_written lt none =
        let some = some_actions lt in
        let here : cond {A = Case (Option ℕ)} (length k_now.actions == 0) (answered None (closed session w.visible)) (committed_unless (refusal_in (kept 0 (store_of p)) k_now) outcome session (transaction session w.visible) w.visible)
        ≡ committed_unless None outcome session (transaction session w.visible) w.visible = rw (some, none) refl in
        committed_told ∙ here
        ∙ λ i. if_written (outcome (same_record i)) (same_record i) (Some (sym is.base_stands.number_is i + 1)) (cases.with_commit session (transaction session w.visible) w.visible) w.visible

  -- ---- what stands with the record of a commit
  pub ends_written : (w : World) (is : Stands w (store_of p)) (base : BaseKept) → 0 < length (transaction_of p.txns session).actions → refusal_in (kept 0 (store_of p)) (transaction_of p.txns session) ≡ None
      → BaseCommits p.schema.tables (transaction_of p.txns session).actions (base_of p.base) base
      → Stands (wrote (next_record (store_of p) (transaction_of p.txns session).actions) (cases.with_commit session (transaction session w.visible) w.visible) w) (with_commit session (transaction_of p.txns session).actions base (store_of p))
  ends_written w is base lt refusal commits =
      let e = kept w.upkeep.journal (store_of p) in
      let k = transaction_of p.txns session in
      let some : length k.actions == 0 ≡ false = some_actions w is (λ r. good) lt in
      let here : refusal_in e k ≡ None = refusal in
      let left : commit_kept (λ r. good) session k base e ≡ engine_committed session k base e = rw (some, here) refl in
      let c = commit_stands (λ r. good) session w e k base is (live_at p.txns session live) (λ h. commits) in
      let after = world_after (committed (λ r. good) session w.visible) w in
      subst (λ (c : Case (Option ℕ)). Stands (world_after c w) (with_commit session k.actions base (store_of p))) (commit_written w is (λ r. good) lt refusal)
      (any_journal after (engine_committed session k base e).journal (with_commit session k.actions base (store_of p)) (subst (λ (x : EngineKept). StandsFor after x) left c.1))

-- ---- what stands after it
module _ (p new : Store) (session : ℕ) (ready : Ready) (whole : IsStore p) (live : IsLive p.txns session) (some : 0 < length ready.actions) (may : MayCommit (store_of p) (transaction_of p.txns session) p ready)
    (commits : BaseCommits (store_of p).tables ready.actions (store_of p).base (store_of new).base) (after : store_of new ≡ with_commit session ready.actions (store_of new).base (store_of p)) where
  some_here : 0 < length (transaction_of p.txns session).actions
  some_here = subst (λ (actions : List Action). 0 < length actions) may.actions_are some

  pub written_stands : (w : World) → Stands w (store_of p) → Stands (wrote (next_record (store_of p) ready.actions) (cases.with_commit session (transaction session w.visible) w.visible) w) (store_of new)
  written_stands w is =
      let k = transaction_of p.txns session in
      let base = (store_of new).base in
      let here : BaseCommits p.schema.tables k.actions (base_of p.base) base =
      subst (λ (actions : List Action). BaseCommits p.schema.tables actions (base_of p.base) base) may.actions_are commits in
      let c = ends_written p session whole live w is base some_here may.free here in
      subst (λ (e : StoreKept). Stands (wrote (next_record (store_of p) ready.actions) (cases.with_commit session (transaction session w.visible) w.visible) w) e) (sym after)
      (subst (λ (actions : List Action). Stands (wrote (next_record (store_of p) actions) (cases.with_commit session (transaction session w.visible) w.visible) w) (with_commit session actions base (store_of p))) (sym may.actions_are) c)

  pub written_whole : new.rows ≡ p.rows → new.schema ≡ p.schema → IsStore new
  written_whole rows schema =
      let sessions : new.txns ≡ slice_set p.txns session None = ap (λ (e : StoreKept). e.sessions) after in
      record {
        combines = subst (λ (s : Settings). 0 < s.combine) (sym (ap (λ (e : StoreKept). e.settings) after)) whole.combines;
        world = wrote (next_record (store_of p) ready.actions) (cases.with_commit session (transaction session whole.world.visible) whole.world.visible) whole.world;
        stands = written_stands whole.world whole.stands;
        defs = subst (λ (r : Roomy viewrows.ViewKept). (v : ℕ) → v < length r.list → (rows_in r.list v).def ≡ view_at new.schema.views v) (sym rows)
            (subst (λ (c : Catalog). (v : ℕ) → v < length p.rows.list → (rows_in p.rows.list v).def ≡ view_at c.views v) (sym schema) whole.defs);
        under = λ i n. subst (λ (ts : List (Option TransactionKept)). StandUnder (table_at new.schema.tables n).key n (transaction_of ts i).puts) (sym sessions)
            (subst (λ (c : Catalog). StandUnder (table_at c.tables n).key n (transaction_of (slice_set p.txns session None) i).puts) (sym schema)
            (each_set (λ o. StandUnder (table_at p.schema.tables n).key n (unwrap_or o (begun 0)).puts) None p.txns session refl (λ m. whole.under m n) i));
        used = λ i. subst (λ (ts : List (Option TransactionKept)). list_all (is_used new.schema.tables) (transaction_of ts i).puts ≡ true) (sym sessions)
            (subst (λ (c : Catalog). list_all (is_used c.tables) (transaction_of (slice_set p.txns session None) i).puts ≡ true) (sym schema)
            (each_set (λ o. list_all (is_used p.schema.tables) (unwrap_or o (begun 0)).puts ≡ true) None p.txns session refl whole.used i));
      }

-- what is kept once the tasks are added and the transaction has ended
pub kept_then : (p new : Store) (session number : ℕ) (actions now : List Action) (u : UpkeepKept) (txns : List (Option TransactionKept)) → number ≡ p.base.number → now ≡ actions
    → u ≡ record p.upkeep.kept { tasks = with_tasks (number + 1) now p.schema.views p.upkeep.kept.tasks } → txns ≡ slice_set p.txns session None → store_of new ≡ record (store_of p) { base = (store_of new).base; upkeep = u; sessions = txns }
    → store_of new ≡ with_commit session actions (store_of new).base (store_of p)
kept_then p new session number actions now u txns number_is now_is upkeep ended is =
    let next : number + 1 ≡ suc p.base.number = omega (arith, number_is) in
    let tasks : u ≡ record p.upkeep.kept { tasks = with_tasks (suc p.base.number) actions p.schema.views p.upkeep.kept.tasks } = upkeep ∙ λ i. record p.upkeep.kept { tasks = with_tasks (next i) (now_is i) p.schema.views p.upkeep.kept.tasks } in
    is ∙ λ i. record (store_of p) { base = (store_of new).base; upkeep = tasks i; sessions = ended i }
