-- A change outside a transaction is told by the transaction that BEGIN and the change would have opened.
use Rattle.std.proofs.Common.{◌≡◌, ℕ, zero, suc, ◌+◌, ◌^◌, ◌<◌, ◌≤◌, Bool, true, false, ◌&&◌, cond, List, [], ◌∷◌, ◌++◌, filter, map, length, Option, Some, None, Result, Ok, Err, refl, sym, ap, ap₂, ◌∙◌, subst, arith}
use Rattle.std.specs.Prelude.{is_some, nat_lt, option_map, slice_get, slice_index_or, slice_set, unwrap_or}
use Rattle.std.specs.List.{filter_map, last_or, list_all}
use Rattle.std.proofs.lemmas.Bool.Decides.{nat_tests}
use Rattle.std.proofs.lemmas.List.Elements.{filter-append}
use Rattle.std.proofs.lemmas.List.{length-map, length-set, set-set}
use Rattle.lv_schema.specs.declared.action.Action.{Action}
use Rattle.lv_schema.specs.declared.change.Change.{Change}
use Rattle.lv_schema.specs.declared.fault.Fault.{Fault}
use Rattle.lv_schema.specs.declared.fault.Fault.TheVariants.{Conflict, MergedFull}
use Rattle.lv_schema.specs.declared.net.Net.{Net}
use Rattle.lv_schema.specs.declared.open.Open.{Open}
use Rattle.lv_schema.specs.declared.rec.Rec.{Rec}
use Rattle.lv_schema.specs.declared.table.TableDef.{TableDef}
use Rattle.lv_schema.specs.Bound.{IsBoundChange}
use Rattle.lv_schema.specs.Cases.{Case, Outcome, good, failed, full, alone, alone_committed, answered, began, changed, changed_by, closed, committed, if_written, numbered, refused, with_commit, with_count}
use Rattle.lv_schema.specs.Commits.{Place, conflict_in, conflict_of, first_conflict, last_writer, place_cmp, writes, written_place}
use Rattle.lv_schema.specs.Effects.{Effect, changed_table, effect_of, effect_on, first_fault}
use Rattle.lv_schema.specs.UpkeepCases.{with_record}
use Rattle.lv_schema.specs.WholeWorld.{world_after}
use Rattle.lv_schema.specs.World.{Visible, World, commit_at, last, numbers, opened, table_at, transaction}
use Rattle.lv_values.specs.Ascending.{ascending}
use Rattle.lv_effect.specs.declared.fault.EffectFault.{EffectFault}
use Rattle.lv_effect.specs.declared.fault.EffectFault.TheVariants.{Stmt, NoMemory}
use Rattle.lv_effect.specs.Answered.{GivesEffect}
use Rattle.lv_overlay.specs.declared.put.Put.{Put}
use Rattle.lv_overlay.specs.Puts.{PutsTake, rows_over}
use Rattle.lv_versions.specs.Versions.{Kept, state_at}
use Rattle.lv_effect.specs.Sums.{ChangeSumsFit}
use Rattle.lv_upkeep.specs.Kept.{UpkeepKept, UpkeepRoom}
use Rattle.lv_txn.specs.Kept.{IsLive, SessionChanges, TransactionKept, begun, transaction_at, transaction_of}
use Rattle.lv_txn.specs.Written.{put_of}
use Rattle.lv_stands.specs.Moves.{BaseCommits, full_in, refusal_in, with_puts, with_tasks}
use Rattle.lv_stands.specs.Stands.{SessionStands}
use Rattle.lv_stands.proofs.Changes.{writes_can_take}
use Rattle.lv_stands.proofs.Lists.{zip_get}
use Rattle.lv_stands.proofs.Refusals.{conflict_is}
use Rattle.lv_stands.proofs.Statements.{began_stands}
use Rattle.lv_stands.proofs.Statements as stands
use Rattle.lv_stands.proofs.Whole.{lengths_are}
use Rattle.lv_base.specs.Bases.{BaseRoom, CanCommit, IsReady, base_of, table_in}
use Rattle.lv_base.specs.declared.ready.Ready.{Ready}
use Rattle.lv_made.specs.Limits.{is_full}
use Rattle.std.specs.List.{range_with_len}
use Rattle.lv_store.specs.declared.committing.Prepared.{Prepared}
use Rattle.lv_store.specs.declared.committing.Prepared.TheVariants as prepared
use Rattle.lv_store.specs.declared.store.Store.{Store}
use Rattle.lv_store.specs.Alone.{IsEffectAlone, IsRefused, MayCommitAlone, alone_kept, made_alone, with_alone}
use Rattle.lv_store.specs.Answering.{effect_fault, with_visible, wrote}
use Rattle.lv_store.specs.Committing.{MayCommit, next_record, with_commit as kept_commit}
use Rattle.lv_store.specs.Kept.{IsStore, Stands, StoreKept, kept, store_of}
use Rattle.lv_store.proofs.ChangedParts.{BoundSumsFit, WrittenStand, changed_meets, changed_whole, effect_given, sums_given}
use Rattle.lv_store.proofs.Commits.{can_commit, commit_of_none, commit_refused, commit_written, full_told, kept_then, written_stands, written_whole}
use Rattle.lv_store.proofs.Standing.{begun_live, begun_stands, live_at, set_there, with_transactions}

-- ---- nothing is committed above the last commit
none_later : (p : ℕ → Bool) (m n : ℕ) → n ≤ m → filter (λ k. nat_lt m k && p k) (numbers n) ≡ []
none_later p m zero le = refl
none_later p m (suc n) le =
    let no : nat_lt m (suc n) ≡ false = grind (arith, nat_tests) in
    filter-append (λ k. nat_lt m k && p k) (numbers n) (suc n ∷ [])
    ∙ ap₂ (λ (a b : List ℕ). a ++ b) (none_later p m n (omega (arith, le))) (ap (λ t. cond (t && p (suc n)) (suc n ∷ []) []) no)

no_places : (places : List Place) → filter_map (λ (at : Place). option_map (Conflict at.0 at.1) None) places ≡ []
no_places [] = refl
no_places (p ∷ places) = no_places places

pub no_conflict_at_last : (s : Visible) (o : Open) → o.snapshot ≡ last s → conflict_of s o ≡ None
no_conflict_at_last s o same =
    (λ i. first_conflict s.tables (λ at. nobody at i) o.actions) ∙ ap (λ (fs : List Fault). slice_get fs 0) (no_places (ascending place_cmp (map (written_place s.tables) o.actions)))
  where
    nobody : (at : Place) → last_writer s o.snapshot at ≡ None
    nobody at = ap (λ n. last_writer s n at) same ∙ ap (λ (ks : List ℕ). last_or None ks) (none_later (λ k. writes s.tables (commit_at s.commits k) at) (last s) (last s) (omega arith))

-- ---- actions with the number of their change make the same writes
puts_numbered : (tables : List TableDef) (k : ℕ) (actions : List Action) (puts : List Put) → with_puts tables (numbered k actions) puts ≡ with_puts tables actions puts
puts_numbered tables k [] puts = refl
puts_numbered tables k (a ∷ actions) puts = puts_numbered tables k actions (put_of tables a ∷ puts)

puts_only : (tables : List TableDef) (test : Put → Bool) (actions : List Action) (puts : List Put) → list_all test (map (put_of tables) actions) ≡ true → list_all test puts ≡ true → list_all test (with_puts tables actions puts) ≡ true
puts_only tables test [] puts e f = f
puts_only tables test (a ∷ actions) puts e f = by (test (put_of tables a)) refl e (puts_only tables test actions (put_of tables a ∷ puts))
  where
    by : (b : Bool) → test (put_of tables a) ≡ b → (b && list_all test (map (put_of tables) actions)) ≡ true → (list_all test (map (put_of tables) actions) ≡ true → list_all test (put_of tables a ∷ puts) ≡ true → list_all test (with_puts tables actions (put_of tables a ∷ puts)) ≡ true)
        → list_all test (with_puts tables actions (put_of tables a ∷ puts)) ≡ true
    by true is rest go = go rest (ap (λ b. b && list_all test puts) is ∙ f)
    by false is rest go = absurd cc

-- ---- tests
pub some_there : {A : Type 0} (xs : List A) (b : Bool) → (xs ≡ [] → b ≡ true) → b ≡ false → 0 < length xs
some_there [] b to fails = absurd (let holds = to refl in cc)
some_there (x ∷ xs) b to fails = omega arith

-- the commit that is ready, if one is
ready_of : Ready → Prepared → Ready
ready_of d prepared.Nothing = d
ready_of d (prepared.Ready r) = r

answered_ready : Ready → Result (ℕ × Prepared) EffectFault → Ready
answered_ready d (Ok done) = ready_of d done.1
answered_ready d (Err fault) = d

pub same_ready : (n m : ℕ) (a b : Ready) → ◌≡◌ {A = Result (ℕ × Prepared) EffectFault} (Ok (n, prepared.Ready a)) (Ok (m, prepared.Ready b)) → a ≡ b
unfolding answered_ready ready_of
same_ready n m a b e = ap (answered_ready a) e

pub second_none : (a b : Option Fault) → first_fault a b ≡ None → b ≡ None
second_none None b e = e
second_none (Some f) b e = absurd cc

-- ---- the transaction that is opened
opened_there : (xs : List (Option Open)) (k : ℕ) (o : Open) → unwrap_or (slice_index_or (slice_set xs k (Some o)) k None) o ≡ o
opened_there [] k o = refl
opened_there (x ∷ xs) zero o = refl
opened_there (x ∷ xs) (suc k) o = opened_there xs k o

set_none : {X : Type 0} (xs : List (Option X)) (k : ℕ) → slice_index_or xs k None ≡ None → slice_set xs k None ≡ xs
set_none [] k e = refl
set_none {X} (x ∷ xs) zero e = ap (λ (y : Option X). y ∷ xs) (sym e)
set_none {X} (x ∷ xs) (suc k) e = ap (λ (ys : List (Option X)). x ∷ ys) (set_none xs k e)

both_none : (s : Visible) (o : Option Open) (t : Option TransactionKept) → SessionStands s o t → t ≡ None → o ≡ None
both_none s None t h e = refl
both_none s (Some o) None h e = absurd h
both_none s (Some o) (Some t) h e = absurd cc

free_there : (p : Store) (w : World) (session : ℕ) → Stands w (store_of p) → transaction_at p.txns session ≡ None → slice_index_or w.visible.sessions session None ≡ None
free_there p w session is free = both_none w.visible _ _ (zip_get (SessionStands w.visible) w.visible.sessions p.txns session None None tt is.sessions_stand) free

-- a change writes no record
module _ (session : ℕ) (change : Change) (s : Visible) where
  unwritten : (changed session change s).written ≡ None
  unwritten = by (effect_of s.tables change (transaction session s).own)
    where
      by : (e : Result Effect Fault) → (changed_by e session (transaction session s) s).written ≡ None
      by (Err fault) = refl
      by (Ok effect) = refl

-- where a session is closed after its change, all is as it was
closed_again : (session : ℕ) (change : Change) (s : Visible) → slice_index_or s.sessions session None ≡ None → closed session (made_alone session change s) ≡ s
closed_again session change s free = by (effect_of begun_now.tables change o.own)
  where
    begun_now : Visible
    begun_now = (began session s).next

    o : Open
    o = transaction session begun_now

    once : slice_set (slice_set s.sessions session (Some (opened s))) session None ≡ s.sessions
    once = set-set s.sessions session (Some (opened s)) None ∙ set_none s.sessions session free

    by : (e : Result Effect Fault) → closed session (changed_by e session o begun_now).next ≡ s
    by (Err fault) = ap (λ (xs : List (Option Open)). record s { sessions = xs }) once
    by (Ok effect) = ap (λ (xs : List (Option Open)). record s { sessions = xs }) (set-set _ session _ None ∙ once)

-- what a change alone is, by what its commit is
written_alone : (count number : ℕ) (rec : Rec) (next made s : Visible) (out : Outcome) → with_count count (if_written out rec (Some number) next made).answer (if_written out rec (Some number) next made) s ≡ if_written out rec (count, Some number) next s
written_alone count number rec next made s good = refl
written_alone count number rec next made s failed = refl
written_alone count number rec next made s (full need limit) = refl

module _ (p : Store) (whole : IsStore p) (session : ℕ) (inside : session < 17) where
  abbrev number : ℕ
  number = p.base.number

  abbrev opened_txns : List (Option TransactionKept)
  opened_txns = slice_set p.txns session (Some (begun number))

  abbrev opened_store : Store
  opened_store = record p { txns = opened_txns }

  abbrev opening : World → World
  opening w = world_after (began session w.visible) w

  all : length p.txns ≡ 17
  all = (lengths_are whole.world (kept whole.world.upkeep.journal (store_of p)) whole.stands).1

  opened_stands : (w : World) → Stands w (store_of p) → Stands (opening w) (store_of opened_store)
  opened_stands w is = (begun_stands began_stands p opened_txns session number refl refl w is).1

  opened_whole : IsStore opened_store
  opened_whole = with_transactions p opened_txns session (Some (begun number)) whole refl (λ n. refl) (opening whole.world) (opened_stands whole.world whole.stands)

  opened_at : transaction_at opened_txns session ≡ Some (begun number)
  opened_at = begun_live p opened_txns session number refl refl all inside

  opened_live : IsLive opened_txns session
  opened_live = ap (λ (t : Option TransactionKept). is_some t) opened_at

  opened_is : transaction_of opened_txns session ≡ begun number
  opened_is = ap (λ (t : Option TransactionKept). unwrap_or t (begun 0)) opened_at

  -- what a change is worked out from
  module _ (change : Change) (bound : IsBoundChange p.schema.tables change) (table : TableDef) (base : Kept) (n : ℕ) (puts : List Put) (table_is : table ≡ table_at p.schema.tables (changed_table change)) (base_is : base ≡ table_in p.base.tables (changed_table change))
      (n_is : n ≡ p.base.number) (puts_are : puts ≡ []) where
    here : n ≡ (transaction_of opened_txns session).snapshot
    here = n_is ∙ ap (λ (t : TransactionKept). t.snapshot) (sym opened_is)

    no_puts : puts ≡ (transaction_of opened_txns session).puts
    no_puts = puts_are ∙ ap (λ (t : TransactionKept). t.puts) (sym opened_is)

    pub alone_sums : BoundSumsFit → ChangeSumsFit change (rows_over table.key puts table.no (state_at n base.versions))
    alone_sums fit = sums_given opened_store session opened_whole opened_live change bound table base n puts table_is base_is here no_puts fit

    pub alone_effect : (w : World) → Stands w (store_of p) → effect_on table change (rows_over table.key puts table.no (state_at n base.versions)) ≡ effect_of w.visible.tables change (opened w.visible).own
    alone_effect w is =
        effect_given opened_store session opened_whole opened_live change bound table base n puts table_is base_is here no_puts (opening w) (opened_stands w is)
        ∙ ap (λ (o : Open). effect_of w.visible.tables change o.own) (opened_there w.visible.sessions session (opened w.visible))

  -- with the actions of its change
  module _ (written : WrittenStand) (change : Change) (count : ℕ) (actions : List Action) (effect : IsEffectAlone (store_of p) change count actions) where
    abbrev acts : List Action
    acts = numbered 1 actions

    abbrev alone_one : TransactionKept
    alone_one = alone_kept (store_of p) acts

    abbrev alone_txns : List (Option TransactionKept)
    alone_txns = slice_set p.txns session (Some alone_one)

    abbrev alone_store : Store
    alone_store = with_alone session acts p

    alone_at : transaction_at alone_txns session ≡ Some alone_one
    alone_at = set_there None (Some alone_one) p.txns session (omega (arith, inside, all))

    pub alone_live : IsLive alone_txns session
    alone_live = ap (λ (t : Option TransactionKept). is_some t) alone_at

    pub alone_is : transaction_of alone_txns session ≡ alone_one
    alone_is = ap (λ (t : Option TransactionKept). unwrap_or t (begun 0)) alone_at

    noted : SessionChanges p.schema.tables actions session opened_txns alone_txns
    noted = record {
      is = sym (set-set p.txns session (Some (begun number)) (Some alone_one)) ∙ ap (λ t. slice_set opened_txns session (Some t)) (sym alone_is);
      changes = record {
        is = alone_is ∙ λ i. record {
          snapshot = (sym opened_is i).snapshot;
          puts = (sym alone_is i).puts;
          actions = (sym opened_is i).actions ++ numbered ((sym opened_is i).changes + 1) actions;
          changes = (sym opened_is i).changes + 1;
        };
        take = λ place below. subst (λ (new : List Put). PutsTake p.schema.tables actions (transaction_of opened_txns session).puts new) (sym (ap (λ (t : TransactionKept). t.puts) alone_is ∙ puts_numbered p.schema.tables 1 actions []))
            (subst (λ (t : TransactionKept). PutsTake p.schema.tables actions t.puts (with_puts p.schema.tables actions [])) (sym opened_is) (writes_can_take p.schema.tables actions [])) place below;
      };
    }

    given : (w : World) → Stands w (store_of p) → GivesEffect (Ok (count, actions)) (effect_of (opening w).visible.tables change (transaction session (opening w).visible).own)
    given w is = ap (λ (o : Open). effect_of w.visible.tables change o.own) (opened_there w.visible.sessions session (opened w.visible)) ∙ effect.effect w is

    -- whichever world the store with the transaction opened stands for
    given_opened : (v : World) → Stands v (store_of opened_store) → GivesEffect (Ok (count, actions)) (effect_of v.visible.tables change (transaction session v.visible).own)
    given_opened v is =
        let no = changed_table change in
        let from = effect_given opened_store session opened_whole opened_live change effect.bound (table_at p.schema.tables no) (table_in p.base.tables no) (transaction_of opened_txns session).snapshot (transaction_of opened_txns session).puts refl refl refl refl in
        sym (from v is) ∙ from (opening whole.world) (opened_stands whole.world whole.stands) ∙ given whole.world whole.stands

    meets : (w : World) → Stands w (store_of p) → ((changed session change (opening w).visible).answer ≡ Ok count) × Stands (world_after (changed session change (opening w).visible) (opening w)) (store_of alone_store)
    meets w is = changed_meets opened_store session opened_whole opened_live change effect.bound alone_txns actions noted (opening w) (opened_stands w is) count (given w is)

    pub made_stands : (w : World) → Stands w (store_of p) → Stands (with_visible (made_alone session change w.visible) w) (store_of alone_store)
    made_stands w is = subst (λ (r : Option Rec). Stands (record { visible = made_alone session change w.visible; upkeep = with_record r w.upkeep }) (store_of alone_store)) (unwritten session change (opening w).visible) (meets w is).1

    pub alone_whole : IsStore alone_store
    alone_whole = changed_whole opened_store session opened_whole opened_live change effect.bound alone_txns actions noted written
        (λ test e f. ap (λ (puts : List Put). list_all test puts) (ap (λ (t : TransactionKept). t.puts) alone_is ∙ puts_numbered p.schema.tables 1 actions []) ∙ puts_only p.schema.tables test actions [] e refl)
        count (given_opened opened_whole.world opened_whole.stands)

    -- nothing conflicts with it
    no_conflict : conflict_in p.schema.tables p.base.deltas.entries (transaction_of alone_txns session).snapshot (transaction_of alone_txns session).actions ≡ None
    no_conflict =
        let w = alone_whole.world in
        let is = alone_whole.stands in
        let k = transaction_of alone_txns session in
        let at = live_at alone_txns session alone_live in
        let kt = stands.transaction_of w.visible alone_txns session k is.sessions_stand at in
        conflict_is w (kept w.upkeep.journal (store_of alone_store)) session k is at
        ∙ no_conflict_at_last w.visible (transaction session w.visible) (sym kt.snapshot_is ∙ ap (λ (t : TransactionKept). t.snapshot) alone_is ∙ is.base_stands.number_is)

    pub alone_can : CanCommit p.base acts
    alone_can = subst (λ (t : TransactionKept). CanCommit p.base t.actions) alone_is (can_commit alone_store session alone_whole alone_live no_conflict)

    pub alone_full : (base : BaseRoom) (nets : List Net) → base_of base ≡ base_of p.base → IsReady base acts nets → (found : Option ℕ) → found ≡ slice_get (filter (is_full base nets) (range_with_len 0 (length nets))) 0
        → full_in p.schema.tables (base_of p.base) acts ≡ option_map MergedFull found
    alone_full base nets same ready found e =
        ap (λ (t : TransactionKept). full_in p.schema.tables (base_of p.base) t.actions) (sym alone_is)
        ∙ full_told alone_store session alone_whole alone_live base nets same (subst (λ (t : TransactionKept). IsReady base t.actions nets) (sym alone_is) ready) found e

    pub alone_refusal : refusal_in (kept 0 (store_of alone_store)) (transaction_of alone_txns session) ≡ full_in p.schema.tables (base_of p.base) acts
    alone_refusal =
        ap (λ (f : Option Fault). first_fault f (full_in p.schema.tables (base_of p.base) (transaction_of alone_txns session).actions)) no_conflict
        ∙ ap (λ (t : TransactionKept). full_in p.schema.tables (base_of p.base) t.actions) alone_is

    -- what it is then, told from what is kept
    module _ (w : World) (is : Stands w (store_of p)) (outcome : Rec → Outcome) where
      abbrev made : Visible
      made = made_alone session change w.visible

      abbrev made_world : World
      made_world = with_visible made w

      alone_told : alone outcome session change w.visible ≡ with_count count (committed outcome session made).answer (committed outcome session made) w.visible
      alone_told = ap (λ (r : Result ℕ Fault). alone_committed r outcome session made w.visible) (meets w is).0

      told_by : (c : Case (Option ℕ)) → committed outcome session made ≡ c → alone outcome session change w.visible ≡ with_count count c.answer c w.visible
      told_by c e = alone_told ∙ ap (λ (c : Case (Option ℕ)). with_count count c.answer c w.visible) e

      many : length (transaction_of alone_txns session).actions ≡ length actions
      many = ap (λ (t : TransactionKept). length t.actions) alone_is ∙ length-map actions _

      pub alone_of_none : transaction_at p.txns session ≡ None → length actions ≡ 0 → alone outcome session change w.visible ≡ answered (count, None) w.visible
      alone_of_none free none =
          told_by (answered None (closed session made)) (commit_of_none alone_store session alone_whole alone_live made_world (made_stands w is) outcome (many ∙ none))
          ∙ ap (λ (s : Visible). answered (count, None) s) (closed_again session change w.visible (free_there p w session is free))

      pub alone_refused : (fault : Fault) → 0 < length actions → full_in p.schema.tables (base_of p.base) acts ≡ Some fault → alone outcome session change w.visible ≡ refused fault w.visible
      alone_refused fault some refusal =
          told_by (refused fault (closed session made)) (commit_refused alone_store session alone_whole alone_live made_world (made_stands w is) outcome fault (omega (arith, some, many)) (alone_refusal ∙ refusal))

      pub alone_unready : (fault : EffectFault) → 0 < length actions → ((f : Fault) → fault ≡ Stmt f → full_in p.schema.tables (base_of p.base) acts ≡ Some f) → IsRefused made w outcome session (store_of p) (effect_fault fault) (alone outcome session change w.visible)
      alone_unready (Stmt f) some told = alone_refused f some (told f refl)
      alone_unready NoMemory some told = tt

      pub alone_written : 0 < length actions → full_in p.schema.tables (base_of p.base) acts ≡ None
          → alone outcome session change w.visible
          ≡ if_written (outcome (next_record (store_of p) acts)) (next_record (store_of p) acts) (count, Some (p.base.number + 1)) (with_commit session (transaction session made) made) w.visible
      alone_written some none =
          let rec = next_record (store_of p) acts in
          let next = with_commit session (transaction session made) made in
          told_by (if_written (outcome rec) rec (Some (p.base.number + 1)) next made)
          (commit_written alone_store session alone_whole alone_live made_world (made_stands w is) outcome (omega (arith, some, many)) (alone_refusal ∙ none)
          ∙ ap (λ (t : TransactionKept). if_written (outcome (next_record (store_of p) t.actions)) (next_record (store_of p) t.actions) (Some (p.base.number + 1)) next made) alone_is)
          ∙ written_alone count (p.base.number + 1) rec next made w.visible (outcome rec)

-- ---- what stands after the commit
module _ (p new : Store) (session : ℕ) (ready : Ready) (may : MayCommitAlone session p ready) (free : transaction_at p.txns session ≡ None) (some : 0 < length ready.actions) (commits : BaseCommits p.schema.tables ready.actions (base_of p.base) (base_of new.base))
    (number : ℕ) (now : List Action) (u : UpkeepKept) (number_is : number ≡ p.base.number) (now_is : now ≡ ready.actions) (upkeep : u ≡ record p.upkeep.kept { tasks = with_tasks (number + 1) now p.schema.views p.upkeep.kept.tasks })
    (is : store_of new ≡ record (store_of p) { base = (store_of new).base; upkeep = u }) where
  abbrev with_one : Store
  with_one = with_alone session ready.actions p

  abbrev one : TransactionKept
  one = alone_kept (store_of p) ready.actions

  long : length p.txns ≡ 17
  long = sym (length-set p.txns session (Some one)) ∙ (lengths_are may.whole.world (kept may.whole.world.upkeep.journal (store_of with_one)) may.whole.stands).1

  one_at : transaction_at with_one.txns session ≡ Some one
  one_at = set_there None (Some one) p.txns session (omega (arith, may.inside, long))

  one_live : IsLive with_one.txns session
  one_live = ap (λ (t : Option TransactionKept). is_some t) one_at

  may_now : MayCommit (store_of with_one) (transaction_of with_one.txns session) with_one ready
  may_now = subst (λ (t : TransactionKept). MayCommit (store_of with_one) t with_one ready) (sym (ap (λ (t : Option TransactionKept). unwrap_or t (begun 0)) one_at)) may.may

  after : store_of new ≡ kept_commit session ready.actions (store_of new).base (store_of with_one)
  after = kept_then with_one new session number ready.actions now u p.txns number_is now_is upkeep (sym (set-set p.txns session (Some one) None ∙ set_none p.txns session free)) is

  pub then_stands : (w : World) → Stands w (store_of with_one) → Stands (wrote (next_record (store_of p) ready.actions) (with_commit session (transaction session w.visible) w.visible) w) (store_of new)
  then_stands = written_stands with_one new session ready may.whole one_live some may_now commits after

  pub then_whole : new.rows ≡ p.rows → new.schema ≡ p.schema → IsStore new
  then_whole = written_whole with_one new session ready may.whole one_live some may_now commits after

-- ---- the same with other room
module _ (p : Store) (whole : IsStore p) (base : BaseRoom) (upkeep : UpkeepRoom) (same : store_of (record p { base = base; upkeep = upkeep }) ≡ store_of p) where
  pub roomier_whole : IsStore (record p { base = base; upkeep = upkeep })
  roomier_whole = record {
    combines = whole.combines;
    world = whole.world;
    stands = subst (λ (e : StoreKept). Stands whole.world e) (sym same) whole.stands;
    defs = whole.defs;
    under = whole.under;
    used = whole.used;
  }

  module _ (written : WrittenStand) (session : ℕ) (inside : session < 17) (change : Change) (count : ℕ) (actions : List Action) (effect : IsEffectAlone (store_of p) change count actions) (r : Ready) (actions_are : r.actions ≡ numbered 1 actions)
      (room_full : full_in p.schema.tables (base_of p.base) (numbered 1 actions) ≡ None) (ready : IsReady base r.actions r.nets) (room : length p.schema.views ≤ upkeep.task_spare) (few : base.number + 1 < 2 ^ 64) (entries : length base.deltas.entries + length r.actions < 2 ^ 64) where
    abbrev roomier : Store
    roomier = record p { base = base; upkeep = upkeep }

    effect_now : IsEffectAlone (store_of roomier) change count actions
    effect_now = subst (λ (e : StoreKept). IsEffectAlone e change count actions) (sym same) effect

    refusal_now : refusal_in (kept 0 (store_of (with_alone session r.actions roomier))) (alone_kept (store_of roomier) r.actions) ≡ None
    refusal_now =
        (λ i. refusal_in (kept 0 (store_of (with_alone session (actions_are i) roomier))) (alone_kept (store_of roomier) (actions_are i)))
        ∙ ap (λ (t : TransactionKept). refusal_in (kept 0 (store_of (with_alone session (numbered 1 actions) roomier))) t) (sym (alone_is roomier roomier_whole session inside written change count actions effect_now))
        ∙ alone_refusal roomier roomier_whole session inside written change count actions effect_now
        ∙ ap (λ (e : StoreKept). full_in e.tables e.base (numbered 1 actions)) same
        ∙ room_full

    pub may_alone : MayCommitAlone session roomier r
    may_alone = record {
      inside = inside;
      whole = subst (λ (list : List Action). IsStore (with_alone session list roomier)) (sym actions_are) (alone_whole roomier roomier_whole session inside written change count actions effect_now);
      may = record { free = refusal_now; actions_are = refl; ready = ready; room = room; number = few; entries = entries };
    }
