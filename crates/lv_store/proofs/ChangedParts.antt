-- Changes in a transaction of parts that stand for a world.
use Rattle.std.proofs.Common.{◌≡◌, ℕ, ◌<◌, Bool, true, List, [], ◌∷◌, map, length, Option, Some, Ok, Err, refl, sym, ap, ◌∙◌, subst, arith}
use Rattle.std.specs.Prelude.{option_map, slice_set}
use Rattle.std.specs.List.{list_all}
use Rattle.std.proofs.lemmas.List.{length-take-le}
use Rattle.lv_values.specs.declared.value.Value.{Value}
use Rattle.lv_schema.specs.declared.action.Action.{Action}
use Rattle.lv_schema.specs.declared.change.Change.{Change}
use Rattle.lv_schema.specs.declared.change.Change.TheVariants.{Insert, Update, Delete}
use Rattle.lv_schema.specs.declared.table.TableDef.{TableDef}
use Rattle.lv_schema.specs.declared.view.ViewDef.{ViewDef}
use Rattle.lv_schema.specs.Bound.{IsBoundChange}
use Rattle.lv_schema.specs.Cases.{Case, changed, changed_by}
use Rattle.lv_schema.specs.Databases.{Db, IsTable, rows_of}
use Rattle.lv_schema.specs.Effects.{Effect, acted, change_actions, change_count, change_fault, changed_table, effect_of, effect_on}
use Rattle.lv_schema.specs.Sound.{IsSchema}
use Rattle.lv_schema.specs.SoundWorld.{CanAct}
use Rattle.lv_schema.specs.WholeWorld.{world_after}
use Rattle.lv_schema.specs.World.{World, table_at, transaction}
use Rattle.lv_schema.proofs.SoundChanges.{change_leads}
use Rattle.lv_schema.proofs.SoundSteps.{transaction_live}
use Rattle.lv_schema.proofs.ViewRows.{zip_at}
use Rattle.lv_overlay.specs.declared.put.Put.{Put}
use Rattle.lv_overlay.specs.Puts.{StandUnder, rows_over, stands_under}
use Rattle.lv_versions.specs.Versions.{Kept, state_at}
use Rattle.lv_effect.specs.declared.fault.EffectFault.{EffectFault}
use Rattle.lv_effect.specs.declared.fault.EffectFault.TheVariants.{Stmt, NoMemory}
use Rattle.lv_effect.specs.Answered.{GivesEffect}
use Rattle.lv_effect.specs.Sums.{ChangeSumsFit}
use Rattle.lv_txn.specs.Kept.{IsLive, SessionChanges, TransactionKept, changed_by as kept_changed, transaction_at, transaction_of}
use Rattle.lv_txn.specs.Written.{put_of}
use Rattle.lv_stands.specs.Stands.{StandsFor}
use Rattle.lv_stands.proofs.Changes.{changed_stands, ok_means}
use Rattle.lv_base.specs.Bases.{table_in}
use Rattle.std.proofs.lemmas.Bool.{and_from, lt-ltb}
use Rattle.lv_store.specs.declared.store.Store.{Store}
use Rattle.lv_store.specs.Answering.{Meets, effect_fault}
use Rattle.lv_store.specs.Kept.{IsStore, Stands, is_used, kept, store_of}
use Rattle.lv_store.proofs.OwnReads.{own_is}
use Rattle.lv_store.proofs.Standing.{all_both, any_journal, live_at, stands_in, with_transactions}

abbrev pub BoundSumsFit : Type 0
BoundSumsFit = (tables : List TableDef) (views : List ViewDef) (change : Change) (rows : List (List Value)) → IsSchema tables views → IsBoundChange tables change → IsTable (table_at tables (changed_table change)) rows → ChangeSumsFit change rows

abbrev pub WrittenStand : Type 0
WrittenStand = (tables : List TableDef) (actions : List Action) (t : ℕ) → StandUnder (table_at tables t).key t (map (put_of tables) actions)

pub table_there : (tables : List TableDef) (change : Change) → IsBoundChange tables change → changed_table change < length tables
table_there tables (Insert table new) bound = bound.0
table_there tables (Update table sets c) bound = bound.0
table_there tables (Delete table c) bound = bound.0

-- actions that can be taken are on tables that are in use
actions_used : (tables : List TableDef) (db : Db) (actions : List Action) → CanAct tables db actions → list_all (is_used tables) (map (put_of tables) actions) ≡ true
actions_used tables db [] can = refl
actions_used tables db (a ∷ actions) can = and_from (is_used tables (put_of tables a)) (list_all (is_used tables) (map (put_of tables) actions)) (lt-ltb a.table (length tables) can.0.in_use) (actions_used tables (acted tables db a) actions can.1)

-- the snapshot that a session is told to have
pub snapshot_is : (sessions : List (Option TransactionKept)) (session : ℕ) → IsLive sessions session → (n : ℕ) → Some n ≡ option_map (λ (t : TransactionKept). t.snapshot) (transaction_at sessions session) → n ≡ (transaction_of sessions session).snapshot
snapshot_is sessions session live n told =
    let here : Some n ≡ Some (transaction_of sessions session).snapshot = told ∙ ap (option_map (λ (t : TransactionKept). t.snapshot)) (live_at sessions session live) in
    cc

module _ (p : Store) (session : ℕ) (whole : IsStore p) (live : IsLive p.txns session) (change : Change) (bound : IsBoundChange p.schema.tables change) where
  abbrev no : ℕ
  no = changed_table change

  abbrev k : TransactionKept
  k = transaction_of p.txns session

  there : no < length p.schema.tables
  there = table_there p.schema.tables change bound

  no_is : (table_at p.schema.tables no).no ≡ no
  no_is =
      let is = whole.stands in
      let schema : IsSchema p.schema.tables whole.world.visible.views = subst (λ (ts : List TableDef). IsSchema ts whole.world.visible.views) (sym is.tables_are) is.steady.sound.schema in
      (schema.each_table no there).next ∙ length-take-le no p.schema.tables (omega (arith, there))

  -- what is given to a change: its table, the versions of that, the snapshot, and the writes
  module _ (table : TableDef) (base : Kept) (n : ℕ) (puts : List Put) (table_is : table ≡ table_at p.schema.tables no) (base_is : base ≡ table_in p.base.tables no) (n_is : n ≡ k.snapshot) (puts_are : puts ≡ k.puts) where
    pub rows_given : (w : World) → Stands w (store_of p) → rows_over table.key puts table.no (state_at n base.versions) ≡ rows_of (transaction session w.visible).own no
    rows_given w is =
        (λ i. rows_over (table_is i).key (puts_are i) (table_is i).no (state_at (n_is i) (base_is i).versions))
        ∙ (λ i. rows_over (table_at p.schema.tables no).key k.puts (no_is i) (state_at k.snapshot (table_in p.base.tables no).versions))
        ∙ own_is p w is session live (whole.under session) no there

    pub sums_given : BoundSumsFit → ChangeSumsFit change (rows_over table.key puts table.no (state_at n base.versions))
    sums_given fit =
        let w = whole.world in
        let s = w.visible in
        let is = whole.stands in
        let here : IsBoundChange s.tables change = subst (λ (ts : List TableDef). IsBoundChange ts change) is.tables_are bound in
        subst (ChangeSumsFit change) (sym (rows_given w is))
        (fit s.tables s.views change (rows_of (transaction session s).own no) is.steady.sound.schema here
        (zip_at s.tables (transaction session s).own no (transaction_live s session is.steady.sound).fits (table_there s.tables change here)))

    pub effect_given : (w : World) → Stands w (store_of p) → effect_on table change (rows_over table.key puts table.no (state_at n base.versions)) ≡ effect_of w.visible.tables change (transaction session w.visible).own
    effect_given w is = λ i. effect_on ((table_is ∙ ap (λ (ts : List TableDef). table_at ts no) is.tables_are) i) change (rows_given w is i)

  -- a change that is refused
  pub refused_stands : (w : World) → Stands w (store_of p) → (fault : EffectFault) → GivesEffect (Err fault) (effect_of w.visible.tables change (transaction session w.visible).own)
      → Meets effect_fault w (store_of p) (store_of p) (Err fault) (changed session change w.visible)
  refused_stands w is (Stmt fault) given =
      let now : changed session change w.visible ≡ changed_by (Err fault) session (transaction session w.visible) w.visible = ap (λ r. changed_by r session (transaction session w.visible) w.visible) given in
      subst (λ (c : Case ℕ). (c.answer ≡ Err fault) × Stands (world_after c w) (store_of p)) (sym now) (refl, is)
  refused_stands w is NoMemory given = refl

  -- a change that is done
  module _ (t : List (Option TransactionKept)) (actions : List Action) (noted : SessionChanges p.schema.tables actions session p.txns t) where
    can_act : (w : World) → Stands w (store_of p) → (count : ℕ) → GivesEffect (Ok (count, actions)) (effect_of w.visible.tables change (transaction session w.visible).own) → CanAct w.visible.tables (transaction session w.visible).own actions
    can_act w is count given =
        let s = w.visible in
        let o = transaction session s in
        let own = rows_of o.own no in
        let effect : Effect = record { count = count; actions = actions } in
        let means = ok_means (change_fault (table_at s.tables no) change own) (record { count = change_count change own; actions = change_actions change own }) effect given in
        subst (λ (x : Effect). CanAct s.tables o.own x.actions) means.1
        (change_leads s.tables s.views change o.own is.steady.sound.schema (subst (λ (ts : List TableDef). IsBoundChange ts change) is.tables_are bound) (transaction_live s session is.steady.sound).fits means.0).can_act

    pub changed_meets : (w : World) → Stands w (store_of p) → (count : ℕ) → GivesEffect (Ok (count, actions)) (effect_of w.visible.tables change (transaction session w.visible).own)
        → ((changed session change w.visible).answer ≡ Ok count) × Stands (world_after (changed session change w.visible) w) (store_of (record p { txns = t }))
    changed_meets w is count given =
        let e = kept w.upkeep.journal (store_of p) in
        let effect : Effect = record { count = count; actions = actions } in
        let own = rows_of (transaction session w.visible).own no in
        let next = world_after (changed session change w.visible) w in
        let ok : effect_on (table_at p.schema.tables no) change own ≡ Ok effect = ap (λ (ts : List TableDef). effect_on (table_at ts no) change own) is.tables_are ∙ given in
        let after = changed_stands session change w e k own effect (transaction_of t session).puts is (live_at p.txns session live) (subst (λ (ts : List TableDef). IsBoundChange ts change) is.tables_are bound) refl ok noted.changes.take in
        let moved : slice_set p.txns session (Some (kept_changed (transaction_of t session).puts actions k)) ≡ t = ap (λ x. slice_set p.txns session (Some x)) (sym noted.changes.is) ∙ sym noted.is in (
          ap (λ r. (changed_by r session (transaction session w.visible) w.visible).answer) given,
          any_journal next w.upkeep.journal (store_of (record p { txns = t })) (subst (λ (x : List (Option TransactionKept)). StandsFor next (kept w.upkeep.journal (store_of (record p { txns = x })))) moved after),
        )

    pub changed_whole : WrittenStand → ((test : Put → Bool) → list_all test (map (put_of p.schema.tables) actions) ≡ true → list_all test k.puts ≡ true → list_all test (transaction_of t session).puts ≡ true)
        → (count : ℕ) → GivesEffect (Ok (count, actions)) (effect_of whole.world.visible.tables change (transaction session whole.world.visible).own) → IsStore (record p { txns = t })
    changed_whole written only count given =
        let w = whole.world in
        let used = subst (λ (ts : List TableDef). list_all (is_used ts) (map (put_of ts) actions) ≡ true) (sym whole.stands.tables_are) (actions_used w.visible.tables (transaction session w.visible).own actions (can_act w whole.stands count given)) in
        with_transactions p t session (Some (transaction_of t session)) whole noted.is
        (λ n.
        let under = stands_under (table_at p.schema.tables n).key n in
        only (stands_in p.schema.tables n)
        (all_both under (is_used p.schema.tables) (map (put_of p.schema.tables) actions) (written p.schema.tables actions n) used)
        (all_both under (is_used p.schema.tables) k.puts (whole.under session n) (whole.used session)))
        (world_after (changed session change w.visible) w) (changed_meets w whole.stands count given).1
