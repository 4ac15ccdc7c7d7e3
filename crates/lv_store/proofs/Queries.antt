-- A query: its steps, its rows, and what stands after it.
use Rattle.std.proofs.Common.{◌≡◌, ℕ, ◌+◌, ◌<◌, ◌≤◌, Bool, true, List, [], ◌∷◌, map, length, refl, sym, ap, ◌∙◌, subst, arith}
use Rattle.std.specs.Prelude.{nat_lt}
use Rattle.std.specs.List.{AllByRecursion, list_all}
use Rattle.std.proofs.lemmas.Bool.Decides.{nat_tests}
use Rattle.lv_schema.specs.declared.forced.Forced.{Forced}
use Rattle.lv_schema.specs.declared.query.Query.{Query}
use Rattle.lv_schema.specs.declared.query.Rel.{Rel}
use Rattle.lv_schema.specs.declared.query.Rel.TheVariants.{Table, View}
use Rattle.lv_schema.specs.declared.view.ViewDef.{ViewDef}
use Rattle.lv_schema.specs.Answers.{answer_over}
use Rattle.lv_schema.specs.Bound.{IsBoundQuery, rel_in_use}
use Rattle.lv_schema.specs.Greatest.{Among}
use Rattle.lv_schema.specs.Keys.{write_none}
use Rattle.lv_schema.specs.UpkeepCases.{forced_by, views_of, with_steps}
use Rattle.lv_schema.specs.WholeWorld.{querying}
use Rattle.lv_schema.specs.World.{Settings, Upkeep, World, table_at, transaction, view_at}
use Rattle.lv_overlay.specs.Puts.{StandUnder}
use Rattle.lv_txn.specs.Kept.{IsLive, transaction_of}
use Rattle.lv_viewrows.specs.Kept.{ViewKept, groups_at, rows_listed}
use Rattle.lv_stands.specs.Kept as stands
use Rattle.lv_stands.specs.Moves.{StepsFollow, least_read}
use Rattle.lv_stands.specs.Stands.{StandsFor}
use Rattle.lv_stands.proofs.Runs.{forced_reads, steps_stand}
use Rattle.lv_store.specs.declared.answer.Answer.{Answer}
use Rattle.lv_store.specs.declared.store.Store.{Store}
use Rattle.lv_store.specs.Answering.{GivesQuery, ReadsNoTable, ReadsViews}
use Rattle.lv_store.specs.Inputs.{AreCosts, IsCostBetween}
use Rattle.lv_store.specs.declared.pending.Difference.{Difference}
use Rattle.lv_store.specs.Pending.{AreUpTo, ArePending, CanAllTake, CanRead, CanTakeEach, difference_in, on_view}
use Rattle.lv_store.specs.Querying.{CanInstallAll, InPlaceOf, IsCostIn, OnlyRoom, StepsInstall, changes_in, reads_kept, rel_rows_in, steps_in, upkeep_after}
use Rattle.lv_store.specs.Kept.{IsStore, StoreKept, Stands, is_used, kept, rows_in, rows_of, store_of}
use Rattle.lv_store.proofs.Forcing.{changes_all_told, costs_all_told, fresh_forces_none, read_at, steps_are, steps_in_use, with_combine}
use Rattle.lv_store.proofs.JoinedSteps.{costs_stand}
use Rattle.lv_store.proofs.OneView.{all_on_view, follow_on_view, of_view}
use Rattle.lv_store.proofs.OwnReads.{rows_long, snapshot_below, transaction_stands}
use Rattle.lv_store.proofs.PendingRows.{can_copy}
use Rattle.lv_store.proofs.PendingSteps.{can_take}
use Rattle.lv_store.proofs.Rels.{Shows, answer_is, reads_kept_all}
use Rattle.lv_store.proofs.StepEnds.{EndBy, forced_end, taken_end}
use Rattle.lv_store.proofs.Steps.{Know, can_install_all, only_room_know, only_room_same, rows_at, steps_run, still_know}
use Rattle.lv_store.proofs.Views.{IfView, both, views_among, views_each}
use Rattle.lv_store.proofs.WorkerSteps.{still_whole}
use Rattle.lv_upkeep.specs.Kept.{UpkeepKept, UpkeepRoom}

each_passes : {X : Type 0} (test : X → Bool) (xs : List X) → list_all test xs ≡ true → AllByRecursion (λ x. test x ≡ true) xs
each_passes test [] e = tt
each_passes test (x ∷ xs) e = let es = both (test x) (list_all test xs) e in (es.0, each_passes test xs es.1)

-- each step is of a view below a number
pub all_below : (fs : List Forced) (n : ℕ) → AllByRecursion (λ f. f.view < n) fs → list_all (λ (f : Forced). nat_lt f.view n) fs ≡ true
all_below [] n a = refl
all_below (f ∷ fs) n a = let lt = a.0 in let here : nat_lt f.view n ≡ true = grind (arith, nat_tests) in rw here (all_below fs n a.1)

-- what is kept after steps were taken, and after they were not
pub taken_store : (p new : Store) (steps : List Forced) → new ≡ record p { rows = new.rows; upkeep = new.upkeep } → new.upkeep.kept ≡ upkeep_after steps p.upkeep.kept
    → store_of new ≡ record (store_of p) { upkeep = upkeep_after steps p.upkeep.kept; rows = map rows_of new.rows.list }
taken_store p new steps others upkeep = ap store_of others ∙ ap (λ (u : UpkeepKept). record (store_of p) { upkeep = u; rows = map rows_of new.rows.list }) upkeep

pub refused_store : (p new : Store) → new ≡ record p { rows = new.rows; upkeep = new.upkeep } → OnlyRoom p.rows.list new.rows.list × (new.upkeep ≡ p.upkeep) → store_of new ≡ store_of p
refused_store p new others refused =
    ap store_of others
    ∙ ap (λ (u : UpkeepRoom). record (store_of p) { upkeep = u.kept; rows = map rows_of new.rows.list }) refused.1
    ∙ ap (λ (ks : List stands.ViewKept). record (store_of p) { rows = ks }) (only_room_same p.rows.list new.rows.list refused.0)

pub refused_whole : (p new : Store) → new ≡ record p { rows = new.rows; upkeep = new.upkeep } → OnlyRoom p.rows.list new.rows.list × (new.upkeep ≡ p.upkeep) → IsStore p → IsStore new
refused_whole p new others refused whole =
    subst IsStore (sym others)
    (still_whole p p.base new.upkeep new.rows whole (only_room_know p.schema.views p.rows.list new.rows.list refused.0 whole.defs) whole.world
    (subst (Stands whole.world) (sym (refused_store p new others refused) ∙ ap store_of others) whole.stands))

module _ (p : Store) (session : ℕ) (query : Query) (bound : IsBoundQuery p.schema.tables p.schema.views query) where
  -- where no table is read and the views are fresh, there is no step, and only what is kept is read
  pub reads_nothing : (w : World) → Stands w (store_of p) → IsLive p.txns session → ReadsNoTable session query w → (steps_in p session query ≡ []) × (list_all (reads_kept p session) query.rels ≡ true)
  reads_nothing w is live none = (
    fresh_forces_none p w is session query bound none.fresh,
    reads_kept_all p w is session live query.rels none.views
        (views_each (λ v. write_none (transaction session w.visible).actions (view_at w.visible.views v).tables ≡ true) query.rels
        (each_passes (λ v. write_none (transaction session w.visible).actions (view_at w.visible.views v).tables) (views_of query) none.unwritten)),
  )

  -- where no table is named, only what is kept is read beside the steps
  pub reads_views : (w : World) → Stands w (store_of p) → IsLive p.txns session → ReadsViews session query w → list_all (reads_kept p session) query.rels ≡ true
  reads_views w is live none =
      reads_kept_all p w is session live query.rels none.views
      (views_each (λ v. write_none (transaction session w.visible).actions (view_at w.visible.views v).tables ≡ true) query.rels
      (each_passes (λ v. write_none (transaction session w.visible).actions (view_at w.visible.views v).tables) (views_of query) none.unwritten))

  -- ---- how much is read for the steps
  pub takes_most : (w : World) → Stands w (store_of p) → (taken : List Forced) → InPlaceOf w (steps_in p session query) taken → (old new : ℕ) → ((m : ℕ) → AreCosts (IsCostIn p) taken m → new ≤ old + m)
      → (n : ℕ) → AreCosts (IsCostBetween w.visible) (steps_in p session query) n → new ≤ old + n
  takes_most w is taken place old new most n costs = costs_stand w.visible taken new (old + n) (λ m c.
      let less = place.most n m costs c in
      let here = most m (costs_all_told p w is taken place.follow m c) in
      omega (arith, less, here))

  pub forced_are_costs : (w : World) → Stands w (store_of p) → (settings : Settings) → settings.combine ≡ p.settings.combine → (n : ℕ) → AreCosts (IsCostBetween w.visible) (forced_by settings session query w) n → AreCosts (IsCostBetween w.visible) (steps_in p session query) n
  forced_are_costs w is settings same n costs = subst (λ fs. AreCosts (IsCostBetween w.visible) fs n) (sym (steps_are p w is session query bound settings same)) costs

  -- each step of those that are taken is of a view in use, and can be installed
  pub steps_below : (w : World) → Stands w (store_of p) → (taken : List Forced) → StepsFollow w taken → (n : ℕ) → length p.schema.views ≤ n → AllByRecursion (λ f. f.view < n) taken
  steps_below w is taken follow n le = steps_in_use p w is taken follow n le

  pub installs_all : (whole : IsStore p) (taken : List Forced) → StepsFollow whole.world taken → CanInstallAll (least_read (kept 0 (store_of p))) (changes_in p) taken p.rows.list
  installs_all whole taken follow =
      let w = whole.world in
      let is = whole.stands in
      can_install_all (changes_in p) taken p.rows.list w (kept w.upkeep.journal (store_of p)) is refl
      (subst (λ (vs : List ViewDef). Know vs p.rows.list) is.views_are whole.defs) follow (changes_all_told p w is taken follow)

  -- the differences of those that are taken can be installed, and read
  pub can_take_pending : (whole : IsStore p) (taken : List Forced) → StepsFollow whole.world taken → (pending : List (List Difference)) → ArePending p taken pending → CanAllTake (least_read (kept 0 (store_of p))) pending p.rows.list
  can_take_pending whole taken follow pending are = record {
    all = are.all;
    each = λ v lt.
        let w = whole.world in
        let is = whole.stands in
        let there : v < length w.upkeep.points = omega (arith, lt, rows_long p w is, ap length is.views_are, is.steady.points) in
        subst (λ l. CanTakeEach (least_read (kept 0 (store_of p))) l (rows_in p.rows.list v)) (sym (are.each v lt))
        (can_take p (least_read (kept 0 (store_of p))) v (on_view v taken) p.rows.list lt (of_view v taken) (installs_all whole (on_view v taken) (follow_on_view v taken w.visible w.upkeep w.upkeep there there refl follow)));
  }

  pub can_read : (whole : IsStore p) → IsLive p.txns session → (taken : List Forced) → InPlaceOf whole.world (steps_in p session query) taken → (pending : List (List Difference)) → ArePending p taken pending → CanRead p session pending
  can_read whole live taken place pending are = record {
    can = can_copy (least_read (kept 0 (store_of p))) pending p.rows.list (can_take_pending whole taken place.follow pending are);
    upto = λ v lt.
        let w = whole.world in
        let is = whole.stands in
        let m = (transaction session w.visible).snapshot in
        let settings = with_combine p w is session query bound in
        let steps : EndBy m (steps_in p session query) = subst (EndBy m) (sym (steps_are p w is session query bound settings refl)) (forced_end settings w m (views_of query)) in
        let ends : EndBy m taken = taken_end w (steps_in p session query) taken m is.steady.points place steps in
        subst (AreUpTo (transaction_of p.txns session).snapshot) (sym (are.each v lt))
        (subst (λ n. AreUpTo n (map (difference_in p) (on_view v taken))) (sym (transaction_stands p w is session live).snapshot_is)
        (all_on_view (λ (d : Difference). d.hi ≤ m) (difference_in p) v taken ends));
  }

  module _ (taken : List Forced) (place : (w : World) → Stands w (store_of p) → InPlaceOf w (steps_in p session query) taken)
      (live : IsLive p.txns session) (know : Know p.schema.views p.rows.list) (last : List ViewKept) (install : StepsInstall (least_read (kept 0 (store_of p))) (changes_in p) taken p.rows.list last) where
    abbrev pub after : StoreKept
    after = record (store_of p) { upkeep = upkeep_after taken p.upkeep.kept; rows = map rows_of last }

    -- as the steps that were taken lead there
    pub after_is : (steps : List Forced) (new : StoreKept) → steps ≡ taken → new ≡ record (store_of p) { upkeep = upkeep_after steps p.upkeep.kept; rows = map rows_of last } → new ≡ after
    after_is steps new same is = is ∙ ap (λ (fs : List Forced). record (store_of p) { upkeep = upkeep_after fs p.upkeep.kept; rows = map rows_of last }) same

    in_rows : (w : World) → Stands w (store_of p) → AllByRecursion (λ f. f.view < length p.rows.list) taken
    in_rows w is = steps_below w is taken (place w is).follow (length p.rows.list) (omega (arith, rows_long p w is))

    pub still_known : (w : World) → Stands w (store_of p) → Know p.schema.views last × (length last ≡ length p.rows.list)
    still_known w is = still_know (changes_in p) (least_read (kept 0 (store_of p))) taken p.rows.list last p.schema.views know (in_rows w is) install

    pub stands_after : (w : World) → Stands w (store_of p) → Stands (record { visible = w.visible; upkeep = with_steps (steps_in p session query) w.upkeep }) after
    stands_after w is =
        let at = place w is in
        subst (λ (u : Upkeep). Stands (record { visible = w.visible; upkeep = u }) after) at.same
        (steps_stand taken w (kept w.upkeep.journal (store_of p)) (kept w.upkeep.journal after) is at.follow
        (steps_run (changes_in p) taken p.rows.list last w.visible (kept w.upkeep.journal (store_of p)) is.views_are refl
        (subst (λ (vs : List ViewDef). Know vs p.rows.list) is.views_are know) (in_rows w is) (changes_all_told p w is taken at.follow) install))

    -- each view of the query shows its rows at the snapshot
    module _ (w : World) (is : Stands w (store_of p)) where
      shows : (v : ℕ) → v < length p.schema.views → Among (views_of query) v → Shows p w is session live last v
      shows v lt among =
          let m = (transaction session w.visible).snapshot in
          let there : v < length w.visible.views = subst (λ (vs : List ViewDef). v < length vs) is.views_are lt in
          let known = still_known w is in
          let def_is : (rows_in last v).def ≡ view_at w.visible.views v = known.0 v (omega (arith, lt, known.1, rows_long p w is)) ∙ ap (λ (vs : List ViewDef). view_at vs v) is.views_are in
          let now : StandsFor (record { visible = w.visible; upkeep = with_steps (steps_in p session query) w.upkeep }) (kept w.upkeep.journal after) = stands_after w is in
          ap (λ (d : ViewDef). rows_listed d (groups_at (transaction_of p.txns session).snapshot (rows_in last v).versions)) def_is
          ∙ ap (λ n. rows_listed (view_at w.visible.views v) (groups_at n (rows_in last v).versions)) (transaction_stands p w is session live).snapshot_is
          ∙ ap (λ (k : stands.ViewKept). stands.rows_shown (view_at w.visible.views v) (transaction session w.visible).snapshot k) (sym (rows_at last v))
          ∙ forced_reads (with_combine p w is session query bound) w (kept w.upkeep.journal after) (views_of query) (transaction session w.visible).snapshot v
          (subst (λ fs. StandsFor (record { visible = w.visible; upkeep = with_steps fs w.upkeep }) (kept w.upkeep.journal after)) (steps_are p w is session query bound (with_combine p w is session query bound) refl) now)
          is.steady there among (read_at w session) (snapshot_below p w is session).1

      shows_each : (rels : List Rel) → list_all (rel_in_use p.schema.tables p.schema.views) rels ≡ true → AllByRecursion (IfView (Among (views_of query))) rels → AllByRecursion (IfView (Shows p w is session live last)) rels
      shows_each [] e a = tt
      shows_each (Table t ∷ rels) e a = (tt, shows_each rels (both (rel_in_use p.schema.tables p.schema.views (Table t)) (list_all (rel_in_use p.schema.tables p.schema.views) rels) e).1 a.1)
      shows_each (View v ∷ rels) e a =
          let es = both (rel_in_use p.schema.tables p.schema.views (View v)) (list_all (rel_in_use p.schema.tables p.schema.views) rels) e in
          let test = es.0 in
          (shows v (grind (arith, nat_tests)) a.0, shows_each rels es.1 a.1)

      pub gives : (under : (t : ℕ) → StandUnder (table_at p.schema.tables t).key t (transaction_of p.txns session).puts) (settings : Settings) → settings.combine ≡ p.settings.combine → (answer : Answer) (new : StoreKept)
          → answer.forced ≡ steps_in p session query → answer.rows ≡ answer_over query (map (rel_rows_in p session last) query.rels) → new ≡ after
          → GivesQuery (querying settings session query w) answer new
      gives under settings same answer new forced rows store =
          let steps = steps_are p w is session query bound settings same in
          record {
            forced = forced ∙ steps;
            rows = rows ∙ answer_is p w is session live under last query bound.in_use (shows_each query.rels bound.in_use (views_among query.rels));
            stands =
                subst (Stands _) (sym store)
                (subst (λ fs. Stands (record { visible = w.visible; upkeep = with_steps fs w.upkeep }) after) steps (stands_after w is));
          }

    pub still_engine : (new : Store) → IsStore p → new.settings ≡ p.settings → new.schema ≡ p.schema → new.txns ≡ p.txns → new.rows.list ≡ last → store_of new ≡ after → IsStore new
    still_engine new whole settings schema txns rows store = record {
      combines = subst (λ s. 0 < s.combine) (sym settings) whole.combines;
      world = record { visible = whole.world.visible; upkeep = with_steps (steps_in p session query) whole.world.upkeep };
      stands = subst (Stands (record { visible = whole.world.visible; upkeep = with_steps (steps_in p session query) whole.world.upkeep })) (sym store) (stands_after whole.world whole.stands);
      defs = subst (λ s. Know s.views new.rows.list) (sym schema) (subst (Know p.schema.views) (sym rows) (still_known whole.world whole.stands).0);
      under = λ s t. subst (λ d. StandUnder (table_at d.tables t).key t (transaction_of new.txns s).puts) (sym schema) (subst (λ ts. StandUnder (table_at p.schema.tables t).key t (transaction_of ts s).puts) (sym txns) (whole.under s t));
      used = λ s. subst (λ d. list_all (is_used d.tables) (transaction_of new.txns s).puts ≡ true) (sym schema) (subst (λ ts. list_all (is_used p.schema.tables) (transaction_of ts s).puts ≡ true) (sym txns) (whole.used s));
    }
