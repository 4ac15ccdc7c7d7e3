-- What workers do with the parts: the step that one fetches, and what becomes of it.
use Rattle.std.proofs.Common.{◌≡◌, ℕ, zero, suc, ◌+◌, ◌<◌, ◌≤◌, Bool, true, false, cond, not, List, [], ◌∷◌, map, length, Option, Some, None, Result, Ok, Err, refl, sym, ap, ◌∙◌, subst, arith}
use Rattle.std.specs.Prelude.{OnOk, ◌==◌, slice_index, slice_index_or, slice_set}
use Rattle.std.specs.List.{cons_option, filter, filter_map}
use Rattle.std.proofs.lemmas.Bool.Decides.{nat_tests}
use Rattle.std.proofs.Math.Seq.{map-set_same}
use Rattle.std.proofs.lemmas.List.{get_or_default, length-take, map-set}
use Rattle.std.proofs.lemmas.List.FromFn.{length-range_with_len}
use Rattle.std.proofs.lemmas.List.Sums.{count_by-le-length, length-filter}
use Rattle.lv_values.specs.declared.memory.NoMemory.{NoMemory}
use Rattle.lv_values.specs.Room.{Roomy}
use Rattle.lv_schema.specs.declared.forced.Forced.{Forced}
use Rattle.lv_schema.specs.declared.pending.Pending.{Pending}
use Rattle.lv_schema.specs.declared.signed.SignedRow.{SignedRow}
use Rattle.lv_schema.specs.declared.view.ViewDef.{ViewDef}
use Rattle.lv_schema.specs.Policies.{AscendByView, chosen, is_claimed, pending_by, unclaimed}
use Rattle.lv_schema.specs.Steady.{IsClaim}
use Rattle.lv_schema.specs.StepPlans.{is_inside, planned}
use Rattle.lv_schema.specs.Tasks.{pending_now, view_numbers}
use Rattle.lv_schema.specs.UpkeepCases.{Fetched, Installed, claim_of, fetching, install_by, installed, installing, moved, no_pending, released, with_claim, with_steps}
use Rattle.lv_schema.specs.WholeWorld.{maintained, with_upkeep}
use Rattle.lv_schema.specs.World.{Settings, Upkeep, World, last, point, view_at}
use Rattle.lv_schema.proofs.Candidates.{chosen_is, unclaimed_ascend}
use Rattle.lv_schema.proofs.PlannedSteps as steps
use Rattle.lv_schema.proofs.ServedQueries.{kept_point, planned_is_step}
use Rattle.lv_maint.specs.Inputs.{Input}
use Rattle.lv_picker.specs.Choices.{IsChoice}
use Rattle.lv_txn.specs.Kept.{live_kept}
use Rattle.lv_upkeep.specs.Kept.{UpkeepKept, UpkeepRoom, claim_kept, planned_in, unclaimed_in}
use Rattle.lv_upkeep.specs.Moves.{upkeep_claimed, upkeep_stepped}
use Rattle.lv_viewrows.specs.Changed.{CanInstall}
use Rattle.lv_viewrows.specs.Kept.{ViewKept}
use Rattle.lv_stands.specs.Kept as stands
use Rattle.lv_stands.specs.Moves.{ViewInstalls, engine_fetching, inside_kept, kept_among, kept_by, kept_fetched, least_read, step_changes, view_chosen}
use Rattle.lv_stands.specs.Stands.{StandsFor}
use Rattle.lv_stands.proofs.Fetches.{fetch_stands}
use Rattle.lv_stands.proofs.Upkeeps.{planned_is}
use Rattle.lv_stands.proofs.Workers as laws
use Rattle.lv_base.specs.Bases.{BaseRoom}
use Rattle.lv_store.specs.declared.installed.Installed.TheVariants as answer
use Rattle.lv_store.specs.declared.store.Store.{Store}
use Rattle.lv_store.specs.Maintaining.{GivesClaim, GivesFetch, GivesInstall, IsGiven, RoomChanges, TakesGiven, TakesInstalled, next_among, next_in}
use Rattle.lv_store.specs.Querying.{IsCostIn, IsInputIn, RowsInstall, ViewInstalled, changes_in}
use Rattle.lv_store.specs.Kept.{IsStore, Stands, kept, no_rows, rows_in, rows_of, store_of}
use Rattle.lv_store.proofs.Forcing.{IsKeptStep, changes_told, cost_told, input_told}
use Rattle.lv_store.proofs.OwnReads.{points_long, rows_long, schema_sound}
use Rattle.lv_store.proofs.Standing.{any_journal, set_there}
use Rattle.lv_store.proofs.Steps.{Know, can_install_all, each_set, rows_at, to_installs}

-- ---- the parts with another base, upkeep or rows
pub still_whole : (p : Store) (base : BaseRoom) (upkeep : UpkeepRoom) (rows : Roomy ViewKept) → IsStore p → Know p.schema.views rows.list
    → (w : World) → Stands w (store_of (record p { base = base; upkeep = upkeep; rows = rows })) → IsStore (record p { base = base; upkeep = upkeep; rows = rows })
still_whole p base upkeep rows whole know w is = record { combines = whole.combines; world = w; stands = is; defs = know; under = whole.under; used = whole.used }

-- ---- claims
pub released_stands : (p : Store) (worker : ℕ) (u : UpkeepKept) → u ≡ upkeep_claimed worker None p.upkeep.kept → (w : World) → Stands w (store_of p) → Stands (with_upkeep (released worker w.upkeep) w) (record (store_of p) { upkeep = u })
released_stands p worker u set w is =
    subst (λ (k : UpkeepKept). Stands (with_upkeep (released worker w.upkeep) w) (record (store_of p) { upkeep = k })) (sym set)
    (laws.released_stands w (kept w.upkeep.journal (store_of p)) worker is)

pub claim_is_free : (p : Store) (worker : ℕ) (u : UpkeepKept) → u ≡ upkeep_claimed worker None p.upkeep.kept → (w : World) → Stands w (store_of p) → worker < 9 → claim_kept u worker ≡ None
claim_is_free p worker u set w is lt =
    ap (λ (k : UpkeepKept). claim_kept k worker) set
    ∙ set_there None None p.upkeep.kept.claims worker (omega (arith, lt, ap length is.upkeep_stands.claims_are, is.steady.workers))

-- what becomes of a claim
becomes : (worker : ℕ) (u : Upkeep) (f : Forced) (b : Bool) → claim_of u worker ≡ Some f → (point u f.view == f.lo) ≡ b
    → installing worker u ≡ cond {A = Installed × Upkeep} b (installed f, with_claim worker None (with_steps (f ∷ []) u)) (moved f (point u f.view), with_claim worker None u)
becomes worker u f b claim test =
    ap (λ (x : Option Forced). install_by x worker u) claim
    ∙ ap (λ t. cond {A = Installed × Upkeep} t (installed f, with_claim worker None (with_steps (f ∷ []) u)) (moved f (point u f.view), with_claim worker None u)) test

same_test : (a b : ℕ) → a ≡ b → (a == b) ≡ true
same_test a b e = grind (arith, nat_tests)

other_test : (a b : ℕ) → (a ≡ b → ⊥) → (a == b) ≡ false
other_test a b e = grind (arith, nat_tests)

module _ (p : Store) (w : World) (is : Stands w (store_of p)) (worker : ℕ) (f : Forced) (claim : claim_kept p.upkeep.kept worker ≡ Some f) where
  claim_told : claim_of w.upkeep worker ≡ Some f
  claim_told = ap (λ (cs : List (Option Forced)). slice_index_or cs worker None) (sym is.upkeep_stands.claims_are) ∙ claim

  claimed : IsClaim w f
  claimed = is.steady.claims worker f claim_told

  pub claim_in_use : f.view < length p.schema.views
  claim_in_use = subst (λ (vs : List ViewDef). f.view < length vs) (sym is.views_are) claimed.step.in_use

  point_told : slice_index p.upkeep.kept.points f.view ≡ point w.upkeep f.view
  point_told = ap (λ ps. slice_index ps f.view) is.upkeep_stands.points_are

  -- the view has moved on
  pub gives_moved : (at : ℕ) → at ≡ slice_index p.upkeep.kept.points f.view → (at ≡ f.lo → ⊥) → (u : UpkeepKept) → u ≡ upkeep_claimed worker None p.upkeep.kept
      → GivesInstall (maintained (installing worker w.upkeep) w) (answer.Moved f.view f.lo f.hi at) (record (store_of p) { upkeep = u })
  gives_moved at here other u set =
      let told : at ≡ point w.upkeep f.view = here ∙ point_told in
      subst (λ (c : Installed × Upkeep). GivesInstall (maintained c w) (answer.Moved f.view f.lo f.hi at) (record (store_of p) { upkeep = u }))
      (sym (becomes worker w.upkeep f false claim_told (other_test (point w.upkeep f.view) f.lo (λ e. other (told ∙ e)))))
      (record { answer_is = ap (moved f) told; stands = released_stands p worker u set w is })

  pub takes_moved : (at : ℕ) → at ≡ slice_index p.upkeep.kept.points f.view → (at ≡ f.lo → ⊥) → (old new : ℕ) → new ≡ old → TakesInstalled w.visible (installing worker w.upkeep).0 old new
  takes_moved at here other old new e =
      let told : at ≡ point w.upkeep f.view = here ∙ point_told in
      subst (λ (c : Installed × Upkeep). TakesInstalled w.visible c.0 old new)
      (sym (becomes worker w.upkeep f false claim_told (other_test (point w.upkeep f.view) f.lo (λ e. other (told ∙ e))))) e

  -- it still stands where the step begins
  module _ (at : slice_index p.upkeep.kept.points f.view ≡ f.lo) where
    begins : point w.upkeep f.view ≡ f.lo
    begins = sym point_told ∙ at

    pub claim_kept_step : IsKeptStep w f
    claim_kept_step = record { step = claimed.step; kept = omega (arith, begins, kept_point w f.view is.steady claimed.step.in_use) }

    pub takes_installed : (old new : ℕ) → ((n : ℕ) → IsCostIn p f n → new ≤ old + n) → TakesInstalled w.visible (installing worker w.upkeep).0 old new
    takes_installed old new most =
        subst (λ (c : Installed × Upkeep). TakesInstalled w.visible c.0 old new)
        (sym (becomes worker w.upkeep f true claim_told (same_test (point w.upkeep f.view) f.lo begins)))
        (λ n c. most n (cost_told p w is f claim_kept_step n c))

    module _ (know : Know p.schema.views p.rows.list) where
      pub claim_installs : (f.view < length p.rows.list) × CanInstall (rows_in p.rows.list f.view) f.hi (changes_in p f)
      claim_installs =
          let all =
          can_install_all (changes_in p) (f ∷ []) p.rows.list w (kept w.upkeep.journal (store_of p)) is refl (subst (λ (vs : List ViewDef). Know vs p.rows.list) is.views_are know)
          (claimed.step, begins, tt) (changes_told p w is f claim_kept_step, tt) in
          (all.0, all.1)

      module _ (changes : List SignedRow) (told : changes ≡ changes_in p f) (rows : List ViewKept) (new : ViewInstalled (least_read (kept 0 (store_of p))) f.hi changes f.view p.rows.list rows) (u : UpkeepKept) (set : u ≡ upkeep_claimed worker None (upkeep_stepped f p.upkeep.kept)) where
        def_is : (rows_in p.rows.list f.view).def ≡ view_at p.schema.views f.view
        def_is = know f.view (omega (arith, claim_in_use, rows_long p w is))

        installs : ViewInstalls (least_read (kept 0 (store_of p))) (view_at w.visible.views f.view) f.hi (step_changes w.visible f) (stands.view_kept (map rows_of p.rows.list) f.view) (rows_of new.0)
        installs =
            subst (λ (k : stands.ViewKept). ViewInstalls (least_read (kept 0 (store_of p))) (view_at w.visible.views f.view) f.hi (step_changes w.visible f) k (rows_of new.0)) (sym (rows_at p.rows.list f.view))
            (subst (λ list. ViewInstalls (least_read (kept 0 (store_of p))) (view_at w.visible.views f.view) f.hi list (rows_of (rows_in p.rows.list f.view)) (rows_of new.0)) (told ∙ changes_told p w is f claim_kept_step)
            (to_installs (least_read (kept 0 (store_of p))) (view_at w.visible.views f.view) f.hi changes (rows_in p.rows.list f.view) new.0 (def_is ∙ ap (λ (vs : List ViewDef). view_at vs f.view) is.views_are) new.1))

        pub gives_installed : GivesInstall (maintained (installing worker w.upkeep) w) (answer.Done f.view f.lo f.hi) (record (store_of p) { upkeep = u; rows = map rows_of rows })
        gives_installed =
            let next : World = with_upkeep (with_claim worker None (with_steps (f ∷ []) w.upkeep)) w in
            let placed : map rows_of rows ≡ slice_set (map rows_of p.rows.list) f.view (rows_of new.0) = ap (map rows_of) new.2 ∙ map-set rows_of p.rows.list f.view new.0 in
            subst (λ (c : Installed × Upkeep). GivesInstall (maintained c w) (answer.Done f.view f.lo f.hi) (record (store_of p) { upkeep = u; rows = map rows_of rows }))
            (sym (becomes worker w.upkeep f true claim_told (same_test (point w.upkeep f.view) f.lo begins)))
            (record {
              answer_is = refl;
              stands =
                  subst (λ ks. Stands next (record (store_of p) { upkeep = u; rows = ks })) (sym placed)
                  (subst (λ (k : UpkeepKept). Stands next (record (store_of p) { upkeep = k; rows = slice_set (map rows_of p.rows.list) f.view (rows_of new.0) })) (sym set)
                  (laws.installed_stands w (kept w.upkeep.journal (store_of p)) worker f (rows_of new.0) is claim_told begins installs));
            })

        pub installed_know : Know p.schema.views rows
        installed_know =
            subst (Know p.schema.views) (sym new.2)
            (each_set (λ v k. k.def ≡ view_at p.schema.views v) p.rows.list f.view new.0 (new.1.def_stays ∙ def_is) know)

-- a difference is installed in one of the views
pub placed_installs : (result : Result (Unit {0}) NoMemory) (floor hi : ℕ) (changes : List SignedRow) (view : ℕ) (rows : List ViewKept) (old new : ViewKept) → view < length rows
    → OnOk result (RowsInstall floor hi changes (slice_index_or rows view old) new) → OnOk result (ViewInstalled floor hi changes view rows (slice_set rows view new))
placed_installs (Ok u) floor hi changes view rows old new lt h = (new, subst (λ (k : ViewKept). RowsInstall floor hi changes k new) (get_or_default rows view old no_rows lt) h, refl)
placed_installs (Err e) floor hi changes view rows old new lt h = tt

-- other room changes nothing that is kept
pub same_rows : (view : ℕ) (rows last : List ViewKept) → RoomChanges view rows last → map rows_of last ≡ map rows_of rows
same_rows view rows last h =
    ap (map rows_of) h.1 ∙ map-set_same rows_of rows view (record (rows_in rows view) { spare = h.0 }) no_rows refl

pub same_know : (views : List ViewDef) (view : ℕ) (rows last : List ViewKept) → view < length rows → RoomChanges view rows last → Know views rows → Know views last
same_know views view rows last lt h know =
    subst (Know views) (sym h.1) (each_set (λ v k. k.def ≡ view_at views v) rows view (record (rows_in rows view) { spare = h.0 }) (know view lt) know)

-- ---- the step that a worker is given
picked : {X Y : Type 0} (f : X → Option Y) (xs : List X) → length (filter_map f xs) ≤ length xs
picked f [] = omega arith
picked {X} {Y} f (x ∷ xs) = by (f x) (picked f xs)
  where
    by : (o : Option Y) → length (filter_map f xs) ≤ length xs → length (cons_option o (filter_map f xs)) ≤ length (x ∷ xs)
    by None le = omega arith
    by (Some y) le = omega arith

module _ (p : Store) (w : World) (is : Stands w (store_of p)) where
  views_few : length p.schema.views ≤ 32
  views_few = by (length p.schema.views) refl
    where
      by : (n : ℕ) → length p.schema.views ≡ n → length p.schema.views ≤ 32
      by zero e = omega (arith, e)
      by (suc n) e = omega (arith, e, ((schema_sound p w is).each_view n (omega (arith, e))).room, length-take n p.schema.views)

  told : unclaimed_in p.upkeep.kept ≡ unclaimed w
  told = laws.unclaimed_is_told w (kept w.upkeep.journal (store_of p)) is

  unclaimed_few : length (unclaimed w) ≤ length w.visible.views
  unclaimed_few =
      omega (
        arith,
        picked (λ v. pending_by w v (pending_now w v)) (filter (λ v. not (is_claimed w.upkeep v)) (view_numbers w.visible)),
        length-filter (λ v. not (is_claimed w.upkeep v)) (view_numbers w.visible),
        count_by-le-length (λ v. not (is_claimed w.upkeep v)) (view_numbers w.visible),
        length-range_with_len 0 (length w.visible.views),
      )

  pub is_choice : 0 < length (unclaimed_in p.upkeep.kept) → IsChoice (unclaimed_in p.upkeep.kept)
  is_choice some = record {
    some = some;
    few = omega (arith, ap length told, unclaimed_few, views_few, ap length is.views_are);
    ascending = subst AscendByView (sym told) (unclaimed_ascend w);
  }

  -- the view that a policy chooses, and its step
  pub chosen_in_use : (kind : ℕ) → 0 < length (unclaimed_in p.upkeep.kept) → view_chosen kind (kept 0 (store_of p)) < length w.visible.views
  chosen_in_use kind some =
      subst (λ (list : List Pending). (slice_index_or list (chosen kind list) no_pending).view < length w.visible.views) (sym told)
      (chosen_is kind w (omega (arith, some, ap length told))).in_use

  pub chosen_below : (kind : ℕ) (list : List Pending) (at : ℕ) → list ≡ unclaimed_in p.upkeep.kept → 0 < length list → at ≡ chosen kind list → (slice_index_or list at no_pending).view < length p.upkeep.kept.points
  chosen_below kind list at all some choice =
      let view : (slice_index_or list at no_pending).view ≡ view_chosen kind (kept 0 (store_of p)) =
      ap (λ i. (slice_index_or list i no_pending).view) choice ∙ ap (λ (l : List Pending). (slice_index_or l (chosen kind l) no_pending).view) all in
      omega (arith, view, chosen_in_use kind (omega (arith, some, ap length all)), points_long p w is, ap length is.views_are)

  pub next_planned : (kind : ℕ) (list : List Pending) (at number : ℕ) (x : Option Forced) → list ≡ unclaimed_in p.upkeep.kept → 0 < length list → at ≡ chosen kind list → number ≡ p.base.number
      → x ≡ planned_in (is_inside (live_kept p.txns)) p.settings.combine p.upkeep.kept (slice_index_or list at no_pending).view number → x ≡ next_in kind p
  next_planned kind list at number x all some choice last planned =
      let plan : ℕ → ℕ → Option Forced = λ v m. planned_in (is_inside (live_kept p.txns)) p.settings.combine p.upkeep.kept v m in
      let view : (slice_index_or list at no_pending).view ≡ view_chosen kind (kept 0 (store_of p)) =
      ap (λ i. (slice_index_or list i no_pending).view) choice ∙ ap (λ (l : List Pending). (slice_index_or l (chosen kind l) no_pending).view) all in
      planned ∙ (λ i. plan (view i) (last i)) ∙ by (unclaimed_in p.upkeep.kept) (omega (arith, some, ap length all))
    where
      by : (l : List Pending) → 0 < length l → planned_in (is_inside (live_kept p.txns)) p.settings.combine p.upkeep.kept (view_chosen kind (kept 0 (store_of p))) p.base.number ≡ next_among l kind p
      by [] lt = absurd (omega (arith, lt))
      by (q ∷ qs) lt = refl

  pub next_is_kept : (kind : ℕ) (f : Forced) → next_in kind p ≡ Some f → IsKeptStep w f
  next_is_kept kind f e = by (unclaimed_in p.upkeep.kept) refl e
    where
      by : (list : List Pending) → unclaimed_in p.upkeep.kept ≡ list → next_among list kind p ≡ Some f → IsKeptStep w f
      by [] h e = absurd (cc)
      by (q ∷ qs) h e =
          let v = view_chosen kind (kept 0 (store_of p)) in
          let settings : Settings = record { combine = p.settings.combine; limit = 0; policy = 0 } in
          let lt = chosen_in_use kind (omega (arith, ap length h)) in
          let plan : planned settings v w p.base.number ≡ Some f = sym (planned_is w (kept w.upkeep.journal (store_of p)) is settings v p.base.number lt) ∙ e in
          let from = steps.planned_is settings w.visible v p.base.number (point w.upkeep v) f plan in
          record { step = planned_is_step w settings v p.base.number f is.steady lt plan; kept = omega (arith, from.lo_is, kept_point w v is.steady lt) }

  -- what a fetch does, told from the parts
  fetching_told : (settings : Settings) (worker : ℕ) → settings.combine ≡ p.settings.combine → claim_kept p.upkeep.kept worker ≡ None
      → engine_fetching settings worker (kept w.upkeep.journal (store_of p)) ≡ kept_fetched (next_in settings.policy p) worker (kept w.upkeep.journal (store_of p))
  fetching_told settings worker same free = ap (λ (x : Option Forced). kept_by x settings worker (kept w.upkeep.journal (store_of p))) free ∙ by (unclaimed_in p.upkeep.kept)
    where
      by : (list : List Pending) → kept_among list settings worker (kept w.upkeep.journal (store_of p)) ≡ kept_fetched (next_among list settings.policy p) worker (kept w.upkeep.journal (store_of p))
      by [] = refl
      by (q ∷ qs) =
          ap (λ c. kept_fetched (planned_in (inside_kept (kept w.upkeep.journal (store_of p))) c p.upkeep.kept (view_chosen settings.policy (kept 0 (store_of p))) p.base.number) worker (kept w.upkeep.journal (store_of p))) same

  module _ (settings : Settings) (worker kind : ℕ) (same : settings.combine ≡ p.settings.combine) (policy : settings.policy ≡ kind) (free : claim_kept p.upkeep.kept worker ≡ None) where
    fits : (x : Option Forced) → next_in kind p ≡ x
        → ((fetching settings worker w).0 ≡ (kept_fetched x worker (kept w.upkeep.journal (store_of p))).0)
        × StandsFor (record { visible = w.visible; upkeep = (fetching settings worker w).1 }) (kept_fetched x worker (kept w.upkeep.journal (store_of p))).1
    fits x next =
        let e = kept w.upkeep.journal (store_of p) in
        subst (λ (y : Fetched × stands.EngineKept). ((fetching settings worker w).0 ≡ y.0) × StandsFor (record { visible = w.visible; upkeep = (fetching settings worker w).1 }) y.1)
        (fetching_told settings worker same free ∙ ap (λ k. kept_fetched (next_in k p) worker e) policy ∙ ap (λ (y : Option Forced). kept_fetched y worker e) next)
        (fetch_stands settings worker w e is)

    -- what it reads
    pub takes_none : (old new : ℕ) → next_in kind p ≡ None → new ≡ old → TakesGiven w.visible (fetching settings worker w).0 old new
    takes_none old new next e = subst (λ (x : Fetched). TakesGiven w.visible x old new) (sym (fits None next).0) e

    pub takes_step : (f : Forced) (old new : ℕ) → next_in kind p ≡ Some f → ((n : ℕ) → IsCostIn p f n → new ≤ old + n) → TakesGiven w.visible (fetching settings worker w).0 old new
    takes_step f old new next most = subst (λ (x : Fetched). TakesGiven w.visible x old new) (sym (fits (Some f) next).0) (λ n c. most n (cost_told p w is f (next_is_kept kind f next) n c))

    -- a step that is claimed
    pub claims_none : next_in kind p ≡ None → GivesClaim (maintained (fetching settings worker w) w) None (store_of p)
    claims_none next =
        let h = fits None next in
        record { step_is = sym h.0; stands = any_journal (with_upkeep (fetching settings worker w).1 w) w.upkeep.journal (store_of p) h.1 }

    pub claims_step : (f : Forced) (u : UpkeepKept) → next_in kind p ≡ Some f → u ≡ upkeep_claimed worker (Some f) p.upkeep.kept
        → GivesClaim (maintained (fetching settings worker w) w) (Some f) (record (store_of p) { upkeep = u })
    claims_step f u next set =
        let h = fits (Some f) next in
        let next_world : World = with_upkeep (fetching settings worker w).1 w in
        record {
          step_is = sym h.0;
          stands =
              subst (λ (k : UpkeepKept). Stands next_world (record (store_of p) { upkeep = k })) (sym set)
              (any_journal next_world w.upkeep.journal (record (store_of p) { upkeep = upkeep_claimed worker (Some f) p.upkeep.kept }) h.1);
        }

    -- and one that is fetched
    pub gives_none : next_in kind p ≡ None → GivesFetch w.visible (maintained (fetching settings worker w) w) None (store_of p)
    gives_none next =
        let h = fits None next in
        record {
          input_is = subst (λ (x : Fetched). IsGiven w.visible x None) (sym h.0) refl;
          stands = (claims_none next).stands;
        }

    pub gives_step : (f : Forced) (input : Input) (u : UpkeepKept) → next_in kind p ≡ Some f → IsInputIn p f input → u ≡ upkeep_claimed worker (Some f) p.upkeep.kept
        → GivesFetch w.visible (maintained (fetching settings worker w) w) (Some input) (record (store_of p) { upkeep = u })
    gives_step f input u next made set =
        let h = fits (Some f) next in
        record {
          input_is = subst (λ (x : Fetched). IsGiven w.visible x (Some input)) (sym h.0) (input, refl, input_told p w is f (next_is_kept kind f next) input made);
          stands = (claims_step f u next set).stands;
        }
