-- The steps that a query forces are those of the world, and can be taken.
use Rattle.std.proofs.Common.{◌≡◌, ℕ, zero, suc, ◌-◌, ◌<◌, ◌≤◌, List, [], ◌∷◌, ◌++◌, take, length, Option, Some, None, refl, sym, ap, ap₂, ◌∙◌, subst, arith}
use Rattle.std.specs.Prelude.{slice_index_or, unwrap_or, ◌⊎◌}
use Rattle.std.specs.List.{AllByRecursion, AllZip, filter_map}
use Rattle.std.proofs.lemmas.Cmp.{nat_cmp_total}
use mathlib.Core.Logic.{inl, inr}
use Rattle.lv_schema.specs.declared.forced.Forced.{Forced}
use Rattle.lv_schema.specs.declared.open.Open.{Open}
use Rattle.lv_schema.specs.declared.part.Part.{Part}
use Rattle.lv_schema.specs.declared.query.Query.{Query}
use Rattle.lv_schema.specs.declared.table.TableDef.{TableDef}
use Rattle.lv_schema.specs.declared.view.ViewDef.{ViewDef}
use Rattle.lv_schema.specs.Bound.{IsBoundQuery}
use Rattle.lv_schema.specs.Differences.{difference}
use Rattle.lv_schema.specs.Greatest.{IsLive}
use Rattle.lv_schema.specs.Jobs.{IsPart, old_sides, new_sides, parts_between}
use Rattle.lv_schema.specs.Steady.{IsSteady, IsStep}
use Rattle.lv_schema.specs.StepPlans.{forced, forced_within}
use Rattle.lv_schema.specs.Tasks.{AreFresh, pending}
use Rattle.lv_schema.specs.UpkeepCases.{forced_by, views_of, with_steps, view_number}
use Rattle.lv_schema.specs.World.{Settings, Visible, World, last, opened, point, table_at, transaction, view_at}
use Rattle.lv_schema.proofs.Apart.{all_weaker}
use Rattle.lv_schema.proofs.JobParts.{parts_are}
use Rattle.lv_schema.proofs.OnceLists.{once_up}
use Rattle.lv_schema.proofs.ServedQueries.{kept_point}
use Rattle.lv_base.proofs.Told.{told_tables}
use Rattle.lv_maint.specs.Inputs.{Input}
use Rattle.lv_upkeep.specs.Kept.{forced_in}
use Rattle.lv_stands.specs.Moves.{StepsFollow, inside_kept, step_changes}
use Rattle.lv_stands.proofs.Carried.{step_steady}
use Rattle.lv_stands.proofs.Changes.{live_at}
use Rattle.lv_stands.proofs.Inputs.{inputs_are_told}
use Rattle.lv_stands.proofs.Runs.{forced_follow}
use Rattle.lv_stands.proofs.Upkeeps.{forced_are}
use Rattle.lv_store.specs.declared.store.Store.{Store}
use Rattle.lv_store.specs.Answering.{IsCostBetween, IsInputBetween}
use Rattle.lv_store.specs.Inputs.{AreCosts, IsCostOf, IsInputOf}
use Rattle.lv_store.specs.Querying.{CanCompute, IsCostIn, IsInputIn, changes_in, parts_in, snapshot_in, steps_in}
use Rattle.lv_store.specs.Kept.{Stands, kept, store_of}
use Rattle.lv_store.proofs.OwnReads.{schema_sound, snapshot_is}
use Rattle.lv_store.proofs.Views.{views_in_use}

-- a session reads at a live snapshot, or at the last commit
pub read_at : (w : World) (session : ℕ) → IsLive w.visible (transaction session w.visible).snapshot ⊎ ((transaction session w.visible).snapshot ≡ last w.visible)
read_at w session = by (slice_index_or w.visible.sessions session None) refl
  where
    by : (o : Option Open) → slice_index_or w.visible.sessions session None ≡ o → IsLive w.visible (unwrap_or o (opened w.visible)).snapshot ⊎ ((unwrap_or o (opened w.visible)).snapshot ≡ last w.visible)
    by None e = inr refl
    by (Some o) e = inl (live_at w.visible.sessions session o e)

-- steps that follow each other begin where nothing was dropped
pub record IsKeptStep (w : World) (f : Forced) : Type 0 where
  pub step : IsStep w.visible f
  pub kept : w.upkeep.pruned ≤ f.lo

each_kept : (fs : List Forced) (w : World) → IsSteady w → StepsFollow w fs → AllByRecursion (IsKeptStep w) fs
each_kept [] w steady follow = tt
each_kept (f ∷ fs) w steady follow =
    let next : World = record { visible = w.visible; upkeep = with_steps (f ∷ []) w.upkeep } in (
      record { step = follow.0; kept = omega (arith, follow.1, kept_point w f.view steady follow.0.in_use) },
      all_same fs (each_kept fs next (step_steady w f steady follow.0 follow.1) follow.2),
    )
  where
    all_same : (gs : List Forced) → AllByRecursion (IsKeptStep (record { visible = w.visible; upkeep = with_steps (f ∷ []) w.upkeep })) gs → AllByRecursion (IsKeptStep w) gs
    all_same [] a = tt
    all_same (g ∷ gs) a = (record { step = a.0.step; kept = a.0.kept }, all_same gs a.1)

-- where nothing is pending, nothing is forced
none_from : (settings : Settings) (s : Visible) (v m turns lo : ℕ) → pending s (view_at s.views v) lo m ≡ [] → forced_within settings s v m turns lo ≡ []
none_from settings s v m zero lo e = refl
none_from settings s v m (suc turns) lo e = rw e refl

pub nothing_forced : (settings : Settings) (w : World) (m : ℕ) (views : List ℕ) → AreFresh w views m → forced settings w views m ≡ []
nothing_forced settings w m [] fresh = refl
nothing_forced settings w m (v ∷ views) fresh =
    ap₂ (λ xs ys. xs ++ ys) (none_from settings w.visible v m (m - point w.upkeep v) (point w.upkeep v) fresh.0) (nothing_forced settings w m views fresh.1)

module _ (p : Store) (w : World) (is : Stands w (store_of p)) where
  parts_told : (f : Forced) → IsKeptStep w f → parts_in p f ≡ parts_between w.visible (view_at w.visible.views f.view) f.lo f.hi
  parts_told f can = (inputs_are_told w (kept w.upkeep.journal (store_of p)) f is can.step can.kept).0

  -- what a step is computed from, and the difference that it gives, are those of the world
  pub input_told : (f : Forced) → IsKeptStep w f → (input : Input) → IsInputIn p f input → IsInputBetween w.visible f input
  input_told f can input h =
      subst (λ (ps : List Part). IsInputOf (view_at w.visible.views f.view) f ps input) (parts_told f can)
      (subst (λ (vs : List ViewDef). IsInputOf (view_at vs f.view) f (parts_in p f) input) is.views_are h)

  pub cost_told : (f : Forced) → IsKeptStep w f → (n : ℕ) → IsCostBetween w.visible f n → IsCostIn p f n
  cost_told f can n h =
      subst (λ (vs : List ViewDef). IsCostOf (view_at vs f.view) (parts_in p f) n) (sym is.views_are)
      (subst (λ (ps : List Part). IsCostOf (view_at w.visible.views f.view) ps n) (sym (parts_told f can)) h)

  pub costs_told : (fs : List Forced) → AllByRecursion (IsKeptStep w) fs → (n : ℕ) → AreCosts (IsCostBetween w.visible) fs n → AreCosts (IsCostIn p) fs n
  costs_told [] all n h = h
  costs_told (f ∷ fs) all n h = (h.0, h.1, cost_told f all.0 h.0 h.2, costs_told fs all.1 h.1 h.3, h.4)

  pub changes_told : (f : Forced) → IsKeptStep w f → changes_in p f ≡ step_changes w.visible f
  changes_told f can =
      ap (λ (vs : List ViewDef). difference (view_at vs f.view) (old_sides (parts_in p f)) (new_sides (parts_in p f))) is.views_are
      ∙ (inputs_are_told w (kept w.upkeep.journal (store_of p)) f is can.step can.kept).1

  pub can_compute : (f : Forced) → IsKeptStep w f → CanCompute p f
  can_compute f can =
      let step = can.step in
      let lt : f.view < length p.schema.views = subst (λ (vs : List ViewDef). f.view < length vs) (sym is.views_are) step.in_use in
      let fits = parts_are w.visible is.steady.sound f.lo f.hi (omega (arith, step.rises, step.within)) step.within f.view step.in_use in
      record {
        in_use = lt;
        kept = omega (arith, is.base_stands.pruned_is, can.kept);
        views = take f.view p.schema.views;
        fit = record {
          bound = (schema_sound p w is).each_view f.view lt;
          each =
              subst (AllZip (λ t q. IsPart (table_at p.schema.tables t) q) (view_at p.schema.views f.view).tables) (sym (parts_told f can))
              (subst (λ (vs : List ViewDef). AllZip (λ t q. IsPart (table_at p.schema.tables t) q) (view_at vs f.view).tables (parts_between w.visible (view_at w.visible.views f.view) f.lo f.hi)) (sym is.views_are)
              (subst (λ (ts : List TableDef). AllZip (λ t q. IsPart (table_at ts t) q) (view_at w.visible.views f.view).tables (parts_between w.visible (view_at w.visible.views f.view) f.lo f.hi)) (sym is.tables_are) fits));
        };
        tables_are = told_tables w.visible w.upkeep.pruned p.base is.base_stands ∙ sym is.tables_are;
      }

  -- the same of steps that follow each other
  module _ (fs : List Forced) (follow : StepsFollow w fs) where
    pub steps_kept : AllByRecursion (IsKeptStep w) fs
    steps_kept = each_kept fs w is.steady follow

    pub steps_in_use : (n : ℕ) → length p.schema.views ≤ n → AllByRecursion (λ f. f.view < n) fs
    steps_in_use n le = all_weaker (IsKeptStep w) (λ f. f.view < n) (λ f can. omega (arith, can.step.in_use, le, ap length is.views_are)) fs steps_kept

    pub can_compute_all : AllByRecursion (CanCompute p) fs
    can_compute_all = all_weaker (IsKeptStep w) (CanCompute p) can_compute fs steps_kept

    pub changes_all_told : AllByRecursion (λ f. changes_in p f ≡ step_changes w.visible f) fs
    changes_all_told = all_weaker (IsKeptStep w) (λ f. changes_in p f ≡ step_changes w.visible f) changes_told fs steps_kept

    pub costs_all_told : (n : ℕ) → AreCosts (IsCostBetween w.visible) fs n → AreCosts (IsCostIn p) fs n
    costs_all_told = costs_told fs steps_kept

    inputs_all_told : (inputs : List Input) → AllZip (IsInputIn p) fs inputs → AllZip (IsInputBetween w.visible) fs inputs
    inputs_all_told inputs h = zip_told fs steps_kept inputs h
      where
        zip_told : (gs : List Forced) → AllByRecursion (IsKeptStep w) gs → (inputs : List Input) → AllZip (IsInputIn p) gs inputs → AllZip (IsInputBetween w.visible) gs inputs
        zip_told [] all [] h = tt
        zip_told [] all (i ∷ inputs) h = absurd h
        zip_told (g ∷ gs) all [] h = absurd h
        zip_told (g ∷ gs) all (i ∷ inputs) h = (input_told g all.0 i h.0, zip_told gs all.1 inputs h.1)

  module _ (session : ℕ) (query : Query) (bound : IsBoundQuery p.schema.tables p.schema.views query) where
    pub views_below : AllByRecursion (λ v. v < length w.visible.views) (views_of query)
    views_below = subst (λ (vs : List ViewDef). AllByRecursion (λ v. v < length vs) (views_of query)) is.views_are (views_in_use p.schema.tables p.schema.views query.rels bound.in_use)

    pub steps_are : (settings : Settings) → settings.combine ≡ p.settings.combine → steps_in p session query ≡ forced_by settings session query w
    steps_are settings same =
        let e = kept w.upkeep.journal (store_of p) in
        ap (λ c. forced_in (inside_kept e) c p.upkeep.kept (views_of query) (snapshot_in p session)) (sym same)
        ∙ ap (forced_in (inside_kept e) settings.combine p.upkeep.kept (views_of query)) (snapshot_is p w is session)
        ∙ forced_are w e is settings (views_of query) (transaction session w.visible).snapshot views_below

    abbrev pub with_combine : Settings
    with_combine = record { combine = p.settings.combine; limit = 0; policy = 0 }

    pub steps_follow : StepsFollow w (steps_in p session query)
    steps_follow =
        subst (StepsFollow w) (sym (steps_are with_combine refl))
        (forced_follow with_combine w (views_of query) (transaction session w.visible).snapshot is.steady (once_up nat_cmp_total (filter_map view_number query.rels)) views_below)

    pub inputs_told : (settings : Settings) → settings.combine ≡ p.settings.combine → (inputs : List Input) → AllZip (IsInputIn p) (steps_in p session query) inputs → AllZip (IsInputBetween w.visible) (forced_by settings session query w) inputs
    inputs_told settings same inputs h = subst (λ fs. AllZip (IsInputBetween w.visible) fs inputs) (steps_are settings same) (inputs_all_told (steps_in p session query) steps_follow inputs h)

    pub forced_costs : (settings : Settings) → settings.combine ≡ p.settings.combine → (n : ℕ) → AreCosts (IsCostBetween w.visible) (forced_by settings session query w) n → AreCosts (IsCostIn p) (steps_in p session query) n
    forced_costs settings same n h = costs_all_told (steps_in p session query) steps_follow n (subst (λ fs. AreCosts (IsCostBetween w.visible) fs n) (sym (steps_are settings same)) h)

    -- a query whose views are fresh forces nothing
    pub fresh_forces_none : AreFresh w (views_of query) (transaction session w.visible).snapshot → steps_in p session query ≡ []
    fresh_forces_none fresh = steps_are with_combine refl ∙ nothing_forced with_combine w (transaction session w.visible).snapshot (views_of query) fresh
