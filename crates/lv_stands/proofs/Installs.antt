-- A view's difference can be installed in the rows that are kept of it, and what a query then reads.
use Rattle.std.proofs.Common.{◌≡◌, ℕ, ◌-◌, ◌<◌, ◌≤◌, Bool, true, false, List, [], ◌∷◌, length, refl, sym, ap, ◌∙◌, subst, arith}
use Rattle.std.specs.Prelude.{◌⊎◌, if◌then◌else◌}
use Rattle.std.specs.List.{AllByRecursion}
use Rattle.lv_schema.specs.declared.forced.Forced.{Forced}
use Rattle.lv_schema.specs.declared.view.ViewDef.{ViewDef}
use Rattle.lv_schema.specs.Applicable.{AreNetted, ApplyToGroups, ApplyToRows}
use Rattle.lv_schema.specs.Differences.{summed_columns, view_difference, groups_of}
use Rattle.lv_schema.specs.Greatest.{IsChain, IsLive, end_of}
use Rattle.lv_schema.specs.Groups.{view_rows}
use Rattle.lv_schema.specs.SignedRows.{netted}
use Rattle.lv_schema.specs.Steady.{IsStep, IsSteady}
use Rattle.lv_schema.specs.StepPlans.{at_point, forced_from, view_point}
use Rattle.lv_schema.specs.Tasks.{pending}
use Rattle.lv_schema.specs.World.{World, last, snap, view_at, point, Settings}
use Rattle.lv_schema.proofs.Applies.{difference_netted}
use Rattle.lv_schema.proofs.JoinChanges.{groups_apply_between, rows_apply_between}
use Rattle.lv_schema.proofs.PlannedSteps.{planned_is, forced_chain, chain_ends}
use Rattle.lv_schema.proofs.ServedReaders.{query_served}
use Rattle.lv_schema.proofs.Stays.{view_stays}
use Rattle.lv_viewrows.specs.Changed.{CanInstall, groups_with, sums_of}
use Rattle.lv_viewrows.specs.Kept.{groups_at, rows_listed}
use Rattle.lv_stands.specs.Kept.{EngineKept, view_kept, rows_shown}
use Rattle.lv_stands.specs.Moves.{StepsFollow, changes_of, step_changes, with_room}
use Rattle.lv_stands.specs.Stands.{StandsFor}
use Rattle.lv_stands.proofs.JoinGroups.{nothing_summed}
use Rattle.lv_stands.proofs.Runs.{one_view}
use Rattle.lv_stands.proofs.Sums.{steps_add_up, steps_rise}
use Rattle.lv_stands.proofs.ViewGroups.{groups_lead_on, groups_list_rows, is_plain_list}

module _ (w : World) (e : EngineKept) (v : ℕ) (is : StandsFor w e) (lt : v < length w.visible.views) where
  abbrev view : ViewDef
  view = view_at w.visible.views v

  abbrev lo : ℕ
  lo = point w.upkeep v

  within : point w.upkeep v ≤ last w.visible
  within = (is.steady.views v lt).within

  at_is : (view_kept e.rows v).at ≡ point w.upkeep v
  at_is = (is.views_stand.each v lt).at_is

  long : v < length w.upkeep.points
  long = omega (arith, lt, is.steady.points)

  as_many : length (summed_columns view) ≡ sums_of view
  as_many = by (view_at w.visible.views v).grouped refl
    where
      by : (b : Bool) → (view_at w.visible.views v).grouped ≡ b → length (summed_columns (view_at w.visible.views v)) ≡ sums_of (view_at w.visible.views v)
      by true g = λ i. if sym g i then length (summed_columns (view_at w.visible.views v)) else 0
      by false g =
          ap length (nothing_summed w.visible.tables (view_at w.visible.views v) (is_plain_list w.visible is.steady.sound v lt g))
          ∙ (λ i. if sym g i then length (summed_columns (view_at w.visible.views v)) else 0)

  groups_now : groups_at (view_kept e.rows v).at (view_kept e.rows v).versions ≡ groups_of view (snap w.visible lo)
  groups_now = (is.views_stand.each v lt).groups_are (view_kept e.rows v).at (omega (arith, at_is))

  rows_now : rows_shown view (view_kept e.rows v).at (view_kept e.rows v) ≡ view_rows view (snap w.visible lo)
  rows_now = (is.views_stand.each v lt).served.now (view_kept e.rows v).at (omega (arith, at_is))

  pub can_install : (hi spare : ℕ) → lo < hi → hi ≤ last w.visible → CanInstall (with_room view spare (view_kept e.rows v)) hi (view_difference view (snap w.visible lo) (snap w.visible hi))
  can_install hi spare rises upto = record {
    later = omega (arith, rises, at_is);
    netted = subst (λ n. AreNetted n (view_difference (view_at w.visible.views v) (snap w.visible (point w.upkeep v)) (snap w.visible hi))) as_many (difference_netted (view_at w.visible.views v) (snap w.visible (point w.upkeep v)) (snap w.visible hi));
    rows = λ joins. subst (λ rows. ApplyToRows rows (view_difference (view_at w.visible.views v) (snap w.visible (point w.upkeep v)) (snap w.visible hi))) (sym rows_now)
        (rows_apply_between w.visible is.steady.sound v lt (point w.upkeep v) hi within upto joins);
    groups = λ grouped. subst (λ groups. ApplyToGroups groups (view_difference (view_at w.visible.views v) (snap w.visible (point w.upkeep v)) (snap w.visible hi))) (sym groups_now)
        (groups_apply_between w.visible is.steady.sound v lt (point w.upkeep v) hi within upto);
  }

  pub rows_with : (hi : ℕ) → hi ≤ last w.visible
      → rows_listed view (groups_with (view_difference view (snap w.visible lo) (snap w.visible hi)) (groups_at (view_kept e.rows v).at (view_kept e.rows v).versions)) ≡ view_rows view (snap w.visible hi)
  rows_with hi upto =
      ap (λ groups. rows_listed (view_at w.visible.views v) (groups_with (view_difference (view_at w.visible.views v) (snap w.visible (point w.upkeep v)) (snap w.visible hi)) groups)) groups_now
      ∙ ap (rows_listed (view_at w.visible.views v)) (groups_lead_on w.visible is.steady.sound v lt (point w.upkeep v) hi upto)
      ∙ groups_list_rows w.visible is.steady.sound v lt hi upto

  module _ (fs : List Forced) (follow : StepsFollow w fs) (own : AllByRecursion (λ f. f.view ≡ v) fs) (some : 0 < length fs) where
    pub can_install_all : (spare : ℕ) → CanInstall (with_room view spare (view_kept e.rows v)) (end_of lo fs) (netted (length (summed_columns view)) (changes_of w.visible fs))
    can_install_all spare =
        let up = steps_rise v fs w long follow own some in
        subst (CanInstall (with_room (view_at w.visible.views v) spare (view_kept e.rows v)) (end_of (point w.upkeep v) fs)) (sym (steps_add_up v fs w long follow own some))
        (can_install (end_of (point w.upkeep v) fs) spare up.0 up.1)

    pub rows_with_all : rows_listed view (groups_with (netted (length (summed_columns view)) (changes_of w.visible fs)) (groups_at (view_kept e.rows v).at (view_kept e.rows v).versions)) ≡ view_rows view (snap w.visible (end_of lo fs))
    rows_with_all =
        let up = steps_rise v fs w long follow own some in
        ap (λ list. rows_listed (view_at w.visible.views v) (groups_with list (groups_at (view_kept e.rows v).at (view_kept e.rows v).versions))) (steps_add_up v fs w long follow own some)
        ∙ rows_with (end_of (point w.upkeep v) fs) up.1

pub step_installs : (w : World) (e : EngineKept) (f : Forced) (spare : ℕ) → StandsFor w e → IsStep w.visible f → point w.upkeep f.view ≡ f.lo
    → CanInstall (with_room (view_at w.visible.views f.view) spare (view_kept e.rows f.view)) f.hi (step_changes w.visible f)
step_installs w e f spare is step at =
    subst (λ lo. CanInstall (with_room (view_at w.visible.views f.view) spare (view_kept e.rows f.view)) f.hi (view_difference (view_at w.visible.views f.view) (snap w.visible lo) (snap w.visible f.hi))) at
    (can_install w e f.view is step.in_use f.hi spare (omega (arith, at, step.rises)) step.within)

pub in_use : (w : World) (v : ℕ) (fs : List Forced) → StepsFollow w fs → AllByRecursion (λ f. f.view ≡ v) fs → 0 < length fs → v < length w.visible.views
in_use w v [] follow own some = absurd (omega arith)
in_use w v (f ∷ fs) follow own some = subst (λ u. u < length w.visible.views) own.0 follow.0.in_use

pub sums_are : (w : World) (v : ℕ) (fs : List Forced) → IsSteady w → StepsFollow w fs → AllByRecursion (λ f. f.view ≡ v) fs → 0 < length fs
    → netted (length (summed_columns (view_at w.visible.views v))) (changes_of w.visible fs) ≡ view_difference (view_at w.visible.views v) (snap w.visible (point w.upkeep v)) (snap w.visible (end_of (point w.upkeep v) fs))
sums_are w v fs steady follow own some = steps_add_up v fs w (omega (arith, in_use w v fs follow own some, steady.points)) follow own some

-- ---- the steps that a query forces
module _ (settings : Settings) (w : World) (v m : ℕ) (steady : IsSteady w) (lt : v < length w.visible.views) where
  abbrev steps : List Forced
  steps = forced_from settings w.visible (view_point w v) m

  created : (view_at w.visible.views v).created ≤ point w.upkeep v
  created = let at = steady.views v lt in omega (arith, at.created, at.marked)

  chain : IsChain settings w.visible (at_point v (point w.upkeep v)) m (forced_from settings w.visible (view_point w v) m)
  chain = forced_chain settings w.visible v m (m - point w.upkeep v) (point w.upkeep v) (omega arith)

  of_view : (fs : List Forced) (from : ℕ) → IsChain settings w.visible (at_point v from) m fs → AllByRecursion (λ f. f.view ≡ v) fs
  of_view [] from c = tt
  of_view (f ∷ fs) from c = ((planned_is settings w.visible v m from f c.0).view, of_view fs f.hi c.1)

  pub forced_follow_on : StepsFollow w (forced_from settings w.visible (view_point w v) m) × AllByRecursion (λ f. f.view ≡ v) (forced_from settings w.visible (view_point w v) m)
  forced_follow_on = (
    one_view settings w.visible m v (m - point w.upkeep v) (point w.upkeep v) w.upkeep lt (omega (arith, lt, steady.points)) created refl,
    of_view steps (point w.upkeep v) chain,
  )

  ends : (fs : List Forced) (from : ℕ) → IsChain settings w.visible (at_point v from) m fs → 0 < length fs → (from < end_of from fs) × (end_of from fs ≤ m)
  ends [] from c some = absurd (omega arith)
  ends (f ∷ []) from c some = let p = planned_is settings w.visible v m from f c.0 in (p.rises, p.upto)
  ends (f ∷ g ∷ fs) from c some =
      let p = planned_is settings w.visible v m from f c.0 in
      let rest = ends (g ∷ fs) f.hi c.1 (omega arith) in
      (omega (arith, p.rises, rest.0), rest.1)

  pub rows_then : m ≤ last w.visible → 0 < length steps → view_rows (view_at w.visible.views v) (snap w.visible (end_of (point w.upkeep v) steps)) ≡ view_rows (view_at w.visible.views v) (snap w.visible m)
  rows_then within some =
      let end = ends steps (point w.upkeep v) chain some in
      view_stays w.visible (view_at w.visible.views v) (end_of (point w.upkeep v) steps) m steady.sound (omega (arith, created, end.0)) end.1 within
      (chain_ends settings w.visible v m (point w.upkeep v) steps chain)

  nothing_pends : steps ≡ [] → pending w.visible (view_at w.visible.views v) (point w.upkeep v) m ≡ []
  nothing_pends none = chain_ends settings w.visible v m (point w.upkeep v) [] (subst (IsChain settings w.visible (at_point v (point w.upkeep v)) m) none chain)

pub query_rows : (settings : Settings) (w : World) (e : EngineKept) (v m : ℕ) → StandsFor w e → v < length w.visible.views → IsLive w.visible m ⊎ (m ≡ last w.visible) → m ≤ last w.visible
    → (forced_from settings w.visible (view_point w v) m ≡ [] → rows_shown (view_at w.visible.views v) m (view_kept e.rows v) ≡ view_rows (view_at w.visible.views v) (snap w.visible m))
    × (0 < length (forced_from settings w.visible (view_point w v) m)
    → view_rows (view_at w.visible.views v) (snap w.visible (end_of (point w.upkeep v) (forced_from settings w.visible (view_point w v) m))) ≡ view_rows (view_at w.visible.views v) (snap w.visible m))
query_rows settings w e v m is lt from within = (
  λ none. query_served w v m (λ n. rows_shown (view_at w.visible.views v) n (view_kept e.rows v)) is.steady lt (is.views_stand.each v lt).served from within (nothing_pends settings w v m is.steady lt none),
  rows_then settings w v m is.steady lt within,
)
