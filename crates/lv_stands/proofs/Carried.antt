-- What stands stays as what statements see goes on: views, sessions, and steady worlds.
use Rattle.std.proofs.Common.{◌≡◌, ℕ, ◌<◌, ◌≤◌, List, [], ◌∷◌, length, get_or, Option, Some, None, refl, sym, ap, ◌∙◌, subst, arith}
use Rattle.std.specs.Prelude.{◌⊎◌, slice_set}
use Rattle.std.specs.List.{AllByRecursion, AllZip}
use Rattle.std.proofs.lemmas.List.{length-set, get_or-set_same, get_or-set_other}
use mathlib.Core.Logic.{inl, inr}
use Rattle.lv_schema.specs.declared.forced.Forced.{Forced}
use Rattle.lv_schema.specs.declared.open.Open.{Open}
use Rattle.lv_schema.specs.declared.view.ViewDef.{ViewDef}
use Rattle.lv_schema.specs.Differences.{groups_over}
use Rattle.lv_schema.specs.GoesOn.{GoesOn}
use Rattle.lv_schema.specs.JoinViews.{parts_of}
use Rattle.lv_schema.specs.Keys.{at_place}
use Rattle.lv_schema.specs.SoundWorld.{IsOpenOrNone}
use Rattle.lv_schema.specs.Steady.{IsStep, IsSteady}
use Rattle.lv_schema.specs.UpkeepCases.{with_steps}
use Rattle.lv_schema.specs.World.{Visible, World, last, snap, point}
use Rattle.lv_schema.proofs.GoingOn.{served_goes_on}
use Rattle.lv_schema.proofs.SteadyWorlds.{follows_itself, moves_steady}
use Rattle.lv_overlay.specs.Puts.{over}
use Rattle.lv_txn.specs.Kept.{TransactionKept}
use Rattle.lv_stands.specs.Kept.{ViewKept, rows_shown}
use Rattle.lv_stands.specs.Stands.{ViewStands, TransactionStands, SessionStands}

-- ---- views
parts_same : (s t : Visible) → GoesOn s t → (tables : List ℕ) (k : ℕ) → k ≤ last s → parts_of tables (snap t k) ≡ parts_of tables (snap s k)
parts_same s t on [] k le = refl
parts_same s t on (table ∷ tables) k le = let first = on.rows k table le in let rest = parts_same s t on tables k le in λ i. first i ∷ rest i

pub view_goes_on : (s t : Visible) → GoesOn s t → (view : ViewDef) (p : ℕ) (k : ViewKept) → p ≤ last s → ViewStands s view p k → ViewStands t view p k
view_goes_on s t on view p k le is = record {
  at_is = is.at_is;
  served = served_goes_on s t on view p (λ n. rows_shown view n k) le is.served;
  groups_are = λ n from. is.groups_are n from ∙ ap (groups_over view) (sym (parts_same s t on view.tables p le));
}

-- ---- sessions
pub transaction_goes_on : (s t : Visible) (o : Open) (k : TransactionKept) → t.tables ≡ s.tables → snap t o.snapshot ≡ snap s o.snapshot → TransactionStands s o k → TransactionStands t o k
transaction_goes_on s t o k tables e is = record {
  snapshot_is = is.snapshot_is;
  actions_are = is.actions_are;
  changes_are = is.changes_are;
  own = λ p. (λ i. over k.puts p (at_place (tables i) (e i) p)) ∙ is.own p ∙ (λ i. at_place (sym tables i) o.own p);
}

pub sessions_go_on : (s t : Visible) (os : List (Option Open)) (ks : List (Option TransactionKept)) → t.tables ≡ s.tables → ((k : ℕ) → k ≤ last s → snap t k ≡ snap s k)
    → AllByRecursion (IsOpenOrNone s) os → AllZip (SessionStands s) os ks → AllZip (SessionStands t) os ks
sessions_go_on s t [] [] tables snaps live is = tt
sessions_go_on s t [] (k ∷ ks) tables snaps live is = absurd is
sessions_go_on s t (o ∷ os) [] tables snaps live is = absurd is
sessions_go_on s t (None ∷ os) (None ∷ ks) tables snaps live is = (tt, sessions_go_on s t os ks tables snaps live.1 is.1)
sessions_go_on s t (None ∷ os) (Some k ∷ ks) tables snaps live is = absurd is.0
sessions_go_on s t (Some o ∷ os) (None ∷ ks) tables snaps live is = absurd is.0
sessions_go_on s t (Some o ∷ os) (Some k ∷ ks) tables snaps live is = (transaction_goes_on s t o k tables (snaps o.snapshot live.0.began) is.0, sessions_go_on s t os ks tables snaps live.1 is.1)

-- ---- a step from a view's point keeps a world steady
pub step_steady : (w : World) (f : Forced) → IsSteady w → IsStep w.visible f → point w.upkeep f.view ≡ f.lo → IsSteady (record { visible = w.visible; upkeep = with_steps (f ∷ []) w.upkeep })
step_steady w f steady step at =
    moves_steady w (record { visible = w.visible; upkeep = with_steps (f ∷ []) w.upkeep }) steady
    (record {
      follows = follows_itself w.visible;
      points = length-set w.upkeep.points f.view f.hi ∙ steady.points;
      marks = steady.marks;
      workers = refl;
      views = λ v lt. let was = steady.views v lt in let now = each v lt (eq_cases v f.view) in record { created = was.created; marked = omega (arith, was.marked, now.0); within = now.1 };
      rises = λ v lt. inl ((each v lt (eq_cases v f.view)).0, lt);
      claims = λ worker g e. e;
      pruned = refl;
    })
    steady.sound
  where
    eq_cases : (a b : ℕ) → (a ≡ b) ⊎ (a ≡ b → ⊥)
    eq_cases a b = grind arith

    each : (v : ℕ) → v < length w.visible.views → (v ≡ f.view) ⊎ (v ≡ f.view → ⊥)
        → (point w.upkeep v ≤ get_or (slice_set w.upkeep.points f.view f.hi) v 0) × (get_or (slice_set w.upkeep.points f.view f.hi) v 0 ≤ last w.visible)
    each v lt (inl e) =
        let now : get_or (slice_set w.upkeep.points f.view f.hi) v 0 ≡ f.hi = subst (λ u. get_or (slice_set w.upkeep.points f.view f.hi) u 0 ≡ f.hi) (sym e) (get_or-set_same w.upkeep.points f.view f.hi 0 (omega (arith, step.in_use, steady.points))) in
        let was : point w.upkeep v ≡ f.lo = ap (point w.upkeep) e ∙ at in
        (omega (arith, now, was, step.rises), omega (arith, now, step.within))
    each v lt (inr ne) =
        let now = get_or-set_other w.upkeep.points f.view v f.hi 0 ne in
        (omega (arith, now), omega (arith, now, (steady.views v lt).within))
