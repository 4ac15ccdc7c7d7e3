-- Where steps end that are taken for a query: at or below its snapshot.
use Rattle.std.proofs.Common.{◌≡◌, ℕ, zero, suc, ◌-◌, ◌<◌, ◌≤◌, List, [], ◌∷◌, length, get_or, Option, Some, None, refl, ap, ◌∙◌, arith}
use Rattle.std.specs.Prelude.{◌⊎◌, slice_set}
use Rattle.std.specs.List.{AllByRecursion}
use Rattle.std.proofs.lemmas.List.{get_or-set_same, length-set}
use mathlib.Core.Logic.{inl, inr}
use Rattle.lv_schema.specs.declared.forced.Forced.{Forced}
use Rattle.lv_schema.specs.StepPlans.{advanced, at_point, forced, forced_within, planned_from, then_more}
use Rattle.lv_schema.specs.UpkeepCases.{with_steps}
use Rattle.lv_schema.specs.World.{Settings, Upkeep, Visible, World, point}
use Rattle.lv_schema.proofs.Apart.{all_append, all_weaker}
use Rattle.lv_schema.proofs.PlannedSteps.{planned_is}
use Rattle.lv_stands.specs.Moves.{StepsFollow}
use Rattle.lv_store.specs.Querying.{InPlaceOf}
use Rattle.lv_store.proofs.JoinedSteps.{low_or_high}

abbrev pub EndBy : ℕ → List Forced → Type 0
EndBy n fs = AllByRecursion (λ f. f.hi ≤ n) fs

-- ---- forced steps end by what they are forced to
within_end : (settings : Settings) (s : Visible) (v m turns lo : ℕ) → EndBy m (forced_within settings s v m turns lo)
within_end settings s v m zero lo = tt
within_end settings s v m (suc turns) lo = by (planned_from settings s (at_point v lo) m) refl (λ hi. within_end settings s v m turns hi)
  where
    by : (x : Option Forced) → planned_from settings s (at_point v lo) m ≡ x → ((hi : ℕ) → EndBy m (forced_within settings s v m turns hi)) → EndBy m (then_more x (forced_within settings s v m turns))
    by None e more = tt
    by (Some f) e more = ((planned_is settings s v m lo f e).upto, more f.hi)

pub forced_end : (settings : Settings) (w : World) (m : ℕ) (views : List ℕ) → EndBy m (forced settings w views m)
forced_end settings w m [] = tt
forced_end settings w m (v ∷ views) =
    all_append (λ (f : Forced). f.hi ≤ m) (forced_within settings w.visible v m (m - point w.upkeep v) (point w.upkeep v)) (forced settings w views m)
    (within_end settings w.visible v m (m - point w.upkeep v) (point w.upkeep v)) (forced_end settings w m views)

-- ---- and so do steps that lead where they lead
set_upto : (xs : List ℕ) (i v x n : ℕ) → get_or xs v 0 ≤ n → x ≤ n → get_or (slice_set xs i x) v 0 ≤ n
set_upto [] i v x n h le = h
set_upto (y ∷ ys) zero zero x n h le = le
set_upto (y ∷ ys) zero (suc v) x n h le = h
set_upto (y ∷ ys) (suc i) zero x n h le = h
set_upto (y ∷ ys) (suc i) (suc v) x n h le = set_upto ys i v x n h le

advanced_upto : (fs : List Forced) (points : List ℕ) (v n : ℕ) → get_or points v 0 ≤ n → EndBy n fs → get_or (advanced points fs) v 0 ≤ n
advanced_upto [] points v n h all = h
advanced_upto (f ∷ fs) points v n h all = advanced_upto fs (slice_set points f.view f.hi) v n (set_upto points f.view v f.hi n h all.0) all.1

set_rises : (xs : List ℕ) (i v x : ℕ) → get_or xs i 0 ≤ x → get_or xs v 0 ≤ get_or (slice_set xs i x) v 0
set_rises [] i v x le = omega arith
set_rises (y ∷ ys) zero zero x le = le
set_rises (y ∷ ys) zero (suc v) x le = omega arith
set_rises (y ∷ ys) (suc i) zero x le = omega arith
set_rises (y ∷ ys) (suc i) (suc v) x le = set_rises ys i v x le

module _ (s : Visible) where
  step_rises : (f : Forced) (fs : List Forced) (u : Upkeep) (v : ℕ) → StepsFollow (record { visible = s; upkeep = u }) (f ∷ fs) → point u v ≤ point (with_steps (f ∷ []) u) v
  step_rises f fs u v follow = set_rises u.points f.view v f.hi (omega (arith, follow.1, follow.0.rises))

  rises : (fs : List Forced) (u : Upkeep) (v : ℕ) → StepsFollow (record { visible = s; upkeep = u }) fs → point u v ≤ point (with_steps fs u) v
  rises [] u v follow = omega arith
  rises (f ∷ fs) u v follow = omega (arith, step_rises f fs u v follow, rises fs (with_steps (f ∷ []) u) v follow.2)

  -- each step ends above where its view stood, and at or below where it stands after all
  record EndsIn (u last : Upkeep) (f : Forced) : Type 0 where
    above : point u f.view < f.hi
    upto : f.hi ≤ point last f.view

  ends : (fs : List Forced) (u : Upkeep) → length u.points ≡ length s.views → StepsFollow (record { visible = s; upkeep = u }) fs → AllByRecursion (EndsIn u (with_steps fs u)) fs
  ends [] u long follow = tt
  ends (f ∷ fs) u long follow =
      let next : Upkeep = with_steps (f ∷ []) u in
      let here : point next f.view ≡ f.hi = get_or-set_same u.points f.view f.hi 0 (omega (arith, follow.0.in_use, long)) in (
        record { above = omega (arith, follow.1, follow.0.rises); upto = omega (arith, here, rises fs next f.view follow.2) },
        all_weaker (EndsIn next (with_steps fs next)) (EndsIn u (with_steps (f ∷ fs) u)) (λ g h. record { above = omega (arith, h.above, step_rises f fs u g.view follow); upto = h.upto }) fs
            (ends fs next (length-set u.points f.view f.hi ∙ long) follow.2),
      )

pub taken_end : (w : World) (steps taken : List Forced) (m : ℕ) → length w.upkeep.points ≡ length w.visible.views → InPlaceOf w steps taken → EndBy m steps → EndBy m taken
taken_end w steps taken m long place all =
    all_weaker (EndsIn w.visible w.upkeep (with_steps taken w.upkeep)) (λ f. f.hi ≤ m) (λ f h. by f h (low_or_high m (point w.upkeep f.view))) taken (ends w.visible taken w.upkeep long place.follow)
  where
    last_is : (v : ℕ) → point (with_steps taken w.upkeep) v ≡ point (with_steps steps w.upkeep) v
    last_is v = ap (λ (u : Upkeep). point u v) place.same

    by : (f : Forced) → EndsIn w.visible w.upkeep (with_steps taken w.upkeep) f → (m < point w.upkeep f.view) ⊎ (point w.upkeep f.view ≤ m) → f.hi ≤ m
    by f h (inl lt) =
        let upto : point (with_steps steps w.upkeep) f.view ≤ point w.upkeep f.view = advanced_upto steps w.upkeep.points f.view (point w.upkeep f.view) (omega arith) (all_weaker (λ g. g.hi ≤ m) (λ g. g.hi ≤ point w.upkeep f.view) (λ g le. omega (arith, le, lt)) steps all) in
        absurd (omega (arith, h.above, h.upto, last_is f.view, upto))
    by f h (inr le) = let upto : point (with_steps steps w.upkeep) f.view ≤ m = advanced_upto steps w.upkeep.points f.view m le all in omega (arith, h.upto, last_is f.view, upto)
