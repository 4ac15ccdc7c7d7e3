-- What holds of what is kept where it stands for a world: its lengths, and that nothing is dropped that is still read.
use Rattle.std.proofs.Common.{◌≡◌, ℕ, ◌<◌, ◌≤◌, List, [], ◌∷◌, length, refl, sym, ap, ◌∙◌, subst, arith}
use Rattle.std.specs.List.{AllByRecursion}
use Rattle.std.proofs.lemmas.Slice.Zip.{AllZip-long}
use mathlib.Core.Logic.{inl, inr}
use Rattle.lv_schema.specs.Greatest.{Among}
use Rattle.lv_schema.specs.World.{World, last, live, point}
use Rattle.lv_schema.proofs.ServedQueries.{kept_last, kept_live, kept_point, live_within}
use Rattle.lv_txn.specs.Kept.{live_kept}
use Rattle.lv_stands.specs.Kept.{EngineKept, view_kept}
use Rattle.lv_stands.specs.Stands.{SessionStands, StandsFor}
use Rattle.lv_stands.proofs.Cleans.{live_kept_is}

each_among : (P : ℕ → Type 0) (ks : List ℕ) → ((k : ℕ) → Among ks k → P k) → AllByRecursion P ks
each_among P [] f = tt
each_among P (k ∷ ks) f = (f k (inl refl), each_among P ks (λ j a. f j (inr a)))

module _ (w : World) (e : EngineKept) (is : StandsFor w e) where
  pub last_is : (e.base.number ≡ last w.visible) × (e.base.pruned ≤ e.base.number)
  last_is = (is.base_stands.number_is, omega (arith, is.base_stands.number_is, is.base_stands.pruned_is, kept_last w is.steady))

  pub lengths_are : (length e.rows ≡ length w.visible.views) × (length e.sessions ≡ 17) × (length e.upkeep.claims ≡ 9) × (length e.upkeep.points ≡ length w.visible.views)
  lengths_are = (
    is.views_stand.all,
    AllZip-long (SessionStands w.visible) w.visible.sessions e.sessions is.sessions_stand ∙ is.steady.sound.places,
    ap length is.upkeep_stands.claims_are ∙ is.steady.workers,
    ap length is.upkeep_stands.points_are ∙ is.steady.points,
  )

  pub snapshots_are : AllByRecursion (λ k. (e.base.pruned ≤ k) × (k ≤ e.base.number)) (live_kept e.sessions)
  snapshots_are =
      subst (AllByRecursion (λ k. (e.base.pruned ≤ k) × (k ≤ e.base.number))) (sym (live_kept_is w e is))
      (each_among (λ k. (e.base.pruned ≤ k) × (k ≤ e.base.number)) (live w.visible.sessions)
      (λ k l. (
        omega (arith, is.base_stands.pruned_is, kept_live w k is.steady l),
        omega (arith, is.base_stands.number_is, live_within w k is.steady l),
      )))

  pub points_are : (v : ℕ) → v < length w.visible.views → (e.base.pruned ≤ point w.upkeep v) × (point w.upkeep v ≤ e.base.number) × ((view_kept e.rows v).at ≡ point w.upkeep v)
  points_are v lt = (
    omega (arith, is.base_stands.pruned_is, kept_point w v is.steady lt),
    omega (arith, is.base_stands.number_is, (is.steady.views v lt).within),
    (is.views_stand.each v lt).at_is,
  )
