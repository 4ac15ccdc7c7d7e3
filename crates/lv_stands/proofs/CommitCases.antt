-- COMMIT in all its cases.
use Rattle.std.proofs.Common.{◌≡◌, ℕ, ◌+◌, ◌<◌, Bool, true, false, cond, List, length, Option, Some, None, refl, sym, ap, ◌∙◌, subst, arith}
use Rattle.std.specs.Prelude.{◌==◌, slice_index_or, Result, Ok}
use Rattle.std.proofs.lemmas.Bool.Decides.{nat_tests}
use Rattle.lv_schema.specs.declared.action.Action.{Action}
use Rattle.lv_schema.specs.declared.fault.Fault.{Fault}
use Rattle.lv_schema.specs.declared.rec.Rec.{Rec}
use Rattle.lv_schema.specs.declared.rec.Rec.TheVariants.{Commit}
use Rattle.lv_schema.specs.Cases.{Outcome, good, failed, full, Case, answered, if_written, closed, with_commit, committed_unless, committed}
use Rattle.lv_schema.specs.Commits.{conflict_of, merged_full}
use Rattle.lv_schema.specs.Effects.{first_fault}
use Rattle.lv_schema.specs.Records.{commit_record}
use Rattle.lv_schema.specs.WholeWorld.{world_after}
use Rattle.lv_schema.specs.World.{World, last, transaction}
use Rattle.lv_txn.specs.Kept.{TransactionKept}
use Rattle.lv_stands.specs.Kept.{BaseKept, EngineKept}
use Rattle.lv_stands.specs.Moves.{BaseCommits, engine_committed, engine_rolled_back, refusal_in, answer_written, answer_unless, commit_answer, kept_written, kept_unless, commit_kept}
use Rattle.lv_stands.specs.Stands.{TransactionStands, StandsFor}
use Rattle.lv_stands.proofs.Refusals.{refusal_is}
use Rattle.lv_stands.proofs.Statements.{rolled_back_stands, committed_is, committed_stands, transaction_of}

both_none : (x y : Option Fault) → first_fault x y ≡ None → (x ≡ None) × (y ≡ None)
both_none None y e = (refl, e)
both_none (Some fault) y e = absurd (cc)

module _ (outcome : Rec → Outcome) (session : ℕ) (w : World) (e : EngineKept) (k : TransactionKept) (base : BaseKept) (is : StandsFor w e) (at : slice_index_or e.sessions session None ≡ Some k)
    (ready : commit_answer outcome e k ≡ Ok (Some (e.base.number + 1)) → BaseCommits e.tables k.actions e.base base) where
  abbrev Fits : Case (Option ℕ) → Result (Option ℕ) Fault → EngineKept → Type 0
  Fits c answer kept = (c.answer ≡ answer) × StandsFor (world_after c w) kept

  kt : TransactionStands w.visible (transaction session w.visible) k
  kt = transaction_of w.visible e.sessions session k is.sessions_stand at

  same_record : Commit (e.base.number + 1) k.actions ≡ commit_record (transaction session w.visible) w.visible
  same_record = λ i. Commit (is.base_stands.number_is i + 1) (kt.actions_are i)

  written : length k.actions == 0 ≡ false → refusal_in e k ≡ None → (out : Outcome) → outcome (Commit (e.base.number + 1) k.actions) ≡ out
      → Fits (if_written out (commit_record (transaction session w.visible) w.visible) (Some (last w.visible + 1)) (with_commit session (transaction session w.visible) w.visible) w.visible) (answer_written out (e.base.number + 1)) (kept_written out session k base e)
  written some none good g =
      let nones = both_none (conflict_of w.visible (transaction session w.visible)) (merged_full w.visible (transaction session w.visible)) (sym (refusal_is w e session k is at) ∙ none) in
      let more : 0 < length k.actions = grind (arith, nat_tests) in
      let here : commit_answer outcome e k ≡ Ok (Some (e.base.number + 1)) = rw (some, none, g) refl in (
        (λ i. Ok (Some (sym is.base_stands.number_is i + 1))),
        subst (λ (x : Case (Option ℕ)). StandsFor (world_after x w) (engine_committed session k base e))
            (committed_is (λ r. good) session w.visible (subst (λ (acts : List Action). 0 < length acts) kt.actions_are more) nones.0 nones.1 refl)
            (committed_stands (λ r. good) session w e k base is at more nones.0 nones.1 refl (ready here)),
      )
  written some none failed g = (refl, is)
  written some none (full needed limit) g = (refl, is)

  unless : length k.actions == 0 ≡ false → (x : Option Fault) → refusal_in e k ≡ x
      → Fits (committed_unless x outcome session (transaction session w.visible) w.visible) (answer_unless x (outcome (Commit (e.base.number + 1) k.actions)) (e.base.number + 1)) (kept_unless x (outcome (Commit (e.base.number + 1) k.actions)) session k base e)
  unless some (Some fault) r = (refl, rolled_back_stands session w e is)
  unless some None r =
      subst (λ out. Fits (if_written out (commit_record (transaction session w.visible) w.visible) (Some (last w.visible + 1)) (with_commit session (transaction session w.visible) w.visible) w.visible)
      (answer_written (outcome (Commit (e.base.number + 1) k.actions)) (e.base.number + 1)) (kept_written (outcome (Commit (e.base.number + 1) k.actions)) session k base e))
      (ap outcome same_record) (written some r (outcome (Commit (e.base.number + 1) k.actions)) refl)

  cases : (t : Bool) → length k.actions == 0 ≡ t
      → Fits (cond {A = Case (Option ℕ)} t (answered None (closed session w.visible)) (committed_unless (refusal_in e k) outcome session (transaction session w.visible) w.visible))
      (cond {A = Result (Option ℕ) Fault} t (Ok None) (answer_unless (refusal_in e k) (outcome (Commit (e.base.number + 1) k.actions)) (e.base.number + 1)))
      (cond {A = EngineKept} t (engine_rolled_back session e) (kept_unless (refusal_in e k) (outcome (Commit (e.base.number + 1) k.actions)) session k base e))
  cases true t = (refl, rolled_back_stands session w e is)
  cases false t = unless t (refusal_in e k) refl

  pub commit_stands : ((committed outcome session w.visible).answer ≡ commit_answer outcome e k) × StandsFor (world_after (committed outcome session w.visible) w) (commit_kept outcome session k base e)
  commit_stands = subst (λ (x : Case (Option ℕ)). Fits x (commit_answer outcome e k) (commit_kept outcome session k base e))
      (λ i. cond {A = Case (Option ℕ)} (length (kt.actions_are i) == 0) (answered None (closed session w.visible)) (committed_unless (refusal_is w e session k is at i) outcome session (transaction session w.visible) w.visible))
      (cases (length k.actions == 0) refl)
