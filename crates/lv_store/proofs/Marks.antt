-- Marks in a store that stands for a world.
use Rattle.std.proofs.Common.{◌≡◌, ℕ, Bool, true, false, refl, sym, ap, ◌∙◌, subst, arith}
use Rattle.std.specs.Prelude.{◌==◌, ◌≢◌, slice_index}
use Rattle.std.proofs.lemmas.Bool.Decides.{nat_tests}
use Rattle.lv_schema.specs.declared.rec.Rec.{Rec}
use Rattle.lv_schema.specs.Cases.{Outcome, good}
use Rattle.lv_schema.specs.UpkeepCases.{mark_record, marking}
use Rattle.lv_schema.specs.World.{Upkeep, World, point}
use Rattle.lv_stands.specs.Kept.{EngineKept}
use Rattle.lv_stands.specs.Moves.{engine_marked}
use Rattle.lv_stands.specs.Stands.{StandsFor}
use Rattle.lv_upkeep.specs.Kept.{UpkeepKept}
use Rattle.lv_upkeep.specs.Moves.{upkeep_marked}
use Rattle.lv_store.specs.declared.store.Store.{Store}
use Rattle.lv_store.specs.Answering.{wrote}
use Rattle.lv_store.specs.Kept.{Stands, kept, store_of}
use Rattle.lv_store.proofs.Standing.{any_journal}

abbrev MarkKeeps : Type 0
MarkKeeps = (outcome : Rec → Outcome) (v : ℕ) (w : World) (e : EngineKept) → StandsFor w e → (slice_index w.upkeep.marks v == point w.upkeep v) ≡ false → outcome (mark_record v w.upkeep) ≡ good
    → StandsFor (record { visible = w.visible; upkeep = (marking outcome v w.upkeep).next }) (engine_marked v e)

apart : (m n : ℕ) → m ≢ n → (m == n) ≡ false
apart m n ne = by (m == n) refl
  where
    by : (b : Bool) → (m == n) ≡ b → b ≡ false
    by false e = refl
    by true e = absurd (ne (grind (arith, nat_tests)))

module _ (p : Store) (view : ℕ) (u : UpkeepKept) (set : u ≡ upkeep_marked view p.upkeep.kept) (moved : slice_index p.upkeep.kept.marks view ≢ slice_index p.upkeep.kept.points view) (keeps : MarkKeeps) where
  pub marked_stands : (w : World) → Stands w (store_of p) → Stands (wrote (mark_record view w.upkeep) w.visible w) (record (store_of p) { upkeep = u })
  marked_stands w is =
      let e = kept w.upkeep.journal (store_of p) in
      let next = wrote (mark_record view w.upkeep) w.visible w in
      let off : slice_index w.upkeep.marks view ≢ point w.upkeep view = λ same.
      moved (ap (λ ms. slice_index ms view) is.upkeep_stands.marks_are ∙ same ∙ ap (λ ps. slice_index ps view) (sym is.upkeep_stands.points_are)) in
      let test : (slice_index w.upkeep.marks view == point w.upkeep view) ≡ false = apart (slice_index w.upkeep.marks view) (point w.upkeep view) off in
      let left : (marking (λ r. good) view w.upkeep).next ≡ next.upkeep = rw test refl in
      let stands = keeps (λ r. good) view w e is test refl in
      let there : StandsFor next (engine_marked view e) = subst (λ (x : Upkeep). StandsFor (record { visible = w.visible; upkeep = x }) (engine_marked view e)) left stands in
      subst (λ (k : UpkeepKept). Stands next (record (store_of p) { upkeep = k })) (sym set)
      (any_journal next (engine_marked view e).journal (record (store_of p) { upkeep = upkeep_marked view p.upkeep.kept }) there)
