-- Records one after another.
use Rattle.std.proofs.Common.{◌≡◌, true, List, [], ◌∷◌, ◌++◌, Option, Some, None, refl, sym, ap, ◌∙◌, subst}
use Rattle.std.specs.List.{fold}
use Rattle.std.proofs.lemmas.List.{append-nil}
use Rattle.lv_schema.specs.declared.rec.Rec.{Rec}
use Rattle.lv_schema.specs.World.{World, empty_world}
use Rattle.lv_replay.specs.Applies.{applies, all_apply_to, all_apply}
use Rattle.lv_replay.specs.Replayed.{durable, replayed, state_of}
use Rattle.lv_replay.specs.Runs.{Keeps, noted_record}
use Rattle.lv_replay.proofs.Tests.{both, and_left, and_right}

abbrev made : World → List Rec → World
made w recs = fold (λ x rec. replayed rec x) w recs

made_push : (w : World) (recs : List Rec) (r : Rec) → made w (recs ++ r ∷ []) ≡ replayed r (made w recs)
made_push w [] r = refl
made_push w (x ∷ recs) r = made_push (replayed x w) recs r

apply_push : (w : World) (recs : List Rec) (r : Rec) → all_apply_to w recs ≡ true → applies r (made w recs) ≡ true → all_apply_to w (recs ++ r ∷ []) ≡ true
apply_push w [] r h e = both (applies r w) true e refl
apply_push w (x ∷ recs) r h e = both (applies x w) (all_apply_to (replayed x w) (recs ++ r ∷ [])) (and_left _ _ h) (apply_push (replayed x w) recs r (and_right (applies x w) _ h) e)

pub run_goes_on : (recs : List Rec) (written : Option Rec) (w next : World) → all_apply recs ≡ true → durable w ≡ state_of recs → Keeps written w next
    → (all_apply (recs ++ noted_record written) ≡ true) × (durable next ≡ state_of (recs ++ noted_record written))
run_goes_on recs None w next h e keeps = subst (λ rs. (all_apply rs ≡ true) × (durable next ≡ state_of rs)) (sym (append-nil recs)) (h, keeps ∙ e)
run_goes_on recs (Some r) w next h e keeps = (
  apply_push empty_world recs r h (subst (λ x. applies r x ≡ true) e keeps.0),
  keeps.1 ∙ ap (replayed r) e ∙ sym (made_push empty_world recs r),
)
