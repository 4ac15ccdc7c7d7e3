-- How long the journal is after records.
use Rattle.std.proofs.Common.{◌≡◌, ℕ, ◌+◌, ◌-◌, ◌^◌, ◌≤◌, List, [], ◌∷◌, refl, sym, ap, ◌∙◌, arith}
use Rattle.std.specs.Prelude.{min}
use Rattle.std.specs.List.{fold, sum_by}
use Rattle.std.proofs.lemmas.List.Sums.{sum_by-cons}
use Rattle.lv_schema.specs.declared.rec.Rec.{Rec}
use Rattle.lv_schema.specs.declared.rec.Rec.TheVariants.{Table, View, Commit, Mark}
use Rattle.lv_schema.specs.Records.{record_size}
use Rattle.lv_schema.specs.World.{World, empty_world}
use Rattle.lv_replay.specs.Replayed.{replayed, state_of}

abbrev frame : Rec → ℕ
frame r = record_size r + 5

one_more : (r : Rec) (w : World) → (replayed r w).upkeep.journal ≡ min (w.upkeep.journal + record_size r + 5) (2 ^ 64 - 1)
one_more (Table def) w = refl
one_more (View def) w = refl
one_more (Commit number actions) w = refl
one_more (Mark view upto) w = refl

cut_once : (j a b most : ℕ) → min (min (j + a + 5) most + b) most ≡ min (j + (a + 5 + b)) most
cut_once j a b most = omega arith

nothing_more : (j most : ℕ) → j ≤ most → j ≡ min (j + 0) most
nothing_more j most le = omega arith

cut_low : (j most : ℕ) → min j most ≤ most
cut_low j most = omega arith

long_after : (recs : List Rec) (w : World) → w.upkeep.journal ≤ 2 ^ 64 - 1 → (fold (λ x rec. replayed rec x) w recs).upkeep.journal ≡ min (w.upkeep.journal + sum_by frame recs) (2 ^ 64 - 1)
long_after [] w le = nothing_more w.upkeep.journal (2 ^ 64 - 1) le
long_after (r ∷ recs) w le =
    let low : (replayed r w).upkeep.journal ≤ 2 ^ 64 - 1 = omega (arith, one_more r w, cut_low (w.upkeep.journal + record_size r + 5) (2 ^ 64 - 1)) in
    long_after recs (replayed r w) low
    ∙ ap (λ n. min (n + sum_by frame recs) (2 ^ 64 - 1)) (one_more r w)
    ∙ cut_once w.upkeep.journal (record_size r) (sum_by frame recs) (2 ^ 64 - 1)
    ∙ ap (λ n. min (w.upkeep.journal + n) (2 ^ 64 - 1)) (sym (sum_by-cons frame r recs))

pub state_long : (recs : List Rec) → (state_of recs).upkeep.journal ≡ min (9 + sum_by (λ r. record_size r + 5) recs) (2 ^ 64 - 1)
state_long recs = long_after recs empty_world (omega arith)
