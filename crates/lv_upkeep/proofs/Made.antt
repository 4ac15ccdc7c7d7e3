-- What contracts see of the fields, and what changes of the fields make of it.
use Rattle.std.proofs.Common.{◌≡◌, ℕ, zero, suc, ◌+◌, ◌-◌, ◌<◌, ◌≤◌, Bool, not, cond, filter, List, [], ◌∷◌, ◌++◌, refl, sym, ◌∙◌, ap, arith, length, get_or, map, take, Option}
use Rattle.std.specs.Prelude.{slice_set, replicate}
use Rattle.std.specs.List.{filter_map, flat_map, range_with_len}
use Rattle.std.specs.Option.{option_to_list}
use Rattle.std.proofs.Math.Seq.{map-set_same, take-set-lt}
use Rattle.std.proofs.lemmas.List.{get_or-map, length-map, length-set, length-take, map-set, take_more}
use Rattle.lv_schema.specs.declared.forced.Forced.{Forced}
use Rattle.lv_schema.specs.declared.pending.Pending.{Pending}
use Rattle.lv_schema.specs.StepPlans.{step_of}
use Rattle.lv_tasks.specs.declared.task.Task.{Task}
use Rattle.lv_tasks.specs.Kept.{pairs_of, pending_in, tasks_above, tasks_kept}
use Rattle.lv_upkeep.specs.declared.maintained.Maintained.{Maintained}
use Rattle.lv_upkeep.specs.Kept.{UpkeepKept, candidate_in, forced_among, forced_in, is_claimed_in, tasks_in, unclaimed_in}
use Rattle.lv_upkeep.specs.Moves.{upkeep_marked, upkeep_stepped, upkeep_with_task}
use Rattle.lv_upkeep.proofs.Candidates.{candidates, flat_append, flat_same, kept_in_use}
use Rattle.lv_upkeep.proofs.Points.{points_of}

abbrev pub marks_of : List Maintained → List ℕ
marks_of ms = map (λ (m : Maintained). m.mark) ms

abbrev pub made : List Maintained → List (List Task) → List (Option Forced) → UpkeepKept
made ms tasks claims = record { points = points_of ms; marks = marks_of ms; tasks = take (length ms) tasks; claims = claims }

pub none_kept : (n v : ℕ) → tasks_kept (replicate n []) v ≡ []
none_kept zero v = refl
none_kept (suc n) zero = refl
none_kept (suc n) (suc v) = none_kept n v

in_use : (ms : List Maintained) (v : ℕ) → v < length (points_of ms) → v < length ms
in_use ms v lt = omega (arith, length-map ms (λ (m : Maintained). m.point))

abbrev candidate_with : List (Option Forced) → List Task → ℕ → List Pending
candidate_with claims k v = cond (is_claimed_in claims v) [] (option_to_list (pending_in v k))

module _ (ms : List Maintained) (tasks : List (List Task)) (claims : List (Option Forced)) where
  pub with_task_made : (v : ℕ) (t : Task) → v < length (points_of ms) → made ms (slice_set tasks v (tasks_kept tasks v ++ t ∷ [])) claims ≡ upkeep_with_task v t (made ms tasks claims)
  with_task_made v t lt =
      let e : take (length ms) (slice_set tasks v (tasks_kept tasks v ++ t ∷ [])) ≡ slice_set (take (length ms) tasks) v (tasks_kept (take (length ms) tasks) v ++ t ∷ []) =
      take-set-lt (length ms) tasks v (tasks_kept tasks v ++ t ∷ []) (in_use ms v lt)
      ∙ ap (λ (k : List Task). slice_set (take (length ms) tasks) v (k ++ t ∷ [])) (kept_in_use tasks (length ms) v (in_use ms v lt))
      in
      ap (λ (ts : List (List Task)). let u : UpkeepKept = record { points = points_of ms; marks = marks_of ms; tasks = ts; claims = claims } in u) e

  pub stepped_made : (v lo hi : ℕ) (m : Maintained) → v < length (points_of ms) → m ≡ get_or ms v m
      → made (slice_set ms v (record { point = hi; mark = m.mark })) (slice_set tasks v (tasks_above hi (tasks_kept tasks v))) claims ≡ upkeep_stepped (step_of v lo hi) (made ms tasks claims)
  stepped_made v lo hi m lt is =
      let new : Maintained = record { point = hi; mark = m.mark } in
      let p : points_of (slice_set ms v new) ≡ slice_set (points_of ms) v hi = map-set (λ (x : Maintained). x.point) ms v new in
      let q : marks_of (slice_set ms v new) ≡ marks_of ms = map-set_same (λ (x : Maintained). x.mark) ms v new m (ap (λ (x : Maintained). x.mark) is) in
      let e : take (length (slice_set ms v new)) (slice_set tasks v (tasks_above hi (tasks_kept tasks v))) ≡ slice_set (take (length ms) tasks) v (tasks_above hi (tasks_kept (take (length ms) tasks) v)) =
      ap (λ (n : ℕ). take n (slice_set tasks v (tasks_above hi (tasks_kept tasks v)))) (length-set ms v new)
      ∙ take-set-lt (length ms) tasks v (tasks_above hi (tasks_kept tasks v)) (in_use ms v lt)
      ∙ ap (λ (k : List Task). slice_set (take (length ms) tasks) v (tasks_above hi k)) (kept_in_use tasks (length ms) v (in_use ms v lt))
      in
      cc (p, q, e)

  pub marked_made : (v : ℕ) (m : Maintained) → v < length (points_of ms) → m ≡ get_or ms v m
      → made (slice_set ms v (record { point = m.point; mark = m.point })) tasks claims ≡ upkeep_marked v (made ms tasks claims)
  marked_made v m lt is =
      let new : Maintained = record { point = m.point; mark = m.point } in
      let there : get_or (points_of ms) v 0 ≡ m.point = get_or-map (λ (x : Maintained). x.point) ms v m 0 (in_use ms v lt) ∙ ap (λ (x : Maintained). x.point) (sym is) in
      let p : points_of (slice_set ms v new) ≡ points_of ms = map-set_same (λ (x : Maintained). x.point) ms v new m (ap (λ (x : Maintained). x.point) is) in
      let q : marks_of (slice_set ms v new) ≡ slice_set (marks_of ms) v (get_or (points_of ms) v 0) = map-set (λ (x : Maintained). x.mark) ms v new ∙ ap (slice_set (marks_of ms) v) (sym there) in
      let e : take (length (slice_set ms v new)) tasks ≡ take (length ms) tasks = ap (λ (n : ℕ). take n tasks) (length-set ms v new) in
      cc (p, q, e)

  long : length ms ≤ length tasks → length (take (length ms) tasks) ≡ length ms
  long le = omega (arith, length-take (length ms) tasks)

  pub tasks_made : (n : ℕ) → n ≡ length ms → length ms ≤ length tasks → flat_map (λ v. pairs_of v (tasks_kept tasks v)) (range_with_len 0 n) ≡ tasks_in (made ms tasks claims)
  tasks_made n is le =
      flat_same (λ v. pairs_of v (tasks_kept tasks v)) (λ v. pairs_of v (tasks_kept (take (length ms) tasks) v)) (length ms) 0 n (λ v lt. ap (pairs_of v) (kept_in_use tasks (length ms) v lt)) (omega arith)
      ∙ ap (λ (k : ℕ). flat_map (λ v. pairs_of v (tasks_kept (take (length ms) tasks) v)) (range_with_len 0 k)) (is ∙ sym (long le))

  pub unclaimed_made : (n : ℕ) → n ≡ length ms → length ms ≤ length tasks → flat_map (candidate_in claims tasks) (range_with_len 0 n) ≡ unclaimed_in (made ms tasks claims)
  unclaimed_made n is le =
      flat_same (candidate_in claims tasks) (candidate_in claims (take (length ms) tasks)) (length ms) 0 n (λ v lt. ap (λ (k : List Task). candidate_with claims k v) (kept_in_use tasks (length ms) v lt)) (omega arith)
      ∙ candidates claims (take (length ms) tasks) (range_with_len 0 n)
      ∙ ap (λ (k : ℕ). filter_map (λ v. pending_in v (tasks_kept (take (length ms) tasks) v)) (filter (λ v. not (is_claimed_in claims v)) (range_with_len 0 k))) (is ∙ sym (long le))

  -- the steps of one more view
  pub forced_more : (inside : ℕ → ℕ → Bool) (combine m : ℕ) (views : List ℕ) (i p : ℕ) → i < length views → get_or views i 0 < length (points_of ms) → p ≡ get_or (points_of ms) (get_or views i 0) 0
      → forced_in inside combine (made ms tasks claims) (take (i + 1) views) m
      ≡ forced_in inside combine (made ms tasks claims) (take i views) m ++ forced_among inside combine (get_or views i 0) (tasks_kept tasks (get_or views i 0)) m (m - p) p
  forced_more inside combine m views i p lt within is =
      let f : ℕ → List Forced = λ v. forced_among inside combine v (tasks_kept (take (length ms) tasks) v) m (m - get_or (points_of ms) v 0) (get_or (points_of ms) v 0) in
      let v = get_or views i 0 in
      ap (flat_map f) (take_more views i 0 lt)
      ∙ flat_append f (take i views) v
      ∙ ap (λ (l : List Forced). flat_map f (take i views) ++ l) (
      ap (λ (k : List Task). forced_among inside combine v k m (m - get_or (points_of ms) v 0) (get_or (points_of ms) v 0)) (sym (kept_in_use tasks (length ms) v (in_use ms v within)))
      ∙ ap (λ (q : ℕ). forced_among inside combine v (tasks_kept tasks v) m (m - q) q) (sym is))
