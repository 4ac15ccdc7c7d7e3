-- A step, task by task.
use Rattle.std.proofs.Common.{◌≡◌, ℕ, zero, suc, ◌+◌, ◌-◌, ◌<◌, ◌≤◌, Bool, true, false, List, [], ◌∷◌, refl, sym, ◌∙◌, ap, subst, arith, length, get_or, take, drop, map, Some, add-one, drop-cons}
use Rattle.std.proofs.lemmas.List.{get_or-take, get_or_default, length-take, drop_all}
use Rattle.lv_schema.specs.StepPlans.{step_end}
use Rattle.lv_schema.proofs.PlannedSteps.{reached, step_end_is}
use Rattle.lv_tasks.specs.declared.task.Task.{Task}
use Rattle.lv_tasks.specs.Queues.{Ascend}

-- the commits of the tasks from the one place up to the other
abbrev pub commits_within : ℕ → ℕ → List Task → List ℕ
commits_within at end tasks = map (λ (t : Task). t.commit) (drop at (take end tasks))

within_more : (at end : ℕ) (tasks : List Task) (t : Task) → at < end → end ≤ length tasks → t ≡ get_or tasks at t
    → commits_within at end tasks ≡ t.commit ∷ commits_within (at + 1) end tasks
within_more at end tasks t lt le is =
    let inside : at < length (take end tasks) = omega (arith, length-take end tasks) in
    let front : drop at (take end tasks) ≡ get_or (take end tasks) at t ∷ drop (at + 1) (take end tasks) = rw add-one (drop-cons (take end tasks) at t inside) in
    let same : get_or (take end tasks) at t ≡ t = get_or-take end tasks at t lt ∙ sym is in
    ap (map (λ (t : Task). t.commit)) front ∙ ap (λ (t : Task). t.commit ∷ commits_within (at + 1) end tasks) same

within_none : (at end : ℕ) (tasks : List Task) → end ≤ at → commits_within at end tasks ≡ []
within_none at end tasks le = ap (map (λ (t : Task). t.commit)) (drop_all at (take end tasks) (omega (arith, length-take end tasks)))

-- a step begins, goes on by a task, stops before one, and ends behind the last
module _ (inside : ℕ → ℕ → Bool) (end : ℕ) (tasks : List Task) where
  pub begins : (combine from : ℕ) (t : Task) → from < end → end ≤ length tasks → t ≡ get_or tasks from t
      → step_end inside combine (commits_within from end tasks) ≡ Some (reached inside t.commit t.commit (combine - 1) (commits_within (from + 1) end tasks))
  begins combine from t lt le is = ap (step_end inside combine) (within_more from end tasks t lt le is) ∙ step_end_is inside combine t.commit (commits_within (from + 1) end tasks)

  pub goes_on : (first hi more at : ℕ) (t : Task) → 0 < more → at < end → end ≤ length tasks → t ≡ get_or tasks at t → inside first t.commit ≡ false
      → reached inside first hi more (commits_within at end tasks) ≡ reached inside first t.commit (more - 1) (commits_within (at + 1) end tasks)
  goes_on first hi zero at t some lt le is e = absurd (omega arith)
  goes_on first hi (suc more) at t some lt le is e =
      let one : suc more - 1 ≡ more = omega arith in
      ap (reached inside first hi (suc more)) (within_more at end tasks t lt le is) ∙ rw (one, e) refl

  pub stops : (first hi more at : ℕ) (t : Task) → 0 < more → at < end → end ≤ length tasks → t ≡ get_or tasks at t → inside first t.commit ≡ true
      → reached inside first hi more (commits_within at end tasks) ≡ hi
  stops first hi zero at t some lt le is e = absurd (omega arith)
  stops first hi (suc more) at t some lt le is e = ap (reached inside first hi (suc more)) (within_more at end tasks t lt le is) ∙ rw e refl

  pub ends : (first hi more at : ℕ) → end ≤ at → reached inside first hi more (commits_within at end tasks) ≡ hi
  ends first hi zero at le = refl
  ends first hi (suc more) at le = ap (reached inside first hi (suc more)) (within_none at end tasks le)

-- where no live snapshot is inside from the first task to the last one that a step can take, it takes them all
module _ (inside : ℕ → ℕ → Bool) (narrower : (from below less : ℕ) → less ≤ below → inside from below ≡ false → inside from less ≡ false) (end : ℕ) (tasks : List Task) (up : Ascend tasks) (le : end ≤ length tasks) where
  reaches_last : (first last : ℕ) (d : Task) → last < end → (n more at : ℕ) → at + n ≡ last → n ≤ more → (n < more → end ≤ last + 1) → (at < last → inside first (get_or tasks last d).commit ≡ false)
      → reached inside first (get_or tasks at d).commit more (commits_within (at + 1) end tasks) ≡ (get_or tasks last d).commit
  reaches_last first last d lt zero zero at is few all clear = let same : at ≡ last = omega arith in ap (λ k. (get_or tasks k d).commit) same
  reaches_last first last d lt zero (suc more) at is few all clear =
      let same : at ≡ last = omega arith in
      let none : end ≤ at + 1 = omega (arith, all (omega arith)) in
      ends inside end tasks first (get_or tasks at d).commit (suc more) (at + 1) none ∙ ap (λ k. (get_or tasks k d).commit) same
  reaches_last first last d lt (suc n) zero at is few all clear = absurd (omega arith)
  reaches_last first last d lt (suc n) (suc more) at is few all clear =
      let t = get_or tasks (at + 1) d in
      let inner : at + 1 < length tasks = omega arith in
      let lower : t.commit ≤ (get_or tasks last d).commit = up (at + 1) last d (omega arith) (omega arith) in
      let free : inside first t.commit ≡ false = narrower first (get_or tasks last d).commit t.commit lower (clear (omega arith)) in
      let one : suc more - 1 ≡ more = omega arith in
      goes_on inside end tasks first (get_or tasks at d).commit (suc more) (at + 1) t (omega arith) (omega arith) le (get_or_default tasks (at + 1) d t inner) free
      ∙ ap (λ m. reached inside first t.commit m (commits_within (at + 1 + 1) end tasks)) one
      ∙ reaches_last first last d lt n more (at + 1) (omega arith) (omega arith) (λ h. all (omega arith)) (λ h. clear (omega arith))

  pub ends_at : (combine from last : ℕ) (t : Task) → from ≤ last → last < end → last < from + combine → (last + 1 < from + combine → end ≤ last + 1) → t ≡ get_or tasks last t → (from < last → inside (get_or tasks from t).commit t.commit ≡ false)
      → step_end inside combine (commits_within from end tasks) ≡ Some t.commit
  ends_at combine from last t upto lt few all is clear =
      let first = get_or tasks from t in
      let inner : from < length tasks = omega arith in
      begins inside end tasks combine from first (omega arith) le (get_or_default tasks from t first inner)
      ∙ ap Some (reaches_last first.commit last t lt (last - from) (combine - 1) from (omega arith) (omega arith) (λ h. all (omega arith)) (λ h. subst (λ (u : Task). inside first.commit u.commit ≡ false) is (clear h)))
      ∙ ap (λ (u : Task). Some u.commit) (sym is)
