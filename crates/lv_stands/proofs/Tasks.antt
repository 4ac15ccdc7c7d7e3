-- The tasks and the entries that a commit adds, and the tasks that a step leaves.
use Rattle.std.proofs.Common.{◌≡◌, ℕ, zero, suc, ◌<◌, ◌≤◌, Bool, true, false, cond, ◌&&◌, List, [], ◌∷◌, ◌++◌, map, length, get_or, refl, sym, ap, ap₂, ◌∙◌, arith}
use Rattle.std.specs.Prelude.{nat_lt, nat_le}
use Rattle.std.specs.List.{filter, flat_map}
use Rattle.std.proofs.lemmas.Bool.Decides.{nat_tests}
use Rattle.std.proofs.lemmas.List.{map-append, append-nil}
use Rattle.std.proofs.lemmas.List.Elements.{filter-append}
use Rattle.std.proofs.lemmas.Grind.{flat_map-append}
use Rattle.lv_schema.specs.declared.action.Action.{Action}
use Rattle.lv_schema.specs.declared.action.DeltaEntry.{DeltaEntry}
use Rattle.lv_schema.specs.declared.view.ViewDef.{ViewDef}
use Rattle.lv_schema.specs.Tasks.{actions_on, is_pending, pending}
use Rattle.lv_schema.specs.Versions.{delta_entry, delta_entries, kept_entries}
use Rattle.lv_schema.specs.World.{Visible, last, commit_at, numbers, no_view}
use Rattle.lv_schema.proofs.Numbers.{Each, each_weaker, numbers_each}
use Rattle.lv_schema.proofs.PendingFollows.{pending_after}
use Rattle.lv_tasks.specs.Kept.{tasks_above}
use Rattle.lv_tasks.specs.declared.task.Task.{Task}
use Rattle.lv_upkeep.specs.Stands.{task_of}
use Rattle.lv_stands.specs.Moves.{with_task, with_tasks}

-- ---- lists whose elements are treated alike
pub filter_alike : {X : Type 0} (p q : X → Bool) (xs : List X) → Each (λ x. q x ≡ p x) xs → filter q xs ≡ filter p xs
filter_alike p q [] a = refl
filter_alike p q (x ∷ xs) a = (λ i. cond (a.0 i) (x ∷ filter_alike p q xs a.1 i) (filter_alike p q xs a.1 i))

pub flat_alike : {X Y : Type 0} (f g : X → List Y) (xs : List X) → Each (λ x. g x ≡ f x) xs → flat_map g xs ≡ flat_map f xs
flat_alike f g [] a = refl
flat_alike f g (x ∷ xs) a = ap₂ (λ ys zs. ys ++ zs) a.0 (flat_alike f g xs a.1)

map_alike : {X Y : Type 0} (f g : X → Y) (xs : List X) → Each (λ x. g x ≡ f x) xs → map g xs ≡ map f xs
map_alike f g [] a = refl
map_alike f g (x ∷ xs) a = ap₂ (λ y ys. y ∷ ys) a.0 (map_alike f g xs a.1)

each_of_filter : {X : Type 0} (P : X → Type 0) (p : X → Bool) (xs : List X) → Each P xs → Each P (filter p xs)
each_of_filter P p [] a = tt
each_of_filter P p (x ∷ xs) a = by (p x) (each_of_filter P p xs a.1)
  where
    by : (t : Bool) → Each P (filter p xs) → Each P (cond t (x ∷ filter p xs) (filter p xs))
    by true e = (a.0, e)
    by false e = e

-- ---- entries
pub entries_above : (floor k : ℕ) (actions : List Action) → floor < k → filter (λ (e : DeltaEntry). nat_lt floor e.number) (map (delta_entry k) actions) ≡ map (delta_entry k) actions
entries_above floor k [] lt = refl
entries_above floor k (a ∷ actions) lt = let e : nat_lt floor k ≡ true = grind (arith, nat_tests) in rw e (ap (λ es. delta_entry k a ∷ es) (entries_above floor k actions lt))

module _ (s t : Visible) (one_more : last t ≡ suc (last s)) (commits : (k : ℕ) → k ≤ last s → commit_at t.commits k ≡ commit_at s.commits k) where
  pub entries_next : (floor : ℕ) → floor ≤ last s → kept_entries t floor ≡ kept_entries s floor ++ map (delta_entry (suc (last s))) (commit_at t.commits (suc (last s)))
  entries_next floor le =
      ap (λ n. filter (λ (e : DeltaEntry). nat_lt floor e.number) (flat_map (λ k. map (delta_entry k) (commit_at t.commits k)) (numbers n))) one_more
      ∙ ap (filter (λ (e : DeltaEntry). nat_lt floor e.number))
      (flat_map-append (λ k. map (delta_entry k) (commit_at t.commits k)) (numbers (last s)) (suc (last s) ∷ [])
      ∙ ap₂ (λ xs ys. xs ++ ys)
      (flat_alike (λ k. map (delta_entry k) (commit_at s.commits k)) (λ k. map (delta_entry k) (commit_at t.commits k)) (numbers (last s))
      (each_weaker (λ k. (0 < k) × (k ≤ last s)) (λ k. map (delta_entry k) (commit_at t.commits k) ≡ map (delta_entry k) (commit_at s.commits k)) (numbers (last s)) (λ k h. ap (map (delta_entry k)) (commits k h.1)) (numbers_each (last s))))
      (append-nil (map (delta_entry (suc (last s))) (commit_at t.commits (suc (last s))))))
      ∙ filter-append (λ (e : DeltaEntry). nat_lt floor e.number) (delta_entries s) (map (delta_entry (suc (last s))) (commit_at t.commits (suc (last s))))
      ∙ ap (λ es. kept_entries s floor ++ es) (entries_above floor (suc (last s)) (commit_at t.commits (suc (last s))) (omega arith))

  -- ---- tasks of a commit
  pub tasks_next : (view : ViewDef) (p : ℕ) → view.created ≤ last s → p ≤ last s
      → map (task_of t view) (pending t view p (last t)) ≡ with_task (suc (last s)) (actions_on view (commit_at t.commits (suc (last s)))) (map (task_of s view) (pending s view p (last s)))
  tasks_next view p created le =
      ap (λ n. map (task_of t view) (filter (is_pending t view p n) (numbers n))) one_more
      ∙ ap (map (task_of t view)) (filter-append (is_pending t view p (suc (last s))) (numbers (last s)) (suc (last s) ∷ []))
      ∙ map-append (task_of t view) (filter (is_pending t view p (suc (last s))) (numbers (last s))) (filter (is_pending t view p (suc (last s))) (suc (last s) ∷ []))
      ∙ ap₂ (λ xs ys. xs ++ ys) old (ap (λ b. map (task_of t view) (cond b (suc (last s) ∷ []) [])) new)
      ∙ ends (actions_on view (commit_at t.commits (suc (last s)))) refl
    where
      old_alike : Each (λ k. is_pending t view p (suc (last s)) k ≡ is_pending s view p (last s) k) (numbers (last s))
      old_alike = each_weaker (λ k. (0 < k) × (k ≤ last s)) (λ k. is_pending t view p (suc (last s)) k ≡ is_pending s view p (last s) k) (numbers (last s)) (λ k h. by k h.1) (numbers_each (last s))
        where
          by : (k : ℕ) → k ≤ last s → is_pending t view p (suc (last s)) k ≡ is_pending s view p (last s) k
          by k upto =
              let a : nat_le k (suc (last s)) ≡ nat_le k (last s) = grind (arith, nat_tests) in
              λ i. nat_lt p k && a i && (nat_lt view.created k && nat_lt 0 (actions_on view (commits k upto i)))

      old : map (task_of t view) (filter (is_pending t view p (suc (last s))) (numbers (last s))) ≡ map (task_of s view) (pending s view p (last s))
      old =
          ap (map (task_of t view)) (filter_alike (is_pending s view p (last s)) (is_pending t view p (suc (last s))) (numbers (last s)) old_alike)
          ∙ map_alike (task_of s view) (task_of t view) (pending s view p (last s))
          (each_of_filter (λ k. task_of t view k ≡ task_of s view k) (is_pending s view p (last s)) (numbers (last s))
          (each_weaker (λ k. (0 < k) × (k ≤ last s)) (λ k. task_of t view k ≡ task_of s view k) (numbers (last s)) (λ k h. λ i. record { commit = k; actions = actions_on view (commits k h.1 i) }) (numbers_each (last s))))

      new : is_pending t view p (suc (last s)) (suc (last s)) ≡ nat_lt 0 (actions_on view (commit_at t.commits (suc (last s))))
      new =
          let a : nat_lt p (suc (last s)) ≡ true = grind (arith, nat_tests) in
          let b : nat_le (suc (last s)) (suc (last s)) ≡ true = grind (arith, nat_tests) in
          let c : nat_lt view.created (suc (last s)) ≡ true = grind (arith, nat_tests) in
          λ i. a i && b i && (c i && nat_lt 0 (actions_on view (commit_at t.commits (suc (last s)))))

      ends : (n : ℕ) → actions_on view (commit_at t.commits (suc (last s))) ≡ n
          → map (task_of s view) (pending s view p (last s)) ++ map (task_of t view) (cond (nat_lt 0 n) (suc (last s) ∷ []) []) ≡ with_task (suc (last s)) n (map (task_of s view) (pending s view p (last s)))
      ends zero e = append-nil (map (task_of s view) (pending s view p (last s)))
      ends (suc n) e =
          let test : nat_lt 0 (suc n) ≡ true = grind (arith, nat_tests) in
          rw test (ap (λ m. map (task_of s view) (pending s view p (last s)) ++ record { commit = suc (last s); actions = m } ∷ []) e)

-- each view's tasks after a commit
pub with_tasks_long : (number : ℕ) (actions : List Action) (views : List ViewDef) (tasks : List (List Task)) → length tasks ≡ length views → length (with_tasks number actions views tasks) ≡ length views
with_tasks_long number actions [] tasks e = e
with_tasks_long number actions (view ∷ views) [] e = e
with_tasks_long number actions (view ∷ views) (first ∷ tasks) e = ap suc (with_tasks_long number actions views tasks (omega (arith, e)))

pub with_tasks_at : (number : ℕ) (actions : List Action) (views : List ViewDef) (tasks : List (List Task)) (v : ℕ) → length tasks ≡ length views → v < length views
    → get_or (with_tasks number actions views tasks) v [] ≡ with_task number (actions_on (get_or views v no_view) actions) (get_or tasks v [])
with_tasks_at number actions [] tasks v e lt = absurd (omega arith)
with_tasks_at number actions (view ∷ views) [] v e lt = absurd (omega (arith, e))
with_tasks_at number actions (view ∷ views) (first ∷ tasks) zero e lt = refl
with_tasks_at number actions (view ∷ views) (first ∷ tasks) (suc v) e lt = with_tasks_at number actions views tasks v (omega (arith, e)) (omega arith)

-- ---- the tasks that a step leaves
filter_map_test : {X Y : Type 0} (f : X → Y) (p : Y → Bool) (xs : List X) → filter p (map f xs) ≡ map f (filter (λ x. p (f x)) xs)
filter_map_test f p [] = refl
filter_map_test f p (x ∷ xs) = by (p (f x)) (filter_map_test f p xs)
  where
    by : (t : Bool) → filter p (map f xs) ≡ map f (filter (λ x. p (f x)) xs) → cond t (f x ∷ filter p (map f xs)) (filter p (map f xs)) ≡ map f (cond t (x ∷ filter (λ x. p (f x)) xs) (filter (λ x. p (f x)) xs))
    by true e = ap (λ ys. f x ∷ ys) e
    by false e = e

pub filter_twice : {X : Type 0} (p q r : X → Bool) (xs : List X) → ((x : X) → (q x && p x) ≡ r x) → filter p (filter q xs) ≡ filter r xs
filter_twice p q r [] h = refl
filter_twice p q r (x ∷ xs) h = by (q x) (p x) refl (r x) (h x) (filter_twice p q r xs h)
  where
    by : (a b : Bool) → p x ≡ b → (c : Bool) → (a && p x) ≡ c → filter p (filter q xs) ≡ filter r xs → filter p (cond a (x ∷ filter q xs) (filter q xs)) ≡ cond c (x ∷ filter r xs) (filter r xs)
    by true true e true f ih = rw e (ap (λ ys. x ∷ ys) ih)
    by true true e false f ih = cc
    by true false e true f ih = cc
    by true false e false f ih = rw e ih
    by false b e true f ih = cc
    by false b e false f ih = ih

pub tasks_left : (s : Visible) (view : ViewDef) (lo hi : ℕ) → lo ≤ hi → tasks_above hi (map (task_of s view) (pending s view lo (last s))) ≡ map (task_of s view) (pending s view hi (last s))
tasks_left s view lo hi le =
    filter_map_test (task_of s view) (λ t. nat_lt hi t.commit) (pending s view lo (last s))
    ∙ ap (map (task_of s view)) (sym (pending_after s view lo hi (last s) le))
