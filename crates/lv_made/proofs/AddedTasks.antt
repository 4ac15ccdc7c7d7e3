-- The tasks of a commit, view by view.
use Rattle.std.proofs.Common.{◌≡◌, ℕ, zero, suc, ◌+◌, ◌<◌, ◌≤◌, ◌⊎◌, inl, inr, List, [], ◌∷◌, length, refl, sym, ap, ap₂, ◌∙◌, subst, arith}
use Rattle.std.specs.Prelude.{slice_set}
use Rattle.lv_schema.specs.declared.action.Action.{Action}
use Rattle.lv_schema.specs.declared.view.ViewDef.{ViewDef}
use Rattle.lv_schema.specs.Tasks.{actions_on, is_on}
use Rattle.lv_schema.specs.World.{view_at}
use Rattle.lv_stands.specs.Moves.{with_task, with_tasks}
use Rattle.lv_base.proofs.Places.{filter_fewer}
use Rattle.lv_tasks.specs.declared.task.Task.{Task}
use Rattle.lv_tasks.specs.Kept.{tasks_kept}
use Rattle.lv_upkeep.specs.Kept.{UpkeepKept, UpkeepRoom}

-- the first n views have their task, and the others are as they were
pub record AreAdded (number : ℕ) (actions : List Action) (views : List ViewDef) (n : ℕ) (old new : UpkeepRoom) : Type 0 where
  pub same : new.kept ≡ record old.kept { tasks = new.kept.tasks }
  pub all : length new.kept.tasks ≡ length old.kept.tasks
  pub done : (v : ℕ) → v < n → v < length old.kept.tasks → tasks_kept new.kept.tasks v ≡ with_task number (actions_on (view_at views v) actions) (tasks_kept old.kept.tasks v)
  pub left : (v : ℕ) → n ≤ v → tasks_kept new.kept.tasks v ≡ tasks_kept old.kept.tasks v
  pub room : old.task_spare ≤ new.task_spare + n

set_here : (ts : List (List Task)) (v : ℕ) (t : List Task) → v < length ts → tasks_kept (slice_set ts v t) v ≡ t
set_here [] v t lt = absurd (omega (arith, lt))
set_here (u ∷ ts) zero t lt = refl
set_here (u ∷ ts) (suc v) t lt = set_here ts v t (omega (arith, lt))

set_there : (ts : List (List Task)) (v w : ℕ) (t : List Task) → (v ≡ w → ⊥) → tasks_kept (slice_set ts v t) w ≡ tasks_kept ts w
set_there [] v w t ne = refl
set_there (u ∷ ts) zero zero t ne = absurd (ne refl)
set_there (u ∷ ts) zero (suc w) t ne = refl
set_there (u ∷ ts) (suc v) zero t ne = refl
set_there (u ∷ ts) (suc v) (suc w) t ne = set_there ts v w t (λ e. ne (ap suc e))

long_set : (ts : List (List Task)) (v : ℕ) (t : List Task) → length (slice_set ts v t) ≡ length ts
long_set [] v t = refl
long_set (u ∷ ts) zero t = refl
long_set (u ∷ ts) (suc v) t = ap suc (long_set ts v t)

pub one_more : (number : ℕ) (actions : List Action) (views : List ViewDef) (n count : ℕ) (old mid new : UpkeepRoom) → AreAdded number actions views n old mid
    → count ≡ actions_on (view_at views n) actions
    → new.kept ≡ record mid.kept { tasks = slice_set mid.kept.tasks n (with_task number count (tasks_kept mid.kept.tasks n)) }
    → mid.task_spare ≤ new.task_spare + 1 → AreAdded number actions views (suc n) old new
one_more number actions views n count old mid new held counted set spare =
    let tasks : new.kept.tasks ≡ slice_set mid.kept.tasks n (with_task number count (tasks_kept mid.kept.tasks n)) = ap (λ (u : UpkeepKept). u.tasks) set in
    record {
      same = set ∙ ap (λ (u : UpkeepKept). record u { tasks = slice_set mid.kept.tasks n (with_task number count (tasks_kept mid.kept.tasks n)) }) held.same ∙ ap (λ (ts : List (List Task)). record old.kept { tasks = ts }) (sym tasks);
      all = ap length tasks ∙ long_set mid.kept.tasks n (with_task number count (tasks_kept mid.kept.tasks n)) ∙ held.all;
      done = λ v lt in_use. ap (λ (ts : List (List Task)). tasks_kept ts v) tasks ∙ which v (by_case v n) lt in_use;
      left = λ v le. ap (λ (ts : List (List Task)). tasks_kept ts v) tasks ∙ set_there mid.kept.tasks n v (with_task number count (tasks_kept mid.kept.tasks n)) (λ e. omega (arith, le, e)) ∙ held.left v (omega (arith, le));
      room = omega (arith, held.room, spare);
    }
  where
    by_case : (v m : ℕ) → (v ≡ m) ⊎ (v ≡ m → ⊥)
    by_case zero zero = inl refl
    by_case zero (suc m) = inr (λ e. omega (arith, e))
    by_case (suc v) zero = inr (λ e. omega (arith, e))
    by_case (suc v) (suc m) = up (by_case v m)
      where
        up : (v ≡ m) ⊎ (v ≡ m → ⊥) → (suc v ≡ suc m) ⊎ (suc v ≡ suc m → ⊥)
        up (inl e) = inl (ap suc e)
        up (inr ne) = inr (λ e. ne (omega (arith, e)))

    which : (v : ℕ) → (v ≡ n) ⊎ (v ≡ n → ⊥) → v < suc n → v < length old.kept.tasks
        → tasks_kept (slice_set mid.kept.tasks n (with_task number count (tasks_kept mid.kept.tasks n))) v ≡ with_task number (actions_on (view_at views v) actions) (tasks_kept old.kept.tasks v)
    which v (inl e) lt in_use =
        subst (λ i. tasks_kept (slice_set mid.kept.tasks n (with_task number count (tasks_kept mid.kept.tasks n))) i ≡ with_task number (actions_on (view_at views i) actions) (tasks_kept old.kept.tasks i)) (sym e)
        (set_here mid.kept.tasks n (with_task number count (tasks_kept mid.kept.tasks n)) (omega (arith, in_use, held.all, e))
        ∙ ap₂ (λ c ts. with_task number c ts) counted (held.left n (omega arith)))
    which v (inr ne) lt in_use = set_there mid.kept.tasks n v (with_task number count (tasks_kept mid.kept.tasks n)) (λ e. ne (sym e)) ∙ held.done v (omega (arith, lt, ne)) in_use

-- ---- and at the end
with_at : (number : ℕ) (actions : List Action) (views : List ViewDef) (tasks : List (List Task)) (v : ℕ) → length tasks ≡ length views → v < length tasks
    → tasks_kept (with_tasks number actions views tasks) v ≡ with_task number (actions_on (view_at views v) actions) (tasks_kept tasks v)
with_at number actions [] [] v e lt = absurd (omega (arith, lt))
with_at number actions [] (t ∷ tasks) v e lt = absurd (omega (arith, e))
with_at number actions (view ∷ views) [] v e lt = absurd (omega (arith, lt))
with_at number actions (view ∷ views) (t ∷ tasks) zero e lt = refl
with_at number actions (view ∷ views) (t ∷ tasks) (suc v) e lt = with_at number actions views tasks v (omega (arith, e)) (omega (arith, lt))

with_long : (number : ℕ) (actions : List Action) (views : List ViewDef) (tasks : List (List Task)) → length tasks ≡ length views → length (with_tasks number actions views tasks) ≡ length tasks
with_long number actions [] tasks e = refl
with_long number actions (view ∷ views) [] e = refl
with_long number actions (view ∷ views) (t ∷ tasks) e = ap suc (with_long number actions views tasks (omega (arith, e)))

each_same : (xs ys : List (List Task)) → length xs ≡ length ys → ((v : ℕ) → v < length xs → tasks_kept xs v ≡ tasks_kept ys v) → xs ≡ ys
each_same [] [] e h = refl
each_same [] (y ∷ ys) e h = absurd (omega (arith, e))
each_same (x ∷ xs) [] e h = absurd (omega (arith, e))
each_same (x ∷ xs) (y ∷ ys) e h = ap₂ (λ a b. a ∷ b) (h 0 (omega arith)) (each_same xs ys (omega (arith, e)) (λ v lt. h (suc v) (omega (arith, lt))))

pub all_added : (number : ℕ) (actions : List Action) (views : List ViewDef) (old new : UpkeepRoom) → length old.kept.tasks ≡ length views → AreAdded number actions views (length views) old new
    → new.kept ≡ record old.kept { tasks = with_tasks number actions views old.kept.tasks }
all_added number actions views old new all held =
    held.same ∙ ap (λ (ts : List (List Task)). record old.kept { tasks = ts })
    (each_same new.kept.tasks (with_tasks number actions views old.kept.tasks) (held.all ∙ sym (with_long number actions views old.kept.tasks all))
    (λ v lt. held.done v (omega (arith, lt, held.all, all)) (omega (arith, lt, held.all)) ∙ sym (with_at number actions views old.kept.tasks v all (omega (arith, lt, held.all)))))

-- setting what is there changes nothing
pub set_same : (ts : List (List Task)) (v : ℕ) → slice_set ts v (tasks_kept ts v) ≡ ts
set_same [] v = refl
set_same (t ∷ ts) zero = refl
set_same (t ∷ ts) (suc v) = ap (λ us. t ∷ us) (set_same ts v)

-- no view has more actions than there are
pub few_on : (view : ViewDef) (actions : List Action) → actions_on view actions ≤ length actions
few_on view actions = filter_fewer (is_on view) actions
