-- Queues at their places.
use Rattle.std.proofs.Common.{◌≡◌, ℕ, zero, suc, ◌+◌, ◌<◌, ◌≤◌, List, [], ◌∷◌, refl, sym, ap, subst, arith, length, get_or, below_more}
use Rattle.std.specs.Prelude.{slice_set, replicate}
use Rattle.std.proofs.lemmas.List.{get_or_default, get_or-set_same, length-set, map-set}
use Rattle.lv_values.specs.Room.{Roomy}
use Rattle.lv_tasks.specs.declared.task.Task.{Task}
use Rattle.lv_tasks.specs.Kept.{IsLater, tasks_kept}
use Rattle.lv_tasks.specs.Queues.{HaveRoom, lists_of, no_queue, queue_at}

-- each of some tasks is of an earlier commit
pub earlier_at : (xs : List Task) (k : ℕ) (d : Task) (n : ℕ) → IsLater n xs → k < length xs → (get_or xs k d).commit < n
earlier_at [] k d n h lt = absurd (omega arith)
earlier_at (x ∷ xs) zero d n h lt = h.0
earlier_at (x ∷ xs) (suc k) d n h lt = earlier_at xs k d n h.1 (omega arith)

-- the tasks of a view are those of its queue
pub kept_at : (qs : List (Roomy Task)) (v : ℕ) → tasks_kept (lists_of qs) v ≡ (queue_at qs v).list
kept_at [] v = refl
kept_at (q ∷ qs) zero = refl
kept_at (q ∷ qs) (suc v) = kept_at qs v

pub none_at : (qs : List (Roomy Task)) (v : ℕ) → length qs ≤ v → tasks_kept (lists_of qs) v ≡ []
none_at [] v le = refl
none_at (q ∷ qs) zero le = absurd (omega arith)
none_at (q ∷ qs) (suc v) le = none_at qs v (omega arith)

pub lists_set : (qs : List (Roomy Task)) (at : ℕ) (q : Roomy Task) → lists_of (slice_set qs at q) ≡ slice_set (lists_of qs) at q.list
lists_set qs at q = map-set (λ (x : Roomy Task). x.list) qs at q

-- a write at a place that is not there
pub set_none : {A : Type 0} (xs : List A) (i : ℕ) (x : A) → length xs ≤ i → slice_set xs i x ≡ xs
set_none [] i x le = refl
set_none (y ∷ ys) zero x le = absurd (omega arith)
set_none (y ∷ ys) (suc i) x le = ap (λ l. y ∷ l) (set_none ys i x (omega arith))

pub length-lists : (qs : List (Roomy Task)) → length (lists_of qs) ≡ length qs
length-lists [] = refl
length-lists (q ∷ qs) = ap suc (length-lists qs)

pub all_new : (qs : List (Roomy Task)) → ((i : ℕ) → i < length qs → (queue_at qs i).list ≡ []) → lists_of qs ≡ replicate (length qs) []
all_new [] each = refl
all_new (q ∷ qs) each = rw (each 0 (omega arith)) (ap (λ (l : List (List Task)). [] ∷ l) (all_new qs (λ i lt. each (suc i) (omega arith))))

-- what holds of a queue that is written, and of the others, holds of each
at_set : (P : Roomy Task → Type 0) (qs : List (Roomy Task)) (at k : ℕ) (q : Roomy Task) → P q → (k < length qs → P (queue_at qs k)) → k < length (slice_set qs at q) → P (queue_at (slice_set qs at q) k)
at_set P [] at k q p others lt = absurd (omega arith)
at_set P (x ∷ xs) zero zero q p others lt = p
at_set P (x ∷ xs) zero (suc k) q p others lt = others (omega arith)
at_set P (x ∷ xs) (suc at) zero q p others lt = others (omega arith)
at_set P (x ∷ xs) (suc at) (suc k) q p others lt = at_set P xs at k q p (λ h. others (omega arith)) (omega arith)

pub room_kept : (n : ℕ) (qs : List (Roomy Task)) (at : ℕ) (q d : Roomy Task) → at < length qs → (get_or qs at d).spare ≤ q.spare → HaveRoom n qs → HaveRoom n (slice_set qs at q)
room_kept n qs at q d lt le room =
    let same : get_or qs at d ≡ queue_at qs at = get_or_default qs at d no_queue lt in
    let more : (queue_at qs at).spare ≤ q.spare = subst (λ (x : Roomy Task). x.spare ≤ q.spare) same le in
    let old = room at lt in
    λ k h. at_set (λ x. n ≤ x.spare) qs at k q (omega arith) (room k) h

pub room_more : (n : ℕ) (qs : List (Roomy Task)) (at : ℕ) (q : Roomy Task) → at < length qs → n ≤ q.spare → ((k : ℕ) → k < at → n ≤ (queue_at qs k).spare) → (k : ℕ) → k < at + 1 → n ≤ (queue_at (slice_set qs at q) k).spare
room_more n qs at q lt le room =
    below_more (λ k. n ≤ (queue_at (slice_set qs at q) k).spare) at
    (λ k h. at_set (λ x. n ≤ x.spare) qs at k q le (λ b. room k h) (omega (arith, length-set qs at q)))
    (subst (λ x. n ≤ x.spare) (sym (get_or-set_same qs at q no_queue lt)) le)
