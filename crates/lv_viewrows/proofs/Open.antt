-- Versions of which none has ended.
use Rattle.std.proofs.Common.{◌≡◌, ℕ, zero, suc, ◌≤◌, Bool, true, false, cond, List, [], ◌∷◌, length, filter, take, Option, Some, None, refl, ap, ◌∙◌, subst, arith}
use Rattle.std.specs.Prelude.{slice_get}
use Rattle.std.specs.List.{AllByRecursion, remove}
use Rattle.std.proofs.lemmas.Bool.Decides.{nat_tests}
use Rattle.lv_values.specs.Ascending.{placed}
use Rattle.lv_schema.specs.declared.signed.SignedRow.{SignedRow}
use Rattle.lv_schema.specs.Versions.{ends_after}
use Rattle.lv_schema.proofs.Apart.{all_weaker}
use Rattle.lv_group.specs.Gathered.{has_tuples}
use Rattle.lv_shelf.specs.Cuts.{Apart}
use Rattle.lv_shelf.specs.Shelves.{LacksItem}
use Rattle.lv_shelf.proofs.Cutting.{all_at, all_kept, got, got_within}
use Rattle.lv_viewrows.specs.declared.version.GroupVersion.{GroupVersion}
use Rattle.lv_viewrows.specs.Kept.{version_from}
use Rattle.lv_viewrows.specs.Standing.{AreOpen, EndsAtMost, IsBy, Precedes, has_no_end, not_ended, not_ended_before, pruned, put, version_cmp}
use Rattle.lv_viewrows.proofs.Ending.{no_until}
use Rattle.lv_viewrows.proofs.Filling.{precedes_differs}
use Rattle.lv_viewrows.proofs.NotEnded.{all_pass_here}
use Rattle.lv_viewrows.proofs.Order.{all_placed}

-- ---- none is missing among those that have not ended
pub all_pass : {X : Type 0} (q : X → Bool) (xs : List X) → AllByRecursion (λ x. q x ≡ true) xs → filter q xs ≡ xs
all_pass q [] a = refl
all_pass q (x ∷ xs) a = (λ i. cond (a.0 i) (x ∷ filter q xs) (filter q xs)) ∙ ap (λ l. x ∷ l) (all_pass q xs a.1)

pub open_not_ended : (vs : List GroupVersion) → AreOpen vs → not_ended vs ≡ vs
open_not_ended vs open_now = all_pass has_no_end vs open_now

pub open_before : (at : ℕ) (vs : List GroupVersion) → AreOpen vs → at ≤ length vs → not_ended_before at vs ≡ at
open_before zero vs open_now within = refl
open_before (suc at) [] open_now within = absurd (omega arith)
open_before (suc at) (v ∷ vs) open_now within =
    (λ i. length (cond (open_now.0 i) (v ∷ filter has_no_end (take at vs)) (filter has_no_end (take at vs)))) ∙ ap suc (open_before at vs open_now.1 (omega arith))

pub open_at : (vs : List GroupVersion) (at : ℕ) (v : GroupVersion) → AreOpen vs → slice_get vs at ≡ Some v → has_no_end v ≡ true
open_at vs at v open_now get = subst (λ (w : GroupVersion). has_no_end w ≡ true) (got vs at v v get) (all_at (λ (w : GroupVersion). has_no_end w ≡ true) vs at v (got_within vs at v get) open_now)

pub open_ends_after : (number : ℕ) (vs : List GroupVersion) → AreOpen vs → AllByRecursion (λ v. ends_after number v.until ≡ true) vs
open_ends_after number vs open_now = all_weaker (λ (v : GroupVersion). has_no_end v ≡ true) (λ (v : GroupVersion). ends_after number v.until ≡ true) (λ v h. ap (ends_after number) (no_until v.until h)) vs open_now

pub open_pruned : (number : ℕ) (vs : List GroupVersion) → AreOpen vs → pruned number vs ≡ vs
open_pruned number vs open_now = all_pass (λ (v : GroupVersion). ends_after number v.until) vs (open_ends_after number vs open_now)

pub open_few : (vs : List GroupVersion) → length (not_ended vs) ≤ length vs
open_few [] = omega arith
open_few (v ∷ vs) = by (has_no_end v) (open_few vs)
  where
    by : (b : Bool) → length (not_ended vs) ≤ length vs → length (cond b (v ∷ not_ended vs) (not_ended vs)) ≤ length (v ∷ vs)
    by true le = omega arith
    by false le = omega arith

pub open_counted : (vs : List GroupVersion) → length (not_ended vs) ≡ length vs → AreOpen vs
open_counted vs same = subst AreOpen (all_pass_here has_no_end vs same) (all_kept has_no_end vs)

-- ---- versions of which each came and ended by a commit are open once those that ended by it are dropped
open_by : (number : ℕ) (u : Option ℕ) → EndsAtMost number u → ends_after number u ≡ true → u ≡ None
open_by number None h after = refl
open_by number (Some k) h after = let le : k ≤ number = h in absurd (grind (arith, nat_tests))

pub pruned_open : (number : ℕ) (vs : List GroupVersion) → AllByRecursion (IsBy number) vs → AreOpen (pruned number vs)
pruned_open number [] each = tt
pruned_open number (v ∷ vs) each = by (ends_after number v.until) refl (pruned_open number vs each.1)
  where
    by : (b : Bool) → ends_after number v.until ≡ b → AreOpen (pruned number vs) → AreOpen (cond b (v ∷ pruned number vs) (pruned number vs))
    by true e ih = (ap (λ (u : Option ℕ). has_no_end (record v { until = u })) (open_by number v.until each.0.1 e), ih)
    by false e ih = ih

-- ---- one that comes, and one that goes
pub open_put : (number : ℕ) (group : SignedRow) (vs : List GroupVersion) → AreOpen vs → AreOpen (put number group vs)
open_put number group vs open_now = by (has_tuples group)
  where
    by : (b : Bool) → AreOpen (cond b (placed version_cmp (version_from number group) vs) vs)
    by true = all_placed version_cmp (λ (v : GroupVersion). has_no_end v ≡ true) (version_from number group) vs refl open_now
    by false = open_now

pub open_removed : (at : ℕ) (vs : List GroupVersion) → AreOpen vs → AreOpen (remove vs at)
open_removed zero [] open_now = tt
open_removed zero (v ∷ vs) open_now = open_now.1
open_removed (suc at) [] open_now = tt
open_removed (suc at) (v ∷ vs) open_now = (open_now.0, open_removed at vs open_now.1)

-- one that goes is none of the others
pub lacks_removed : (at : ℕ) (vs : List GroupVersion) (item : GroupVersion) → Apart Precedes vs → slice_get vs at ≡ Some item → LacksItem item (remove vs at)
lacks_removed at [] item order get = cc
lacks_removed zero (v ∷ vs) item order get =
    let is : Some v ≡ Some item = get in
    let there : v ≡ item = cc in
    all_weaker (Precedes v) (λ w. w ≡ item → ⊥) (λ w r same. precedes_differs v w r cc) vs order.0
lacks_removed (suc at) (v ∷ vs) item order get =
    let before : Precedes v item = subst (Precedes v) (got vs at item item get) (all_at (Precedes v) vs at item (got_within vs at item get) order.0) in
    (precedes_differs v item before, lacks_removed at vs item order.1 get)
