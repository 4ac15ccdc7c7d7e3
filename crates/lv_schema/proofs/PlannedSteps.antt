-- The planned step takes the greatest lawful number of tasks; forced steps are a chain of planned ones that leaves
-- nothing pending.
use Rattle.std.proofs.Common.{◌≡◌, ℕ, zero, suc, ◌+◌, ◌-◌, ◌<◌, ◌≤◌, Bool, true, false, cond, not, List, [], ◌∷◌, refl, sym, ◌∙◌, ap, subst, arith, length, get_or, take, Option, Some, None}
use Rattle.std.specs.Prelude.{◌⊎◌, option_map}
use Rattle.std.specs.List.{take_while, prefix_len, last_or}
use mathlib.Core.Logic.{inl, inr}
use Rattle.lv_schema.specs.declared.forced.Forced.{Forced}
use Rattle.lv_schema.specs.Greatest.{IsLawful, TakesMost, IsPlannedStep, IsChain, end_of}
use Rattle.lv_schema.specs.Tasks.{is_task, pending}
use Rattle.lv_schema.specs.StepPlans.{is_inside, step_end, step_of, planned_from, then_more, at_point, forced_within}
use Rattle.lv_schema.specs.World.{Visible, live, last, view_at, Settings}
use Rattle.lv_schema.proofs.Numbers.{Each, Rises, each_get}
use Rattle.lv_schema.proofs.PendingTasks.{Pends, pending_each, pending_rises, inside_none, not_inside, inside_more, inside_some}

-- where a step ends that began at the first task, has come to hi and may take so many more
abbrev pub reached : (ℕ → ℕ → Bool) → ℕ → ℕ → ℕ → List ℕ → ℕ
reached inside first hi zero ts = hi
reached inside first hi (suc more) [] = hi
reached inside first hi (suc more) (t ∷ ts) = cond (inside first t) hi (reached inside first t more ts)

front_more : (p : ℕ → Bool) (t : ℕ) (ts : List ℕ) → p t ≡ true → take_while p (t ∷ ts) ≡ t ∷ take_while p ts
front_more p t ts e = let one : 1 + prefix_len p ts ≡ suc (prefix_len p ts) = omega arith in rw (e, one) refl

front_none : (p : ℕ → Bool) (t : ℕ) (ts : List ℕ) → p t ≡ false → take_while p (t ∷ ts) ≡ []
front_none p t ts e = rw e refl

pub end_is : (inside : ℕ → ℕ → Bool) (first hi more : ℕ) (ts : List ℕ)
    → last_or (Some hi) (take_while (λ later. not (inside first later)) (take more ts)) ≡ Some (reached inside first hi more ts)
end_is inside first hi zero ts = refl
end_is inside first hi (suc more) [] = refl
end_is inside first hi (suc more) (t ∷ ts) = by (inside first t) refl (end_is inside first t more ts)
  where
    by : (x : Bool) → inside first t ≡ x → last_or (Some t) (take_while (λ later. not (inside first later)) (take more ts)) ≡ Some (reached inside first t more ts)
        → last_or (Some hi) (take_while (λ later. not (inside first later)) (t ∷ take more ts)) ≡ Some (cond x hi (reached inside first t more ts))
    by true e r = let p : not (inside first t) ≡ false = rw e refl in ap (last_or (Some hi)) (front_none (λ later. not (inside first later)) t (take more ts) p)
    by false e r = let p : not (inside first t) ≡ true = rw e refl in ap (last_or (Some hi)) (front_more (λ later. not (inside first later)) t (take more ts) p) ∙ r

pub step_end_is : (inside : ℕ → ℕ → Bool) (combine t : ℕ) (ts : List ℕ) → step_end inside combine (t ∷ ts) ≡ Some (reached inside t t (combine - 1) ts)
step_end_is inside combine t ts = end_is inside t t (combine - 1) ts

-- what a step reaches has what the tasks have, and no live snapshot is inside
pub reached_keeps : (P : ℕ → Type 0) (inside : ℕ → ℕ → Bool) (first hi more : ℕ) (ts : List ℕ) → P hi → Each P ts → P (reached inside first hi more ts)
reached_keeps P inside first hi zero ts a b = a
reached_keeps P inside first hi (suc more) [] a b = a
reached_keeps P inside first hi (suc more) (t ∷ ts) a b = by (inside first t) (reached_keeps P inside first t more ts b.0 b.1)
  where
    by : (x : Bool) → P (reached inside first t more ts) → P (cond x hi (reached inside first t more ts))
    by true h = a
    by false h = h

pub reached_clear : (inside : ℕ → ℕ → Bool) (first hi more : ℕ) (ts : List ℕ) → inside first hi ≡ false → inside first (reached inside first hi more ts) ≡ false
reached_clear inside first hi zero ts a = a
reached_clear inside first hi (suc more) [] a = a
reached_clear inside first hi (suc more) (t ∷ ts) a = by (inside first t) refl (λ e. reached_clear inside first t more ts e)
  where
    by : (x : Bool) → inside first t ≡ x → (inside first t ≡ false → inside first (reached inside first t more ts) ≡ false) → inside first (cond x hi (reached inside first t more ts)) ≡ false
    by true e f = a
    by false e f = f e

-- how many more tasks are reached, and that each further one is cut off
record Reaches (lives : List ℕ) (first hi more : ℕ) (ts : List ℕ) : Type 0 where
  taken : ℕ
  few : taken ≤ more
  there : taken ≤ length ts
  hi_is : reached (is_inside lives) first hi more ts ≡ get_or (hi ∷ ts) taken 0
  cut : (i : ℕ) → taken < i → i ≤ more → i ≤ length ts → is_inside lives first (get_or (hi ∷ ts) i 0) ≡ true

reaches : (lives : List ℕ) (first hi more : ℕ) (ts : List ℕ) → Rises ts → Reaches lives first hi more ts
reaches lives first hi zero ts up = record { taken = 0; few = omega arith; there = omega arith; hi_is = refl; cut = λ i a b c. absurd (omega arith) }
reaches lives first hi (suc more) [] up = record { taken = 0; few = omega arith; there = omega arith; hi_is = refl; cut = λ i a b c. absurd (omega arith) }
reaches lives first hi (suc more) (t ∷ ts) up = by (is_inside lives first t) refl (reaches lives first t more ts up.1)
  where
    cut_here : is_inside lives first t ≡ true → (i : ℕ) → 0 < i → i ≤ length (t ∷ ts) → is_inside lives first (get_or (hi ∷ t ∷ ts) i 0) ≡ true
    cut_here e zero a c = absurd (omega arith)
    cut_here e (suc zero) a c = e
    cut_here e (suc (suc i)) a c = inside_more lives first t (get_or ts i 0) e (let lt : t < get_or ts i 0 = each_get (λ y. t < y) ts i (omega arith) up.0 in omega arith)

    further : (r : Reaches lives first t more ts) → (i : ℕ) → suc r.taken < i → i ≤ suc more → i ≤ length (t ∷ ts) → is_inside lives first (get_or (hi ∷ t ∷ ts) i 0) ≡ true
    further r zero a b c = absurd (omega arith)
    further r (suc i) a b c = r.cut i (omega arith) (omega arith) (omega arith)

    by : (x : Bool) → is_inside lives first t ≡ x → Reaches lives first t more ts → Reaches lives first hi (suc more) (t ∷ ts)
    by true e r = record { taken = 0; few = omega arith; there = omega arith; hi_is = rw e refl; cut = λ i a b c. cut_here e i a c }
    by false e r = record { taken = suc r.taken; few = omega (arith, r.few); there = omega (arith, r.there); hi_is = rw e r.hi_is; cut = further r }

takes_most : (s : Visible) (combine t : ℕ) (ts : List ℕ) → 0 < combine → Rises (t ∷ ts) → TakesMost s combine (t ∷ ts) (reached (is_inside (live s.sessions)) t t (combine - 1) ts)
takes_most s combine t ts pos up =
    let lives = live s.sessions in
    let r = reaches lives t t (combine - 1) ts up.1 in
    let clear : is_inside lives t (reached (is_inside lives) t t (combine - 1) ts) ≡ false = reached_clear (is_inside lives) t t (combine - 1) ts (inside_none lives t) in
    let e : suc r.taken - 1 ≡ r.taken = omega arith in
    let hi_is : reached (is_inside lives) t t (combine - 1) ts ≡ get_or (t ∷ ts) (suc r.taken - 1) 0 = rw e r.hi_is in
    record {
      taken = suc r.taken;
      lawful = record {
        some = omega arith;
        few = omega (arith, r.few);
        there = omega (arith, r.there);
        clear = λ k l a b. not_inside lives t (reached (is_inside lives) t t (combine - 1) ts) k clear l a (rw hi_is b);
      };
      hi_is = hi_is;
      greatest = λ k law. at_most r k law (cases k (suc r.taken));
    }
  where
    cases : (k n : ℕ) → (k ≤ n) ⊎ (n < k)
    cases k n = grind arith

    at_most : (r : Reaches (live s.sessions) t t (combine - 1) ts) (k : ℕ) → IsLawful s combine (t ∷ ts) k → (k ≤ suc r.taken) ⊎ (suc r.taken < k) → k ≤ suc r.taken
    at_most r k law (inl h) = h
    at_most r k law (inr h) =
        let i = inside_some (live s.sessions) t (get_or (t ∷ ts) (k - 1) 0) (r.cut (k - 1) (omega arith) (omega (arith, law.few)) (omega (arith, law.there))) in
        absurd (law.clear i.0 i.1 i.2 i.3)

pub planned_is_greatest : (settings : Settings) (s : Visible) (v m lo : ℕ) → 0 < settings.combine → IsPlannedStep settings s (at_point v lo) m (planned_from settings s (at_point v lo) m)
planned_is_greatest settings s v m lo pos = by (pending s (view_at s.views v) lo m) refl (pending_rises s (view_at s.views v) lo m)
  where
    by : (ts : List ℕ) → pending s (view_at s.views v) lo m ≡ ts → Rises ts → IsPlannedStep settings s (at_point v lo) m (option_map (step_of v lo) (step_end (is_inside (live s.sessions)) settings.combine ts))
    by [] e up = e
    by (t ∷ ts) e up = rw (step_end_is (is_inside (live s.sessions)) settings.combine t ts) (refl, refl, rw e (takes_most s settings.combine t ts pos up))

-- a planned step goes up from lo, to a task that is at most m
pub record IsPlanned (s : Visible) (v m lo : ℕ) (f : Forced) : Type 0 where
  pub view : f.view ≡ v
  pub lo_is : f.lo ≡ lo
  pub rises : lo < f.hi
  pub upto : f.hi ≤ m
  pub within : f.hi ≤ last s
  pub task : is_task s (view_at s.views v) f.hi ≡ true

pub planned_is : (settings : Settings) (s : Visible) (v m lo : ℕ) (f : Forced) → planned_from settings s (at_point v lo) m ≡ Some f → IsPlanned s v m lo f
planned_is settings s v m lo f e = by (pending s (view_at s.views v) lo m) (pending_each s (view_at s.views v) lo m) e
  where
    some_is : (x y : Forced) → Some x ≡ Some y → x ≡ y
    some_is x y h = cc

    by : (ts : List ℕ) → Each (Pends s (view_at s.views v) lo m) ts → option_map (step_of v lo) (step_end (is_inside (live s.sessions)) settings.combine ts) ≡ Some f → IsPlanned s v m lo f
    by [] each h = cc
    by (t ∷ ts) each h =
        let hi = reached (is_inside (live s.sessions)) t t (settings.combine - 1) ts in
        let f_is : step_of v lo hi ≡ f = some_is (step_of v lo hi) f (ap (option_map (step_of v lo)) (sym (step_end_is (is_inside (live s.sessions)) settings.combine t ts)) ∙ h) in
        let at : Pends s (view_at s.views v) lo m hi = reached_keeps (Pends s (view_at s.views v) lo m) (is_inside (live s.sessions)) t t (settings.combine - 1) ts each.0 each.1 in
        subst (IsPlanned s v m lo) f_is (record { view = refl; lo_is = refl; rises = at.above; upto = at.upto; within = at.within; task = at.task })

-- forced steps are a chain
pub forced_chain : (settings : Settings) (s : Visible) (v m turns lo : ℕ) → m ≤ lo + turns → IsChain settings s (at_point v lo) m (forced_within settings s v m turns lo)
forced_chain settings s v m zero lo le = by (planned_from settings s (at_point v lo) m) refl
  where
    by : (x : Option Forced) → planned_from settings s (at_point v lo) m ≡ x → planned_from settings s (at_point v lo) m ≡ None
    by None e = e
    by (Some f) e = let p = planned_is settings s v m lo f e in absurd (omega (arith, p.rises, p.upto))
forced_chain settings s v m (suc turns) lo le = by (planned_from settings s (at_point v lo) m) refl (λ h a. forced_chain settings s v m turns h a)
  where
    by : (x : Option Forced) → planned_from settings s (at_point v lo) m ≡ x → ((h : ℕ) → m ≤ h + turns → IsChain settings s (at_point v h) m (forced_within settings s v m turns h)) → IsChain settings s (at_point v lo) m (then_more x (forced_within settings s v m turns))
    by None e ih = e
    by (Some f) e ih = let p = planned_is settings s v m lo f e in (e, ih f.hi (omega (arith, p.rises)))

-- there is one chain
pub chain_only : (settings : Settings) (s : Visible) (v m lo : ℕ) (fs gs : List Forced) → IsChain settings s (at_point v lo) m fs → IsChain settings s (at_point v lo) m gs → fs ≡ gs
chain_only settings s v m lo [] [] a b = refl
chain_only settings s v m lo [] (g ∷ gs) a b = let e = b.0 in cc
chain_only settings s v m lo (f ∷ fs) [] a b = let e = a.0 in cc
chain_only settings s v m lo (f ∷ fs) (g ∷ gs) a b =
    let e = a.0 in
    let d = b.0 in
    let same : f ≡ g = cc in
    let rest = chain_only settings s v m f.hi fs gs a.1 (subst (λ x. IsChain settings s (at_point v x.hi) m gs) (sym same) b.1) in
    cc

-- where a chain ends nothing up to m is pending
none_planned : (settings : Settings) (s : Visible) (v m lo : ℕ) → planned_from settings s (at_point v lo) m ≡ None → pending s (view_at s.views v) lo m ≡ []
none_planned settings s v m lo e = by (pending s (view_at s.views v) lo m) refl e
  where
    by : (ts : List ℕ) → pending s (view_at s.views v) lo m ≡ ts → option_map (step_of v lo) (step_end (is_inside (live s.sessions)) settings.combine ts) ≡ None → pending s (view_at s.views v) lo m ≡ []
    by [] g h = g
    by (t ∷ ts) g h = let some : option_map (step_of v lo) (step_end (is_inside (live s.sessions)) settings.combine (t ∷ ts)) ≡ Some (step_of v lo (reached (is_inside (live s.sessions)) t t (settings.combine - 1) ts)) = ap (option_map (step_of v lo)) (step_end_is (is_inside (live s.sessions)) settings.combine t ts) in cc

pub chain_ends : (settings : Settings) (s : Visible) (v m lo : ℕ) (fs : List Forced) → IsChain settings s (at_point v lo) m fs → pending s (view_at s.views v) (end_of lo fs) m ≡ []
chain_ends settings s v m lo [] a = none_planned settings s v m lo a
chain_ends settings s v m lo (f ∷ fs) a = chain_ends settings s v m f.hi fs a.1
