-- Planned steps over a view's tasks, one after another.
use Rattle.std.proofs.Common.{◌≡◌, ℕ, zero, suc, ◌+◌, ◌-◌, ◌<◌, ◌≤◌, Bool, true, false, cond, List, [], ◌∷◌, refl, sym, ◌∙◌, ap, subst, arith, filter, map, Option, Some, None}
use Rattle.std.specs.Prelude.{◌&&◌, nat_lt, nat_le, option_map}
use Rattle.std.proofs.lemmas.Bool.Decides.{nat_tests}
use Rattle.lv_schema.specs.declared.forced.Forced.{Forced}
use Rattle.lv_schema.specs.StepPlans.{step_end, step_of, then_more}
use Rattle.lv_schema.proofs.Numbers.{Each}
use Rattle.lv_schema.proofs.PlannedSteps.{reached, reached_keeps, step_end_is}
use Rattle.lv_tasks.specs.declared.task.Task.{Task}
use Rattle.lv_tasks.specs.Kept.{commits_between}
use Rattle.lv_upkeep.specs.Kept.{planned_among, forced_among}

abbrev Lies : ℕ → ℕ → ℕ → Type 0
Lies lo m k = (lo < k) × (k ≤ m)

each_between : (lo m : ℕ) (tasks : List Task) → Each (Lies lo m) (commits_between lo m tasks)
each_between lo m [] = tt
each_between lo m (t ∷ ts) = by (nat_lt lo t.commit) refl (nat_le t.commit m) refl (each_between lo m ts)
  where
    by : (a : Bool) → nat_lt lo t.commit ≡ a → (b : Bool) → nat_le t.commit m ≡ b → Each (Lies lo m) (commits_between lo m ts)
        → Each (Lies lo m) (map (λ (x : Task). x.commit) (cond (a && b) (t ∷ filter (λ (x : Task). nat_lt lo x.commit && nat_le x.commit m) ts) (filter (λ (x : Task). nat_lt lo x.commit && nat_le x.commit m) ts)))
    by true e true f ih = ((grind (arith, nat_tests), grind (arith, nat_tests)), ih)
    by true e false f ih = ih
    by false e b f ih = ih

some_is : (x y : ℕ) → Some x ≡ Some y → x ≡ y
some_is x y h = cc

module _ (inside : ℕ → ℕ → Bool) (combine v : ℕ) (tasks : List Task) (m : ℕ) where
  -- a step rises, and not past the limit
  pub step_rises : (lo hi : ℕ) → step_end inside combine (commits_between lo m tasks) ≡ Some hi → Lies lo m hi
  step_rises lo hi e = by (commits_between lo m tasks) (each_between lo m tasks) e
    where
      by : (ks : List ℕ) → Each (Lies lo m) ks → step_end inside combine ks ≡ Some hi → Lies lo m hi
      by [] each h = cc
      by (k ∷ ks) each h =
          subst (Lies lo m) (some_is (reached inside k k (combine - 1) ks) hi (sym (step_end_is inside combine k ks) ∙ h))
          (reached_keeps (Lies lo m) inside k k (combine - 1) ks each.0 each.1)

  none_above : (lo : ℕ) → m ≤ lo → step_end inside combine (commits_between lo m tasks) ≡ None
  none_above lo le = by (step_end inside combine (commits_between lo m tasks)) refl
    where
      by : (x : Option ℕ) → step_end inside combine (commits_between lo m tasks) ≡ x → step_end inside combine (commits_between lo m tasks) ≡ None
      by None e = e
      by (Some hi) e = let r = step_rises lo hi e in absurd (omega (arith, r.0, r.1))

  planned_some : (lo hi : ℕ) → step_end inside combine (commits_between lo m tasks) ≡ Some hi → planned_among inside combine v tasks m lo ≡ Some (step_of v lo hi)
  planned_some lo hi e = ap (option_map (step_of v lo)) e

  planned_none : (lo : ℕ) → step_end inside combine (commits_between lo m tasks) ≡ None → planned_among inside combine v tasks m lo ≡ None
  planned_none lo e = ap (option_map (step_of v lo)) e

  abbrev steps : ℕ → ℕ → List Forced
  steps turns lo = forced_among inside combine v tasks m turns lo

  -- where there is no step, and where there is one
  pub chain_ends : (turns lo : ℕ) → step_end inside combine (commits_between lo m tasks) ≡ None → steps turns lo ≡ []
  chain_ends zero lo e = refl
  chain_ends (suc turns) lo e = ap (λ (x : Option Forced). then_more x (steps turns)) (planned_none lo e)

  -- turns enough are enough
  enough : (j k lo : ℕ) → m ≤ lo + j → m ≤ lo + k → steps j lo ≡ steps k lo
  enough zero k lo a b = sym (chain_ends k lo (none_above lo (omega arith)))
  enough (suc j) zero lo a b = chain_ends (suc j) lo (none_above lo (omega arith))
  enough (suc j) (suc k) lo a b = by (step_end inside combine (commits_between lo m tasks)) refl (λ hi p q. enough j k hi p q)
    where
      by : (x : Option ℕ) → step_end inside combine (commits_between lo m tasks) ≡ x → ((hi : ℕ) → m ≤ hi + j → m ≤ hi + k → steps j hi ≡ steps k hi)
          → then_more (option_map (step_of v lo) x) (steps j) ≡ then_more (option_map (step_of v lo) x) (steps k)
      by None e ih = refl
      by (Some hi) e ih = let r = step_rises lo hi e in ap (λ (fs : List Forced). step_of v lo hi ∷ fs) (ih hi (omega (arith, r.0)) (omega (arith, r.0)))

  pub chain_more : (lo hi : ℕ) → step_end inside combine (commits_between lo m tasks) ≡ Some hi → steps (m - lo) lo ≡ step_of v lo hi ∷ steps (m - hi) hi
  chain_more lo hi e = by (m - lo) refl
    where
      by : (n : ℕ) → m - lo ≡ n → steps n lo ≡ step_of v lo hi ∷ steps (m - hi) hi
      by zero f = let r = step_rises lo hi e in absurd (omega (arith, r.0, r.1))
      by (suc n) f =
          let r = step_rises lo hi e in
          ap (λ (x : Option Forced). then_more x (steps n)) (planned_some lo hi e)
          ∙ ap (λ (fs : List Forced). step_of v lo hi ∷ fs) (enough n (m - hi) hi (omega (arith, r.0)) (omega (arith, r.1)))
