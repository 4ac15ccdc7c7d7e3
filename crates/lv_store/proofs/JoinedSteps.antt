-- Steps of one view, one behind the other, with nobody between them, are one step.
use Rattle.std.proofs.Common.{◌≡◌, ℕ, zero, suc, ◌+◌, ◌<◌, ◌≤◌, Bool, false, List, [], ◌∷◌, ◌++◌, drop, get_or, length, refl, sym, ap, ◌∙◌, subst, arith}
use Rattle.std.specs.Prelude.{◌⊎◌, ◌==◌, ◌&&◌, true, not, slice_set}
use Rattle.std.proofs.lemmas.List.{drop_more, set-set}
use Rattle.std.proofs.lemmas.Bool.Decides.{nat_tests}
use mathlib.Core.Logic.{inl, inr}
use Rattle.lv_schema.specs.declared.forced.Forced.{Forced}
use Rattle.lv_schema.specs.Jobs.{parts_between}
use Rattle.lv_schema.specs.SoundWorld.{IsSound}
use Rattle.lv_schema.specs.Steady.{IsClear, IsStep}
use Rattle.lv_schema.specs.StepPlans.{advanced, is_inside}
use Rattle.lv_schema.specs.Tasks.{is_task}
use Rattle.lv_schema.specs.UpkeepCases.{with_steps}
use Rattle.lv_schema.specs.World.{Upkeep, Visible, World, live, snap, view_at}
use Rattle.lv_schema.proofs.PendingTasks.{not_inside}
use Rattle.lv_stands.specs.Moves.{StepsFollow}
use Rattle.lv_stands.proofs.Upkeeps.{inside_is}
use Rattle.lv_txn.specs.Kept.{live_kept}
use Rattle.lv_store.specs.declared.store.Store.{Store}
use Rattle.lv_joining.specs.Kept.{KeepsLinksBetween}
use Rattle.lv_joining.proofs.Joined.{joined_cost, keeps_itself, keeps_on}
use Rattle.lv_reach.proofs.Reaches.{bound_stands}
use Rattle.lv_reach.specs.Cost.{cost}
use Rattle.lv_reach.specs.Links.{links_of}
use Rattle.lv_reach.proofs.Costing.{one_cost}
use Rattle.lv_store.specs.Inputs.{AreCosts, IsCostBetween, IsCostOf}
use Rattle.lv_store.specs.Querying.{InPlaceOf, IsJoined}
use Rattle.lv_store.specs.Kept.{Stands, kept, store_of}

abbrev joined_step : Forced → Forced → Forced
joined_step a b = record { view = a.view; lo = a.lo; hi = b.hi }

-- ---- costs
-- a step has one cost, and steps have one sum of costs
one_number : (s : Visible) (f : Forced) (n m : ℕ) → IsCostBetween s f n → IsCostBetween s f m → n ≡ m
one_number s f n m a b =
    let v = view_at s.views f.view in
    a.cost_is ∙ one_cost (links_of v.cond) (parts_between s v f.lo f.hi) a.near b.near a.far b.far a.reach b.reach ∙ sym b.cost_is

one_sum : (s : Visible) (fs : List Forced) (n m : ℕ) → AreCosts (IsCostBetween s) fs n → AreCosts (IsCostBetween s) fs m → n ≡ m
one_sum s [] n m a b = a ∙ sym b
one_sum s (f ∷ fs) n m a b =
    let first = one_number s f a.0 b.0 a.2 b.2 in
    let rest = one_sum s fs a.1 b.1 a.3 b.3 in
    omega (arith, a.4, b.4, first, rest)

-- a bound that follows from the costs of steps, whichever they are, stands
pub costs_stand : (s : Visible) (fs : List Forced) (n m : ℕ) → ((k : ℕ) → AreCosts (IsCostBetween s) fs k → n ≤ m) → n ≤ m
costs_stand s [] n m h = h 0 refl
costs_stand s (f ∷ fs) n m h =
    let v = view_at s.views f.view in
    let parts = parts_between s v f.lo f.hi in
    bound_stands (links_of v.cond) parts n m (λ near far is. costs_stand s fs n m (λ k c.
    h (cost (links_of v.cond) parts near far + k) (cost (links_of v.cond) parts near far, k, record { near = near; far = far; reach = is; cost_is = refl }, c, refl)))

-- ---- two steps as one
pub low_or_high : (n m : ℕ) → (n < m) ⊎ (m ≤ n)
low_or_high n m = grind arith

module _ (s : Visible) (a b : Forced) (view : a.view ≡ b.view) (meet : a.hi ≡ b.lo) (none : is_inside (live s.sessions) a.hi b.hi ≡ false) where
  is_clear : IsStep s a → IsClear s (view_at s.views a.view) a.lo b.hi
  is_clear step snapshot k among below above upto = by (low_or_high snapshot a.hi)
    where
      by : (snapshot < a.hi) ⊎ (a.hi ≤ snapshot) → is_task s (view_at s.views a.view) k ≡ false
      by (inl lt) = step.clear snapshot k among lt above upto
      by (inr le) = absurd (not_inside (live s.sessions) a.hi b.hi snapshot none among le below)

  is_step : IsStep s a → IsStep s b → IsStep s (joined_step a b)
  is_step first second = record {
    in_use = first.in_use;
    created = first.created;
    rises = omega (arith, first.rises, second.rises, meet);
    within = second.within;
    task = ap (λ v. is_task s (view_at s.views v) b.hi) view ∙ second.task;
    clear = is_clear first;
  }

  points_same : (points : List ℕ) → slice_set points a.view b.hi ≡ slice_set (slice_set points a.view a.hi) b.view b.hi
  points_same points = sym (set-set points a.view a.hi b.hi) ∙ ap (λ v. slice_set (slice_set points a.view a.hi) v b.hi) view

  joined_at : (u : Upkeep) (rest : List Forced) → StepsFollow (record { visible = s; upkeep = u }) (a ∷ b ∷ rest)
      → StepsFollow (record { visible = s; upkeep = u }) (joined_step a b ∷ rest) × (with_steps (joined_step a b ∷ rest) u ≡ with_steps (a ∷ b ∷ rest) u)
  joined_at u rest h = (
    (is_step h.0 h.2.0, h.1, subst (λ (points : List ℕ). StepsFollow (record { visible = s; upkeep = record u { points = points } }) rest) (sym (points_same u.points)) h.2.2),
    ap (λ (points : List ℕ). record u { points = advanced points rest }) (points_same u.points),
  )

  pub joined_behind : (before : List Forced) (u : Upkeep) (rest : List Forced) → StepsFollow (record { visible = s; upkeep = u }) (before ++ a ∷ b ∷ rest)
      → StepsFollow (record { visible = s; upkeep = u }) (before ++ joined_step a b ∷ rest) × (with_steps (before ++ joined_step a b ∷ rest) u ≡ with_steps (before ++ a ∷ b ∷ rest) u)
  joined_behind [] u rest h = joined_at u rest h
  joined_behind (f ∷ before) u rest h = let more = joined_behind before (with_steps (f ∷ []) u) rest h.2 in ((h.0, h.1, more.0), more.1)

  steps_behind : (before : List Forced) (u : Upkeep) (rest : List Forced) → StepsFollow (record { visible = s; upkeep = u }) (before ++ a ∷ b ∷ rest) → IsStep s a × IsStep s b
  steps_behind [] u rest h = (h.0, h.2.0)
  steps_behind (f ∷ before) u rest h = steps_behind before (with_steps (f ∷ []) u) rest h.2

  -- the one step costs no more than the two
  less : IsSound s → IsStep s a → IsStep s b → KeepsLinksBetween s a.view a.lo a.hi → (n m k : ℕ) → IsCostBetween s a n → IsCostBetween s b m → IsCostBetween s (joined_step a b) k → k ≤ n + m
  less sound first second keeps n m k c d e =
      let v = view_at s.views a.view in
      let here : IsCostOf v (parts_between s v a.hi b.hi) m =
      subst (λ i. IsCostOf (view_at s.views i) (parts_between s (view_at s.views i) a.hi b.hi) m) (sym view)
      (subst (λ lo. IsCostOf (view_at s.views b.view) (parts_between s (view_at s.views b.view) lo b.hi) m) (sym meet) d) in
      let most = joined_cost (links_of v.cond) s.tables v.tables (snap s a.lo) (snap s a.hi) (snap s b.hi)
      (sound.fits a.lo (omega (arith, first.rises, first.within))) (sound.fits a.hi first.within) keeps
      e.near c.near here.near e.far c.far here.far e.reach c.reach here.reach in
      omega (arith, most, c.cost_is, here.cost_is, e.cost_is)

  most_behind : IsSound s → IsStep s a → IsStep s b → KeepsLinksBetween s a.view a.lo a.hi → (before rest : List Forced) (n m : ℕ)
      → AreCosts (IsCostBetween s) (before ++ a ∷ b ∷ rest) n → AreCosts (IsCostBetween s) (before ++ joined_step a b ∷ rest) m → m ≤ n
  most_behind sound first second keeps [] rest n m c d =
      let both = less sound first second keeps c.0 c.3.0 d.0 c.2 c.3.2 d.2 in
      let same = one_sum s rest c.3.1 d.1 c.3.3 d.3 in
      omega (arith, both, same, c.4, c.3.4, d.4)
  most_behind sound first second keeps (f ∷ before) rest n m c d =
      let more = most_behind sound first second keeps before rest c.1 d.1 c.3 d.3 in
      let same = one_number s f c.0 d.0 c.2 d.2 in
      omega (arith, more, same, c.4, d.4)

-- two steps of what is kept, as one
pub joins : (p : Store) (w : World) → Stands w (store_of p) → (before rest : List Forced) (a b : Forced) → a.view ≡ b.view → a.hi ≡ b.lo → is_inside (live_kept p.txns) a.hi b.hi ≡ false
    → KeepsLinksBetween w.visible a.view a.lo a.hi → StepsFollow w (before ++ a ∷ b ∷ rest) → InPlaceOf w (before ++ a ∷ b ∷ rest) (before ++ record { view = a.view; lo = a.lo; hi = b.hi } ∷ rest)
joins p w is before rest a b view meet none keeps follow =
    let here : is_inside (live w.visible.sessions) a.hi b.hi ≡ false = ap (λ (inside : ℕ → ℕ → Bool). inside a.hi b.hi) (sym (inside_is w (kept w.upkeep.journal (store_of p)) is)) ∙ none in
    let both = joined_behind w.visible a b view meet here before w.upkeep rest follow in
    let steps = steps_behind w.visible a b view meet here before w.upkeep rest follow in
    record { follow = both.0; same = both.1; most = most_behind w.visible a b view meet here is.steady.sound steps.0 steps.1 keeps before rest }

-- steps stand in for themselves, and what stands in for what stands in does too
pub in_own_place : (w : World) (steps : List Forced) → StepsFollow w steps → InPlaceOf w steps steps
in_own_place w steps follow = record { follow = follow; same = refl; most = λ n m c d. omega (arith, one_sum w.visible steps n m c d) }

pub in_place_again : (w : World) (steps taken more : List Forced) → InPlaceOf w steps taken → InPlaceOf w taken more → InPlaceOf w steps more
in_place_again w steps taken more a b = record {
  follow = b.follow;
  same = b.same ∙ a.same;
  most = λ n m c d. costs_stand w.visible taken m n (λ k e. let first = a.most n k c e in let second = b.most k m e d in omega (arith, first, second));
}

-- ---- steps under way
-- a step by itself, and one that goes on behind steps that keep links
pub is_itself : (s : Visible) (f : Forced) → IsJoined s f f
is_itself s f = record { view = refl; hi = refl; keeps = keeps_itself (links_of (view_at s.views f.view).cond) s.tables (view_at s.views f.view).tables (snap s f.lo) }

module _ (s : Visible) (joined before step : Forced) (is : IsJoined s joined before) (keeps : KeepsLinksBetween s before.view before.lo before.hi) where
  pub all_keep : KeepsLinksBetween s joined.view joined.lo joined.hi
  all_keep =
      subst (λ hi. KeepsLinksBetween s joined.view joined.lo hi) (sym is.hi)
      (subst (λ v. KeepsLinksBetween s v joined.lo before.hi) (sym is.view)
      (keeps_on (links_of (view_at s.views before.view).cond) s.tables (view_at s.views before.view).tables (snap s joined.lo) (snap s before.lo) (snap s before.hi) is.keeps keeps))

  pub goes_with : joined.view ≡ step.view → joined.hi ≡ step.lo → IsJoined s (record { view = joined.view; lo = joined.lo; hi = step.hi }) step
  goes_with view meet = record {
    view = view;
    hi = refl;
    keeps = subst (λ lo. KeepsLinksBetween s step.view joined.lo lo) meet (subst (λ v. KeepsLinksBetween s v joined.lo joined.hi) view all_keep);
  }

-- one more of the steps that are left
pub joined_more : (w : World) (all taken new rest : List Forced) (i : ℕ) (d joined next : Forced) → i < length rest → InPlaceOf w all (taken ++ joined ∷ drop i rest)
    → InPlaceOf w (taken ++ joined ∷ get_or rest i d ∷ drop (i + 1) rest) (new ++ next ∷ drop (i + 1) rest) → InPlaceOf w all (new ++ next ∷ drop (i + 1) rest)
joined_more w all taken new rest i d joined next lt place more =
    in_place_again w all (taken ++ joined ∷ get_or rest i d ∷ drop (i + 1) rest) (new ++ next ∷ drop (i + 1) rest) (subst (λ l. InPlaceOf w all (taken ++ joined ∷ l)) (drop_more rest i d lt) place) more

pub follows_more : (w : World) (taken rest : List Forced) (i : ℕ) (d joined : Forced) → i < length rest → StepsFollow w (taken ++ joined ∷ drop i rest) → StepsFollow w (taken ++ joined ∷ get_or rest i d ∷ drop (i + 1) rest)
follows_more w taken rest i d joined lt follow = subst (λ l. StepsFollow w (taken ++ joined ∷ l)) (drop_more rest i d lt) follow

pub none_left : (xs : List Forced) (i : ℕ) → length xs ≤ i → drop i xs ≡ []
none_left [] zero le = refl
none_left [] (suc i) le = refl
none_left (x ∷ xs) zero le = absurd (let none = le in omega (arith, none))
none_left (x ∷ xs) (suc i) le = none_left xs i (omega (arith, le))

-- what a step that goes on tells
pub goes_on_tests : (a b c d : ℕ) (inside : Bool) → ((a == b) && (c == d) && not inside) ≡ true → (a ≡ b) × (c ≡ d) × (inside ≡ false)
goes_on_tests a b c d inside h = let tests = each (a == b) (c == d) (not inside) h in (equal a b tests.0, equal c d tests.1, none inside tests.2)
  where
    each : (x y z : Bool) → (x && y && z) ≡ true → (x ≡ true) × (y ≡ true) × (z ≡ true)
    each true true true h = (refl, refl, refl)
    each true true false h = absurd (cc)
    each true false z h = absurd (cc)
    each false y z h = absurd (cc)

    equal : (x y : ℕ) → (x == y) ≡ true → x ≡ y
    equal x y test = grind (arith, nat_tests)

    none : (i : Bool) → not i ≡ true → i ≡ false
    none false h = refl
    none true h = absurd (cc)
