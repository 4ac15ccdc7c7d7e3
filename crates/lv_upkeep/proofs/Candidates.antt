-- Lists over the views in use.
use Rattle.std.proofs.Common.{◌≡◌, ℕ, zero, suc, ◌+◌, ◌<◌, ◌≤◌, Bool, true, false, not, cond, List, [], ◌∷◌, ◌++◌, refl, sym, ◌∙◌, ap, arith, filter, take, append-nil, Option, Some, None}
use Rattle.std.specs.List.{filter_map, flat_map, range_with_len}
use Rattle.std.specs.Option.{option_to_list}
use Rattle.std.specs.List.{cons_option}
use Rattle.std.proofs.lemmas.Grind.{flat_map-append}
use Rattle.std.proofs.lemmas.List.{get_or-take}
use Rattle.lv_schema.specs.declared.forced.Forced.{Forced}
use Rattle.lv_schema.specs.declared.pending.Pending.{Pending}
use Rattle.lv_tasks.specs.declared.task.Task.{Task}
use Rattle.lv_tasks.specs.Kept.{pending_in, tasks_kept}
use Rattle.lv_upkeep.specs.Kept.{candidate_in, is_claimed_in}

-- one view more
range_more : (a n : ℕ) → range_with_len a (suc n) ≡ range_with_len a n ++ (a + n) ∷ []
range_more a zero = let e : a + 0 ≡ a = omega arith in rw e refl
range_more a (suc n) = let e : a + suc n ≡ (a + 1) + n = omega arith in rw e (ap (λ (l : List ℕ). a ∷ l) (range_more (a + 1) n))

pub flat_append : {X : Type 0} (f : ℕ → List X) (xs : List ℕ) (v : ℕ) → flat_map f (xs ++ v ∷ []) ≡ flat_map f xs ++ f v
flat_append f xs v = flat_map-append f xs (v ∷ []) ∙ ap (λ l. flat_map f xs ++ l) (append-nil (f v))

pub flat_more : {X : Type 0} (f : ℕ → List X) (n : ℕ) → flat_map f (range_with_len 0 (n + 1)) ≡ flat_map f (range_with_len 0 n) ++ f n
flat_more f n =
    let e : n + 1 ≡ suc n = omega arith in
    let z : 0 + n ≡ n = omega arith in
    ap (λ (k : ℕ). flat_map f (range_with_len 0 k)) e
    ∙ ap (flat_map f) (range_more 0 n)
    ∙ flat_append f (range_with_len 0 n) (0 + n)
    ∙ ap (λ (k : ℕ). flat_map f (range_with_len 0 n) ++ f k) z

-- what is the same for each view in use
pub flat_same : {X : Type 0} (f h : ℕ → List X) (all a n : ℕ) → ((v : ℕ) → v < all → f v ≡ h v) → a + n ≤ all → flat_map f (range_with_len a n) ≡ flat_map h (range_with_len a n)
flat_same f h all a zero same le = refl
flat_same f h all a (suc n) same le = rw (same a (omega arith)) (ap (λ l. h a ++ l) (flat_same f h all (a + 1) n same (omega arith)))

-- the tasks of a view in use
pub kept_in_use : (tasks : List (List Task)) (all v : ℕ) → v < all → tasks_kept tasks v ≡ tasks_kept (take all tasks) v
kept_in_use tasks all v lt = sym (get_or-take all tasks v [] lt)

-- what is among others if it is there
put_first : (p : Option Pending) (ps : List Pending) → option_to_list p ++ ps ≡ cons_option p ps
put_first None ps = refl
put_first (Some p) ps = refl

pub candidates : (claims : List (Option Forced)) (tasks : List (List Task)) (vs : List ℕ)
    → flat_map (candidate_in claims tasks) vs ≡ filter_map (λ v. pending_in v (tasks_kept tasks v)) (filter (λ v. not (is_claimed_in claims v)) vs)
candidates claims tasks [] = refl
candidates claims tasks (v ∷ vs) = by (is_claimed_in claims v) (candidates claims tasks vs)
  where
    by : (t : Bool) → flat_map (candidate_in claims tasks) vs ≡ filter_map (λ u. pending_in u (tasks_kept tasks u)) (filter (λ u. not (is_claimed_in claims u)) vs)
        → cond t [] (option_to_list (pending_in v (tasks_kept tasks v))) ++ flat_map (candidate_in claims tasks) vs
        ≡ filter_map (λ u. pending_in u (tasks_kept tasks u)) (cond (not t) (v ∷ filter (λ u. not (is_claimed_in claims u)) vs) (filter (λ u. not (is_claimed_in claims u)) vs))
    by true ih = ih
    by false ih = put_first (pending_in v (tasks_kept tasks v)) (flat_map (candidate_in claims tasks) vs) ∙ ap (cons_option (pending_in v (tasks_kept tasks v))) ih
