-- What a worker may take up, and what a policy chooses of it.
use Rattle.std.specs.Prelude.{ℕ, zero, suc, Bool, false, not, cond, ◌==◌, nat_lt, List, [], ◌∷◌, filter, Option, Some, None}
use Rattle.std.specs.List.{list_any, filter_map, sum_by}
use Rattle.std.specs.Ordering.{nat_cmp}
use Rattle.lv_schema.specs.declared.forced.Forced.{Forced}
use Rattle.lv_schema.specs.declared.pending.Pending.{Pending}
use Rattle.lv_schema.specs.Once.{Ascends}
use Rattle.lv_schema.specs.Tasks.{actions_on, view_numbers, pending_now}
use Rattle.lv_schema.specs.World.{Upkeep, World, commit_at, view_at}

-- what a policy sees of a view with pending tasks
abbrev pub pending_by : World → ℕ → List ℕ → Option Pending
pending_by w v [] = None
pending_by w v (t ∷ ts) = Some (record {
  view = v;
  oldest = t;
  actions = sum_by (λ k. actions_on (view_at w.visible.views v) (commit_at w.visible.commits k)) (t ∷ ts);
})

-- whether a worker has claimed a step of the view
abbrev pub is_claim_of : ℕ → Option Forced → Bool
is_claim_of v None = false
is_claim_of v (Some f) = f.view == v

abbrev pub is_claimed : Upkeep → ℕ → Bool
is_claimed u v = list_any (is_claim_of v) u.claims

-- the views that no worker has claimed and that have pending tasks
abbrev pub unclaimed : World → List Pending
unclaimed w = filter_map (λ v. pending_by w v (pending_now w v)) (filter (λ v. not (is_claimed w.upkeep v)) (view_numbers w.visible))

-- such views, by their numbers
abbrev pub AscendByView : List Pending → Type 0
AscendByView list = Ascends (λ (p q : Pending). nat_cmp p.view q.view) list

-- a policy's choice among such views: the place of the one with the oldest task, with the most actions, or the first;
-- of several the one that stands first
abbrev pub first_best : (Pending → Pending → Bool) → List Pending → ℕ
first_best better [] = 0
first_best better (p ∷ rest) = cond (list_any (λ q. better q p) rest) (suc (first_best better rest)) 0

abbrev pub chosen : ℕ → List Pending → ℕ
chosen zero list = first_best (λ q p. nat_lt q.oldest p.oldest) list
chosen (suc zero) list = first_best (λ q p. nat_lt p.actions q.actions) list
chosen (suc (suc kind)) list = first_best (λ q p. nat_lt q.view p.view) list
