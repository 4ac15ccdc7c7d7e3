-- What policies choose from, and which of two views each of them prefers.
use Rattle.std.specs.Prelude.{ℕ, zero, suc, ◌<◌, ◌≤◌, nat_lt, Bool, List, length}
use Rattle.std.specs.Ordering.{nat_cmp}
use Rattle.lv_schema.specs.declared.pending.Pending.{Pending}
use Rattle.lv_schema.specs.Once.{Ascends}

-- one view to 32, by their numbers
pub record IsChoice (list : List Pending) : Type 0 where
  pub some : 0 < length list
  pub few : length list ≤ 32
  pub ascending : Ascends (λ (p q : Pending). nat_cmp p.view q.view) list

-- whether a policy takes the one view rather than the other: the one with the older task, with more actions, or with
-- the lower number
abbrev pub is_better : ℕ → Pending → Pending → Bool
is_better zero a b = nat_lt a.oldest b.oldest
is_better (suc zero) a b = nat_lt b.actions a.actions
is_better (suc (suc kind)) a b = nat_lt a.view b.view
