-- The tasks of a view, which are commits that reach its tables, and those of them that are pending.
use Rattle.std.specs.Prelude.{◌≡◌, ℕ, Bool, ◌&&◌, ◌==◌, nat_lt, nat_le, List, [], length, filter, map}
use Rattle.std.specs.List.{AllByRecursion, list_any, flat_map, range_with_len}
use Rattle.lv_schema.specs.declared.action.Action.{Action}
use Rattle.lv_schema.specs.declared.view.ViewDef.{ViewDef}
use Rattle.lv_schema.specs.World.{Visible, World, last, commit_at, numbers, view_at, point}

-- how many of the actions are on the view's tables
abbrev pub is_on : ViewDef → Action → Bool
is_on view a = list_any (λ t. t == a.table) view.tables

abbrev pub actions_on : ViewDef → List Action → ℕ
actions_on view actions = length (filter (is_on view) actions)

-- commit k is a task of the view: it is above the view's creation, and has an action on a table of the view
abbrev pub is_task : Visible → ViewDef → ℕ → Bool
is_task s view k = nat_lt view.created k && nat_lt 0 (actions_on view (commit_at s.commits k))

abbrev pub tasks : Visible → ViewDef → List ℕ
tasks s view = filter (is_task s view) (numbers (last s))

-- the view's tasks above lo and at most m, which are pending where lo is the view's point
abbrev pub is_pending : Visible → ViewDef → ℕ → ℕ → ℕ → Bool
is_pending s view lo m k = nat_lt lo k && nat_le k m && is_task s view k

abbrev pub pending : Visible → ViewDef → ℕ → ℕ → List ℕ
pending s view lo m = filter (is_pending s view lo m) (numbers (last s))

-- the numbers of the views
abbrev pub view_numbers : Visible → List ℕ
view_numbers s = range_with_len 0 (length s.views)

-- the pending tasks of a view, and those of all views, by view and then by commit
abbrev pub pending_now : World → ℕ → List ℕ
pending_now w v = pending w.visible (view_at w.visible.views v) (point w.upkeep v) (last w.visible)

abbrev pub pending_tasks : World → List (ℕ × ℕ)
pending_tasks w = flat_map (λ v. map (λ k. (v, k)) (pending_now w v)) (view_numbers w.visible)

-- views are fresh up to a commit where no task of them up to that is pending
abbrev pub AreFresh : World → List ℕ → ℕ → Type 0
AreFresh w views m = AllByRecursion (λ v. pending w.visible (view_at w.visible.views v) (point w.upkeep v) m ≡ []) views
