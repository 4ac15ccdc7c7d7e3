-- Worked examples of transactions and upkeep, computed from the definitions alone.
use Rattle.std.proofs.Common.{◌≡◌, ℕ, pos, negsuc, false, List, [], ◌∷◌, refl, ap, Option, Some, None, Err, replicate}
use Rattle.std.specs.Prelude.{Bool, codes, filter, slice_set}
use Rattle.lv_values.specs.declared.value.Value.TheVariants.{Num}
use Rattle.lv_schema.specs.declared.action.Action.{Action}
use Rattle.lv_schema.specs.declared.action.ActionKind.{ActionKind}
use Rattle.lv_schema.specs.declared.action.ActionKind.TheVariants as kind
use Rattle.lv_schema.specs.declared.change.Change.{Change}
use Rattle.lv_schema.specs.declared.change.Change.TheVariants as change
use Rattle.lv_schema.specs.declared.change.SetValue.TheVariants.{Plus}
use Rattle.lv_schema.specs.declared.cond.Cond.TheVariants.{True, Cmp}
use Rattle.lv_schema.specs.declared.cond.Op.TheVariants.{Eq}
use Rattle.lv_schema.specs.declared.cond.Operand.TheVariants.{Column, Number}
use Rattle.lv_schema.specs.declared.fault.Fault.{Fault}
use Rattle.lv_schema.specs.declared.fault.Fault.TheVariants.{Range, Duplicate, Conflict}
use Rattle.lv_schema.specs.declared.forced.Forced.{Forced}
use Rattle.lv_schema.specs.declared.logic.Truth.TheVariants.{No, Unknown, Yes}
use Rattle.lv_schema.specs.declared.pending.Pending.{Pending}
use Rattle.lv_schema.specs.declared.rec.Rec.TheVariants.{Commit}
use Rattle.lv_schema.specs.declared.table.Kind.TheVariants.{Int}
use Rattle.lv_schema.specs.declared.table.TableDef.{TableDef}
use Rattle.lv_schema.specs.declared.view.ViewDef.{ViewDef}
use Rattle.lv_schema.specs.Commits.{conflict_of, merged}
use Rattle.lv_schema.specs.Databases.{Db}
use Rattle.lv_schema.specs.Effects.{change_fault, effect_on, acted_all, first_wide, option_fault}
use Rattle.lv_schema.specs.Nets.{nets_of}
use Rattle.lv_schema.specs.Records.{record_size, table_record}
use Rattle.lv_schema.specs.Tuples.{Tuple}
use Rattle.lv_schema.specs.Truth.{all_of, any_of, opposite}
use Rattle.lv_schema.specs.StepPlans.{planned, forced}
use Rattle.lv_schema.specs.Policies.{unclaimed, chosen}
use Rattle.lv_schema.specs.Tasks.{pending_tasks}
use Rattle.lv_schema.specs.UpkeepCases.{cleaning, installing, moved, fetching, fetched}
use Rattle.lv_schema.specs.World.{Settings, Open, World}
use Rattle.lv_schema.proofs.ShopExamples.{ARow, n, at, holds-Cmp}

-- item (id, price, primary key (id)) and sale (no, item, qty, primary key (no)), and two views over both
abbrev item : TableDef
item = record { no = 0; name = codes "item"; columns = record { name = codes "id"; kind = Int } ∷ record { name = codes "price"; kind = Int } ∷ []; key = 0 ∷ [] }

abbrev sale : TableDef
sale = record { no = 1; name = codes "sale"; columns = record { name = codes "no"; kind = Int } ∷ record { name = codes "item"; kind = Int } ∷ record { name = codes "qty"; kind = Int } ∷ []; key = 0 ∷ [] }

abbrev view_of : ℕ → ViewDef
view_of v = record { no = v; name = codes "v"; created = 0; tables = 1 ∷ 0 ∷ []; cond = True; items = []; grouped = false; groups = [] }

abbrev priced : ℕ → ℕ → ARow
priced id price = n id ∷ n price ∷ []

abbrev sold : ARow
sold = n 100 ∷ n 1 ∷ n 5 ∷ []

abbrev act : ℕ → ActionKind → ARow → Action
act table k row = record { table = table; statement = 1; kind = k; row = row }

abbrev world_of : List Db → List (List Action) → List (Option Open) → List ℕ → List (Option Forced) → World
world_of snaps commits sessions points claims = record {
  visible = record { tables = item ∷ sale ∷ []; views = view_of 0 ∷ view_of 1 ∷ []; snaps = snaps; commits = commits; sessions = sessions };
  upkeep = record { points = points; marks = points; claims = claims; pruned = 0; journal = 9 };
}

abbrev step : ℕ → ℕ → ℕ → Forced
step view lo hi = record { view = view; lo = lo; hi = hi }

abbrev opened_at : ℕ → Db → Option Open
opened_at snapshot own = Some (record { snapshot = snapshot; own = own; actions = []; changes = 0 })

-- an item and its sale, and two new prices
abbrev snaps : List Db
snaps = ([] ∷ [] ∷ []) ∷ ((priced 1 10 ∷ []) ∷ (sold ∷ []) ∷ []) ∷ ((priced 1 11 ∷ []) ∷ (sold ∷ []) ∷ []) ∷ ((priced 1 12 ∷ []) ∷ (sold ∷ []) ∷ []) ∷ []

abbrev commits : List (List Action)
commits =
    (act 0 kind.Insert (priced 1 10) ∷ act 1 kind.Insert sold ∷ [])
    ∷ (act 0 kind.Delete (priced 1 10) ∷ act 0 kind.Insert (priced 1 11) ∷ [])
    ∷ (act 0 kind.Delete (priced 1 11) ∷ act 0 kind.Insert (priced 1 12) ∷ []) ∷ []

abbrev no_claims : List (Option Forced)
no_claims = replicate 9 None

abbrev combining : ℕ → Settings
combining combine = record { combine = combine; limit = 1073741824; policy = 0 }

abbrev behind : List (Option Open) → World
behind sessions = world_of snaps commits sessions (0 ∷ 0 ∷ []) no_claims

-- a planned step takes all pending tasks; a live snapshot between the first and the last of them cuts it
planned_whole : planned (combining 16) 0 (behind []) 3 ≡ Some (step 0 0 3)
planned_whole = refl

planned_few : planned (combining 2) 0 (behind []) 3 ≡ Some (step 0 0 2)
planned_few = refl

planned_cut : planned (combining 16) 0 (behind (opened_at 2 [] ∷ [])) 3 ≡ Some (step 0 0 2)
planned_cut = refl

planned_past : planned (combining 16) 0 (behind (opened_at 0 [] ∷ [])) 3 ≡ Some (step 0 0 3)
planned_past = refl

-- forced steps with the combine numbers 1 and 16
forced_singly : forced (combining 1) (behind []) (1 ∷ []) 3 ≡ step 1 0 1 ∷ step 1 1 2 ∷ step 1 2 3 ∷ []
forced_singly = refl

forced_together : forced (combining 16) (behind []) (0 ∷ 1 ∷ []) 3 ≡ step 0 0 3 ∷ step 1 0 3 ∷ []
forced_together = refl

forced_around : forced (combining 16) (behind (opened_at 2 [] ∷ [])) (1 ∷ []) 3 ≡ step 1 0 2 ∷ step 1 2 3 ∷ []
forced_around = refl

tasks_by_view : pending_tasks (world_of snaps commits [] (3 ∷ 1 ∷ []) no_claims) ≡ (1, 2) ∷ (1, 3) ∷ []
tasks_by_view = refl

-- the first committer of a key wins: the item was inserted by commit 1 above the snapshot 0
abbrev late : Open
late = record { snapshot = 0; own = [] ∷ [] ∷ []; actions = act 0 kind.Insert (priced 1 11) ∷ act 0 kind.Delete (priced 1 11) ∷ []; changes = 2 }

conflict : conflict_of (behind []).visible late ≡ Some (Conflict 0 (n 1 ∷ []) 3)
conflict = refl

-- another key is no conflict, and is merged into the last state
abbrev other : Open
other = record { snapshot = 0; own = (priced 2 20 ∷ []) ∷ [] ∷ []; actions = act 0 kind.Insert (priced 2 20) ∷ []; changes = 1 }

no_conflict : conflict_of (behind []).visible other ≡ None
no_conflict = refl

merged_in : merged (behind []).visible other ≡ (priced 1 12 ∷ priced 2 20 ∷ []) ∷ (sold ∷ []) ∷ []
merged_in = refl

-- an insert, two updates and a delete of one key come to nothing
abbrev passing : List Action
passing =
    act 0 kind.Insert (priced 1 10)
    ∷ act 0 kind.Delete (priced 1 10) ∷ act 0 kind.Insert (priced 1 11)
    ∷ act 0 kind.Delete (priced 1 11) ∷ act 0 kind.Insert (priced 1 12)
    ∷ act 0 kind.Delete (priced 1 12) ∷ []

comes_to_nothing : acted_all (item ∷ sale ∷ []) ([] ∷ [] ∷ []) passing ≡ [] ∷ [] ∷ []
comes_to_nothing = refl

no_net : nets_of ([] ∷ [] ∷ []) (acted_all (item ∷ sale ∷ []) ([] ∷ [] ∷ []) passing) ≡ record { minus = []; plus = [] } ∷ record { minus = []; plus = [] } ∷ []
no_net = refl

-- a clean-up waits for the snapshot that is still live
cleaned_for_a_reader : (cleaning (world_of snaps commits (opened_at 0 [] ∷ []) (0 ∷ 0 ∷ []) no_claims)).0 ≡ record { floor = 0; versions = 4; deltas = 6 }
cleaned_for_a_reader = refl

cleaned_to_the_last : (cleaning (world_of snaps commits [] (3 ∷ 3 ∷ []) no_claims)).0 ≡ record { floor = 3; versions = 2; deltas = 0 }
cleaned_to_the_last = refl

-- a policy's choice: the oldest task, the most actions, the first view
abbrev two_views : List Pending
two_views = unclaimed (world_of snaps commits [] (2 ∷ 0 ∷ []) no_claims)

two_views_are : two_views ≡ record { view = 0; oldest = 3; actions = 2 } ∷ record { view = 1; oldest = 1; actions = 6 } ∷ []
two_views_are = refl

oldest_task : chosen 0 two_views ≡ 1
oldest_task = refl

most_actions : chosen 1 two_views ≡ 1
most_actions = refl

first_view : chosen 2 two_views ≡ 0
first_view = refl

worker_fetches : (fetching (combining 16) 1 (world_of snaps commits [] (2 ∷ 0 ∷ []) no_claims)).0 ≡ fetched (step 1 0 3)
worker_fetches = refl

-- a step that was claimed at 0 is not installed where the view has moved on to 3
too_late : (installing 1 (world_of snaps commits [] (3 ∷ 3 ∷ []) (slice_set no_claims 1 (Some (step 0 0 2)))).upkeep).0 ≡ moved (step 0 0 2) 3
too_late = refl

-- refusals
taken_key : effect_on item (change.Insert 0 (priced 1 10 ∷ priced 1 11 ∷ [])) [] ≡ Err (Duplicate 0 (n 1 ∷ []))
taken_key = refl

-- update item set price = price - 1 where id = 2, of the least number there is
abbrev lower : Change
lower = change.Update 0 (record { column = 1; value = Plus 1 (negsuc 0) } ∷ []) (Cmp Eq (Column (at 0 0)) (Number (pos 2)))

abbrev lowest : List ARow
lowest = (n 2 ∷ Num (negsuc 9223372036854775807) ∷ []) ∷ []

abbrev fault_by : (Tuple → Bool) → List ARow → Option Fault
fault_by keeps rows = option_fault Range (first_wide (record { column = 1; value = Plus 1 (negsuc 0) } ∷ []) (filter (λ row. keeps (row ∷ [])) rows))

too_low : change_fault item lower lowest ≡ Some (Range (negsuc 9223372036854775808))
too_low = ap (λ keeps. fault_by keeps lowest) (holds-Cmp Eq (Column (at 0 0)) (Number (pos 2)))

-- lengths of records: the table, and a commit of one row of two numbers
table_length : record_size (table_record item) ≡ 20
table_length = refl

commit_length : record_size (Commit 1 (act 0 kind.Insert (priced 1 10) ∷ [])) ≡ 38
commit_length = refl

-- three-valued logic
no_beats_unknown : all_of (Unknown ∷ No ∷ Yes ∷ []) ≡ No
no_beats_unknown = refl

yes_beats_unknown : any_of (Unknown ∷ No ∷ Yes ∷ []) ≡ Yes
yes_beats_unknown = refl

unknown_stays : opposite (all_of (Unknown ∷ Yes ∷ [])) ≡ Unknown
unknown_stays = refl
