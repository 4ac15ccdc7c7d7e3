-- The plain world: what statements see, and beside it what maintenance sees. It keeps every snapshot whole. A
-- statement's case is a function of what statements see and of what becomes of its record. So no answer but that to SHOW
-- TASKS can depend on maintenance, save that marks lengthen the journal and can so bring the fault of a full one.
use Rattle.std.specs.Prelude.{ℕ, zero, suc, false, Option, Some, None, List, [], ◌∷◌, ◌++◌, length, slice_index, slice_index_or, replicate, unwrap_or, min}
use Rattle.lv_schema.specs.declared.action.Action.{Action}
use Rattle.lv_schema.specs.declared.cond.Cond.TheVariants.{True}
use Rattle.lv_schema.specs.declared.forced.Forced.{Forced}
pub use Rattle.lv_schema.specs.declared.open.Open.{Open}
use Rattle.lv_schema.specs.declared.table.TableDef.{TableDef}
use Rattle.lv_schema.specs.declared.view.ViewDef.{ViewDef}
use Rattle.lv_schema.specs.Databases.{Db}

-- what statements see: the schema; the whole database after each commit, the empty one first; the actions of each
-- commit; and for each session its transaction, if it has one
pub record Visible : Type 0 where
  pub tables : List TableDef
  pub views : List ViewDef
  pub snaps : List Db
  pub commits : List (List Action)
  pub sessions : List (Option Open)

-- what maintenance sees: for each view the commit to which it is maintained and the one of its mark; for each worker
-- the step that it has claimed; the floor of the last clean-up; and the length of the journal
pub record Upkeep : Type 0 where
  pub points : List ℕ
  pub marks : List ℕ
  pub claims : List (Option Forced)
  pub pruned : ℕ
  pub journal : ℕ

pub record World : Type 0 where
  pub visible : Visible
  pub upkeep : Upkeep

-- what a store is run with: how many tasks one step may combine, the limit of the journal's length, and the kind of the
-- policy by which workers choose
pub record Settings : Type 0 where
  pub combine : ℕ
  pub limit : ℕ
  pub policy : ℕ

-- the setup is session 0, and the others are 1 to 16
abbrev pub nothing_visible : Visible
nothing_visible = record { tables = []; views = []; snaps = [] ∷ []; commits = []; sessions = replicate 17 None }

-- workers are 1 to 8; an empty journal is a magic and a gate
abbrev pub nothing_kept : Upkeep
nothing_kept = record { points = []; marks = []; claims = replicate 9 None; pruned = 0; journal = 9 }

abbrev pub empty_world : World
empty_world = record { visible = nothing_visible; upkeep = nothing_kept }

-- 1 to n
abbrev pub numbers : ℕ → List ℕ
numbers zero = []
numbers (suc n) = numbers n ++ suc n ∷ []

-- the number of the last commit
abbrev pub last : Visible → ℕ
last s = length s.commits

-- the database after commit k
abbrev pub snap : Visible → ℕ → Db
snap s k = slice_index_or s.snaps k []

-- the actions of commit k; commits are numbered from 1
abbrev pub commit_at : List (List Action) → ℕ → List Action
commit_at commits zero = []
commit_at commits (suc k) = slice_index_or commits k []

abbrev pub no_table : TableDef
no_table = record { no = 0; name = []; columns = []; key = [] }

abbrev pub no_view : ViewDef
no_view = record { no = 0; name = []; created = 0; tables = []; cond = True; items = []; grouped = false; groups = [] }

-- the table and the view with this number
abbrev pub table_at : List TableDef → ℕ → TableDef
table_at tables t = slice_index_or tables t no_table

abbrev pub view_at : List ViewDef → ℕ → ViewDef
view_at views v = slice_index_or views v no_view

-- the snapshots of the live transactions
abbrev pub live : List (Option Open) → List ℕ
live [] = []
live (None ∷ sessions) = live sessions
live (Some o ∷ sessions) = o.snapshot ∷ live sessions

-- the least of a number and others
abbrev pub least : ℕ → List ℕ → ℕ
least n [] = n
least n (x ∷ xs) = min x (least n xs)

-- the least state that a reader may still ask for: the least live snapshot, or the last commit where none is live
abbrev pub least_read : Visible → ℕ
least_read s = least (last s) (live s.sessions)

-- a transaction that begins now
abbrev pub opened : Visible → Open
opened s = record { snapshot = last s; own = snap s (last s); actions = []; changes = 0 }

-- a session's transaction, or one that begins now
abbrev pub transaction : ℕ → Visible → Open
transaction session s = unwrap_or (slice_index_or s.sessions session None) (opened s)

-- the commit to which a view is maintained
abbrev pub point : Upkeep → ℕ → ℕ
point u view = slice_index u.points view
