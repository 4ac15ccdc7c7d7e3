-- Queries: what a transaction reads, and the steps that bring views up to its snapshot, told from what is kept.
use Rattle.std.specs.Prelude.{◌≡◌, ℕ, ◌<◌, ◌≤◌, Bool, false, not, if◌then◌else◌, List, [], ◌∷◌, length, map, slice_set, unwrap_or, option_map}
use Rattle.std.specs.List.{list_any}
use Rattle.lv_values.specs.declared.value.Value.{Value}
use Rattle.lv_schema.specs.declared.forced.Forced.{Forced}
use Rattle.lv_schema.specs.declared.part.Part.{Part}
use Rattle.lv_schema.specs.declared.query.Query.{Query}
use Rattle.lv_schema.specs.declared.query.Rel.{Rel}
use Rattle.lv_schema.specs.declared.query.Rel.TheVariants.{Table, View}
use Rattle.lv_schema.specs.declared.signed.SignedRow.{SignedRow}
use Rattle.lv_schema.specs.declared.view.ViewDef.{ViewDef}
use Rattle.lv_schema.specs.Applicable.{with_changes}
use Rattle.lv_schema.specs.Differences.{difference}
use Rattle.lv_schema.specs.Groups.{view_rows_over}
use Rattle.lv_schema.specs.Jobs.{old_sides, new_sides}
use Rattle.lv_schema.specs.Keys.{writes_table}
use Rattle.lv_schema.specs.StepPlans.{is_inside}
use Rattle.lv_schema.specs.UpkeepCases.{views_of, with_steps}
use Rattle.lv_schema.specs.World.{Visible, World, table_at, view_at}
use Rattle.lv_joining.specs.Kept.{KeepsLinksBetween}
use Rattle.lv_maint.specs.Inputs.{FitOver, Input}
use Rattle.lv_overlay.specs.Puts.{rows_over}
use Rattle.lv_txn.specs.Kept.{live_kept, transaction_at, transaction_of}
use Rattle.lv_upkeep.specs.Kept.{UpkeepKept, forced_in}
use Rattle.lv_upkeep.specs.Moves.{upkeep_stepped}
use Rattle.lv_viewrows.specs.Changed.{CanInstall, groups_with}
use Rattle.lv_viewrows.specs.Kept.{ViewKept, groups_at, shown}
use Rattle.lv_stands.specs.Kept as stands
use Rattle.lv_stands.specs.Moves.{StepsFollow, part_in}
use Rattle.lv_base.specs.Bases.{base_of, defs_of, table_in}
use Rattle.lv_store.specs.declared.store.Store.{Store}
use Rattle.lv_store.specs.Inputs.{AreCosts, IsCostBetween, IsCostOf, IsInputOf}
use Rattle.lv_store.specs.Kept.{rows_in}

-- ---- what a session reads
-- its snapshot; a session that is not live would read the last commit
abbrev pub snapshot_in : Store → ℕ → ℕ
snapshot_in p session = unwrap_or (option_map (λ t. t.snapshot) (transaction_at p.txns session)) p.base.number

-- a table's rows at the snapshot of its transaction, with the transaction's own writes over them
abbrev pub own_rows_in : Store → ℕ → ℕ → List (List Value)
own_rows_in p session t =
    let k = transaction_of p.txns session in
    rows_over (table_at p.schema.tables t).key k.puts t (stands.shown k.snapshot (table_in p.base.tables t).versions)

-- whether the transaction wrote a table of a view
abbrev pub has_written : Store → ℕ → ℕ → Bool
has_written p session v = list_any (writes_table (transaction_of p.txns session).actions) (view_at p.schema.views v).tables

-- a view's rows: by its definition over the transaction's own rows, where it wrote one of the view's tables; else those
-- that are kept
abbrev pub view_rows_in : Store → ℕ → List ViewKept → ℕ → List (List Value)
view_rows_in p session rows v =
    if has_written p session v
    then view_rows_over (view_at p.schema.views v) (map (own_rows_in p session) (view_at p.schema.views v).tables)
    else shown (transaction_of p.txns session).snapshot (rows_in rows v)

abbrev pub rel_rows_in : Store → ℕ → List ViewKept → Rel → List (List Value)
rel_rows_in p session rows (Table t) = own_rows_in p session t
rel_rows_in p session rows (View v) = view_rows_in p session rows v

-- whether no table is read for it
abbrev pub reads_kept : Store → ℕ → Rel → Bool
reads_kept p session (Table t) = false
reads_kept p session (View v) = not (has_written p session v)

-- ---- the steps that a query forces
abbrev pub steps_in : Store → ℕ → Query → List Forced
steps_in p session query = forced_in (is_inside (live_kept p.txns)) p.settings.combine p.upkeep.kept (views_of query) (snapshot_in p session)

-- steps that can be taken in place of others: each begins where its view stands then, all views end at the same points, and
-- they cost no more
pub record InPlaceOf (w : World) (steps taken : List Forced) : Type 0 where
  pub follow : StepsFollow w taken
  pub same : with_steps taken w.upkeep ≡ with_steps steps w.upkeep
  pub most : (n m : ℕ) → AreCosts (IsCostBetween w.visible) steps n → AreCosts (IsCostBetween w.visible) taken m → m ≤ n

-- a step that is taken in place of some, of which this is the last one: those before it keep links
pub record IsJoined (s : Visible) (joined last : Forced) : Type 0 where
  pub view : joined.view ≡ last.view
  pub hi : joined.hi ≡ last.hi
  pub keeps : KeepsLinksBetween s last.view joined.lo last.lo

-- what a step is computed from, and the difference that it gives
abbrev pub parts_in : Store → Forced → List Part
parts_in p f = map (part_in p.schema.tables (base_of p.base) f.lo f.hi) (view_at p.schema.views f.view).tables

abbrev pub IsInputIn : Store → Forced → Input → Type 0
IsInputIn p f input = IsInputOf (view_at p.schema.views f.view) f (parts_in p f) input

abbrev pub changes_in : Store → Forced → List SignedRow
changes_in p f = difference (view_at p.schema.views f.view) (old_sides (parts_in p f)) (new_sides (parts_in p f))

-- what it costs to read that
abbrev pub IsCostIn : Store → Forced → ℕ → Type 0
IsCostIn p f n = IsCostOf (view_at p.schema.views f.view) (parts_in p f) n

-- a step whose input is kept
pub record CanCompute (p : Store) (f : Forced) : Type 0 where
  pub in_use : f.view < length p.schema.views
  pub kept : p.base.pruned ≤ f.lo
  pub views : List ViewDef
  pub fit : FitOver p.schema.tables views (view_at p.schema.views f.view) (parts_in p f)
  pub tables_are : defs_of p.base ≡ p.schema.tables

-- ---- what steps make of the rows of views
-- the rows of a view take a difference; below its end they stay as far down as the floor
pub record RowsInstall (floor hi : ℕ) (changes : List SignedRow) (old new : ViewKept) : Type 0 where
  pub def_stays : new.def ≡ old.def
  pub at_is : new.at ≡ hi
  pub before : (n : ℕ) → floor ≤ n → n < hi → groups_at n new.versions ≡ groups_at n old.versions
  pub from : (n : ℕ) → hi ≤ n → groups_at n new.versions ≡ groups_with changes (groups_at old.at old.versions)
  pub rows : old.def.grouped ≡ false → (n : ℕ) → hi ≤ n → shown n new ≡ with_changes changes (shown old.at old)

-- views of which the same is kept, with whatever room for more
pub record OnlyRoom (old new : List ViewKept) : Type 0 where
  pub all : length new ≡ length old
  pub each : (v : ℕ) → v < length old → rows_in new v ≡ record (rows_in old v) { spare = (rows_in new v).spare }

-- one of the views takes a difference
abbrev pub ViewInstalled : ℕ → ℕ → List SignedRow → ℕ → List ViewKept → List ViewKept → Type 0
ViewInstalled floor hi changes view rows last = (new : ViewKept) × RowsInstall floor hi changes (rows_in rows view) new × (last ≡ slice_set rows view new)

-- steps with their differences, one after another; of the room nothing is said
module _ (floor : ℕ) (changes : Forced → List SignedRow) where
  abbrev pub StepsInstall : List Forced → List ViewKept → List ViewKept → Type 0
  StepsInstall [] rows last = OnlyRoom rows last
  StepsInstall (f ∷ fs) rows last = (new : ViewKept) × RowsInstall floor f.hi (changes f) (rows_in rows f.view) new × StepsInstall fs (slice_set rows f.view new) last

  -- and each can be installed where the steps before it are
  abbrev pub CanInstallAll : List Forced → List ViewKept → Type 0
  CanInstallAll [] rows = Unit {0}
  CanInstallAll (f ∷ fs) rows =
      (f.view < length rows)
      × CanInstall (rows_in rows f.view) f.hi (changes f)
      × ((new : ViewKept) → RowsInstall floor f.hi (changes f) (rows_in rows f.view) new → CanInstallAll fs (slice_set rows f.view new))

-- the points and tasks after steps
abbrev pub upkeep_after : List Forced → UpkeepKept → UpkeepKept
upkeep_after [] u = u
upkeep_after (f ∷ fs) u = upkeep_after fs (upkeep_stepped f u)
