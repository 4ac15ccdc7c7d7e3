-- What a call says of a case of the plain machine, in each world that the engine stood for.
use Rattle.std.specs.Prelude.{◌≡◌, ℕ, Bool, true, false, Option, Some, None, Result, Ok, Err}
use Rattle.std.specs.List.{list_all}
use Rattle.lv_schema.specs.declared.fault.Fault.{Fault}
use Rattle.lv_schema.specs.declared.query.Query.{Query}
use Rattle.lv_schema.specs.declared.query.Rel.{Rel}
use Rattle.lv_schema.specs.declared.query.Rel.TheVariants as rel
use Rattle.lv_schema.specs.declared.rec.Rec.{Rec}
use Rattle.lv_schema.specs.Cases.{Case}
use Rattle.lv_schema.specs.Keys.{write_none}
use Rattle.lv_schema.specs.Tasks.{AreFresh}
use Rattle.lv_schema.specs.UpkeepCases.{views_of, with_record}
use Rattle.lv_schema.specs.WholeWorld.{Done, Queried, world_after}
use Rattle.lv_schema.specs.World.{Visible, World, transaction, view_at}
use Rattle.lv_effect.specs.declared.fault.EffectFault.{EffectFault}
use Rattle.lv_effect.specs.declared.fault.EffectFault.TheVariants as effect
use Rattle.lv_store.specs.declared.answer.Answer.{Answer}
pub use Rattle.lv_store.specs.Inputs.{IsCostBetween, IsInputBetween}
use Rattle.lv_store.specs.Kept.{StoreKept, Stands}

-- a world in which statements see this; and one in which this record was written besides
abbrev pub with_visible : Visible → World → World
with_visible s w = record { visible = s; upkeep = w.upkeep }

abbrev pub wrote : Rec → Visible → World → World
wrote rec s w = record { visible = s; upkeep = with_record (Some rec) w.upkeep }

-- the case's answer, or its fault, and the world after it; any other error leaves everything as it was
abbrev pub Refuses : {A : Type 0} → Option Fault → World → StoreKept → StoreKept → Case A → Type 0
Refuses (Some fault) w old new c = (c.answer ≡ Err fault) × Stands (world_after c w) new
Refuses None w old new c = new ≡ old

abbrev pub Meets : {A E : Type 0} → (E → Option Fault) → World → StoreKept → StoreKept → Result A E → Case A → Type 0
Meets fault w old new (Ok a) c = (c.answer ≡ Ok a) × Stands (world_after c w) new
Meets fault w old new (Err e) c = Refuses (fault e) w old new c

-- why a call is refused; want of memory is no fault
abbrev pub effect_fault : EffectFault → Option Fault
effect_fault (effect.Stmt fault) = Some fault
effect_fault (effect.NoMemory) = None

-- ---- queries
-- the steps and the rows, and the world with the steps
pub record GivesQuery (done : Done Queried) (a : Answer) (new : StoreKept) : Type 0 where
  pub forced : a.forced ≡ done.answer.forced
  pub rows : a.rows ≡ done.answer.rows
  pub stands : Stands done.next new

-- a query that names no table, whose views are up to date, and on whose views' tables the transaction wrote nothing
abbrev pub is_view : Rel → Bool
is_view (rel.Table t) = false
is_view (rel.View v) = true

pub record ReadsNoTable (session : ℕ) (query : Query) (w : World) : Type 0 where
  pub views : list_all is_view query.rels ≡ true
  pub fresh : AreFresh w (views_of query) (transaction session w.visible).snapshot
  pub unwritten : list_all (λ v. write_none (transaction session w.visible).actions (view_at w.visible.views v).tables) (views_of query) ≡ true

-- a query that names no table, and on whose views' tables the transaction wrote nothing
pub record ReadsViews (session : ℕ) (query : Query) (w : World) : Type 0 where
  pub views : list_all is_view query.rels ≡ true
  pub unwritten : list_all (λ v. write_none (transaction session w.visible).actions (view_at w.visible.views v).tables) (views_of query) ≡ true

-- a world that an engine stands for
abbrev pub StandsForSome : StoreKept → Type 0
StandsForSome e = (w : World) × Stands w e
