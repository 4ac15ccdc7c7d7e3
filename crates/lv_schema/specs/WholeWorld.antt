-- What each statement and each event of maintenance answers over the whole world, and the world after it.
use Rattle.std.specs.Prelude.{ℕ, List, Option, Result}
use Rattle.lv_values.specs.declared.value.Value.{Value}
use Rattle.lv_schema.specs.declared.fault.Fault.{Fault}
use Rattle.lv_schema.specs.declared.forced.Forced.{Forced}
use Rattle.lv_schema.specs.declared.query.Query.{Query}
use Rattle.lv_schema.specs.Cases.{Case, queried}
use Rattle.lv_schema.specs.UpkeepCases.{Marking, with_record, with_steps, forced_by}
use Rattle.lv_schema.specs.World.{Upkeep, World, Settings}

pub record Done (A : Type 0) : Type 0 where
  pub answer : A
  pub next : World

-- a statement that is no query: what statements see after it, with its record noted
abbrev pub world_after : {A : Type 0} → Case A → World → World
world_after c w = record { visible = c.next; upkeep = with_record c.written w.upkeep }

abbrev pub stated : {A : Type 0} → Case A → World → Done (Result A Fault)
stated c w = record { answer = c.answer; next = world_after c w }

-- a query: the steps that it forces, and its rows
pub record Queried : Type 0 where
  pub forced : List Forced
  pub rows : List (List Value)

abbrev pub with_upkeep : Upkeep → World → World
with_upkeep u w = record { visible = w.visible; upkeep = u }

abbrev pub querying : Settings → ℕ → Query → World → Done Queried
querying settings session query w =
    let steps = forced_by settings session query w in
    record { answer = record { forced = steps; rows = queried session query w.visible }; next = with_upkeep (with_steps steps w.upkeep) w }

-- what a worker or a clean-up does, and a mark: what statements see stays
abbrev pub maintained : {A : Type 0} → A × Upkeep → World → Done A
maintained c w = record { answer = c.0; next = with_upkeep c.1 w }

abbrev pub marked : Marking → World → Done (Result (Option ℕ) Fault)
marked c w = record { answer = c.answer; next = with_upkeep c.next w }
