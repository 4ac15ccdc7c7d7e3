-- A fresh engine, and the world that it stands for.
use Rattle.std.specs.Prelude.{◌≡◌, ℕ, ◌+◌, ◌==◌, List, map, filter, replicate, None}
use Rattle.std.specs.List.{range_with_len}
use Rattle.lv_schema.specs.declared.action.Action.{Action}
use Rattle.lv_schema.specs.declared.action.DeltaEntry.{DeltaEntry}
use Rattle.lv_schema.specs.Databases.{Db}
use Rattle.lv_schema.specs.World.{World}
use Rattle.lv_stands.specs.Kept.{TableKept, EngineKept, shown}

-- nobody is live, nothing is claimed or dropped, and each view is where it is marked
pub record IsFresh (e : EngineKept) : Type 0 where
  pub nobody : e.sessions ≡ replicate 17 None
  pub unclaimed : e.upkeep.claims ≡ replicate 9 None
  pub whole : e.base.pruned ≡ 0
  pub marked : e.upkeep.points ≡ e.upkeep.marks

-- the database after commit n: of each table the rows that its versions show
abbrev pub database_kept : List TableKept → ℕ → Db
database_kept tables n = map (λ t. shown n t.versions) tables

-- the actions of commit n: those of the entries with its number
abbrev pub actions_numbered : List DeltaEntry → ℕ → List Action
actions_numbered entries n = map (λ e. e.action) (filter (λ e. e.number == n) entries)

-- the world that a fresh engine stands for, told from what it keeps
abbrev pub world_kept : EngineKept → World
world_kept e = record {
  visible = record {
    tables = e.tables;
    views = e.views;
    snaps = map (database_kept e.base.tables) (range_with_len 0 (e.base.number + 1));
    commits = map (actions_numbered e.base.entries) (range_with_len 1 e.base.number);
    sessions = replicate 17 None;
  };
  upkeep = record {
    points = e.upkeep.points;
    marks = e.upkeep.marks;
    claims = e.upkeep.claims;
    pruned = 0;
    journal = e.journal;
  };
}
