-- What a stop leaves of a world, and what a record makes of a world when it is read again.
use Rattle.std.specs.Prelude.{List, [], ◌∷◌, ◌++◌, length, slice_set, replicate, Some, None}
use Rattle.std.specs.List.{fold}
use Rattle.lv_schema.specs.declared.rec.Rec.{Rec}
use Rattle.lv_schema.specs.declared.rec.Rec.TheVariants.{Table, View, Commit, Mark}
use Rattle.lv_schema.specs.Cases.{with_table}
use Rattle.lv_schema.specs.Effects.{acted_all}
use Rattle.lv_schema.specs.UpkeepCases.{with_record}
use Rattle.lv_schema.specs.World.{Visible, Upkeep, World, empty_world, last, snap}

-- ---- what a stop leaves: no transaction and no claim, each view where it is marked, and nothing dropped. All else stays.
abbrev pub durable_visible : Visible → Visible
durable_visible s = record s { sessions = replicate 17 None }

abbrev pub durable_upkeep : Upkeep → Upkeep
durable_upkeep u = record u { points = u.marks; claims = replicate 9 None; pruned = 0 }

abbrev pub durable : World → World
durable w = record { visible = durable_visible w.visible; upkeep = durable_upkeep w.upkeep }

-- ---- a record read again: a table or view gets the next number, and a commit's actions are acted on the last state
abbrev pub replayed_visible : Rec → Visible → Visible
replayed_visible (Table def) s = with_table (record def { no = length s.tables }) s
replayed_visible (View def) s = record s { views = s.views ++ record def { no = length s.views } ∷ [] }
replayed_visible (Commit number actions) s = record s { snaps = s.snaps ++ acted_all s.tables (snap s (last s)) actions ∷ []; commits = s.commits ++ actions ∷ [] }
replayed_visible (Mark view upto) s = s

-- a view that is marked stands there
abbrev pub moved : Rec → Upkeep → Upkeep
moved (Table def) u = u
moved (View def) u = u
moved (Commit number actions) u = u
moved (Mark view upto) u = record u { points = slice_set u.points view upto }

abbrev pub replayed : Rec → World → World
replayed rec w = record { visible = replayed_visible rec w.visible; upkeep = moved rec (with_record (Some rec) w.upkeep) }

-- the world that records make, from the empty one on
abbrev pub state_of : List Rec → World
state_of recs = fold (λ w rec. replayed rec w) empty_world recs
