use Rattle.std.proofs.Common.{◌≡◌, take, map}
use Rattle.lv_schema.specs.Commits.{written_place}
use Rattle.lv_txn.proofs.conflicts.written_places.Given as goal

abbrev pub invariant-loop-action : goal.invariant-loop-action
invariant-loop-action l = l.places ≡ map (written_place l.schema.tables) (take l.action-index l.actions)
