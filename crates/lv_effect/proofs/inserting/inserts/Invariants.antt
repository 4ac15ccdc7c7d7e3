use Rattle.std.proofs.Common.{◌≡◌, take}
use Rattle.std.specs.Prelude.{map}
use Rattle.lv_schema.specs.Effects.{inserts}
use Rattle.lv_effect.proofs.inserting.inserts.Given as goal

abbrev pub invariant-loop-row : goal.invariant-loop-row
invariant-loop-row l = l.actions ≡ map (inserts l.table) (take l.row-index l.new)
