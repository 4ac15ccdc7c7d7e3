use Rattle.std.proofs.Common.{◌≡◌, take}
use Rattle.lv_schema.specs.Jobs.{old_sides}
use Rattle.lv_maint.specs.Terms.{seen_sides}
use Rattle.lv_maint.proofs.sides.old_sides.Given as goal

abbrev pub invariant-loop-part : goal.invariant-loop-part
invariant-loop-part l = seen_sides l.sides.items ≡ old_sides (take l.part-index l.parts)
