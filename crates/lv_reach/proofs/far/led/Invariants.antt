use Rattle.std.proofs.Common.{◌≡◌, take}
use Rattle.std.specs.Prelude.{filter}
use Rattle.lv_reach.specs.Far.{are_led}
use Rattle.lv_reach.proofs.far.led.Given as goal

abbrev pub invariant-loop-alias : goal.invariant-loop-alias
invariant-loop-alias l = l.found ≡ filter (are_led l.links l.from) (take l.alias-index l.aliases)
