use Rattle.std.proofs.Common.{◌≡◌, ℕ, ◌<◌, true}
use Rattle.lv_reach.specs.Far.{has_alias}
use Rattle.lv_reach.proofs.far.aliases_below.Given as goal

abbrev pub invariant-loop-alias : goal.invariant-loop-alias
invariant-loop-alias l = (j : ℕ) → j < l.alias → has_alias j l.aliases ≡ true
