use Rattle.std.proofs.Common.{◌≡◌, drop}
use Rattle.lv_bind.specs.InUse.{regrouped, regrouped_after}
use Rattle.lv_bind.specs.Seen.{aliases}
use Rattle.lv_bind.specs.Sources.{first}
use Rattle.lv_bind.proofs.in_use.regrouped.Given as goal

abbrev pub invariant-loop-column : goal.invariant-loop-column
invariant-loop-column l =
    first (regrouped_after (aliases l.scope) l.before (drop l.column-index l.columns))
    ≡ first (regrouped (aliases l.scope) l.columns)
