use Rattle.std.proofs.Common.{◌≡◌, drop}
use Rattle.lv_replay.specs.Numbers.{number_rises}
use Rattle.lv_loading.proofs.commits.number_rises.Given as goal

abbrev pub invariant-loop-action : goal.invariant-loop-action
invariant-loop-action l = number_rises l.least (drop l.action-index l.actions) ≡ number_rises 1 l.actions
