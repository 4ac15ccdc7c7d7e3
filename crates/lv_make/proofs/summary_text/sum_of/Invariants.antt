use Rattle.std.proofs.Common.{◌≡◌, take}
use Rattle.lv_make.specs.Summary.{sum_of}
use Rattle.lv_make.proofs.summary_text.sum_of.Given as goal

abbrev pub invariant-loop-row : goal.invariant-loop-row
invariant-loop-row l = l.sum ≡ sum_of (take l.row-index l.rows)
