use Rattle.std.proofs.Common.{◌≡◌, take}
use Rattle.std.specs.Int.{int_wrap, w128}
use Rattle.lv_make.specs.Summary.{row_sum}
use Rattle.lv_make.proofs.summary_text.row_sum.Given as goal

abbrev pub invariant-loop-value : goal.invariant-loop-value
invariant-loop-value l = l.sum ≡ int_wrap w128 (row_sum (take l.value-index l.row))
