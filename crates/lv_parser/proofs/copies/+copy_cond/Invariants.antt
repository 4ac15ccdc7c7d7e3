use Rattle.std.proofs.Common.{◌≡◌, take}
use Rattle.lv_parser.proofs.copies.+copy_cond.Given as goal

abbrev pub invariant-copy_conds-loop-cond : goal.invariant-copy_conds-loop-cond
invariant-copy_conds-loop-cond l = l.out ≡ take l.cond-index l.conds
