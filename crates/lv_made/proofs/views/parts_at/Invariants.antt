use Rattle.std.proofs.Common.{◌≡◌, take}
use Rattle.lv_made.specs.Views.{parts_at}
use Rattle.lv_made.proofs.views.parts_at.Given as goal

abbrev pub invariant-loop-table : goal.invariant-loop-table
invariant-loop-table g l = l.parts ≡ parts_at l.base l.commit (take l.table-index l.tables)
