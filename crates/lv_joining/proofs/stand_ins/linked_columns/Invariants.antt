use Rattle.std.proofs.Common.{◌≡◌, ◌++◌, drop}
use Rattle.lv_joining.specs.Joining.{linked_columns}
use Rattle.lv_joining.proofs.stand_ins.linked_columns.Given as goal

abbrev pub invariant-loop-link : goal.invariant-loop-link
invariant-loop-link l = l.columns ++ linked_columns (drop l.link-index l.links) l.alias ≡ linked_columns l.links l.alias
