use Rattle.std.proofs.Common.{◌≡◌, map, drop, nat_lt}
use Rattle.std.specs.List.{list_any}
use Rattle.lv_bind.specs.Limits.{lengths}
use Rattle.lv_bind.proofs.limits.has_longer.Given as goal

abbrev pub invariant-loop-entry : goal.invariant-loop-entry
invariant-loop-entry g l =
    list_any (nat_lt l.most) (lengths (map g.T.Entry.name_of (drop l.entry-index l.entries))) ≡ list_any (nat_lt l.most) (lengths (map g.T.Entry.name_of l.entries))
