use Rattle.std.proofs.Common.{◌≡◌, map, drop}
use Rattle.std.specs.Str.{bytes_eq}
use Rattle.lv_schema.specs.Once.{are_apart}
use Rattle.lv_loading.proofs.names.names_are_apart.Given as goal

abbrev pub invariant-loop-at : goal.invariant-loop-at
invariant-loop-at g l = are_apart bytes_eq (map g.T.Entry.name_of (drop l.at l.entries)) ≡ are_apart bytes_eq (map g.T.Entry.name_of l.entries)
