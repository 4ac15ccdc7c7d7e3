use Rattle.std.proofs.Common.{◌≡◌, ◌∷◌, None}
use Rattle.lv_parser.specs.Trees.{tables_of, parts_of}
use Rattle.lv_parser.proofs.sources.split.Given as goal

abbrev pub invariant-each : goal.invariant-each
invariant-each l = (l.tables ≡ l.fn.first ∷ tables_of l.yielded) × (l.parts ≡ parts_of l.yielded None)
