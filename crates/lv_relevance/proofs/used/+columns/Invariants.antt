use Rattle.std.proofs.Common.{◌≡◌, ◌++◌, map, drop}
use Rattle.lv_relevance.specs.Relevance.{columns_of, joined}
use Rattle.lv_relevance.proofs.used.+columns.Given as goal

abbrev pub invariant-add_columns_of_each-loop-part : goal.invariant-add_columns_of_each-loop-part
invariant-add_columns_of_each-loop-part l =
    l.cols ++ joined (map columns_of (drop l.part-index l.parts)) ≡ l.initial.cols ++ joined (map columns_of l.parts)
