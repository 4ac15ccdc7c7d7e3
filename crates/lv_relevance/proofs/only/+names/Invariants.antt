use Rattle.std.proofs.Common.{◌≡◌, map, drop}
use Rattle.std.specs.List.{list_all}
use Rattle.lv_relevance.specs.Relevance.{columns_of, is_among, joined}
use Rattle.lv_relevance.proofs.only.+names.Given as goal

abbrev pub invariant-each_names_only-loop-part : goal.invariant-each_names_only-loop-part
invariant-each_names_only-loop-part l =
    list_all (is_among l.alias l.columns) (joined (map columns_of (drop l.part-index l.parts))) ≡ list_all (is_among l.alias l.columns) (joined (map columns_of l.parts))
