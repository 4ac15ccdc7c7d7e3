use Rattle.std.proofs.Common.{◌≡◌, ◌++◌, map, codes}
use Rattle.std.specs.List.{range_with_len}
use Rattle.lv_make.specs.ScriptText.{joined, tuple_text, sale_row}
use Rattle.lv_make.proofs.script_text.add_sales.Given as goal

abbrev pub invariant-loop-at : goal.invariant-loop-at
invariant-loop-at l = l.out ≡ l.fn.out ++ joined (codes ", ") (map tuple_text (map sale_row (range_with_len l.first l.at)))
