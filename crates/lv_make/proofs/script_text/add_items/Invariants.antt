use Rattle.std.proofs.Common.{◌≡◌, ◌++◌, map, codes}
use Rattle.std.specs.List.{range_with_len}
use Rattle.lv_make.specs.ScriptText.{joined, tuple_text, item_row}
use Rattle.lv_make.proofs.script_text.add_items.Given as goal

abbrev pub invariant-loop-k : goal.invariant-loop-k
invariant-loop-k l = l.out ≡ l.fn.out ++ joined (codes ", ") (map tuple_text (map item_row (range_with_len 0 l.k)))
