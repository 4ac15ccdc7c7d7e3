use Rattle.std.proofs.Common.{◌≡◌, ◌++◌, codes}
use Rattle.std.specs.List.{flat_map, range_with_len}
use Rattle.lv_make.specs.ScriptText.{order_items}
use Rattle.lv_make.proofs.script_text.add_order.Given as goal

abbrev pub invariant-loop-k : goal.invariant-loop-k
invariant-loop-k l = l.out ≡ l.fn.out ++ codes "@order" ++ flat_map order_items (range_with_len 1 l.k)
