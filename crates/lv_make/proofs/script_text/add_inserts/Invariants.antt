use Rattle.std.proofs.Common.{◌≡◌, ◌++◌, map}
use Rattle.std.specs.List.{range_with_len}
use Rattle.lv_make.specs.ScriptText.{text_of, sale_line}
use Rattle.lv_make.proofs.script_text.add_inserts.Given as goal

abbrev pub invariant-loop-k : goal.invariant-loop-k
invariant-loop-k l = l.out ≡ l.fn.out ++ text_of (map (sale_line l.n) (range_with_len 0 l.k))
