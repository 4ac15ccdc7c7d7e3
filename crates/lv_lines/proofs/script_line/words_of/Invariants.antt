use Rattle.std.proofs.Common.{◌≡◌, ◌++◌, map, drop}
use Rattle.std.specs.Prelude.{filter}
use Rattle.lv_lines.specs.ScriptLine.{has_bytes, words_of}
use Rattle.lv_lines.proofs.script_line.words_of.Given as goal

abbrev pub invariant-loop-part : goal.invariant-loop-part
invariant-loop-part l = map (λ w. w.now) l.words.items ++ filter has_bytes (map (λ w. w.now) (drop l.part-index l.part-items)) ≡ words_of l.bytes
