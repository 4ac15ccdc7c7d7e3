use Rattle.std.proofs.Common.{◌≡◌, ◌++◌, take, map}
use Rattle.lv_make.specs.ScriptText.{text_of}
use Rattle.lv_make.proofs.script_text.add_lines.Given as goal

abbrev pub invariant-loop-line : goal.invariant-loop-line
invariant-loop-line l = l.out ≡ l.fn.out ++ text_of (map (λ l. l.now) (take l.line-index l.lines))
