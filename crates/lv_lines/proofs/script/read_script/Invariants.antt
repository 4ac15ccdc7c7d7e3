use Rattle.std.proofs.Common.{◌≡◌, ◌+◌, ◌≤◌, length}
use Rattle.lv_lines.specs.Script.{script_from, start}
use Rattle.lv_lines.specs.ScriptLine.{lines_of}
use Rattle.lv_lines.proofs.Sound.{IsSound}
use Rattle.lv_lines.proofs.script.read_script.Given as goal

abbrev pub invariant-lines : goal.invariant-lines
invariant-lines l = record {
  whole : script_from l.part l.number (lines_of l.rest) ≡ script_from start 1 (lines_of l.bytes);
  sound : IsSound l.part;
  within : l.number + length l.rest ≤ length l.bytes + 1;
}

abbrev pub decreases-lines : goal.decreases-lines
decreases-lines l = length l.rest
