-- What a function that takes a line or a script ensures.
use Rattle.std.specs.Prelude.{◌≡◌, Option, Some, None, Result, Ok, Err}
use Rattle.lv_plain.specs.declared.program.Program.{Program}
use Rattle.lv_lines.specs.declared.script_fault.ScriptFaultKind.{ScriptFaultKind}
use Rattle.lv_lines.specs.declared.script_fault.ScriptFault.{ScriptFault}
use Rattle.lv_lines.specs.declared.script_fault.ScriptFault.TheVariants as script
use Rattle.lv_lines.specs.declared.script_fault.LineFault.{LineFault}
use Rattle.lv_lines.specs.declared.script_fault.LineFault.TheVariants as line
use Rattle.lv_lines.specs.declared.section.Part.{Part}

-- It went on to the next part where there is no fault, or answered the fault; want of memory tells nothing.
abbrev pub Judges : Option ScriptFaultKind → Part → Result (Unit {0}) LineFault → Part → Type 0
Judges fault next (Ok done) new = (fault ≡ None) × (new ≡ next)
Judges fault next (Err (line.Kind kind)) new = fault ≡ Some kind
Judges fault next (Err line.NoMemory) new = Unit {0}

-- It is the fault that the script has; want of memory tells nothing.
abbrev pub IsFaultOf : Result Program ScriptFault → ScriptFault → Type 0
IsFaultOf read (script.Bad number kind) = read ≡ Err (script.Bad number kind)
IsFaultOf read script.NoMemory = Unit {0}
