-- What the fault that is shown is: one of the first line that has a fault, and the lowest of that line's kinds.
use Rattle.std.specs.Prelude.{◌≡◌, ◌↔◌, ℕ, ◌+◌, ◌≤◌, true, false, List, [], ◌∷◌, ◌++◌, length, Ok, Err}
use Rattle.lv_plain.specs.declared.program.Program.{Program}
use Rattle.lv_lines.specs.declared.script_fault.ScriptFault.TheVariants.{Bad}
use Rattle.lv_lines.specs.declared.script_fault.ScriptFaultKind.{ScriptFaultKind}
use Rattle.lv_lines.specs.declared.script_fault.ScriptFaultKind.TheVariants.{ScriptTooLong}
use Rattle.lv_lines.specs.declared.section.Part.{Part}
use Rattle.lv_lines.specs.ScriptFault.{number_of}
use Rattle.lv_lines.specs.ScriptLine.{Said, said, lines_of}
use Rattle.lv_lines.specs.Script.{has_fault, after_line, start, script_of}

-- A line that says this has no fault behind this part.
abbrev pub IsClear : Part → List ℕ → Said → Type 0
IsClear part line says = (kind : ScriptFaultKind) → has_fault part line says kind ≡ false

-- No line has a fault, each behind those before it.
abbrev pub AreClear : Part → List (List ℕ) → Type 0
AreClear part [] = Unit {0}
AreClear part (line ∷ lines) = IsClear part line (said line) × AreClear (after_line part line) lines

-- what these lines make of a part
abbrev pub after_lines : Part → List (List ℕ) → Part
after_lines part [] = part
after_lines part (line ∷ lines) = after_lines (after_line part line) lines

-- The lines before the line of this number have no fault, that line has one of this kind, and none of a lower
-- kind.
pub record IsFirstFault (lines : List (List ℕ)) (number : ℕ) (kind : ScriptFaultKind) : Type 0 where
  pub before : List (List ℕ)
  pub line : List ℕ
  pub behind : List (List ℕ)
  pub parts : lines ≡ before ++ line ∷ behind
  pub place : number ≡ length before + 1
  pub clear : AreClear start before
  pub has : has_fault (after_lines start before) line (said line) kind ≡ true
  pub lowest : (other : ScriptFaultKind) → has_fault (after_lines start before) line (said line) other ≡ true → number_of kind ≤ number_of other

-- The fault of a script that is short enough is the first line's that has one, and the lowest of its kinds.
abbrev pub FaultsAreFirst : Type 0
FaultsAreFirst = (bytes : List ℕ) (number : ℕ) (kind : ScriptFaultKind) → length bytes ≤ 16777216 → script_of bytes ≡ Err (Bad number kind) → IsFirstFault (lines_of bytes) number kind

-- The fault of a script that is too long is that alone, at line 0.
abbrev pub LongScriptsAreRefused : Type 0
LongScriptsAreRefused = (bytes : List ℕ) → 16777217 ≤ length bytes → script_of bytes ≡ Err (Bad 0 ScriptTooLong)

-- A script is short enough, no line of it has a fault, and this program is what its lines make.
pub record IsClearScript (bytes : List ℕ) (program : Program) : Type 0 where
  pub short : length bytes ≤ 16777216
  pub clear : AreClear start (lines_of bytes)
  pub made : program ≡ (after_lines start (lines_of bytes)).program

-- Those are the scripts that give a program.
abbrev pub ProgramsAreClear : Type 0
ProgramsAreClear = (bytes : List ℕ) (program : Program) → (script_of bytes ≡ Ok program) ↔ IsClearScript bytes program
