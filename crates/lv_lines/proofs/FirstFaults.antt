-- The first line with a fault, and the lowest of its kinds.
use Rattle.std.proofs.Common.{◌≡◌, ℕ, ◌+◌, ◌≤◌, Bool, true, false, cond, nat_lt, List, [], ◌∷◌, ◌++◌, length, Option, Some, None, Ok, Err, refl, sym, ap, ◌∙◌, arith}
use Rattle.std.specs.List.{find, AllByRecursion}
use Rattle.std.proofs.lemmas.Bool.Decides.{nat_tests}
use Rattle.lv_plain.specs.declared.program.Program.{Program}
use Rattle.lv_lines.specs.declared.script_fault.ScriptFault.TheVariants.{Bad}
use Rattle.lv_lines.specs.declared.script_fault.ScriptFaultKind.{ScriptFaultKind}
use Rattle.lv_lines.specs.declared.script_fault.ScriptFaultKind.TheVariants.{NotUtf8, ScriptTooLong, LineTooLong, NoSectionLine, OutOfPlace, NoSessionName, NameUsed, TooManySessions, TooManyStatements, NoOrderItem, NoStatementLeft, TooManyItems}
use Rattle.lv_lines.specs.declared.section.Part.{Part}
use Rattle.lv_lines.specs.ScriptFault.{number_of}
use Rattle.lv_lines.specs.ScriptLine.{said, lines_of}
use Rattle.lv_lines.specs.Script.{has_fault, said_kinds, fault_of, after_line, unless, script_from, script_of, start}
use Rattle.lv_lines.specs.FirstFault.{IsClear, AreClear, after_lines, FaultsAreFirst, IsClearScript, ProgramsAreClear}
use Rattle.lv_lines.proofs.Clear.{clear_of}

-- ---- the lowest kind

-- kinds in order of their numbers
abbrev RisesFrom : ℕ → List ScriptFaultKind → Type 0
RisesFrom low [] = Unit {0}
RisesFrom low (kind ∷ kinds) = (low ≤ number_of kind) × RisesFrom (number_of kind) kinds

record IsLowest (test : ScriptFaultKind → Bool) (kinds : List ScriptFaultKind) (kind : ScriptFaultKind) : Type 0 where
  has : test kind ≡ true
  lowest : AllByRecursion (λ other. test other ≡ true → number_of kind ≤ number_of other) kinds

-- those behind are no lower
rest_above : (test : ScriptFaultKind → Bool) (low n : ℕ) (kinds : List ScriptFaultKind) → n ≤ low → RisesFrom low kinds → AllByRecursion (λ other. test other ≡ true → n ≤ number_of other) kinds
rest_above test low n [] le rise = tt
rest_above test low n (kind ∷ kinds) le rise = (λ h. omega (arith, rise.0), rest_above test (number_of kind) n kinds (omega (arith, rise.0)) rise.1)

lowest_of : (test : ScriptFaultKind → Bool) (low : ℕ) (kinds : List ScriptFaultKind) (kind : ScriptFaultKind) → RisesFrom low kinds → find test kinds ≡ Some kind → IsLowest test kinds kind
lowest_of test low [] kind rise e = absurd cc
lowest_of test low (first ∷ kinds) kind rise e = at (test first) refl e (lowest_of test (number_of first) kinds kind rise.1) where
  at : (t : Bool) → test first ≡ t → cond t (Some first) (find test kinds) ≡ Some kind → (find test kinds ≡ Some kind → IsLowest test kinds kind) → IsLowest test (first ∷ kinds) kind
  at true is e more =
      let same : first ≡ kind = cc in
      record {
        has = ap test (sym same) ∙ is;
        lowest = (λ h. omega (arith, ap number_of same), rest_above test (number_of first) (number_of kind) kinds (omega (arith, ap number_of same)) rise.1);
      }
  at false is e more = let r = more e in record { has = r.has; lowest = (λ h. absurd cc, r.lowest) }

module _ (part : Part) (line : List ℕ) where
  abbrev fails_by : ScriptFaultKind → Bool
  fails_by kind = has_fault part line (said line) kind

  lowest_kind : (kind : ScriptFaultKind) → fault_of part line ≡ Some kind → IsLowest fails_by (NotUtf8 ∷ LineTooLong ∷ said_kinds) kind
  lowest_kind kind e = lowest_of fails_by 0 (NotUtf8 ∷ LineTooLong ∷ said_kinds) kind (search arith) e

  -- whatever other kind the line has
  no_lower : (kind : ScriptFaultKind) → fault_of part line ≡ Some kind → (other : ScriptFaultKind) → fails_by other ≡ true → number_of kind ≤ number_of other
  no_lower kind e NotUtf8 = (lowest_kind kind e).lowest.0
  no_lower kind e ScriptTooLong = λ h. absurd cc
  no_lower kind e LineTooLong = (lowest_kind kind e).lowest.1.0
  no_lower kind e NoSectionLine = (lowest_kind kind e).lowest.1.1.0
  no_lower kind e OutOfPlace = (lowest_kind kind e).lowest.1.1.1.0
  no_lower kind e NoSessionName = (lowest_kind kind e).lowest.1.1.1.1.0
  no_lower kind e NameUsed = (lowest_kind kind e).lowest.1.1.1.1.1.0
  no_lower kind e TooManySessions = (lowest_kind kind e).lowest.1.1.1.1.1.1.0
  no_lower kind e TooManyStatements = (lowest_kind kind e).lowest.1.1.1.1.1.1.1.0
  no_lower kind e NoOrderItem = (lowest_kind kind e).lowest.1.1.1.1.1.1.1.1.0
  no_lower kind e NoStatementLeft = (lowest_kind kind e).lowest.1.1.1.1.1.1.1.1.1.0
  no_lower kind e TooManyItems = (lowest_kind kind e).lowest.1.1.1.1.1.1.1.1.1.1.0

  none_of : IsClear part line (said line) → fault_of part line ≡ None
  none_of clear =
      rw (clear NotUtf8, clear LineTooLong, clear NoSectionLine, clear OutOfPlace, clear NoSessionName, clear NameUsed, clear TooManySessions, clear TooManyStatements, clear NoOrderItem, clear NoStatementLeft, clear TooManyItems) refl

-- ---- the first line

-- the first fault, where the first line has any number
record FaultFrom (part : Part) (from : ℕ) (lines : List (List ℕ)) (number : ℕ) (kind : ScriptFaultKind) : Type 0 where
  before : List (List ℕ)
  line : List ℕ
  behind : List (List ℕ)
  parts : lines ≡ before ++ line ∷ behind
  place : number ≡ length before + from
  clear : AreClear part before
  found : fault_of (after_lines part before) line ≡ Some kind

from_fault : (part : Part) (from : ℕ) (lines : List (List ℕ)) (number : ℕ) (kind : ScriptFaultKind) → script_from part from lines ≡ Err (Bad number kind) → FaultFrom part from lines number kind
from_fault part from [] number kind e = absurd cc
from_fault part from (line ∷ lines) number kind e = at (fault_of part line) refl e (from_fault (after_line part line) (from + 1) lines number kind) where
  at : (f : Option ScriptFaultKind) → fault_of part line ≡ f → unless f from (script_from (after_line part line) (from + 1) lines) ≡ Err (Bad number kind)
      → (script_from (after_line part line) (from + 1) lines ≡ Err (Bad number kind) → FaultFrom (after_line part line) (from + 1) lines number kind)
      → FaultFrom part from (line ∷ lines) number kind
  at (Some found) is e later =
      let place : from ≡ number = cc in
      let same : found ≡ kind = cc in
      record { before = []; line = line; behind = lines; parts = refl; place = omega arith; clear = tt; found = is ∙ ap (λ (k : ScriptFaultKind). Some k) same }
  at None is e later =
      let r = later e in
      record { before = line ∷ r.before; line = r.line; behind = r.behind; parts = ap (λ (ls : List (List ℕ)). line ∷ ls) r.parts; place = omega (arith, r.place); clear = (clear_of part line is, r.clear); found = r.found }

in_limit : (bytes : List ℕ) → length bytes ≤ 16777216 → nat_lt 16777216 (length bytes) ≡ false
in_limit bytes le = grind (arith, nat_tests)

read_lines : (bytes : List ℕ) → length bytes ≤ 16777216 → script_of bytes ≡ script_from start 1 (lines_of bytes)
read_lines bytes le = rw (in_limit bytes le) refl

pub faults_are_first : FaultsAreFirst
faults_are_first bytes number kind le e =
    let r = from_fault start 1 (lines_of bytes) number kind (sym (read_lines bytes le) ∙ e) in
    record {
      before = r.before;
      line = r.line;
      behind = r.behind;
      parts = r.parts;
      place = r.place;
      clear = r.clear;
      has = (lowest_kind (after_lines start r.before) r.line kind r.found).has;
      lowest = no_lower (after_lines start r.before) r.line kind r.found;
    }

-- ---- programs

record ClearFrom (part : Part) (lines : List (List ℕ)) (program : Program) : Type 0 where
  clear : AreClear part lines
  made : program ≡ (after_lines part lines).program

clear_from : (part : Part) (from : ℕ) (lines : List (List ℕ)) (program : Program) → script_from part from lines ≡ Ok program → ClearFrom part lines program
clear_from part from [] program e = record { clear = tt; made = cc }
clear_from part from (line ∷ lines) program e = at (fault_of part line) refl e (clear_from (after_line part line) (from + 1) lines program) where
  at : (f : Option ScriptFaultKind) → fault_of part line ≡ f → unless f from (script_from (after_line part line) (from + 1) lines) ≡ Ok program
      → (script_from (after_line part line) (from + 1) lines ≡ Ok program → ClearFrom (after_line part line) lines program) → ClearFrom part (line ∷ lines) program
  at (Some found) is e later = absurd cc
  at None is e later = let r = later e in record { clear = (clear_of part line is, r.clear); made = r.made }

read_clear : (part : Part) (from : ℕ) (lines : List (List ℕ)) → AreClear part lines → script_from part from lines ≡ Ok (after_lines part lines).program
read_clear part from [] clear = refl
read_clear part from (line ∷ lines) clear = rw (none_of part line clear.0) (read_clear (after_line part line) (from + 1) lines clear.1)

not_long : (bytes : List ℕ) (program : Program) → script_of bytes ≡ Ok program → length bytes ≤ 16777216
not_long bytes program e = at (nat_lt 16777216 (length bytes)) refl e where
  at : (t : Bool) → nat_lt 16777216 (length bytes) ≡ t → cond t (Err (Bad 0 ScriptTooLong)) (script_from start 1 (lines_of bytes)) ≡ Ok program → length bytes ≤ 16777216
  at true is e = absurd cc
  at false is e = grind (arith, nat_tests)

pub programs_are_clear : ProgramsAreClear
programs_are_clear bytes program = (forth, back) where
  forth : script_of bytes ≡ Ok program → IsClearScript bytes program
  forth e =
      let short = not_long bytes program e in
      let r = clear_from start 1 (lines_of bytes) program (sym (read_lines bytes short) ∙ e) in
      record { short = short; clear = r.clear; made = r.made }

  back : IsClearScript bytes program → script_of bytes ≡ Ok program
  back h = read_lines bytes h.short ∙ read_clear start 1 (lines_of bytes) h.clear ∙ ap (λ (p : Program). Ok p) (sym h.made)
