-- The kinds of faults, in the order of their numbers.
use Rattle.std.specs.Prelude.{ℕ}
use Rattle.lv_lines.specs.declared.script_fault.ScriptFaultKind.{ScriptFaultKind}
use Rattle.lv_lines.specs.declared.script_fault.ScriptFaultKind.TheVariants.{NotUtf8, ScriptTooLong, LineTooLong, NoSectionLine, OutOfPlace, NoSessionName, NameUsed, TooManySessions, TooManyStatements, NoOrderItem, NoStatementLeft, TooManyItems}

-- the number under which a kind is shown
abbrev pub number_of : ScriptFaultKind → ℕ
number_of NotUtf8 = 1
number_of ScriptTooLong = 2
number_of LineTooLong = 3
number_of NoSectionLine = 4
number_of OutOfPlace = 5
number_of NoSessionName = 6
number_of NameUsed = 7
number_of TooManySessions = 8
number_of TooManyStatements = 9
number_of NoOrderItem = 10
number_of NoStatementLeft = 11
number_of TooManyItems = 12
