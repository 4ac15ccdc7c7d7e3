-- A line whose first kind of fault is none has no fault.
use Rattle.std.proofs.Common.{◌≡◌, ℕ, Bool, true, false, cond, List, [], ◌∷◌, Some, None, refl}
use Rattle.std.specs.List.{find, AllByRecursion}
use Rattle.lv_lines.specs.declared.script_fault.ScriptFaultKind.TheVariants.{NotUtf8, ScriptTooLong, LineTooLong, NoSectionLine, OutOfPlace, NoSessionName, NameUsed, TooManySessions, TooManyStatements, NoOrderItem, NoStatementLeft, TooManyItems}
use Rattle.lv_lines.specs.declared.section.Part.{Part}
use Rattle.lv_lines.specs.ScriptLine.{said}
use Rattle.lv_lines.specs.Script.{has_fault, said_kinds, fault_of}
use Rattle.lv_lines.specs.FirstFault.{IsClear}

-- where no element passes, each fails
find-None : {A : Type 0} (test : A → Bool) (xs : List A) → find test xs ≡ None → AllByRecursion (λ x. test x ≡ false) xs
find-None test [] e = tt
find-None test (x ∷ xs) e = at (test x) refl e (find-None test xs) where
  at : (t : Bool) → test x ≡ t → cond t (Some x) (find test xs) ≡ None → (find test xs ≡ None → AllByRecursion (λ x. test x ≡ false) xs) → AllByRecursion (λ x. test x ≡ false) (x ∷ xs)
  at true is e more = absurd cc
  at false is e more = (is, more e)

fails : (part : Part) (line : List ℕ) → fault_of part line ≡ None → AllByRecursion (λ kind. has_fault part line (said line) kind ≡ false) (NotUtf8 ∷ LineTooLong ∷ said_kinds)
fails part line e = find-None (has_fault part line (said line)) (NotUtf8 ∷ LineTooLong ∷ said_kinds) e

pub clear_of : (part : Part) (line : List ℕ) → fault_of part line ≡ None → IsClear part line (said line)
clear_of part line e NotUtf8 = (fails part line e).0
clear_of part line e ScriptTooLong = refl
clear_of part line e LineTooLong = (fails part line e).1.0
clear_of part line e NoSectionLine = (fails part line e).1.1.0
clear_of part line e OutOfPlace = (fails part line e).1.1.1.0
clear_of part line e NoSessionName = (fails part line e).1.1.1.1.0
clear_of part line e NameUsed = (fails part line e).1.1.1.1.1.0
clear_of part line e TooManySessions = (fails part line e).1.1.1.1.1.1.0
clear_of part line e TooManyStatements = (fails part line e).1.1.1.1.1.1.1.0
clear_of part line e NoOrderItem = (fails part line e).1.1.1.1.1.1.1.1.0
clear_of part line e NoStatementLeft = (fails part line e).1.1.1.1.1.1.1.1.1.0
clear_of part line e TooManyItems = (fails part line e).1.1.1.1.1.1.1.1.1.1.0
