-- Where a whole script is read, so is each front of it; and what is true of its program, and of each program with a line
-- less, is true of the programs of its fronts.
use Rattle.std.proofs.Common.{◌≡◌, ℕ, zero, suc, ◌+◌, ◌≤◌, List, [], ◌∷◌, ◌++◌, take, Option, Some, None, Result, Ok, refl, sym, ap, subst, ◌∙◌, arith}
use Rattle.lv_plain.specs.declared.program.OrderItem.{OrderItem}
use Rattle.lv_plain.specs.declared.program.Program.{Program}
use Rattle.lv_lines.specs.declared.script_fault.ScriptFault.{ScriptFault}
use Rattle.lv_lines.specs.declared.script_fault.ScriptFaultKind.{ScriptFaultKind}
use Rattle.lv_lines.specs.declared.section.Section.{Section}
use Rattle.lv_lines.specs.declared.section.Section.TheVariants as section
use Rattle.lv_lines.specs.declared.section.Part.{Part}
use Rattle.lv_lines.specs.OrderLine.{items_of, left_after}
use Rattle.lv_lines.specs.Script.{after_line, fault_of, left_of, onto_last, script_from, session_called, start, unless, with_items, with_line, with_order, with_statement}
use Rattle.lv_lines.specs.ScriptLine.{Said, nothing, setup, session, order, wrong, statement, said}

abbrev pub Read : Type 0
Read = Result Program ScriptFault

pub same_read : (p q : Program) → ◌≡◌ {A = Read} (Ok p) (Ok q) → p ≡ q
same_read p q e = cc

behind_line : (o : Option ScriptFaultKind) (number : ℕ) (r : Read) (p : Program) → unless o number r ≡ Ok p → (o ≡ None) × (r ≡ Ok p)
behind_line None number r p e = (refl, e)
behind_line (Some kind) number r p e = cc

first_read : (part : Part) (number m : ℕ) (lines : List (List ℕ)) (p : Program) → script_from part number lines ≡ Ok p → (q : Program) × (script_from part number (take m lines) ≡ Ok q)
first_read part number zero lines p e = (part.program, refl)
first_read part number (suc m) [] p e = (part.program, refl)
first_read part number (suc m) (line ∷ lines) p e =
    let rest = behind_line (fault_of part line) number (script_from (after_line part line) (number + 1) lines) p e in
    let more = first_read (after_line part line) (number + 1) m lines p rest.1 in
    (more.0, ap (λ (o : Option ScriptFaultKind). unless o number (script_from (after_line part line) (number + 1) (take m lines))) rest.0 ∙ more.1)

-- what is true of a program is true of it with a line less
pub record IsLess (P : Program → Type 0) : Type 0 where
  pub setup_line : (p : Program) (line : List ℕ) → P (record p { setup = p.setup ++ line ∷ [] }) → P p
  pub session_line : (p : Program) (line : List ℕ) → P (record p { sessions = onto_last p.sessions line }) → P p
  pub session_head : (p : Program) (name : List ℕ) → P (record p { sessions = p.sessions ++ session_called name ∷ [] }) → P p
  pub order_line : (p : Program) (items : List OrderItem) → P (record p { order = p.order ++ items }) → P p

module _ (P : Program → Type 0) (less : IsLess P) where
  statement_less : (here : Section) (part : Part) (line : List ℕ) → P (with_statement here part line).program → P part.program
  statement_less section.Nowhere part line is = is
  statement_less section.Setup part line is = less.setup_line part.program line is
  statement_less section.Session part line is = less.session_line part.program line is
  statement_less section.Order part line is = is

  items_less : (part : Part) (items : List OrderItem) (left : Option (List ℕ)) → P (with_items part items left).program → P part.program
  items_less part items None is = is
  items_less part items (Some left) is = less.order_line part.program items is

  order_less : (part : Part) (items : Option (List OrderItem)) → P (with_order part items).program → P part.program
  order_less part None is = is
  order_less part (Some items) is = items_less part items (left_after (left_of part) items) is

  line_less : (part : Part) (line : List ℕ) (says : Said) → P (with_line part line says).program → P part.program
  line_less part line nothing is = is
  line_less part line setup is = is
  line_less part line (session name) is = less.session_head part.program name is
  line_less part line (order words) is = order_less part (items_of part.program.sessions words) is
  line_less part line wrong is = is
  line_less part line statement is = statement_less part.section part line is

  lines_less : (part : Part) (number : ℕ) (lines : List (List ℕ)) (p : Program) → script_from part number lines ≡ Ok p → P p → P part.program
  lines_less part number [] p e is = subst P (sym (same_read part.program p e)) is
  lines_less part number (line ∷ lines) p e is =
      let rest = behind_line (fault_of part line) number (script_from (after_line part line) (number + 1) lines) p e in
      line_less part line (said line) (lines_less (after_line part line) (number + 1) lines p rest.1 is)

  abbrev pub HoldsOf : Read → Type 0
  HoldsOf r = (q : Program) → r ≡ Ok q → P q

  fewer_from : (part : Part) (number n m : ℕ) (lines : List (List ℕ)) (p : Program) → n ≤ m → script_from part number lines ≡ Ok p
      → HoldsOf (script_from part number (take m lines)) → HoldsOf (script_from part number (take n lines))
  fewer_from part number zero m lines p le e is q f =
      let some = first_read part number m lines p e in
      subst P (same_read part.program q f) (lines_less part number (take m lines) some.0 some.1 (is some.0 some.1))
  fewer_from part number (suc n) zero lines p le e is q f = absurd (omega (arith, le))
  fewer_from part number (suc n) (suc m) [] p le e is q f = is q f
  fewer_from part number (suc n) (suc m) (line ∷ lines) p le e is q f =
      let rest = behind_line (fault_of part line) number (script_from (after_line part line) (number + 1) lines) p e in
      let fewer = behind_line (fault_of part line) number (script_from (after_line part line) (number + 1) (take n lines)) q f in
      fewer_from (after_line part line) (number + 1) n m lines p (omega (arith, le)) rest.1
      (λ r g. is r (ap (λ (o : Option ScriptFaultKind). unless o number (script_from (after_line part line) (number + 1) (take m lines))) rest.0 ∙ g)) q fewer.1

  pub fewer_lines : (lines : List (List ℕ)) (p : Program) (n m : ℕ) → n ≤ m → script_from start 1 lines ≡ Ok p → HoldsOf (script_from start 1 (take m lines)) → HoldsOf (script_from start 1 (take n lines))
  fewer_lines lines p n m le e is = fewer_from start 1 n m lines p le e is
