-- A script, line by line.
use Rattle.std.proofs.Common.{◌≡◌, ℕ, ◌+◌, List, ◌∷◌, map, Option, None, sym, ap, ◌∙◌}
use Rattle.lv_lines.specs.declared.script_fault.ScriptFaultKind.{ScriptFaultKind}
use Rattle.lv_lines.specs.declared.section.Part.{Part}
use Rattle.lv_lines.specs.ScriptLine.{pieces_of, lines_of, without_return}
use Rattle.lv_lines.specs.Script.{script_from, fault_of, after_line, unless}

-- behind a line without a fault
pub goes_on : (part next : Part) (number : ℕ) (line : List ℕ) (lines : List (List ℕ)) → fault_of part line ≡ None → next ≡ after_line part line
    → script_from next (number + 1) lines ≡ script_from part number (line ∷ lines)
goes_on part next number line lines clear then_is =
    let later = script_from (after_line part line) (number + 1) lines in
    ap (λ (p : Part). script_from p (number + 1) lines) then_is ∙ sym (ap (λ (f : Option ScriptFaultKind). unless f number later) clear)

-- behind a piece of the bytes
pub goes_on_piece : (part next : Part) (number : ℕ) (bytes piece line behind : List ℕ) → pieces_of bytes ≡ piece ∷ pieces_of behind → line ≡ without_return piece
    → fault_of part line ≡ None → next ≡ after_line part line → script_from next (number + 1) (lines_of behind) ≡ script_from part number (lines_of bytes)
goes_on_piece part next number bytes piece line behind split is clear then_is =
    goes_on part next number line (lines_of behind) clear then_is ∙ ap (script_from part number) (ap (λ (l : List ℕ). l ∷ lines_of behind) is ∙ sym (ap (λ pieces. map without_return pieces) split))
