use Rattle.std.proofs.Common.{◌≡◌, ℕ, List, Result, Ok, Err, IfOk, sym, ap, ◌∙◌, subst}
use Rattle.lv_values.specs.declared.memory.NoMemory.{NoMemory}
use Rattle.lv_lexer.specs.Written.{Written, with_tokens, line_of}
use Rattle.lv_parser.specs.declared.tree.Stmt.{Stmt}
use Rattle.lv_parser.specs.Bare.{bare}
use Rattle.lv_parser.specs.Lines.{ReadsAs}
use Rattle.lv_parser.specs.Printed.{stmt_tokens}
use Rattle.lv_parser.proofs.PrintLine.{printed_reads}
use Rattle.lv_parser.proofs.print_statements.print.Goals as goal

reads_again : (stmt : Stmt) (printed : List ℕ) (r : Result (List ℕ) NoMemory) → printed ≡ line_of (stmt_tokens stmt) → IfOk r (λ text. text ≡ printed) → (line : List ℕ) → ReadsAs line stmt
    → IfOk r (λ text. (found : Stmt) × ReadsAs text found × (bare found ≡ bare stmt))
reads_again stmt printed (Ok text) e is line h =
    let P : List ℕ → Type 0 = λ t. (found : Stmt) × ReadsAs t found × (bare found ≡ bare stmt) in
    subst P (sym (is ∙ e)) (printed_reads line stmt h)
reads_again stmt printed (Err f) e is line h = tt

pub returns-clause-again : goal.returns-clause-again
returns-clause-again c =
    let stmt = c.args.stmt.now in
    reads_again stmt c.print_stmt.new.out.line c.finish.result
    (ap (λ (w : Written). w.line) c.in_ok-print_stmt.ensures ∙ ap (λ (w : Written). (with_tokens w (stmt_tokens stmt)).line) c.new-out.ensures) c.finish.ensures
