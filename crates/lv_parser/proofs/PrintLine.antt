-- The printed line of a statement reads as the statement, but for places.
use Rattle.std.proofs.Common.{◌≡◌, ℕ, ◌+◌, false, List, [], ◌∷◌, None, refl, sym, ap, ◌∙◌}
use Rattle.std.specs.List.{All, AllByRecursion}
use Rattle.std.proofs.lemmas.List.Elements.{All-head, All-tail}
use Rattle.lv_lexer.specs.declared.token.Token.{Token}
use Rattle.lv_lexer.specs.declared.token.TokenKind.{TokenKind}
use Rattle.lv_lexer.specs.Meaning.{said, terminal_of}
use Rattle.lv_lexer.specs.Scan.{IsTokenOf, text_in}
use Rattle.lv_lexer.specs.Written.{Lexeme, line_of, AreWritten}
use Rattle.lv_lexer.proofs.Again.{placed, line_again}
use Rattle.lv_lexer.proofs.Spans.{each_token}
use Rattle.lv_parser.specs.declared.tree.Stmt.{Stmt}
use Rattle.lv_parser.specs.Bare.{bare}
use Rattle.lv_parser.specs.Lines as lines
use Rattle.lv_parser.specs.Lines.{ReadsAs}
use Rattle.lv_parser.specs.Printed.{stmt_tokens}
use Rattle.lv_parser.proofs.PrintFollow.{printed_can_be_read}
use Rattle.lv_parser.proofs.PrintHonest.{IsHonest}
use Rattle.lv_parser.proofs.PrintShows.{byte_is, is_said, IsSaid, Says}
use Rattle.lv_parser.proofs.PrintStmts.{line_prints}

-- the terminals of a line are honest
all_honest : (line : List ℕ) (tokens : List Token) → All (IsTokenOf line) tokens → AllByRecursion IsHonest (lines.said line tokens)
all_honest line [] all = tt
all_honest line (t ∷ more) all = (
  record {
    kind = t.kind;
    bytes = text_in line t;
    spelled = (All-head (IsTokenOf line) t more all).spelled;
    is = is_said (record { kind = t.kind; text = text_in line t }) (t.start + 1);
  },
  all_honest line more (All-tail (IsTokenOf line) t more all),
)

-- written tokens say what they spell
all_said : (line : List ℕ) (tokens : List Token) (xs : List Lexeme) → AreWritten line tokens xs → Says xs (lines.said line tokens) []
all_said line [] [] w = refl
all_said line [] (x ∷ xs) w = absurd w
all_said line (t ∷ tokens) [] w = absurd w
all_said line (t ∷ tokens) (x ∷ xs) w =
    let same : terminal_of line t ≡ said x.kind x.text (t.start + 1) = ap (λ (k : TokenKind). said k (text_in line t) (t.start + 1)) w.0.kind ∙ ap (λ (bytes : List ℕ). said x.kind bytes (t.start + 1)) w.0.text in
    let is : IsSaid x (terminal_of line t) = same ∙ ap (said x.kind x.text) (sym (byte_is t.kind (text_in line t) (t.start + 1))) in
    (terminal_of line t, lines.said line tokens, refl, is, all_said line tokens xs w.1)

-- the line of the printed tokens reads as the statement, but for places
pub printed_reads : (line : List ℕ) (stmt : Stmt) → ReadsAs line stmt → (found : Stmt) × ReadsAs (line_of (stmt_tokens stmt)) found × (bare found ≡ bare stmt)
printed_reads line stmt r =
    let honest = all_honest line r.tokens (each_token line 0 line r.tokens None refl r.scan) in
    let again = (line_prints.each (lines.said line r.tokens) stmt [] honest r.reading).1 in
    let xs = stmt_tokens stmt in
    let text = line_of xs in
    let scan = line_again xs (printed_can_be_read stmt again.spelled) in
    let tokens = placed 0 false xs in
    let found = again.again (lines.said text tokens) [] (all_said text tokens xs scan.1) in
    (found.0, record { tokens = tokens; scan = scan.0; reading = found.1 }, found.2)
