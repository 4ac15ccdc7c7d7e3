-- A line is read token by token.
use Rattle.std.proofs.Common.{◌≡◌, ℕ, ◌+◌, ◌-◌, ◌≤◌, ◌<◌, ◌^◌, false, List, [], ◌∷◌, ◌++◌, length, map, take, drop, Option, Some, refl, sym, ap, ◌∙◌, subst, arith}
use Rattle.std.specs.List.{All, prefix_len}
use Rattle.std.proofs.lemmas.List.{append-nil, append_assoc, map-append}
use Rattle.std.proofs.lemmas.List.Elements.{All-nil, All-cons, All-append}
use Rattle.lv_values.specs.Names.{is_blank}
use Rattle.lv_lexer.specs.declared.terminals.Terminal.{Terminal}
use Rattle.lv_lexer.specs.declared.token.Token.{Token}
use Rattle.lv_lexer.specs.declared.token.TokenKind.{TokenKind}
use Rattle.lv_lexer.specs.Cut.{cut}
use Rattle.lv_lexer.specs.Meaning.{terminal_of}
use Rattle.lv_lexer.specs.Piece.{piece}
use Rattle.lv_lexer.specs.Scan.{Scans, is_over, after_blanks}
use Rattle.lv_lexer.specs.Next.{NextIs, token_at}
use Rattle.lv_lexer.proofs.Cuts.{cut_scans}
use Rattle.lv_lexer.proofs.Lines.{rest_is}
use Rattle.lv_lexer.proofs.Spans.{is_token, after, scans_one}

-- The piece behind the blanks is the next token.
module _ (line : List ℕ) (at start : ℕ) (kind : TokenKind) (len : ℕ) (blanks : start ≡ at + prefix_len is_blank (drop at line))
    (comes : is_over (take (length line - start) (drop start line)) ≡ false) (found : piece (take (length line - start) (drop start line)) ≡ Some (kind, len)) where
  abbrev pub token : Token
  token = token_at kind start (start + len)

  found_there : piece (after_blanks (drop at line)) ≡ Some (kind, start + len - start)
  found_there = sym (ap piece (rest_is line at start blanks)) ∙ found ∙ ap (λ (k : ℕ). Some (kind, k)) (omega arith)

  ends_behind : start ≤ start + len
  ends_behind = omega arith

  pub next_is : NextIs line at token
  next_is = (
    omega arith,
    is_token line at (drop at line) refl token found_there blanks ends_behind,
    λ more stopped h.
        let P : List ℕ → Type 0 = λ bytes. Scans token.end bytes more stopped in
        (sym (ap is_over (rest_is line at start blanks)) ∙ comes, found_there, blanks, ends_behind, subst P (sym (after line at (drop at line) refl token found_there blanks ends_behind)) h),
  )

-- The line up to this offset is some tokens, which say these terminals.
pub record IsRead (line : List ℕ) (list : List Terminal) (at : ℕ) : Type 0 where
  pub tokens : List Token
  pub said : list ≡ map (terminal_of line) tokens
  pub behind : (more : List Token) (stopped : Option ℕ) → Scans at (drop at line) more stopped → Scans 0 line (tokens ++ more) stopped

pub one_more : (line : List ℕ) (list : List Terminal) (at : ℕ) (t : Token) (terminal : Terminal) → IsRead line list at → terminal ≡ terminal_of line t
    → ((more : List Token) (stopped : Option ℕ) → Scans t.end (drop t.end line) more stopped → Scans at (drop at line) (t ∷ more) stopped)
    → IsRead line (list ++ terminal ∷ []) t.end
one_more line list at t terminal read is next = record {
  tokens = read.tokens ++ t ∷ [];
  said = ap (λ ts. ts ++ terminal ∷ []) read.said ∙ (ap (λ x. map (terminal_of line) read.tokens ++ x ∷ []) is ∙ sym (map-append (terminal_of line) read.tokens (t ∷ [])));
  behind = λ more stopped h.
      let P : List Token → Type 0 = λ ts. Scans 0 line ts stopped in subst P (sym (append_assoc read.tokens (t ∷ []) more)) (read.behind (t ∷ more) stopped (next more stopped h));
}

-- what the line is cut into
pub all_read : (line : List ℕ) (list : List Terminal) (at : ℕ) (stopped : Option ℕ) → IsRead line list at → Scans at (drop at line) [] stopped
    → (list ≡ map (terminal_of line) (cut line).0) × (stopped ≡ (cut line).1)
all_read line list at stopped read h =
    let P : List Token → Type 0 = λ ts. Scans 0 line ts stopped in
    let whole : Scans 0 line read.tokens stopped = subst P (append-nil read.tokens) (read.behind [] stopped h) in
    let same = scans_one 0 line read.tokens (cut line).0 stopped (cut line).1 whole (cut_scans line) in
    (read.said ∙ ap (map (terminal_of line)) same.0, same.1)

-- numbers that are small, and one more
pub one_small : (list : List Terminal) (terminal : Terminal) → All (λ t. t.number < 10 ^ 38) list → terminal.number < 10 ^ 38 → All (λ t. t.number < 10 ^ 38) (list ++ terminal ∷ [])
one_small list terminal all small =
    let P : Terminal → Type 0 = λ t. t.number < 10 ^ 38 in All-append P list (terminal ∷ []) all (All-cons P terminal [] small (All-nil P))
