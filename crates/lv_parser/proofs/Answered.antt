-- From the answer for all tokens to the answer for a line.
use Rattle.std.proofs.Common.{◌≡◌, ℕ, Bool, true, false, List, [], ◌⊎◌, inl, inr, Option, Some, None, is_none, is_some, not, IfOk, Result, Ok, Err, refl, sym, ◌∙◌, ap, subst}
use Rattle.lv_lexer.specs.declared.token.Token.{Token}
use Rattle.lv_lexer.specs.declared.terminals.Terminal.{Terminal}
use Rattle.lv_lexer.specs.Cut.{cut}
use Rattle.lv_lexer.specs.Scan.{Scans}
use Rattle.lv_parser.specs.declared.tree.Stmt.{Stmt}
use Rattle.lv_parser.specs.declared.stop.ParseFault.{ParseFault}
use Rattle.lv_parser.specs.declared.stop.ParseFault.TheVariants.{Syntax, NoMemory}
use Rattle.lv_parser.specs.Fault.{IsAnswer, Stops, byte_of}
use Rattle.lv_parser.specs.Grammar as rule
use Rattle.lv_parser.specs.Lines.{ReadsAs, IsFaultAt, said, end_byte}
use Rattle.lv_parser.proofs.ExactRules.{line_reads}
use Rattle.lv_lexer.proofs.Cuts.{cut_scans}
use Rattle.lv_lexer.proofs.Spans.{scans_one}
use Rattle.lv_parser.proofs.Whole.{one_reading, one_place}

-- a line has the tokens that it is cut into
pub scans_as_cut : (line : List ℕ) (stopped : Option ℕ) → stopped ≡ (cut line).1 → Scans 0 line (cut line).0 stopped
scans_as_cut line stopped e = let P : Option ℕ → Type 0 = λ s. Scans 0 line (cut line).0 s in subst P (sym e) (cut_scans line)

-- and no others
pub only_cut : (line : List ℕ) (stopped : Option ℕ) → stopped ≡ (cut line).1 → (list : List Token) (s : Option ℕ) → Scans 0 line list s → ((cut line).0 ≡ list) × (stopped ≡ s)
only_cut line stopped e list s scan = scans_one 0 line (cut line).0 list stopped s (scans_as_cut line stopped e) scan

-- no piece is no token where the line ends
pub ends_at : (stopped : Option ℕ) (ends : Bool) → is_some stopped ≡ not ends → ends ≡ is_none stopped
ends_at None true e = refl
ends_at None false e = cc
ends_at (Some stop) true e = cc
ends_at (Some stop) false e = refl

only_all : (all : List Terminal) (ends : Bool) (end : ℕ) (result : Result Stmt ParseFault) → IsAnswer rule.line all ends end result → ends ≡ true
    → (stmt : Stmt) → rule.line.reads all stmt [] → (result ≡ Ok stmt) ⊎ (result ≡ Err NoMemory)
only_all all ends end (Ok a) h e stmt r = inl (ap Ok (one_reading line_reads all a stmt h.1 r))
only_all all ends end (Err (Syntax byte)) h e stmt r = absurd (h.none stmt e r)
only_all all ends end (Err NoMemory) h e stmt r = inr refl

is_over : (stopped : Option ℕ) → is_none stopped ≡ true → stopped ≡ None
is_over None e = refl
is_over (Some stop) e = cc

module _ (line : List ℕ) (list : List Token) (stopped : Option ℕ) (all : List Terminal) (ends : Bool) (result : Result Stmt ParseFault)
    (only : (l : List Token) (s : Option ℕ) → Scans 0 line l s → (list ≡ l) × (stopped ≡ s)) (all_is : all ≡ said line list) (ends_is : ends ≡ is_none stopped) where
  same_all : (tokens : List Token) → Scans 0 line tokens None → all ≡ said line tokens
  same_all tokens scan = all_is ∙ ap (said line) (only tokens None scan).0

  it_ends : (tokens : List Token) → Scans 0 line tokens None → ends ≡ true
  it_ends tokens scan = ends_is ∙ ap is_none (only tokens None scan).1

  pub found_line : IsAnswer rule.line all ends (end_byte line stopped) result → Scans 0 line list stopped → IfOk result (ReadsAs line)
  found_line answer scan = by result answer where
    by : (result : Result Stmt ParseFault) → IsAnswer rule.line all ends (end_byte line stopped) result → IfOk result (ReadsAs line)
    by (Ok a) h = record {
      tokens = list;
      scan = (let P : Option ℕ → Type 0 = λ x. Scans 0 line list x in subst P (is_over stopped (sym ends_is ∙ h.0)) scan);
      reading = (let P : List Terminal → Type 0 = λ x. rule.line.reads x a [] in subst P all_is h.1);
    }
    by (Err e) h = tt

  pub fault_line : IsAnswer rule.line all ends (end_byte line stopped) result → Scans 0 line list stopped → (byte : ℕ) → result ≡ Err (Syntax byte) → IsFaultAt line byte
  fault_line answer scan byte e =
      let P : Result Stmt ParseFault → Type 0 = λ x. IsAnswer rule.line all ends (end_byte line stopped) x in
      let h = subst P e answer in
      let Q : List Terminal → Type 0 = λ x. Stops rule.line x h.first.0 in
      record {
        none = λ stmt r. h.none stmt (it_ends r.tokens r.scan) (let R : List Terminal → Type 0 = λ x. rule.line.reads x stmt [] in subst R (sym (same_all r.tokens r.scan)) r.reading);
        tokens = list;
        stopped = stopped;
        scan = scan;
        rest = h.first.0;
        stops = subst Q all_is h.first.1;
        place = h.first.2;
      }

  pub only_line : IsAnswer rule.line all ends (end_byte line stopped) result → (stmt : Stmt) → ReadsAs line stmt → (result ≡ Ok stmt) ⊎ (result ≡ Err NoMemory)
  only_line answer stmt r =
      only_all all ends (end_byte line stopped) result answer (it_ends r.tokens r.scan) stmt
      (let P : List Terminal → Type 0 = λ x. rule.line.reads x stmt [] in subst P (sym (same_all r.tokens r.scan)) r.reading)

-- ---- laws over lines

pub one_statement : (line : List ℕ) (a b : Stmt) → ReadsAs line a → ReadsAs line b → a ≡ b
one_statement line a b r s =
    let e = scans_one 0 line r.tokens s.tokens None None r.scan s.scan in
    let P : List Token → Type 0 = λ x. rule.line.reads (said line x) b [] in
    one_reading line_reads (said line r.tokens) a b r.reading (subst P (sym e.0) s.reading)

same_byte : (line : List ℕ) (s r : Option ℕ) (one other : List Terminal) → s ≡ r → one ≡ other → byte_of (end_byte line s) one ≡ byte_of (end_byte line r) other
same_byte line s r one other e f = ap (λ x. byte_of (end_byte line x) one) e ∙ ap (byte_of (end_byte line r)) f

pub one_fault : (line : List ℕ) (a b : ℕ) → IsFaultAt line a → IsFaultAt line b → a ≡ b
one_fault line a b f g =
    let e = scans_one 0 line f.tokens g.tokens f.stopped g.stopped f.scan g.scan in
    let P : List Token → Type 0 = λ x. Stops rule.line (said line x) g.rest in
    f.place ∙ (same_byte line f.stopped g.stopped f.rest g.rest e.1 (one_place rule.line (said line f.tokens) f.rest g.rest f.stops (subst P (sym e.0) g.stops)) ∙ sym g.place)
