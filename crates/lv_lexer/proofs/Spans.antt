-- What is known of the tokens of a line: where they stand, and that a line has one list of them.
use Rattle.std.proofs.Common.{◌≡◌, ℕ, ◌+◌, ◌-◌, ◌≤◌, ◌<◌, false, List, [], ◌∷◌, length, take, drop, Option, Some, None, refl, sym, ap, ◌∙◌, subst, arith, length-drop}
use Rattle.std.proofs.lemmas.List.{length-take-le}
use Rattle.std.specs.List.{All, prefix_len}
use Rattle.std.proofs.lemmas.Bool.{false≢true}
use Rattle.std.proofs.lemmas.List.Elements.{All-nil, All-cons}
use Rattle.lv_values.specs.Names.{is_blank}
use Rattle.lv_lexer.specs.declared.token.TokenKind.{TokenKind}
use Rattle.lv_lexer.specs.declared.token.Token.{Token}
use Rattle.lv_lexer.specs.Piece.{piece}
use Rattle.lv_lexer.specs.Scan.{Scans, is_over, after_blanks, text_in, IsTokenOf, AreInOrder}
use Rattle.lv_lexer.proofs.Fronts.{IsFront, is_front}
use Rattle.lv_lexer.proofs.Lines.{drop_twice}

-- where something comes, the line does not end
not_ended : (bytes : List ℕ) → is_over bytes ≡ false → 0 < length bytes
not_ended [] e = absurd (false≢true (sym e))
not_ended (b ∷ bytes) e = omega arith

module _ (line : List ℕ) (at : ℕ) (bytes : List ℕ) (rest : bytes ≡ drop at line) where
  behind_blanks : after_blanks bytes ≡ drop (at + prefix_len is_blank bytes) line
  behind_blanks = ap (drop (prefix_len is_blank bytes)) rest ∙ sym (drop_twice at (prefix_len is_blank bytes) line)

  stop_within : (stop : ℕ) → is_over (after_blanks bytes) ≡ false → stop ≡ at + prefix_len is_blank bytes → (at ≤ stop) × (stop < length line)
  stop_within stop o e =
      let some = not_ended (after_blanks bytes) o in
      (omega arith, omega (arith, ap length behind_blanks, length-drop (at + prefix_len is_blank bytes) line))

  module _ (t : Token) (found : piece (after_blanks bytes) ≡ Some (t.kind, t.end - t.start)) (start : t.start ≡ at + prefix_len is_blank bytes) (order : t.start ≤ t.end) where
    known : IsFront (after_blanks bytes) t.kind (t.end - t.start)
    known = is_front (after_blanks bytes) t.kind (t.end - t.start) found

    from_start : after_blanks bytes ≡ drop t.start line
    from_start = behind_blanks ∙ ap (λ (n : ℕ). drop n line) (sym start)

    end_within : t.end ≤ length line
    end_within = omega (arith, known.some, known.within, ap length from_start, length-drop t.start line)

    text_is : take (t.end - t.start) (after_blanks bytes) ≡ text_in line t
    text_is = ap (take (t.end - t.start)) from_start

    text_length : length (text_in line t) ≡ t.end - t.start
    text_length = ap length (sym text_is) ∙ length-take-le (t.end - t.start) (after_blanks bytes) known.within

    pub is_token : IsTokenOf line t
    is_token = record {
      order = omega (arith, known.some);
      within = end_within;
      spelled = ap piece (sym text_is) ∙ known.front ∙ ap (λ (n : ℕ). Some (t.kind, n)) (sym text_length);
    }

    pub after : drop (t.end - t.start) (after_blanks bytes) ≡ drop t.end line
    after = ap (drop (t.end - t.start)) from_start ∙ sym (drop_twice t.start (t.end - t.start) line) ∙ ap (λ (n : ℕ). drop n line) (omega arith)

pub in_order : (line : List ℕ) (at : ℕ) (bytes : List ℕ) (ts : List Token) (stopped : Option ℕ) → bytes ≡ drop at line → at ≤ length line → Scans at bytes ts stopped
    → AreInOrder (length line) at ts stopped
in_order line at bytes [] None rest within h = within
in_order line at bytes [] (Some stop) rest within (o, p, e) = stop_within line at bytes rest stop o e
in_order line at bytes (t ∷ more) stopped rest within (o, p, s, le, h) =
    let known = is_token line at bytes rest t p s le in
    (omega arith, known.order, in_order line t.end (drop (t.end - t.start) (after_blanks bytes)) more stopped (after line at bytes rest t p s le) known.within h)

pub each_token : (line : List ℕ) (at : ℕ) (bytes : List ℕ) (ts : List Token) (stopped : Option ℕ) → bytes ≡ drop at line → Scans at bytes ts stopped → All (IsTokenOf line) ts
each_token line at bytes [] stopped rest h = All-nil (IsTokenOf line)
each_token line at bytes (t ∷ more) stopped rest (o, p, s, le, h) =
    All-cons (IsTokenOf line) t more (is_token line at bytes rest t p s le)
    (each_token line t.end (drop (t.end - t.start) (after_blanks bytes)) more stopped (after line at bytes rest t p s le) h)

found : TokenKind → ℕ → Option (TokenKind × ℕ)
found k n = Some (k, n)

same_found : (k l : TokenKind) (m n : ℕ) → found k m ≡ found l n → (k ≡ l) × (m ≡ n)
unfolding found
same_found k l m n e =
    let at : Option (TokenKind × ℕ) → TokenKind × ℕ = λ o. elim o [ None ↦ (k, m) | Some p ↦ p ] in (ap (λ o. (at o).0) e, ap (λ o. (at o).1) e)

none_found : (k : TokenKind) (n : ℕ) → None ≡ found k n → ⊥
unfolding found
none_found k n e = cc

same_token : (t u : Token) → t.kind ≡ u.kind → t.start ≡ u.start → t.end ≡ u.end → t ≡ u
same_token t u e f g =
    let make : TokenKind → ℕ → ℕ → Token = λ k a b. record { kind = k; start = a; end = b } in
    ap (λ k. make k t.start t.end) e ∙ (ap (λ a. make u.kind a t.end) f ∙ ap (λ b. make u.kind u.start b) g)

-- a line has one list of tokens
pub scans_one : (at : ℕ) (bytes : List ℕ) (ts us : List Token) (s r : Option ℕ) → Scans at bytes ts s → Scans at bytes us r → (ts ≡ us) × (s ≡ r)
scans_one at bytes [] [] None None h k = (refl, refl)
scans_one at bytes [] [] None (Some q) h (k, l, m) = absurd (false≢true (sym k ∙ h))
scans_one at bytes [] [] (Some p) None (h, i, j) k = absurd (false≢true (sym h ∙ k))
scans_one at bytes [] [] (Some p) (Some q) (h, i, j) (k, l, m) = (refl, ap (λ x. Some x) (j ∙ sym m))
scans_one at bytes [] (u ∷ us) None r h (k, l, m, o, n) = absurd (false≢true (sym k ∙ h))
scans_one at bytes [] (u ∷ us) (Some p) r (h, i, j) (k, l, m, o, n) = absurd (none_found u.kind (u.end - u.start) (unfold found in (sym i ∙ l)))
scans_one at bytes (t ∷ ts) [] s None (h, i, j, o, n) k = absurd (false≢true (sym h ∙ k))
scans_one at bytes (t ∷ ts) [] s (Some q) (h, i, j, o, n) (k, l, m) = absurd (none_found t.kind (t.end - t.start) (unfold found in (sym l ∙ i)))
scans_one at bytes (t ∷ ts) (u ∷ us) s r (h, i, j, o, n) (k, l, m, p, q) =
    let pair = same_found t.kind u.kind (t.end - t.start) (u.end - u.start) (unfold found in (sym i ∙ l)) in
    let start : t.start ≡ u.start = j ∙ sym m in
    let end : t.end ≡ u.end = omega (arith, pair.1, start) in
    let token : t ≡ u = same_token t u pair.0 start end in
    let P : Token → Type 0 = λ x. Scans x.end (drop (x.end - x.start) (after_blanks bytes)) us r in
    let rest = scans_one t.end (drop (t.end - t.start) (after_blanks bytes)) ts us s r n (subst P (sym token) q) in
    (ap (λ x. x ∷ ts) token ∙ ap (λ x. u ∷ x) rest.0, rest.1)
