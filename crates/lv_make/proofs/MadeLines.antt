-- The lines of a text are those that it was made of.
use Rattle.std.proofs.Common.{◌≡◌, ℕ, zero, suc, ◌-◌, ◌*◌, ◌<◌, ◌≤◌, true, false, eqb, List, [], ◌∷◌, ◌++◌, length, map, refl, ap, ◌∙◌, arith}
use Rattle.std.specs.Prelude.{codes, slice_index}
use Rattle.std.specs.List.{list_all, AllByRecursion, onto_first}
use Rattle.std.specs.Str.{IsAscii, is_utf8}
use Rattle.std.proofs.lemmas.List.{length-append}
use Rattle.std.proofs.lemmas.Str.{IsUtf8-from_ascii, is_utf8-from_IsUtf8}
use Rattle.lv_lines.specs.ScriptLine.{pieces_of, without_return, lines_of}
use Rattle.lv_make.specs.ScriptText.{text_of}
use Rattle.lv_make.proofs.MadeStatements.{is_plain, IsPlain, first_of_both, second_of_both}

no_feed : (b : ℕ) → is_plain b ≡ true → eqb b 10 ≡ false
no_feed b e = grind arith

no_return : (b : ℕ) → is_plain b ≡ true → eqb b 13 ≡ false
no_return b e = grind arith

low : (b : ℕ) → is_plain b ≡ true → b < 128
low b e = grind arith

pieces_line : (line rest : List ℕ) → list_all is_plain line ≡ true → pieces_of ((line ++ codes "\n") ++ rest) ≡ line ∷ pieces_of rest
pieces_line [] rest plain = refl
pieces_line (b ∷ line) rest plain = rw (no_feed b (first_of_both (is_plain b) _ plain)) (ap (onto_first b) (pieces_line line rest (second_of_both (is_plain b) _ plain)))

at_plain : (line : List ℕ) (i : ℕ) → list_all is_plain line ≡ true → eqb (slice_index line i) 13 ≡ false
at_plain [] i plain = refl
at_plain (b ∷ line) zero plain = no_return b (first_of_both (is_plain b) _ plain)
at_plain (b ∷ line) (suc i) plain = at_plain line i (second_of_both (is_plain b) _ plain)

kept_line : (line : List ℕ) → list_all is_plain line ≡ true → without_return line ≡ line
kept_line line plain = rw (at_plain line (length line - 1) plain) refl

pub lines_back : (lines : List (List ℕ)) → AllByRecursion (IsPlain 65536) lines → lines_of (text_of lines) ≡ lines
lines_back [] all = refl
lines_back (line ∷ lines) all =
    ap (map without_return) (pieces_line line (text_of lines) all.0.plain)
    ∙ ap (λ (l : List ℕ). l ∷ lines_of (text_of lines)) (kept_line line all.0.plain)
    ∙ ap (λ (ls : List (List ℕ)). line ∷ ls) (lines_back lines all.1)

pub text_short : (lines : List (List ℕ)) → AllByRecursion (IsPlain 65536) lines → length (text_of lines) ≤ 65537 * length lines
text_short [] all = omega arith
text_short (line ∷ lines) all =
    omega (arith, length-append (line ++ codes "\n") (text_of lines), length-append line (codes "\n"), all.0.short, text_short lines all.1)

ascii : (line : List ℕ) → list_all is_plain line ≡ true → IsAscii line
ascii [] plain i = omega arith
ascii (b ∷ line) plain zero = low b (first_of_both (is_plain b) _ plain)
ascii (b ∷ line) plain (suc i) = ascii line (second_of_both (is_plain b) _ plain) i

pub plain_utf8 : (line : List ℕ) → list_all is_plain line ≡ true → is_utf8 line ≡ true
plain_utf8 line plain = is_utf8-from_IsUtf8 line (IsUtf8-from_ascii line (ascii line plain))

pub test : ℕ
test = 0
