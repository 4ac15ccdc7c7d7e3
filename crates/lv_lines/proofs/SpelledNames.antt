-- A name as it is spelled: what its lower case is, and that it is UTF-8.
use Rattle.std.proofs.Common.{◌≡◌, ℕ, suc, ◌<◌, Bool, true, false, nat_le, List, [], ◌∷◌, length, refl, ◌∙◌, sym, arith}
use Rattle.std.specs.Prelude.{◌&&◌}
use Rattle.std.specs.List.{list_all}
use Rattle.std.specs.Char.{to_ascii_lowercase}
use Rattle.std.specs.Str.{IsUtf8, str_to_ascii_lowercase}
use Rattle.std.proofs.lemmas.Bool.Decides.{nat_tests}
use Rattle.std.proofs.lemmas.List.{length-map}
use Rattle.std.proofs.lemmas.List.Sums.{AllPass-from_list_all}
use Rattle.std.proofs.lemmas.List.Elements.{All-cons, All-weaker}
use Rattle.std.proofs.lemmas.Str.{IsUtf8-from_ascii}
use Rattle.std.proofs.lemmas.Str.Ascii.{IsAscii-from_all, lowercase-lowercase}
use Rattle.lv_values.specs.Names.{is_letter, is_word_byte, begins_name, continues_name}
use Rattle.lv_lines.specs.SessionName.{is_name, is_spelled}

pub lower-lower : (word : List ℕ) → str_to_ascii_lowercase (str_to_ascii_lowercase word) ≡ str_to_ascii_lowercase word
lower-lower [] = refl
lower-lower (b ∷ bytes) = rw (lowercase-lowercase b, lower-lower bytes) refl

begins-lower : (b : ℕ) → begins_name (to_ascii_lowercase b) ≡ is_letter b
begins-lower b = grind (arith, nat_tests)

continues-lower : (b : ℕ) → continues_name (to_ascii_lowercase b) ≡ is_word_byte b
continues-lower b = grind (arith, nat_tests)

all_continue-lower : (bytes : List ℕ) → list_all continues_name (str_to_ascii_lowercase bytes) ≡ list_all is_word_byte bytes
all_continue-lower [] = refl
all_continue-lower (b ∷ bytes) = rw (continues-lower b, all_continue-lower bytes) refl

grouped : (a b c : Bool) → (a && b && c) ≡ (a && (b && c))
grouped true b c = refl
grouped false b c = refl

few : (n : ℕ) → nat_le (suc n) 32 ≡ nat_le n 31
few n = grind (arith, nat_tests)

pub is_name-spelled : (word : List ℕ) → is_name word ≡ is_spelled word
is_name-spelled [] = refl
is_name-spelled (b ∷ bytes) =
    rw (begins-lower b, all_continue-lower bytes, length-map bytes to_ascii_lowercase, few (length bytes)) (grouped (is_letter b) (list_all is_word_byte bytes) (nat_le (length bytes) 31))

ascii_begin : (b : ℕ) → is_letter b ≡ true → b < 128
ascii_begin b h = grind (arith, nat_tests)

ascii_continue : (b : ℕ) → is_word_byte b ≡ true → b < 128
ascii_continue b h = grind (arith, nat_tests)

both : (a b : Bool) → (a && b) ≡ true → (a ≡ true) × (b ≡ true)
both true b h = (cc, h)
both false b h = absurd cc

spelled_utf8 : (word : List ℕ) → is_spelled word ≡ true → IsUtf8 word
spelled_utf8 [] h = absurd cc
spelled_utf8 (b ∷ bytes) h =
    let parts = both _ _ h in
    let rest = both _ _ parts.1 in
    IsUtf8-from_ascii (b ∷ bytes)
    (IsAscii-from_all (b ∷ bytes) (All-cons (λ x. x < 128) b bytes (ascii_begin b parts.0) (All-weaker (λ x. is_word_byte x ≡ true) (λ x. x < 128) ascii_continue bytes (AllPass-from_list_all is_word_byte bytes rest.0))))

pub name_utf8 : (word : List ℕ) → is_name word ≡ true → IsUtf8 word
name_utf8 word h = spelled_utf8 word (sym (is_name-spelled word) ∙ h)
