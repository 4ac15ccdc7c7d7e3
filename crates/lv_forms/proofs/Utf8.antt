-- UTF-8 as a test.
use Rattle.std.proofs.Common.{◌≡◌, ℕ, Bool, true, false, List, refl}
use Rattle.std.specs.Str.{is_utf8, IsUtf8}
use Rattle.std.proofs.lemmas.Str.{IsUtf8-from_is_utf8}

pub not_utf8 : (bytes : List ℕ) → (IsUtf8 bytes → ⊥) → is_utf8 bytes ≡ false
not_utf8 bytes h = at (is_utf8 bytes) refl where
  at : (t : Bool) → is_utf8 bytes ≡ t → is_utf8 bytes ≡ false
  at true e = absurd (h (IsUtf8-from_is_utf8 bytes e))
  at false e = e
