-- The first line feed as the kit's search finds it, and how many bytes stand before it.
use Rattle.std.proofs.Common.{◌≡◌, ℕ, zero, suc, ◌+◌, Bool, true, false, eqb, List, [], ◌∷◌, length, Some, None, refl, arith}
use Rattle.memchr.specs.Find.{IsFirstByte, is_byte}
use Rattle.lv_lines.specs.ScriptLine.{piece_len}

pub not_met : (xs : List ℕ) → IsFirstByte (is_byte 10) xs None → piece_len xs ≡ length xs
not_met [] h = refl
not_met (x ∷ xs) h = at (eqb x 10) refl (not_met xs (λ k low high. h (suc k) (omega arith) (omega (arith, high)))) where
  at : (t : Bool) → eqb x 10 ≡ t → piece_len xs ≡ length xs → piece_len (x ∷ xs) ≡ length (x ∷ xs)
  at true is more = absurd (h 0 (omega arith) (omega arith) is)
  at false is more = let one : 1 + piece_len xs ≡ suc (length xs) = omega (arith, more) in rw is one

pub met : (xs : List ℕ) (k : ℕ) → IsFirstByte (is_byte 10) xs (Some k) → piece_len xs ≡ k
met [] k h = absurd (omega (arith, h.0.high))
met (x ∷ xs) zero h = rw (h.1) refl
met (x ∷ xs) (suc k) h = at (eqb x 10) refl (met xs k (record { low = omega arith; high = omega (arith, h.0.high); before = λ j low high. h.0.before (suc j) (omega arith) (omega (arith, high)) }, h.1)) where
  at : (t : Bool) → eqb x 10 ≡ t → piece_len xs ≡ k → piece_len (x ∷ xs) ≡ suc k
  at true is more = absurd (h.0.before 0 (omega arith) (omega arith) is)
  at false is more = let one : 1 + piece_len xs ≡ suc k = omega (arith, more) in rw is one
