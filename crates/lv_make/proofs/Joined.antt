-- Texts of rows of numbers, one more at a time.
use Rattle.std.proofs.Common.{◌≡◌, ℕ, zero, suc, ◌+◌, ◌==◌, if◌then◌else◌, List, [], ◌∷◌, ◌++◌, map, codes, arith}
use Rattle.std.specs.List.{flat_map, range_with_len}
use Rattle.std.proofs.lemmas.Grind.{common_steps}
use Rattle.lv_make.specs.ScriptText.{text_of, joined}

-- what a function makes of one more number
pub flat_map_next : {A : Type 0} (f : ℕ → List A) (a k j : ℕ) → a + k ≡ j → flat_map f (range_with_len a (k + 1)) ≡ flat_map f (range_with_len a k) ++ f j
flat_map_next f a zero j at = grind (arith, common_steps)
flat_map_next f a (suc k) j at = grind (arith, common_steps, flat_map_next f (a + 1) k j (omega arith))

module _ {A : Type 0} (separator : List ℕ) (text : A → List ℕ) (row : ℕ → A) where
  behind_next : (a k j : ℕ) → a + k ≡ j → flat_map (λ t. separator ++ t) (map text (map row (range_with_len a (k + 1))))
      ≡ flat_map (λ t. separator ++ t) (map text (map row (range_with_len a k))) ++ separator ++ text (row j)
  behind_next a zero j at = grind (arith, common_steps)
  behind_next a (suc k) j at = grind (arith, common_steps, behind_next (a + 1) k j (omega arith))

  pub joined_next : (a k j : ℕ) → a + k ≡ j → joined separator (map text (map row (range_with_len a (k + 1))))
      ≡ (joined separator (map text (map row (range_with_len a k))) ++ (if k == 0 then [] else separator)) ++ text (row j)
  joined_next a zero j at = grind (arith, common_steps)
  joined_next a (suc k) j at = grind (arith, common_steps, behind_next (a + 1) k j (omega arith))

-- the text of one more line
pub text_of_next : (lines : List (List ℕ)) (line : List ℕ) → text_of (lines ++ line ∷ []) ≡ text_of lines ++ line ++ codes "\n"
text_of_next lines line = grind (arith, common_steps)

-- three texts, one behind the other
pub three_behind : (out a b c one two : List ℕ) → one ≡ out ++ a → two ≡ one ++ b → two ++ c ≡ out ++ (a ++ b ++ c)
three_behind out a b c one two first second = grind (arith, common_steps)
