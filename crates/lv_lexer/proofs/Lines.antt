-- A line from a place on.
use Rattle.std.proofs.Common.{◌≡◌, ℕ, ◌+◌, ◌-◌, List, [], ◌∷◌, length, take, drop, refl, ap, ◌∙◌, arith}
use Rattle.std.specs.List.{prefix_len}
use Rattle.std.proofs.lemmas.Grind.{common_steps}
use Rattle.lv_values.specs.Names.{is_blank}
use Rattle.lv_lexer.specs.Scan.{after_blanks}

take_whole : (s : List ℕ) → take (length s) s ≡ s
take_whole [] = refl
take_whole (x ∷ s) = ap (λ r. x ∷ r) (take_whole s)

take_rest : (s : List ℕ) (i : ℕ) → take (length s - i) (drop i s) ≡ drop i s
take_rest s i = grind (arith, common_steps, take_whole (drop i s))

pub drop_twice : (a b : ℕ) (s : List ℕ) → drop (a + b) s ≡ drop b (drop a s)
drop_twice a b s = grind (arith, common_steps)

-- what stands behind the blanks
pub rest_is : (line : List ℕ) (at start : ℕ) → start ≡ at + prefix_len is_blank (drop at line) → take (length line - start) (drop start line) ≡ after_blanks (drop at line)
rest_is line at start blanks = take_rest line start ∙ (ap (λ k. drop k line) blanks ∙ drop_twice at (prefix_len is_blank (drop at line)) line)
