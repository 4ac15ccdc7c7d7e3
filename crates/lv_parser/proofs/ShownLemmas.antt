-- The printed form of a condition, level by level.
use Rattle.std.proofs.Common.{◌≡◌, ℕ, ◌≤◌, ◌<◌, Bool, true, false, cond, nat_le, List, [], ◌∷◌, map, length, refl, sym, ap, ◌∙◌, rules, le-leb}
use Rattle.std.proofs.lemmas.Bool.{lt-leb}
use Rattle.std.proofs.lemmas.List.{length-map}
use Rattle.std.proofs.lemmas.Simd.{map-map}
use Rattle.lv_lexer.specs.Written.{Lexeme}
use Rattle.lv_parser.specs.declared.tree.Sign.{Sign}
use Rattle.lv_parser.specs.declared.tree.OperandTree.{OperandTree}
use Rattle.lv_parser.specs.declared.tree.CondTree.{CondTree, the_lemmas}
use Rattle.lv_parser.specs.declared.tree.CondTree.TheVariants as c
use Rattle.lv_parser.specs.declared.tree.CondTree.TheVariants.{rolls-And, rolls-Or}
use Rattle.lv_parser.specs.declared.tree.CondTree.TheOpen.{CondTree-F}
use Rattle.lv_parser.specs.declared.tree.CondTree.TheFolds.{fold-roll-CondTree}
use Rattle.lv_parser.specs.Printed.{Chain, Shown, Nothing, Single, Ands, Ors, shown, shown_step, single, no_condition, comparison_tokens, whole, placed_parts}

pub shown-True : shown c.True ≡ no_condition
shown-True = search (rules, the_lemmas)

pub shown-Cmp : (op : Sign) (l r : OperandTree) → shown (c.Cmp op l r) ≡ single (comparison_tokens op l r)
shown-Cmp op l r = search (rules, the_lemmas)

pub shown-And : (parts : List CondTree) → shown (c.And parts) ≡ shown_step (CondTree-F.And (map shown parts))
shown-And parts = ap shown (sym (rolls-And parts)) ∙ fold-roll-CondTree Shown shown_step (CondTree-F.And parts)

pub shown-Or : (parts : List CondTree) → shown (c.Or parts) ≡ shown_step (CondTree-F.Or (map shown parts))
shown-Or parts = ap shown (sym (rolls-Or parts)) ∙ fold-roll-CondTree Shown shown_step (CondTree-F.Or parts)

pub shown-Not : (part : CondTree) → shown (c.Not part) ≡ shown_step (CondTree-F.Not (shown part))
shown-Not part = search (rules, the_lemmas)

length-shown : (parts : List CondTree) → length (map (λ p. p.tokens) (map shown parts)) ≡ length parts
length-shown parts = length-map (map shown parts) (λ p. p.tokens) ∙ length-map parts shown

-- the parts of an And that are few enough, and of one that has too many
pub placed-And_few : (refs : ℕ) (parts : List CondTree) → length parts ≤ refs → placed_parts refs (shown (c.And parts)) ≡ map (λ p. (shown p).tokens) parts
placed-And_few refs parts h =
    ap (placed_parts refs) (shown-And parts) ∙ few (nat_le (length (map (λ p. p.tokens) (map shown parts))) refs) (ap (λ (n : ℕ). nat_le n refs) (length-shown parts) ∙ le-leb (length parts) refs h) ∙ map-map (λ p. p.tokens) shown parts
  where
    few : (t : Bool) → t ≡ true → cond t (map (λ p. p.tokens) (map shown parts)) (whole (shown_step (CondTree-F.And (map shown parts)))) ≡ map (λ p. p.tokens) (map shown parts)
    few true e = refl
    few false e = absurd cc

pub placed-And_many : (refs : ℕ) (parts : List CondTree) → refs < length parts → placed_parts refs (shown (c.And parts)) ≡ whole (shown (c.And parts))
placed-And_many refs parts h = ap (placed_parts refs) (shown-And parts) ∙ many (nat_le (length (map (λ p. p.tokens) (map shown parts))) refs) (ap (λ (n : ℕ). nat_le n refs) (length-shown parts) ∙ lt-leb (length parts) refs h) ∙ sym (ap whole (shown-And parts))
  where
    many : (t : Bool) → t ≡ false → cond t (map (λ p. p.tokens) (map shown parts)) (whole (shown_step (CondTree-F.And (map shown parts)))) ≡ whole (shown_step (CondTree-F.And (map shown parts)))
    many true e = absurd cc
    many false e = refl

pub whole-True : whole (shown c.True) ≡ []
whole-True = ap whole shown-True

-- where there is a condition, it is one part
pub whole-Some : (p : CondTree) → ((shown p).chain ≡ Nothing → ⊥) → whole (shown p) ≡ (shown p).tokens ∷ []
whole-Some p some = by (shown p).chain (shown p).tokens (shown p).parts some
  where
    by : (chain : Chain) (tokens : List Lexeme) (parts : List (List Lexeme)) → (chain ≡ Nothing → ⊥) → whole (record { chain = chain; tokens = tokens; parts = parts }) ≡ tokens ∷ []
    by Nothing tokens parts some = absurd (some refl)
    by Single tokens parts some = refl
    by Ands tokens parts some = refl
    by Ors tokens parts some = refl
