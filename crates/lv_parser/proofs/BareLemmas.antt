-- Conditions without places, level by level.
use Rattle.std.proofs.Common.{◌≡◌, List, [], ◌∷◌, map, sym, ap, ◌∙◌, rules}
use Rattle.lv_parser.specs.declared.tree.Sign.{Sign}
use Rattle.lv_parser.specs.declared.tree.OperandTree.{OperandTree}
use Rattle.lv_parser.specs.declared.tree.CondTree.{CondTree, the_lemmas}
use Rattle.lv_parser.specs.declared.tree.CondTree.TheVariants as c
use Rattle.lv_parser.specs.declared.tree.CondTree.TheVariants.{rolls-And, rolls-Or}
use Rattle.lv_parser.specs.declared.tree.CondTree.TheOpen.{CondTree-F}
use Rattle.lv_parser.specs.declared.tree.CondTree.TheFolds.{fold-roll-CondTree}
use Rattle.lv_parser.specs.Trees.{gathered}
use Rattle.lv_parser.specs.Bare.{bare_cond, bare_step, bare_operand}

pub bare-True : bare_cond c.True ≡ c.True
unfolding bare_cond
bare-True = search (rules, the_lemmas)

pub bare-Cmp : (op : Sign) (l r : OperandTree) → bare_cond (c.Cmp op l r) ≡ c.Cmp op (bare_operand l) (bare_operand r)
unfolding bare_cond
bare-Cmp op l r = search (rules, the_lemmas)

pub bare-And : (parts : List CondTree) → bare_cond (c.And parts) ≡ c.And (map bare_cond parts)
unfolding bare_cond
bare-And parts = ap bare_cond (sym (rolls-And parts)) ∙ fold-roll-CondTree CondTree bare_step (CondTree-F.And parts)

pub bare-Or : (parts : List CondTree) → bare_cond (c.Or parts) ≡ c.Or (map bare_cond parts)
unfolding bare_cond
bare-Or parts = ap bare_cond (sym (rolls-Or parts)) ∙ fold-roll-CondTree CondTree bare_step (CondTree-F.Or parts)

pub bare-Not : (part : CondTree) → bare_cond (c.Not part) ≡ c.Not (bare_cond part)
unfolding bare_cond
bare-Not part = search (rules, the_lemmas)

module _ (node : List CondTree → CondTree) (bare-node : (parts : List CondTree) → bare_cond (node parts) ≡ node (map bare_cond parts)) where
  -- two or more parts that are alike make conditions that are alike
  pub gathered_alike : (found : List CondTree) (first second : CondTree) (more : List CondTree) → map bare_cond found ≡ map bare_cond (first ∷ second ∷ more)
      → bare_cond (gathered node found) ≡ bare_cond (node (first ∷ second ∷ more))
  gathered_alike [] first second more e = absurd cc
  gathered_alike (a ∷ []) first second more e = absurd cc
  gathered_alike (a ∷ b ∷ found) first second more e = bare-node (a ∷ b ∷ found) ∙ ap node e ∙ sym (bare-node (first ∷ second ∷ more))
