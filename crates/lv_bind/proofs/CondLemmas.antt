-- A bound condition compares, counts and nests as its tree does.
use Rattle.std.proofs.Common.{◌≡◌, ◌<◌, ◌≤◌, ◌+◌, ℕ, Bool, true, false, ◌&&◌, List, [], ◌∷◌, ◌++◌, map, length, refl, sym, ap, subst, subst₂, ◌∙◌, arith, ⊎_elim}
use Rattle.std.specs.Prelude.{nat_le, sum}
use Rattle.std.specs.List.{list_all}
use Rattle.std.proofs.lemmas.Bool.{and_from, and_parts, le-leb, leb-true}
use Rattle.std.proofs.lemmas.List.{length-append, length-map}
use Rattle.std.proofs.lemmas.List.Folds.{list_all-append}
use Rattle.std.proofs.lemmas.List.Sums.{sum_by-cons}
use Rattle.lv_parser.specs.declared.tree.CondTree.{CondTree, roll-CondTree}
use Rattle.lv_parser.specs.declared.tree.CondTree.TheOpen.{CondTree-F}
use Rattle.lv_parser.specs.declared.tree.CondTree.TheFolds.{fold-CondTree, fold-roll-CondTree, ind-CondTree, map-CondTree}
use Rattle.lv_parser.specs.declared.tree.CondTree.TheVariants as tree
use Rattle.lv_parser.specs.declared.tree.OperandTree.{OperandTree}
use Rattle.lv_parser.specs.declared.tree.Sign.{Sign}
use Rattle.lv_schema.specs.declared.cond.Cond.{Cond}
use Rattle.lv_schema.specs.declared.cond.Cond.TheOpen.{Cond-F}
use Rattle.lv_schema.specs.declared.cond.Cond.TheFolds.{fold-Cond, fold-roll-Cond}
use Rattle.lv_schema.specs.declared.cond.Cond.TheVariants.{rolls-True, rolls-Cmp, rolls-And, rolls-Or, rolls-Not}
use Rattle.lv_schema.specs.declared.table.Column.{Column}
use Rattle.lv_schema.specs.Bound.{both_are, branches, branches_step, compares, compares_step, comparisons, comparisons_step, deepest, depth, depth_step, is_some_parts, operand_text}
use Rattle.lv_bind.specs.Binding.{bound_cond, bound_op, bound_side, cond_step}
use Rattle.lv_bind.specs.Pieces.{Sides, joined, sides_of, sides_step}
use Rattle.lv_bind.specs.Sources.{Alias}
use Rattle.lv_bind.specs.Spoken.{chains_step, cond_in_line, is_chained, nesting, nesting_step, side_in_line, texts_step}
use Rattle.lv_bind.specs.Whole.{IsWhole, is_whole, whole_step}

-- ---- one layer, and all of them

abbrev layer : (X : Type 0) → List Alias → CondTree-F X → Cond-F X
layer X sources CondTree-F.True = Cond-F.True
layer X sources (CondTree-F.Cmp op l r) = Cond-F.Cmp (bound_op op) (bound_side sources l) (bound_side sources r)
layer X sources (CondTree-F.And xs) = Cond-F.And xs
layer X sources (CondTree-F.Or xs) = Cond-F.Or xs
layer X sources (CondTree-F.Not x) = Cond-F.Not x

fold_layer : (X : Type 0) (g : Cond-F X → X) (sources : List Alias) (y : CondTree-F Cond)
    → fold-Cond X g (cond_step sources y) ≡ g (layer X sources (map-CondTree Cond X (fold-Cond X g) y))
fold_layer X g sources CondTree-F.True = ap (fold-Cond X g) (sym rolls-True) ∙ fold-roll-Cond X g Cond-F.True
fold_layer X g sources (CondTree-F.Cmp op l r) =
    ap (fold-Cond X g) (sym (rolls-Cmp (bound_op op) (bound_side sources l) (bound_side sources r))) ∙ fold-roll-Cond X g (Cond-F.Cmp (bound_op op) (bound_side sources l) (bound_side sources r))
fold_layer X g sources (CondTree-F.And xs) = ap (fold-Cond X g) (sym (rolls-And xs)) ∙ fold-roll-Cond X g (Cond-F.And xs)
fold_layer X g sources (CondTree-F.Or xs) = ap (fold-Cond X g) (sym (rolls-Or xs)) ∙ fold-roll-Cond X g (Cond-F.Or xs)
fold_layer X g sources (CondTree-F.Not x) = ap (fold-Cond X g) (sym (rolls-Not x)) ∙ fold-roll-Cond X g (Cond-F.Not x)

module _ (X : Type 0) (g : Cond-F X → X) (sources : List Alias) where
  abbrev tree_step : CondTree-F X → X
  tree_step y = g (layer X sources y)

  abbrev Agrees : CondTree → Type 0
  Agrees c = fold-Cond X g (bound_cond sources c) ≡ fold-CondTree X tree_step c

  each_agrees : (ys : List ((q : CondTree) × Agrees q)) → map (fold-Cond X g) (map (bound_cond sources) (map (λ e. e.0) ys)) ≡ map (fold-CondTree X tree_step) (map (λ e. e.0) ys)
  each_agrees [] = refl
  each_agrees (y ∷ ys) = rw (y.1, each_agrees ys) refl

  layer_agrees : (y : CondTree-F ((q : CondTree) × Agrees q))
      → g (layer X sources (map-CondTree Cond X (fold-Cond X g) (map-CondTree CondTree Cond (bound_cond sources) (map-CondTree ((q : CondTree) × Agrees q) CondTree (λ e. e.0) y))))
      ≡ g (layer X sources (map-CondTree CondTree X (fold-CondTree X tree_step) (map-CondTree ((q : CondTree) × Agrees q) CondTree (λ e. e.0) y)))
  layer_agrees CondTree-F.True = refl
  layer_agrees (CondTree-F.Cmp op l r) = refl
  layer_agrees (CondTree-F.And ys) = ap (λ xs. g (Cond-F.And xs)) (each_agrees ys)
  layer_agrees (CondTree-F.Or ys) = ap (λ xs. g (Cond-F.Or xs)) (each_agrees ys)
  layer_agrees (CondTree-F.Not y) = ap (λ x. g (Cond-F.Not x)) y.1

  pub fold_bound : (c : CondTree) → fold-Cond X g (bound_cond sources c) ≡ fold-CondTree X tree_step c
  fold_bound = ind-CondTree Agrees (λ x y is.
      ap (fold-Cond X g) (fold-roll-CondTree Cond (cond_step sources) x)
      ∙ fold_layer X g sources (map-CondTree CondTree Cond (bound_cond sources) x)
      ∙ subst (λ z. g (layer X sources (map-CondTree Cond X (fold-Cond X g) (map-CondTree CondTree Cond (bound_cond sources) z))) ≡ g (layer X sources (map-CondTree CondTree X (fold-CondTree X tree_step) z))) is (layer_agrees y)
      ∙ sym (fold-roll-CondTree X tree_step x))

-- ---- two folds of one tree

module _ (A B : Type 0) (f : CondTree-F A → A) (g : CondTree-F B → B) (R : A → B → Type 0) where
  abbrev pub Related : CondTree → Type 0
  Related c = R (fold-CondTree A f c) (fold-CondTree B g c)

  pub two_folds : ((y : CondTree-F ((q : CondTree) × Related q))
      → R (f (map-CondTree CondTree A (fold-CondTree A f) (map-CondTree ((q : CondTree) × Related q) CondTree (λ e. e.0) y)))
      (g (map-CondTree CondTree B (fold-CondTree B g) (map-CondTree ((q : CondTree) × Related q) CondTree (λ e. e.0) y))))
      → (c : CondTree) → Related c
  two_folds step = ind-CondTree Related (λ x y is.
      subst₂ R (sym (fold-roll-CondTree A f x)) (sym (fold-roll-CondTree B g x))
      (subst (λ z. R (f (map-CondTree CondTree A (fold-CondTree A f) z)) (g (map-CondTree CondTree B (fold-CondTree B g) z))) is (step y)))

-- ---- what holds of a condition where it holds of each comparison

module _ (f : CondTree-F Bool → Bool) (p : Sides → Bool) (at_true : f CondTree-F.True ≡ true)
    (at_cmp : (op : Sign) (l r : OperandTree) → f (CondTree-F.Cmp op l r) ≡ p (l, r))
    (at_and : (parts : List Bool) → f (CondTree-F.And parts) ≡ list_all (λ part. part) parts)
    (at_or : (parts : List Bool) → f (CondTree-F.Or parts) ≡ list_all (λ part. part) parts)
    (at_not : (part : Bool) → f (CondTree-F.Not part) ≡ part) where
  abbrev Tests : Bool → List Sides → Type 0
  Tests b pairs = b ≡ list_all p pairs

  abbrev TestsSo : CondTree → Type 0
  TestsSo = Related Bool (List Sides) f sides_step Tests

  all_tested : (ys : List ((q : CondTree) × TestsSo q))
      → list_all (λ part. part) (map (fold-CondTree Bool f) (map (λ e. e.0) ys)) ≡ list_all p (joined (map sides_of (map (λ e. e.0) ys)))
  all_tested [] = refl
  all_tested (y ∷ ys) =
      ap (λ b. b && list_all (λ part. part) (map (fold-CondTree Bool f) (map (λ e. e.0) ys))) y.1
      ∙ ap (λ b. list_all p (sides_of y.0) && b) (all_tested ys)
      ∙ sym (list_all-append p (sides_of y.0) (joined (map sides_of (map (λ e. e.0) ys))))

  and_true : (b : Bool) → b ≡ (b && true)
  and_true true = refl
  and_true false = refl

  tested_layer : (y : CondTree-F ((q : CondTree) × TestsSo q))
      → Tests (f (map-CondTree CondTree Bool (fold-CondTree Bool f) (map-CondTree ((q : CondTree) × TestsSo q) CondTree (λ e. e.0) y)))
      (sides_step (map-CondTree CondTree (List Sides) sides_of (map-CondTree ((q : CondTree) × TestsSo q) CondTree (λ e. e.0) y)))
  tested_layer CondTree-F.True = at_true
  tested_layer (CondTree-F.Cmp op l r) = at_cmp op l r ∙ and_true (p (l, r))
  tested_layer (CondTree-F.And ys) = at_and _ ∙ all_tested ys
  tested_layer (CondTree-F.Or ys) = at_or _ ∙ all_tested ys
  tested_layer (CondTree-F.Not y) = at_not _ ∙ y.1

  pub each_tested : (c : CondTree) → fold-CondTree Bool f c ≡ list_all p (sides_of c)
  each_tested c = two_folds Bool (List Sides) f sides_step Tests tested_layer c

-- whether each comparison may be made
abbrev pub pair_fits : List (List Column) → List Alias → Sides → Bool
pair_fits aliases sources sides = both_are (operand_text aliases (bound_side sources sides.0)) (operand_text aliases (bound_side sources sides.1))

pub compares_bound : (aliases : List (List Column)) (sources : List Alias) (c : CondTree) → compares aliases (bound_cond sources c) ≡ list_all (pair_fits aliases sources) (sides_of c)
compares_bound aliases sources c =
    fold_bound Bool (compares_step aliases) sources c
    ∙ each_tested (λ y. compares_step aliases (layer Bool sources y)) (pair_fits aliases sources) refl (λ op l r. refl) (λ parts. refl) (λ parts. refl) (λ part. refl) c

-- whether no text holds a line feed
abbrev pub pair_in_line : Sides → Bool
pair_in_line sides = side_in_line sides.0 && side_in_line sides.1

pub texts_in_line : (c : CondTree) → cond_in_line c ≡ list_all pair_in_line (sides_of c)
texts_in_line c = each_tested texts_step pair_in_line refl (λ op l r. refl) (λ parts. refl) (λ parts. refl) (λ part. refl) c

-- ---- how many comparisons there are

module _ (sources : List Alias) where
  abbrev Counts : ℕ → List Sides → Type 0
  Counts n pairs = n ≡ length pairs

  abbrev counted_step : CondTree-F ℕ → ℕ
  counted_step y = comparisons_step (layer ℕ sources y)

  abbrev CountsSo : CondTree → Type 0
  CountsSo = Related ℕ (List Sides) counted_step sides_step Counts

  all_counted : (ys : List ((q : CondTree) × CountsSo q)) → sum (map (fold-CondTree ℕ counted_step) (map (λ e. e.0) ys)) ≡ length (joined (map sides_of (map (λ e. e.0) ys)))
  all_counted [] = refl
  all_counted (y ∷ ys) =
      sum_by-cons (λ n. n) (fold-CondTree ℕ counted_step y.0) (map (fold-CondTree ℕ counted_step) (map (λ e. e.0) ys))
      ∙ ap (λ n. n + sum (map (fold-CondTree ℕ counted_step) (map (λ e. e.0) ys))) y.1
      ∙ ap (λ n. length (sides_of y.0) + n) (all_counted ys)
      ∙ sym (length-append (sides_of y.0) (joined (map sides_of (map (λ e. e.0) ys))))

  counted_layer : (y : CondTree-F ((q : CondTree) × CountsSo q))
      → Counts (counted_step (map-CondTree CondTree ℕ (fold-CondTree ℕ counted_step) (map-CondTree ((q : CondTree) × CountsSo q) CondTree (λ e. e.0) y)))
      (sides_step (map-CondTree CondTree (List Sides) sides_of (map-CondTree ((q : CondTree) × CountsSo q) CondTree (λ e. e.0) y)))
  counted_layer CondTree-F.True = refl
  counted_layer (CondTree-F.Cmp op l r) = refl
  counted_layer (CondTree-F.And ys) = all_counted ys
  counted_layer (CondTree-F.Or ys) = all_counted ys
  counted_layer (CondTree-F.Not y) = y.1

  pub comparisons_bound : (c : CondTree) → comparisons (bound_cond sources c) ≡ length (sides_of c)
  comparisons_bound c = fold_bound ℕ comparisons_step sources c ∙ two_folds ℕ (List Sides) counted_step sides_step Counts counted_layer c

  -- ---- how deep it nests

  abbrev Same : ℕ → ℕ → Type 0
  Same a b = a ≡ b

  abbrev deep_step : CondTree-F ℕ → ℕ
  deep_step y = depth_step (layer ℕ sources y)

  abbrev NestsSo : CondTree → Type 0
  NestsSo = Related ℕ ℕ deep_step nesting_step Same

  all_nested : (ys : List ((q : CondTree) × NestsSo q)) → map (fold-CondTree ℕ deep_step) (map (λ e. e.0) ys) ≡ map nesting (map (λ e. e.0) ys)
  all_nested [] = refl
  all_nested (y ∷ ys) = rw (y.1, all_nested ys) refl

  nested_layer : (y : CondTree-F ((q : CondTree) × NestsSo q))
      → Same (deep_step (map-CondTree CondTree ℕ (fold-CondTree ℕ deep_step) (map-CondTree ((q : CondTree) × NestsSo q) CondTree (λ e. e.0) y)))
      (nesting_step (map-CondTree CondTree ℕ nesting (map-CondTree ((q : CondTree) × NestsSo q) CondTree (λ e. e.0) y)))
  nested_layer CondTree-F.True = refl
  nested_layer (CondTree-F.Cmp op l r) = refl
  nested_layer (CondTree-F.And ys) = ap (λ parts. 1 + deepest parts) (all_nested ys)
  nested_layer (CondTree-F.Or ys) = ap (λ parts. 1 + deepest parts) (all_nested ys)
  nested_layer (CondTree-F.Not y) = ap (λ n. 1 + n) y.1

  pub depth_bound : (c : CondTree) → depth (bound_cond sources c) ≡ nesting c
  depth_bound c = fold_bound ℕ depth_step sources c ∙ two_folds ℕ ℕ deep_step nesting_step Same nested_layer c

  -- ---- that its chains have two parts or more, and as many as a byte can count

  abbrev branched_step : CondTree-F Bool → Bool
  branched_step y = branches_step (layer Bool sources y)

  -- a whole chained condition of few comparisons branches well, and compares something
  abbrev Branches : Bool → Bool → List Sides → Bool → Type 0
  Branches chained whole pairs branched = chained ≡ true → whole ≡ true → length pairs ≤ 255 → (branched ≡ true) × (0 < length pairs)

  abbrev BranchesSo : CondTree → Type 0
  BranchesSo c = Branches (is_chained c) (is_whole c) (sides_of c) (fold-CondTree Bool branched_step c)

  all_branch : (ys : List ((q : CondTree) × BranchesSo q))
      → list_all (λ part. part) (map is_chained (map (λ e. e.0) ys)) ≡ true
      → list_all (λ part. part) (map is_whole (map (λ e. e.0) ys)) ≡ true
      → length (joined (map sides_of (map (λ e. e.0) ys))) ≤ 255
      → (list_all (λ part. part) (map (fold-CondTree Bool branched_step) (map (λ e. e.0) ys)) ≡ true) × (length ys ≤ length (joined (map sides_of (map (λ e. e.0) ys))))
  all_branch [] chained whole few = (refl, omega arith)
  all_branch (y ∷ ys) chained whole few =
      let chain : (is_chained y.0 ≡ true) × (list_all (λ part. part) (map is_chained (map (λ e. e.0) ys)) ≡ true) = and_parts (is_chained y.0) _ chained in
      let full : (is_whole y.0 ≡ true) × (list_all (λ part. part) (map is_whole (map (λ e. e.0) ys)) ≡ true) = and_parts (is_whole y.0) _ whole in
      let long : length (sides_of y.0 ++ joined (map sides_of (map (λ e. e.0) ys))) ≡ length (sides_of y.0) + length (joined (map sides_of (map (λ e. e.0) ys))) =
      length-append (sides_of y.0) (joined (map sides_of (map (λ e. e.0) ys))) in
      let one : (fold-CondTree Bool branched_step y.0 ≡ true) × (0 < length (sides_of y.0)) = y.1 chain.0 full.0 (omega (arith, few, long)) in
      let more : (list_all (λ part. part) (map (fold-CondTree Bool branched_step) (map (λ e. e.0) ys)) ≡ true) × (length ys ≤ length (joined (map sides_of (map (λ e. e.0) ys)))) =
      all_branch ys chain.1 full.1 (omega (arith, few, long)) in
      (and_from (fold-CondTree Bool branched_step y.0) _ one.0 more.0, omega (arith, long, one.1, more.1))

  chain_branches : (ys : List ((q : CondTree) × BranchesSo q))
      → Branches (nat_le 2 (length (map is_chained (map (λ e. e.0) ys))) && list_all (λ part. part) (map is_chained (map (λ e. e.0) ys)))
      (list_all (λ part. part) (map is_whole (map (λ e. e.0) ys))) (joined (map sides_of (map (λ e. e.0) ys)))
      (is_some_parts (map (fold-CondTree Bool branched_step) (map (λ e. e.0) ys)))
  chain_branches ys chained whole few =
      let chain : (nat_le 2 (length (map is_chained (map (λ e. e.0) ys))) ≡ true) × (list_all (λ part. part) (map is_chained (map (λ e. e.0) ys)) ≡ true) = and_parts _ _ chained in
      let more : (list_all (λ part. part) (map (fold-CondTree Bool branched_step) (map (λ e. e.0) ys)) ≡ true) × (length ys ≤ length (joined (map sides_of (map (λ e. e.0) ys)))) =
      all_branch ys chain.1 whole few in
      let size : length (map (fold-CondTree Bool branched_step) (map (λ e. e.0) ys)) ≡ length ys = length-map (map (λ e. e.0) ys) (fold-CondTree Bool branched_step) ∙ length-map ys (λ e. e.0) in
      let chain_size : length (map is_chained (map (λ e. e.0) ys)) ≡ length ys = length-map (map (λ e. e.0) ys) is_chained ∙ length-map ys (λ e. e.0) in
      let two : 2 ≤ length (map is_chained (map (λ e. e.0) ys)) = leb-true 2 _ chain.0 in
      let at_least : nat_le 2 (length (map (fold-CondTree Bool branched_step) (map (λ e. e.0) ys))) ≡ true = le-leb 2 _ (omega (arith, size, chain_size, two)) in
      let at_most : nat_le (length (map (fold-CondTree Bool branched_step) (map (λ e. e.0) ys))) 255 ≡ true = le-leb _ 255 (omega (arith, size, few, more.1)) in
      (rw (at_least, at_most, more.0) refl, omega (arith, chain_size, two, more.1))

  branched_layer : (y : CondTree-F ((q : CondTree) × BranchesSo q))
      → Branches (chains_step (map-CondTree CondTree Bool is_chained (map-CondTree ((q : CondTree) × BranchesSo q) CondTree (λ e. e.0) y)))
      (whole_step (map-CondTree CondTree Bool is_whole (map-CondTree ((q : CondTree) × BranchesSo q) CondTree (λ e. e.0) y)))
      (sides_step (map-CondTree CondTree (List Sides) sides_of (map-CondTree ((q : CondTree) × BranchesSo q) CondTree (λ e. e.0) y)))
      (branched_step (map-CondTree CondTree Bool (fold-CondTree Bool branched_step) (map-CondTree ((q : CondTree) × BranchesSo q) CondTree (λ e. e.0) y)))
  branched_layer CondTree-F.True chained whole few = (refl, absurd cc)
  branched_layer (CondTree-F.Cmp op l r) chained whole few = (refl, omega arith)
  branched_layer (CondTree-F.And ys) chained whole few = chain_branches ys chained whole few
  branched_layer (CondTree-F.Or ys) chained whole few = chain_branches ys chained whole few
  branched_layer (CondTree-F.Not y) chained whole few = y.1 chained whole few

  abbrev AtLayer : CondTree-F CondTree → Type 0
  AtLayer z = Branches (chains_step (map-CondTree CondTree Bool is_chained z)) (whole_step (map-CondTree CondTree Bool is_whole z)) (sides_step (map-CondTree CondTree (List Sides) sides_of z))
      (branched_step (map-CondTree CondTree Bool (fold-CondTree Bool branched_step) z))

  branches_so : (c : CondTree) → BranchesSo c
  branches_so = ind-CondTree BranchesSo (λ x y is.
      let here : AtLayer x = subst AtLayer is (branched_layer y) in
      subst (λ b. Branches b (is_whole (roll-CondTree x)) (sides_of (roll-CondTree x)) (fold-CondTree Bool branched_step (roll-CondTree x))) (sym (fold-roll-CondTree Bool chains_step x))
      (subst (λ b. Branches (chains_step (map-CondTree CondTree Bool is_chained x)) b (sides_of (roll-CondTree x)) (fold-CondTree Bool branched_step (roll-CondTree x))) (sym (fold-roll-CondTree Bool whole_step x))
      (subst (λ s. Branches (chains_step (map-CondTree CondTree Bool is_chained x)) (whole_step (map-CondTree CondTree Bool is_whole x)) s (fold-CondTree Bool branched_step (roll-CondTree x))) (sym (fold-roll-CondTree (List Sides) sides_step x))
      (subst (λ b. Branches (chains_step (map-CondTree CondTree Bool is_chained x)) (whole_step (map-CondTree CondTree Bool is_whole x)) (sides_step (map-CondTree CondTree (List Sides) sides_of x)) b) (sym (fold-roll-CondTree Bool branched_step x)) here))))

  pub branches_bound : (c : CondTree) → is_chained c ≡ true → IsWhole c → length (sides_of c) ≤ 255 → branches (bound_cond sources c) ≡ true
  branches_bound c chained whole few = fold_bound Bool branches_step sources c ∙ ⊎_elim missing there whole
    where
      missing : c ≡ tree.True → fold-CondTree Bool branched_step c ≡ true
      missing is = ap (fold-CondTree Bool branched_step) (is ∙ sym tree.rolls-True) ∙ fold-roll-CondTree Bool branched_step CondTree-F.True

      there : is_whole c ≡ true → fold-CondTree Bool branched_step c ≡ true
      there full = (branches_so c chained full few).0
