-- What is read of a condition is read again where it is printed.
use Rattle.std.proofs.Common.{◌≡◌, ℕ, zero, suc, Bool, true, false, List, [], ◌∷◌, map, ◌⊎◌, inl, inr, refl, sym, ap, ◌∙◌, subst, rules, arith, length, ◌≤◌}
use Rattle.std.specs.List.{AllByRecursion}
use Rattle.std.proofs.lemmas.Simd.{map-map}
use Rattle.lv_lexer.specs.declared.terminals.Class.{Class}
use Rattle.lv_lexer.specs.declared.terminals.Class.TheVariants as k
use Rattle.lv_lexer.specs.declared.terminals.Terminal.{Terminal}
use Rattle.lv_lexer.specs.Written.{Lexeme}
use Rattle.lv_parser.specs.declared.tree.Sign.{Sign}
use Rattle.lv_parser.specs.declared.tree.OperandTree.{OperandTree}
use Rattle.lv_parser.specs.declared.tree.CondTree.{CondTree, the_lemmas, out-CondTree}
use Rattle.lv_parser.specs.declared.tree.CondTree.TheOpen.{CondTree-F}
use Rattle.lv_parser.specs.declared.tree.CondTree.TheVariants as c
use Rattle.lv_parser.specs.declared.conditions.Within.{Within}
use Rattle.lv_parser.specs.Rule.{Rule, token, ◌>>◌, ◌<$>◌, separated, ReadsEach}
use Rattle.lv_parser.specs.Trees.{gathered}
use Rattle.lv_parser.specs.Grammar as rule
use Rattle.lv_parser.specs.Bare.{bare_cond, bare_operand}
use Rattle.lv_parser.specs.Printed.{Chain, Nothing, Single, Ands, Ors, Shown, between, the, in_parens, shown, is_wrapped, part_tokens}
use Rattle.lv_parser.proofs.BareLemmas.{bare-Cmp, bare-And, bare-Or, bare-Not, gathered_alike}
use Rattle.lv_parser.proofs.Keeps.{Keeps, pure_keeps, then_keeps, word_keeps, made_keeps, or_keeps, weaker_keeps, SomeOf, separated_keeps, each_of}
use Rattle.lv_parser.proofs.ShownLemmas.{shown-Cmp, shown-And, shown-Or, shown-Not}
use Rattle.lv_parser.proofs.PrintHonest.{IsHonest}
use Rattle.lv_parser.proofs.PrintShows.{Shows, pure_shows, then_shows, word_shows, made_shows, left_shows, right_shows, as_tokens_of}
use Rattle.lv_parser.proofs.PrintWords.{IsThe, the_and, the_or, the_not, the_left_paren, the_right_paren}
use Rattle.lv_parser.proofs.PrintRules.{Again, operand_prints, op_prints, list_again}

-- ---- a rule that reads more

abbrev Reads : Rule CondTree → Rule CondTree → Type 0
Reads u v = (ts : List Terminal) (a : CondTree) (rest : List Terminal) → u.reads ts a rest → v.reads ts a rest

each_more : (k : Class) (u v : Rule CondTree) → Reads u v → (ts : List Terminal) (items : List CondTree) (rest : List Terminal) → ReadsEach (token k >> u) ts items rest → ReadsEach (token k >> v) ts items rest
each_more k u v more ts [] rest r = r
each_more k u v more ts (a ∷ items) rest (mid, (t, mid2, e, r), others) = (mid, (t, mid2, e, more mid2 a mid r), each_more k u v more mid items rest others)

conj_more : (u v : Rule CondTree) → Reads u v → Reads (rule.conj_of u) (rule.conj_of v)
conj_more u v more ts a rest (items, mid, (first, mid2, r, (others, mid3, s, made)), gathers) =
    (items, mid, (first, mid2, more ts first mid2 r, (others, mid3, each_more k.And u v more mid2 others mid3 s, made)), gathers)

cond_more : (u v : Rule CondTree) → Reads u v → Reads (rule.cond_of u) (rule.cond_of v)
cond_more u v more ts a rest (items, mid, (first, mid2, r, (others, mid3, s, made)), gathers) =
    let conj = conj_more u v more in
    (items, mid, (first, mid2, conj ts first mid2 r, (others, mid3, each_more k.Or (rule.conj_of u) (rule.conj_of v) conj mid2 others mid3 s, made)), gathers)

-- one level of nesting more
deeper : (within : Within) (depth : ℕ) → Reads (rule.unit within depth) (rule.unit within (suc depth))
unfolding rule.unit
deeper within zero ts a rest r = inr (inr r)
deeper within (suc depth) ts a rest (inl (t, mid, e, (inner, mid2, r, made))) = inl (t, mid, e, (inner, mid2, deeper within depth mid inner mid2 r, made))
deeper within (suc depth) ts a rest (inr (inl (t, mid, e, (inner, mid2, r, close)))) =
    inr (inl (t, mid, e, (inner, mid2, cond_more (rule.unit within depth) (rule.unit within (suc depth)) (deeper within depth) mid inner mid2 r, close)))
deeper within (suc depth) ts a rest (inr (inr r)) = inr (inr r)

wider_shows : {u v : Rule CondTree} {Q : CondTree → Type 0} {xs : List Lexeme} → Reads u v → Shows u Q xs → Shows v Q xs
wider_shows more first = record { spelled = first.spelled; again = λ ts rest s. let a = first.again ts rest s in (a.0, more ts a.0 rest a.1, a.2) }

cond_deeper : (within : Within) (depth : ℕ) → Reads (rule.cond_of (rule.unit within depth)) (rule.cond_of (rule.unit within (suc depth)))
cond_deeper within depth = cond_more (rule.unit within depth) (rule.unit within (suc depth)) (deeper within depth)

-- ---- one part alone

one_shows : (k : Class) (node : List CondTree → CondTree) {u : Rule CondTree} {Q : CondTree → Type 0} {xs : List Lexeme} → Shows u Q xs → Shows (gathered node <$> separated k u) Q xs
one_shows k node first = record {
  spelled = first.spelled;
  again = λ ts rest s. let a = first.again ts rest s in (a.0, (a.0 ∷ [], rest, (a.0, rest, a.1, ([], rest, refl, (refl, refl))), (refl, refl)), a.2);
}

-- ---- what is known of a condition that was read

-- alike but for places
abbrev pub Alike : CondTree → CondTree → Type 0
Alike p b = bare_cond b ≡ bare_cond p

abbrev as_unit : CondTree → List Lexeme
as_unit p = part_tokens true (shown p)

abbrev as_conj : CondTree → List Lexeme
as_conj p = part_tokens false (shown p)

abbrev pub alone : CondTree → List Lexeme
alone p = (shown p).tokens

-- there is a condition, and each part of an And can be printed as a condition by itself
pub record IsParted (K : CondTree → Type 0) (p : CondTree) : Type 0 where
  pub some : (shown p).chain ≡ Nothing → ⊥
  pub parts : (ps : List CondTree) → p ≡ c.And ps → AllByRecursion K ps
  pub two : (ps : List CondTree) → p ≡ c.And ps → 2 ≤ length ps

pub parted_more : (K L : CondTree → Type 0) → ((p : CondTree) → K p → L p) → (p : CondTree) → IsParted K p → IsParted L p
parted_more K L f p h = record { some = h.some; parts = λ ps e. each_of K L f ps (h.parts ps e); two = h.two }

module _ (within : Within) (depth : ℕ) where
  -- read again where it is printed as a condition by itself
  abbrev pub IsAlone : CondTree → Type 0
  IsAlone p = Shows (rule.cond_of (rule.unit within depth)) (Alike p) (alone p)

  -- so read as a condition; as a part of an Or too; and as a part of an And
  pub record IsCond (p : CondTree) : Type 0 where
    pub parted : IsParted IsAlone p
    pub cond : IsAlone p

  pub record IsConj (p : CondTree) : Type 0 where
    pub as_cond : IsCond p
    pub conj : Again (rule.conj_of (rule.unit within depth)) bare_cond as_conj p

  pub record IsUnit (p : CondTree) : Type 0 where
    pub as_part : IsConj p
    pub unit : Again (rule.unit within depth) bare_cond as_unit p

  -- by its chain
  abbrev pub Levels : Chain → CondTree → Type 0
  Levels Nothing p = IsUnit p
  Levels Single p = IsUnit p
  Levels Ands p = IsConj p
  Levels Ors p = IsCond p

  at_each_level : (chain : Chain) (p : CondTree) → IsUnit p → Levels chain p
  at_each_level Nothing p u = u
  at_each_level Single p u = u
  at_each_level Ands p u = u.as_part
  at_each_level Ors p u = u.as_part.as_cond

  pub cond_of_level : (chain : Chain) (p : CondTree) → Levels chain p → IsCond p
  cond_of_level Nothing p u = u.as_part.as_cond
  cond_of_level Single p u = u.as_part.as_cond
  cond_of_level Ands p u = u.as_cond
  cond_of_level Ors p u = u

-- in parentheses, one level deeper
in_parens_shows : (within : Within) (depth : ℕ) {Q : CondTree → Type 0} {xs : List Lexeme} → Shows (rule.cond_of (rule.unit within depth)) Q xs → Shows (rule.unit within (suc depth)) Q (in_parens xs)
unfolding rule.unit
in_parens_shows within depth first = right_shows (left_shows (word_shows the_left_paren (then_shows first (λ a q. word_shows the_right_paren (pure_shows q)))))

wrapped : (in_and : Bool) (p : CondTree) → is_wrapped in_and (shown p).chain ≡ true → in_parens (alone p) ≡ part_tokens in_and (shown p)
wrapped in_and p e = rw e refl

bare_part : (in_and : Bool) (p : CondTree) → is_wrapped in_and (shown p).chain ≡ false → alone p ≡ part_tokens in_and (shown p)
bare_part in_and p e = rw e refl

-- what stands in parentheses is a unit one level deeper, printed with them or without
module _ (within : Within) (depth : ℕ) (p : CondTree) where
  deeper_cond : IsCond within depth p → IsCond within (suc depth) p
  deeper_cond h = record {
    parted = parted_more (IsAlone within depth) (IsAlone within (suc depth)) (λ q g. wider_shows (cond_deeper within depth) g) p h.parted;
    cond = wider_shows (cond_deeper within depth) h.cond;
  }

  deeper_conj : IsConj within depth p → IsConj within (suc depth) p
  deeper_conj h = record { as_cond = deeper_cond h.as_cond; conj = wider_shows (conj_more (rule.unit within depth) (rule.unit within (suc depth)) (deeper within depth)) h.conj }

  up : (chain : Chain) → (shown p).chain ≡ chain → Levels within depth chain p → IsUnit within (suc depth) p
  up Nothing e u = record { as_part = deeper_conj u.as_part; unit = wider_shows (deeper within depth) u.unit }
  up Single e u = record { as_part = deeper_conj u.as_part; unit = wider_shows (deeper within depth) u.unit }
  up Ands e u = record { as_part = deeper_conj u; unit = as_tokens_of (wrapped true p (ap (is_wrapped true) e)) (in_parens_shows within depth u.as_cond.cond) }
  up Ors e u =
      let unit = in_parens_shows within depth u.cond in
      record {
        as_part = record { as_cond = deeper_cond u; conj = as_tokens_of (wrapped false p (ap (is_wrapped false) e)) (one_shows k.And c.And unit) };
        unit = as_tokens_of (wrapped true p (ap (is_wrapped true) e)) unit;
      }

-- a condition of this chain is no And
no_ands : (K : CondTree → Type 0) (p : CondTree) (chain : Chain) → (shown p).chain ≡ chain → (chain ≡ Nothing → ⊥) → (chain ≡ Ands → ⊥) → IsParted K p
no_ands K p chain e some other =
    let none : (ps : List CondTree) → p ≡ c.And ps → ⊥ = λ ps is. other (sym e ∙ ap (λ (q : CondTree). (shown q).chain) is ∙ ap (λ (y : Shown). y.chain) (shown-And ps)) in
    record { some = λ f. some (sym e ∙ f); parts = λ ps is. absurd (none ps is); two = λ ps is. absurd (none ps is) }

-- a comparison or a NOT
from_unit : (within : Within) (depth : ℕ) (p : CondTree) → (shown p).chain ≡ Single → Shows (rule.unit within depth) (Alike p) (alone p) → IsUnit within depth p
from_unit within depth p e unit =
    let conj = one_shows k.And c.And unit in
    record {
      as_part = record {
        as_cond = record { parted = no_ands (IsAlone within depth) p Single e (λ f. cc) (λ f. cc); cond = one_shows k.Or c.Or conj };
        conj = as_tokens_of (bare_part false p (ap (is_wrapped false) e)) conj;
      };
      unit = as_tokens_of (bare_part true p (ap (is_wrapped true) e)) unit;
    }

-- ---- comparisons and NOT

chain_of : (p : CondTree) (x : Shown) → shown p ≡ x → (shown p).chain ≡ x.chain
chain_of p x e = ap (λ (y : Shown). y.chain) e

tokens_of : (p : CondTree) (x : Shown) → shown p ≡ x → x.tokens ≡ alone p
tokens_of p x e = ap (λ (y : Shown). y.tokens) (sym e)

module _ (within : Within) where
  abbrev KnownComparison : CondTree → Type 0
  KnownComparison p = ((shown p).chain ≡ Single) × Shows (rule.comparison within) (Alike p) (alone p)

  comparison_keeps : Keeps IsHonest (rule.comparison within) KnownComparison
  unfolding rule.comparison
  comparison_keeps =
      then_keeps (operand_prints within) (λ left l. then_keeps op_prints (λ op o. made_keeps (operand_prints within) (λ right r. (
        chain_of (c.Cmp op left right) _ (shown-Cmp op left right),
        as_tokens_of (tokens_of (c.Cmp op left right) _ (shown-Cmp op left right)) (then_shows l (λ a ea. then_shows o (λ x ex. made_shows r (λ b eb. alike x a b op left right ex ea eb)))),
      ))))
    where
      alike : (x : Sign) (a b : OperandTree) (op : Sign) (left right : OperandTree) → x ≡ op → bare_operand a ≡ bare_operand left → bare_operand b ≡ bare_operand right → bare_cond (c.Cmp x a b) ≡ bare_cond (c.Cmp op left right)
      alike x a b op left right ex ea eb =
          bare-Cmp x a b ∙ ap (λ (y : Sign). c.Cmp y (bare_operand a) (bare_operand b)) ex ∙ ap (λ (y : OperandTree). c.Cmp op y (bare_operand b)) ea
          ∙ ap (λ (y : OperandTree). c.Cmp op (bare_operand left) y) eb ∙ sym (bare-Cmp op left right)

  not_shows : (depth : ℕ) (p : CondTree) → IsUnit within depth p → Shows (rule.unit within (suc depth)) (Alike (c.Not p)) (the "not" ∷ as_unit p)
  unfolding rule.unit
  not_shows depth p u = left_shows (word_shows the_not (made_shows u.unit (λ b e. bare-Not b ∙ ap (λ (y : CondTree). c.Not y) e ∙ sym (bare-Not p))))

  not_known : (depth : ℕ) (p : CondTree) → IsUnit within depth p → IsUnit within (suc depth) (c.Not p)
  not_known depth p u =
      from_unit within (suc depth) (c.Not p) (chain_of (c.Not p) _ (shown-Not p)) (as_tokens_of (tokens_of (c.Not p) _ (shown-Not p)) (not_shows depth p u))

-- ---- chains

-- two or more parts make one node
chain_again : (node : List CondTree → CondTree) (bare-node : (parts : List CondTree) → bare_cond (node parts) ≡ node (map bare_cond parts)) {u : Rule CondTree} (tokens : CondTree → List Lexeme) {k : Class} {x : Lexeme} → IsThe x k
    → (first second : CondTree) (more : List CondTree) → AllByRecursion (Again u bare_cond tokens) (first ∷ second ∷ more)
    → Shows (gathered node <$> separated k u) (Alike (node (first ∷ second ∷ more))) (between x (map tokens (first ∷ second ∷ more)))
chain_again node bare-node tokens the_x first second more each =
    made_shows (list_again bare_cond tokens the_x (first ∷ second ∷ more) (omega arith, each)) (λ found e. gathered_alike node bare-node found first second more e)

layer_same : (xs ys : List CondTree) → CondTree-F.And xs ≡ CondTree-F.And ys → xs ≡ ys
layer_same xs ys e = cc

opened : (xs : List CondTree) → out-CondTree (c.And xs) ≡ CondTree-F.And xs
opened xs = search (rules, the_lemmas)

same_parts : (xs ys : List CondTree) → c.And xs ≡ c.And ys → xs ≡ ys
same_parts xs ys e = layer_same xs ys (sym (opened xs) ∙ (ap out-CondTree e ∙ opened ys))

module _ (within : Within) (depth : ℕ) where
  and_known : (first second : CondTree) (more : List CondTree) → AllByRecursion (IsUnit within depth) (first ∷ second ∷ more) → IsConj within depth (c.And (first ∷ second ∷ more))
  and_known first second more each =
      let items = first ∷ second ∷ more in
      let tree = c.And items in
      let chain = chain_of tree _ (shown-And items) in
      let are : between (the "and") (map as_unit items) ≡ alone tree = ap (between (the "and")) (sym (map-map (part_tokens true) shown items)) ∙ tokens_of tree _ (shown-And items) in
      let units = each_of (IsUnit within depth) (Again (rule.unit within depth) bare_cond as_unit) (λ p u. u.unit) items each in
      let conj = as_tokens_of are (chain_again c.And bare-And as_unit the_and first second more units) in
      let each_alone = each_of (IsUnit within depth) (IsAlone within depth) (λ p u. u.as_part.as_cond.cond) items each in
      record {
        as_cond = record {
          parted = record {
            some = λ f. let h : Ands ≡ Nothing = sym chain ∙ f in cc;
            parts = λ ps e. subst (AllByRecursion (IsAlone within depth)) (same_parts items ps e) each_alone;
            two = λ ps e. subst (λ (xs : List CondTree). 2 ≤ length xs) (same_parts items ps e) (omega arith);
          };
          cond = one_shows k.Or c.Or conj;
        };
        conj = as_tokens_of (bare_part false tree (ap (is_wrapped false) chain)) conj;
      }

  or_known : (first second : CondTree) (more : List CondTree) → AllByRecursion (IsConj within depth) (first ∷ second ∷ more) → IsCond within depth (c.Or (first ∷ second ∷ more))
  or_known first second more each =
      let items = first ∷ second ∷ more in
      let tree = c.Or items in
      let are : between (the "or") (map as_conj items) ≡ alone tree = ap (between (the "or")) (sym (map-map (part_tokens false) shown items)) ∙ tokens_of tree _ (shown-Or items) in
      let conjs = each_of (IsConj within depth) (Again (rule.conj_of (rule.unit within depth)) bare_cond as_conj) (λ p u. u.conj) items each in
      record {
        parted = no_ands (IsAlone within depth) tree Ors (chain_of tree _ (shown-Or items)) (λ f. cc) (λ f. cc);
        cond = as_tokens_of are (chain_again c.Or bare-Or as_conj the_or first second more conjs);
      }

  -- what a conjunction reads
  abbrev KnownConj : CondTree → Type 0
  KnownConj p = IsUnit within depth p ⊎ (IsConj within depth p × ((shown p).chain ≡ Ands))

  as_part_of_or : (p : CondTree) → KnownConj p → IsConj within depth p
  as_part_of_or p (inl u) = u.as_part
  as_part_of_or p (inr (u, e)) = u

  gathered_conj : (items : List CondTree) → SomeOf (IsUnit within depth) items → KnownConj (gathered c.And items)
  gathered_conj [] each = absurd (omega (arith, each.0))
  gathered_conj (first ∷ []) each = inl each.1.0
  gathered_conj (first ∷ second ∷ more) each = inr (and_known first second more each.1, chain_of (c.And (first ∷ second ∷ more)) _ (shown-And (first ∷ second ∷ more)))

  abbrev KnownCond : CondTree → Type 0
  KnownCond p = Levels within depth (shown p).chain p

  one_level : (p : CondTree) → KnownConj p → KnownCond p
  one_level p (inl u) = at_each_level within depth (shown p).chain p u
  one_level p (inr (u, e)) = let P : Chain → Type 0 = λ chain. Levels within depth chain p in subst P (sym e) u

  gathered_cond : (items : List CondTree) → SomeOf KnownConj items → KnownCond (gathered c.Or items)
  gathered_cond [] each = absurd (omega (arith, each.0))
  gathered_cond (first ∷ []) each = one_level first each.1.0
  gathered_cond (first ∷ second ∷ more) each =
      let items = first ∷ second ∷ more in
      let P : Chain → Type 0 = λ chain. Levels within depth chain (c.Or items) in
      subst P (sym (chain_of (c.Or items) _ (shown-Or items))) (or_known first second more (each_of KnownConj (IsConj within depth) as_part_of_or items each.1))

  cond_of_keeps : Keeps IsHonest (rule.unit within depth) (IsUnit within depth) → Keeps IsHonest (rule.cond_of (rule.unit within depth)) KnownCond
  cond_of_keeps unit = made_keeps (separated_keeps k.Or (made_keeps {Q = KnownConj} (separated_keeps k.And unit) gathered_conj)) gathered_cond

-- what a unit reads
unit_keeps : (within : Within) (depth : ℕ) → Keeps IsHonest (rule.unit within depth) (IsUnit within depth)
unfolding rule.unit
unit_keeps within zero = weaker_keeps (IsUnit within zero) (comparison_keeps within) (λ p h. from_unit within zero p h.0 h.1)
unit_keeps within (suc depth) =
    or_keeps (word_keeps k.Not (made_keeps (unit_keeps within depth) (λ p u. not_known within depth p u)))
    (or_keeps (word_keeps k.LeftParen (then_keeps (cond_of_keeps within depth (unit_keeps within depth)) (λ p h. word_keeps k.RightParen (pure_keeps p (up within depth p (shown p).chain refl h)))))
    (weaker_keeps (IsUnit within (suc depth)) (comparison_keeps within) (λ p h. from_unit within (suc depth) p h.0 (right_shows (right_shows h.1)))))

-- ---- a whole condition

-- printed as a condition by itself
abbrev pub IsOne : Within → CondTree → Type 0
IsOne within p = Shows (rule.cond within) (Alike p) (alone p)

pub record IsWhole (within : Within) (p : CondTree) : Type 0 where
  pub parted : IsParted (IsOne within) p
  pub one : IsOne within p

pub cond_keeps : (within : Within) → Keeps IsHonest (rule.cond within) (IsWhole within)
unfolding rule.cond
cond_keeps within =
    weaker_keeps (IsWhole within) (cond_of_keeps within rule.max_nesting (unit_keeps within rule.max_nesting)) (λ p h.
    let known = cond_of_level within rule.max_nesting (shown p).chain p h in record { parted = known.parted; one = known.cond })
