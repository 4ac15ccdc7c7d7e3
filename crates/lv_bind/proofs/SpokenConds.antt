-- What every condition of a line keeps: its texts are in the line, its chains have two parts or more, and it nests
-- only so deep.
use Rattle.std.proofs.Common.{◌≡◌, ℕ, zero, suc, ◌+◌, ◌-◌, ◌<◌, ◌≤◌, max, Bool, true, ◌&&◌, nat_le, List, [], ◌∷◌, map, length, Option, Some, None, inl, inr, refl, sym, ap, ◌∙◌, rules, arith, le-leb, length-append}
use Rattle.std.specs.List.{list_all}
use Rattle.lv_lexer.specs.declared.terminals.Class.{Class}
use Rattle.lv_lexer.specs.declared.terminals.Class.TheVariants as k
use Rattle.lv_lexer.specs.declared.terminals.Terminal.{Terminal}
use Rattle.lv_parser.specs.declared.tree.Named.{Named}
use Rattle.lv_parser.specs.declared.tree.CondTree.{CondTree, the_lemmas}
use Rattle.lv_parser.specs.declared.tree.CondTree.TheVariants as c
use Rattle.lv_parser.specs.declared.tree.CondTree.TheVariants.{rolls-And, rolls-Or}
use Rattle.lv_parser.specs.declared.tree.CondTree.TheOpen.{CondTree-F}
use Rattle.lv_parser.specs.declared.tree.CondTree.TheFolds.{fold-roll-CondTree}
use Rattle.lv_parser.specs.declared.tree.OperandTree.{OperandTree}
use Rattle.lv_parser.specs.declared.tree.RefTree.{RefTree}
use Rattle.lv_parser.specs.declared.tree.Sign.{Sign}
use Rattle.lv_parser.specs.Grammar as rule
use Rattle.lv_parser.specs.Rule.{Rule, token, pure, ◌>>◌}
use Rattle.lv_parser.specs.Trees.{column_of, number_at, gathered, cond_or_true, with_on, tables_of, parts_of, condition_of}
use Rattle.lv_schema.specs.Bound.{deepest}
use Rattle.lv_bind.specs.Pieces.{joined, Sides, sides_step, sides_of}
use Rattle.lv_bind.specs.Spoken.{is_spoken_name, value_in_line, side_in_line, cond_in_line, texts_step, is_chained, chains_step, nesting, nesting_step, IsSpokenCond}
use Rattle.lv_bind.specs.Whole.{is_whole, whole_step}
use Rattle.lv_bind.proofs.SpokenRules.{Keeps, token_keeps, pure_keeps, then_keeps, word_then, made_keeps, or_keeps, weaker, OnFound, optional_keeps, EachOf, many_keeps, SomeOf, separated_keeps, each_of}

-- ---- two types that the parser has no public name for

abbrev domain : {A : Type 0} → (A → Rule CondTree) → Type 0
domain {A = A} f = A

abbrev elements : {A : Type 0} → (List A → List RefTree) → Type 0
elements {A = A} f = A

-- where a condition stands
abbrev pub Within : Type 0
Within = domain rule.cond

-- a reference after FROM, with its ON condition
abbrev pub Joined : Type 0
Joined = elements tables_of

-- ---- names, values and sides

pub name_keeps : Keeps rule.name (λ n. is_spoken_name n.name ≡ true)
unfolding rule.name
name_keeps = made_keeps (λ n. is_spoken_name n.name ≡ true) (token_keeps k.Name) (λ t is. is.0.name is.1)

number_in_line : (minus : Option Terminal) (n : Terminal) → value_in_line (number_at minus n).value ≡ true
number_in_line None n = refl
number_in_line (Some minus) n = refl

pub literal_keeps : Keeps rule.literal (λ l. value_in_line l.value ≡ true)
unfolding rule.literal
literal_keeps =
    or_keeps (then_keeps (optional_keeps (token_keeps k.Minus)) (λ o u. made_keeps (λ l. value_in_line l.value ≡ true) (token_keeps k.Number) (λ n is. number_in_line o n)))
    (made_keeps (λ l. value_in_line l.value ≡ true) (token_keeps k.Quoted) (λ t is. is.0.quoted is.1))

column_named : (first : Named) (second : Option Named) → is_spoken_name first.name ≡ true → OnFound (λ n. is_spoken_name n.name ≡ true) second → is_spoken_name (column_of first second).name.name ≡ true
column_named first None e f = e
column_named first (Some second) e f = f

pub col_keeps : Keeps rule.col (λ col. is_spoken_name col.name.name ≡ true)
unfolding rule.col
col_keeps =
    then_keeps name_keeps (λ first e. made_keeps (λ col. is_spoken_name col.name.name ≡ true) (optional_keeps (word_then k.Dot name_keeps)) (λ second f. column_named first second e f))

operand_keeps : (within : Within) → Keeps (rule.operand within) (λ x. side_in_line x ≡ true)
unfolding rule.operand
operand_keeps within = or_keeps (made_keeps (λ x. side_in_line x ≡ true) col_keeps (λ col e. refl)) (made_keeps (λ x. side_in_line x ≡ true) literal_keeps (λ l e. e))

abbrev Any : Sign → Type 0
Any s = Unit {0}

op_keeps : Keeps rule.op Any
unfolding rule.op
op_keeps = or_keeps (any k.Equal _) (or_keeps (any k.NotEqual _) (or_keeps (any k.Less _) (or_keeps (any k.LessEqual _) (or_keeps (any k.Greater _) (any k.GreaterEqual _)))))
  where
    any : (class : Class) (s : Sign) → Keeps (token class >> pure s) Any
    any class s = word_then class (pure_keeps Any s tt)

-- ---- the three properties, level by level

in_line-True : cond_in_line c.True ≡ true
in_line-True = search (rules, the_lemmas)

in_line-Cmp : (op : Sign) (l r : OperandTree) → cond_in_line (c.Cmp op l r) ≡ (side_in_line l && side_in_line r)
in_line-Cmp op l r = search (rules, the_lemmas)

in_line-And : (parts : List CondTree) → cond_in_line (c.And parts) ≡ list_all (λ part. part) (map cond_in_line parts)
in_line-And parts = ap cond_in_line (sym (rolls-And parts)) ∙ fold-roll-CondTree Bool texts_step (CondTree-F.And parts)

in_line-Or : (parts : List CondTree) → cond_in_line (c.Or parts) ≡ list_all (λ part. part) (map cond_in_line parts)
in_line-Or parts = ap cond_in_line (sym (rolls-Or parts)) ∙ fold-roll-CondTree Bool texts_step (CondTree-F.Or parts)

in_line-Not : (part : CondTree) → cond_in_line (c.Not part) ≡ cond_in_line part
in_line-Not part = search (rules, the_lemmas)

chained-True : is_chained c.True ≡ true
chained-True = search (rules, the_lemmas)

chained-Cmp : (op : Sign) (l r : OperandTree) → is_chained (c.Cmp op l r) ≡ true
chained-Cmp op l r = search (rules, the_lemmas)

abbrev chain_passes : List CondTree → Bool
chain_passes parts = nat_le 2 (length (map is_chained parts)) && list_all (λ part. part) (map is_chained parts)

chained-And : (parts : List CondTree) → is_chained (c.And parts) ≡ chain_passes parts
chained-And parts = ap is_chained (sym (rolls-And parts)) ∙ fold-roll-CondTree Bool chains_step (CondTree-F.And parts)

chained-Or : (parts : List CondTree) → is_chained (c.Or parts) ≡ chain_passes parts
chained-Or parts = ap is_chained (sym (rolls-Or parts)) ∙ fold-roll-CondTree Bool chains_step (CondTree-F.Or parts)

chained-Not : (part : CondTree) → is_chained (c.Not part) ≡ is_chained part
chained-Not part = search (rules, the_lemmas)

whole-Cmp : (op : Sign) (l r : OperandTree) → is_whole (c.Cmp op l r) ≡ true
whole-Cmp op l r = search (rules, the_lemmas)

whole-And : (parts : List CondTree) → is_whole (c.And parts) ≡ list_all (λ part. part) (map is_whole parts)
whole-And parts = ap is_whole (sym (rolls-And parts)) ∙ fold-roll-CondTree Bool whole_step (CondTree-F.And parts)

whole-Or : (parts : List CondTree) → is_whole (c.Or parts) ≡ list_all (λ part. part) (map is_whole parts)
whole-Or parts = ap is_whole (sym (rolls-Or parts)) ∙ fold-roll-CondTree Bool whole_step (CondTree-F.Or parts)

whole-Not : (part : CondTree) → is_whole (c.Not part) ≡ is_whole part
whole-Not part = search (rules, the_lemmas)

nesting-True : nesting c.True ≡ 0
nesting-True = search (rules, the_lemmas)

nesting-Cmp : (op : Sign) (l r : OperandTree) → nesting (c.Cmp op l r) ≡ 0
nesting-Cmp op l r = search (rules, the_lemmas)

nesting-And : (parts : List CondTree) → nesting (c.And parts) ≡ 1 + deepest (map nesting parts)
nesting-And parts = ap nesting (sym (rolls-And parts)) ∙ fold-roll-CondTree ℕ nesting_step (CondTree-F.And parts)

nesting-Or : (parts : List CondTree) → nesting (c.Or parts) ≡ 1 + deepest (map nesting parts)
nesting-Or parts = ap nesting (sym (rolls-Or parts)) ∙ fold-roll-CondTree ℕ nesting_step (CondTree-F.Or parts)

nesting-Not : (part : CondTree) → nesting (c.Not part) ≡ 1 + nesting part
nesting-Not part = search (rules, the_lemmas)

-- ---- how many comparisons a condition has

abbrev compared : CondTree → ℕ
compared p = length (sides_of p)

sides-True : sides_of c.True ≡ []
sides-True = search (rules, the_lemmas)

sides-Cmp : (op : Sign) (l r : OperandTree) → sides_of (c.Cmp op l r) ≡ (l, r) ∷ []
sides-Cmp op l r = search (rules, the_lemmas)

sides-And : (parts : List CondTree) → sides_of (c.And parts) ≡ joined (map sides_of parts)
sides-And parts = ap sides_of (sym (rolls-And parts)) ∙ fold-roll-CondTree (List Sides) sides_step (CondTree-F.And parts)

sides-Or : (parts : List CondTree) → sides_of (c.Or parts) ≡ joined (map sides_of parts)
sides-Or parts = ap sides_of (sym (rolls-Or parts)) ∙ fold-roll-CondTree (List Sides) sides_step (CondTree-F.Or parts)

sides-Not : (part : CondTree) → sides_of (c.Not part) ≡ sides_of part
sides-Not part = search (rules, the_lemmas)

-- of all parts together
abbrev all_compared : List CondTree → ℕ
all_compared parts = length (joined (map sides_of parts))

all_compared-cons : (p : CondTree) (parts : List CondTree) → all_compared (p ∷ parts) ≡ compared p + all_compared parts
all_compared-cons p parts = length-append (sides_of p) (joined (map sides_of parts))

-- ---- conditions that nest at most so deep

-- And and Or add one level for each comparison at most, NOT adds so many.
pub record IsSound (levels nots : ℕ) (p : CondTree) : Type 0 where
  pub in_line : cond_in_line p ≡ true
  pub chained : is_chained p ≡ true
  pub shallow : nesting p ≤ levels
  pub some : 0 < compared p
  pub few : nesting p < nots + compared p
  pub whole : is_whole p ≡ true

deeper_sound : (m n a b : ℕ) → m ≤ n → a ≤ b → (p : CondTree) → IsSound m a p → IsSound n b p
deeper_sound m n a b le more p h = record { in_line = h.in_line; chained = h.chained; shallow = omega (arith, h.shallow); some = h.some; few = omega (arith, h.few); whole = h.whole }

cmp_sound : (op : Sign) (l r : OperandTree) → side_in_line l ≡ true → side_in_line r ≡ true → IsSound 0 0 (c.Cmp op l r)
cmp_sound op l r e f =
    let one : compared (c.Cmp op l r) ≡ 1 = ap length (sides-Cmp op l r) in
    record {
      in_line = in_line-Cmp op l r ∙ rw e f;
      chained = chained-Cmp op l r;
      shallow = omega (arith, nesting-Cmp op l r);
      some = omega arith;
      few = omega (arith, nesting-Cmp op l r);
      whole = whole-Cmp op l r;
    }

not_sound : (n d : ℕ) (p : CondTree) → IsSound n d p → IsSound (suc n) (suc d) (c.Not p)
not_sound n d p h =
    let same : compared (c.Not p) ≡ compared p = ap length (sides-Not p) in
    record {
      in_line = in_line-Not p ∙ h.in_line;
      chained = chained-Not p ∙ h.chained;
      shallow = omega (arith, nesting-Not p, h.shallow);
      some = omega (arith, h.some);
      few = omega (arith, nesting-Not p, h.few);
      whole = whole-Not p ∙ h.whole;
    }

all_map : (f : CondTree → Bool) (parts : List CondTree) → EachOf (λ p. f p ≡ true) parts → list_all (λ part. part) (map f parts) ≡ true
all_map f [] each = refl
all_map f (p ∷ parts) each = rw each.0 (all_map f parts each.1)

max_small : (a b n : ℕ) → a ≤ n → b ≤ n → max a b ≤ n
max_small a b n h k = omega arith

length_map : (parts : List CondTree) → length (map is_chained parts) ≡ length parts
length_map [] = refl
length_map (p ∷ parts) = ap suc (length_map parts)

module _ (n d : ℕ) where
  deepest_small : (parts : List CondTree) → EachOf (IsSound n d) parts → deepest (map nesting parts) ≤ n
  deepest_small [] each = omega arith
  deepest_small (p ∷ parts) each = max_small (nesting p) (deepest (map nesting parts)) n each.0.shallow (deepest_small parts each.1)

  many_compared : (parts : List CondTree) → EachOf (IsSound n d) parts → length parts ≤ all_compared parts
  many_compared [] each = omega arith
  many_compared (p ∷ parts) each = omega (arith, all_compared-cons p parts, each.0.some, many_compared parts each.1)

  -- beside the deepest part each other has a comparison
  deepest_few : (p : CondTree) (parts : List CondTree) → EachOf (IsSound n d) (p ∷ parts) → deepest (map nesting (p ∷ parts)) + length (p ∷ parts) ≤ d + all_compared (p ∷ parts)
  deepest_few p [] each = omega (arith, all_compared-cons p [], each.0.few, max_small (nesting p) 0 (nesting p) (omega arith) (omega arith))
  deepest_few p (q ∷ parts) each =
      let total = all_compared (q ∷ parts) in
      let rest = deepest_few q parts each.1 in
      let many = many_compared (q ∷ parts) each.1 in
      let limit = d + compared p + total - suc (suc (length parts)) in
      let small = max_small (nesting p) (deepest (map nesting (q ∷ parts))) limit (omega (arith, each.0.few, many)) (omega (arith, rest, each.0.some)) in
      omega (arith, all_compared-cons p (q ∷ parts), small, each.0.some, many)

  passes : (parts : List CondTree) → 2 ≤ length parts → EachOf (IsSound n d) parts → chain_passes parts ≡ true
  passes parts two each =
      rw (le-leb 2 (length (map is_chained parts)) (omega (arith, length_map parts)))
      (all_map is_chained parts (each_of (IsSound n d) (λ p. is_chained p ≡ true) (λ p h. h.chained) parts each))

  texts_pass : (parts : List CondTree) → EachOf (IsSound n d) parts → list_all (λ part. part) (map cond_in_line parts) ≡ true
  texts_pass parts each = all_map cond_in_line parts (each_of (IsSound n d) (λ p. cond_in_line p ≡ true) (λ p h. h.in_line) parts each)

  abbrev IsChainSound : (List CondTree → CondTree) → Type 0
  IsChainSound node = (p q : CondTree) (more : List CondTree) → EachOf (IsSound n d) (p ∷ q ∷ more) → IsSound (suc n) d (node (p ∷ q ∷ more))

  chain_sound : (node : List CondTree → CondTree) → ((parts : List CondTree) → cond_in_line (node parts) ≡ list_all (λ part. part) (map cond_in_line parts)) → ((parts : List CondTree) → is_chained (node parts) ≡ chain_passes parts)
      → ((parts : List CondTree) → is_whole (node parts) ≡ list_all (λ part. part) (map is_whole parts))
      → ((parts : List CondTree) → nesting (node parts) ≡ 1 + deepest (map nesting parts)) → ((parts : List CondTree) → sides_of (node parts) ≡ joined (map sides_of parts)) → IsChainSound node
  chain_sound node texts chains wholes nests sides p q more each =
      let parts = p ∷ q ∷ more in
      let total : compared (node parts) ≡ all_compared parts = ap length (sides parts) in
      record {
        in_line = texts parts ∙ texts_pass parts each;
        chained = chains parts ∙ passes parts (omega arith) each;
        shallow = omega (arith, nests parts, deepest_small parts each);
        some = omega (arith, total, many_compared parts each);
        few = omega (arith, nests parts, total, deepest_few p (q ∷ more) each);
        whole = wholes parts ∙ all_map is_whole parts (each_of (IsSound n d) (λ p. is_whole p ≡ true) (λ p h. h.whole) parts each);
      }

  and_sound : IsChainSound c.And
  and_sound = chain_sound c.And in_line-And chained-And whole-And nesting-And sides-And

  or_sound : IsChainSound c.Or
  or_sound = chain_sound c.Or in_line-Or chained-Or whole-Or nesting-Or sides-Or

  -- one part alone, or a chain
  gathered_sound : (node : List CondTree → CondTree) → IsChainSound node → (parts : List CondTree) → SomeOf (IsSound n d) parts → IsSound (suc n) d (gathered node parts)
  gathered_sound node chain [] each = absurd (omega (arith, each.0))
  gathered_sound node chain (p ∷ []) each = deeper_sound n (suc n) d d (omega arith) (omega arith) p each.1.0
  gathered_sound node chain (p ∷ q ∷ parts) each = chain p q parts each.1

-- ---- the rules of conditions

comparison_keeps : (within : Within) → Keeps (rule.comparison within) (IsSound 0 0)
unfolding rule.comparison
comparison_keeps within =
    then_keeps (operand_keeps within) (λ left e. then_keeps op_keeps (λ op u. made_keeps (IsSound 0 0) (operand_keeps within) (λ right f. cmp_sound op left right e f)))

conj_keeps : {u : Rule CondTree} (n d : ℕ) → Keeps u (IsSound n d) → Keeps (rule.conj_of u) (IsSound (suc n) d)
conj_keeps n d unit = made_keeps (IsSound (suc n) d) (separated_keeps k.And unit) (λ parts h. gathered_sound n d c.And (and_sound n d) parts h)

cond_of_keeps : {u : Rule CondTree} (n d : ℕ) → Keeps u (IsSound n d) → Keeps (rule.cond_of u) (IsSound (suc (suc n)) d)
cond_of_keeps n d unit = made_keeps (IsSound (suc (suc n)) d) (separated_keeps k.Or (conj_keeps n d unit)) (λ parts h. gathered_sound (suc n) d c.Or (or_sound (suc n) d) parts h)

-- an Or and an And for each level of parentheses
abbrev levels : ℕ → ℕ
levels zero = zero
levels (suc depth) = suc (suc (levels depth))

unit_keeps : (within : Within) (depth : ℕ) → Keeps (rule.unit within depth) (IsSound (levels depth) depth)
unfolding rule.unit
unit_keeps within zero = comparison_keeps within
unit_keeps within (suc depth) =
    let n = levels depth in
    let inside = unit_keeps within depth in
    or_keeps (word_then k.Not (made_keeps (IsSound (suc (suc n)) (suc depth)) inside (λ p h. deeper_sound (suc n) (suc (suc n)) (suc depth) (suc depth) (omega arith) (omega arith) (c.Not p) (not_sound n depth p h))))
    (or_keeps (word_then k.LeftParen (then_keeps (weaker (IsSound (suc (suc n)) (suc depth)) (cond_of_keeps n depth inside) (λ p h. deeper_sound (suc (suc n)) (suc (suc n)) depth (suc depth) (omega arith) (omega arith) p h))
    (λ p h. word_then k.RightParen (pure_keeps (IsSound (suc (suc n)) (suc depth)) p h))))
    (weaker (IsSound (suc (suc n)) (suc depth)) (comparison_keeps within) (λ p h. deeper_sound 0 (suc (suc n)) 0 (suc depth) (omega arith) (omega arith) p h)))

-- a whole condition
abbrev pub IsWhole : CondTree → Type 0
IsWhole p = IsSound 130 64 p

pub cond_keeps : (within : Within) → Keeps (rule.cond within) IsWhole
unfolding rule.cond
cond_keeps within = cond_of_keeps (levels rule.max_nesting) rule.max_nesting (unit_keeps within rule.max_nesting)

pub filter_keeps : (within : Within) → Keeps (rule.filter within) (OnFound IsWhole)
unfolding rule.filter
filter_keeps within = optional_keeps (word_then k.Where (cond_keeps within))

spoken_of : (p : CondTree) → IsSound 131 64 p → IsSpokenCond p
spoken_of p h = record { in_line = h.in_line; chained = h.chained; shallow = h.shallow; compared = omega (arith, h.few); whole = inr h.whole }

true_spoken : IsSpokenCond c.True
true_spoken = record { in_line = in_line-True; chained = chained-True; shallow = omega (arith, nesting-True); compared = omega (arith, nesting-True); whole = inl refl }

whole_spoken : (p : CondTree) → IsWhole p → IsSpokenCond p
whole_spoken p h = spoken_of p (deeper_sound 130 131 64 64 (omega arith) (omega arith) p h)

pub kept_spoken : (kept : Option CondTree) → OnFound IsWhole kept → IsSpokenCond (cond_or_true kept)
kept_spoken None h = true_spoken
kept_spoken (Some p) h = whole_spoken p h

-- ---- FROM

-- a reference that was read, with its ON condition
abbrev pub IsJoined : Joined → Type 0
IsJoined j = OnFound IsWhole j.on

abbrev AnyRef : RefTree → Type 0
AnyRef r = Unit {0}

ref_keeps : Keeps rule.ref AnyRef
unfolding rule.ref
ref_keeps =
    then_keeps name_keeps (λ table e. made_keeps AnyRef (optional_keeps (then_keeps (optional_keeps (token_keeps k.As)) (λ o u. name_keeps))) (λ alias h. tt))

pub from_keeps : (within : Within) → Keeps (rule.from within) (SomeOf IsJoined)
unfolding rule.from
from_keeps within =
    word_then k.From (then_keeps ref_keeps (λ first u. made_keeps (SomeOf IsJoined)
    (many_keeps (or_keeps (word_then k.Comma (made_keeps IsJoined ref_keeps (λ table v. tt)))
    (then_keeps (optional_keeps (token_keeps k.Inner)) (λ o v. word_then k.Join (then_keeps ref_keeps (λ table x. word_then k.On (made_keeps IsJoined (cond_keeps within) (λ on h. h))))))))
    (λ more each. (omega arith, (tt, each)))))

on_parts : (on : Option CondTree) (parts : List CondTree) → OnFound IsWhole on → EachOf IsWhole parts → EachOf IsWhole (with_on on parts)
on_parts None parts h each = each
on_parts (Some p) parts h each = (h, each)

each_part : (joined : List Joined) (kept : Option CondTree) → EachOf IsJoined joined → OnFound IsWhole kept → EachOf IsWhole (parts_of joined kept)
each_part [] kept each h = on_parts kept [] h tt
each_part (j ∷ more) kept each h = on_parts j.on (parts_of more kept) each.0 (each_part more kept each.1 h)

-- no part, one part alone, or their And
gathered_spoken : (parts : List CondTree) → EachOf IsWhole parts → IsSpokenCond (gathered c.And parts)
gathered_spoken [] each = true_spoken
gathered_spoken (p ∷ []) each = whole_spoken p each.0
gathered_spoken (p ∷ q ∷ parts) each = spoken_of (c.And (p ∷ q ∷ parts)) (and_sound 130 64 p q parts each)

pub joined_spoken : (joined : List Joined) (kept : Option CondTree) → EachOf IsJoined joined → OnFound IsWhole kept → IsSpokenCond (condition_of joined kept)
joined_spoken joined kept each h = gathered_spoken (parts_of joined kept) (each_part joined kept each h)

pub some_tables : (joined : List Joined) → 0 < length joined → 0 < length (tables_of joined)
some_tables [] h = absurd (omega arith)
some_tables (j ∷ more) h = omega arith
