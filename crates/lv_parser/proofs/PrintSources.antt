-- What is read after FROM, with its condition, is read again where it is printed.
use Rattle.std.proofs.Common.{◌≡◌, ℕ, suc, ◌+◌, ◌≤◌, List, [], ◌∷◌, ◌++◌, map, length, Option, Some, None, option_map, inl, inr, refl, sym, ap, ◌∙◌, subst, append_assoc, arith}
use Rattle.std.specs.List.{AllByRecursion}
use Rattle.std.proofs.lemmas.Bool.{cases_lt}
use Rattle.std.proofs.lemmas.List.{length-map, map-append}
use Rattle.lv_lexer.specs.declared.terminals.Class.TheVariants as k
use Rattle.lv_lexer.specs.Written.{Lexeme}
use Rattle.lv_parser.specs.declared.tree.Named.{Named}
use Rattle.lv_parser.specs.declared.tree.RefTree.{RefTree}
use Rattle.lv_parser.specs.declared.tree.CondTree.{CondTree, out-CondTree, roll-CondTree}
use Rattle.lv_parser.specs.declared.tree.CondTree.TheVariants.{rolls-True, rolls-Cmp, rolls-And, rolls-Or, rolls-Not}
use Rattle.lv_parser.specs.declared.tree.CondTree.TheViews.{roll-out-CondTree}
use Rattle.lv_parser.specs.declared.tree.CondTree.TheOpen.{CondTree-F}
use Rattle.lv_parser.specs.declared.tree.CondTree.TheVariants as c
use Rattle.lv_parser.specs.declared.conditions.Within.{Within}
use Rattle.lv_parser.specs.declared.sources.Joined.{Joined}
use Rattle.lv_parser.specs.Rule.{Rule, token, pure, ◌>>=◌, ◌>>◌, ◌or◌, optional, many}
use Rattle.lv_parser.specs.Trees.{gathered, cond_or_true, with_on, tables_of, parts_of, condition_of}
use Rattle.lv_parser.specs.Grammar as rule
use Rattle.lv_parser.specs.Bare.{bare_name, bare_ref, bare_cond}
use Rattle.lv_parser.specs.Printed.{Shown, the, comma, shown, alias_tokens, ref_tokens, where_tokens, whole, join_tokens, joined_tokens, placed_parts, from_tokens, filter_tokens}
use Rattle.lv_parser.proofs.Apart.{filter_behind}
use Rattle.lv_parser.proofs.BareLemmas.{bare-And}
use Rattle.lv_parser.proofs.Keeps.{Keeps, token_keeps, then_keeps, word_keeps, made_keeps, or_keeps, OnFound, optional_keeps, many_keeps, each_of}
use Rattle.lv_parser.proofs.ShownLemmas.{shown-True, shown-Cmp, shown-And, shown-Or, shown-Not, whole-Some, whole-True, placed-And_few, placed-And_many}
use Rattle.lv_parser.proofs.PrintHonest.{IsHonest}
use Rattle.lv_parser.proofs.PrintShows.{Shows, then_shows, word_shows, made_shows, left_shows, right_shows, none_shows, option_shows, no_more_shows, more_shows, weaker, as_tokens_of}
use Rattle.lv_parser.proofs.PrintWords.{the_from, the_join, the_on, the_where, the_comma_sign}
use Rattle.lv_parser.proofs.PrintRules.{Again, Prints, NameAgain, name_prints}
use Rattle.lv_parser.proofs.PrintConds.{IsOne, IsWhole, cond_keeps}

-- ---- references

alias_again : (alias : Option Named) → OnFound NameAgain alias → Shows (optional (optional (token k.As) >> rule.name)) (λ o. option_map bare_name o ≡ option_map bare_name alias) (alias_tokens alias)
alias_again None h = none_shows (λ o. option_map bare_name o ≡ None) refl
alias_again (Some n) h = option_shows bare_name n (then_shows (none_shows (λ o. Unit {0}) tt) (λ o u. h))

pub ref_prints : Prints rule.ref bare_ref ref_tokens
unfolding rule.ref
ref_prints =
    then_keeps name_prints (λ t n. made_keeps (optional_keeps (then_keeps (optional_keeps (token_keeps k.As)) (λ o u. name_prints))) (λ alias h. then_shows n (λ x ex. made_shows (alias_again alias h)
    (λ o eo. cc))))

-- ---- WHERE

filter_some : (within : Within) (p : CondTree) → IsOne within p → Shows (rule.filter within) (λ o. option_map bare_cond o ≡ Some (bare_cond p)) (the "where" ∷ (shown p).tokens)
unfolding rule.filter
filter_some within p one = option_shows bare_cond p (word_shows the_where one)

filter_none : (within : Within) → Shows (rule.filter within) (λ o. option_map bare_cond o ≡ None) []
unfolding rule.filter
filter_none within = none_shows (λ o. option_map bare_cond o ≡ None) refl

-- what WHERE gave
abbrev pub IsFilter : Within → Option CondTree → Type 0
IsFilter within = OnFound (IsWhole within)

pub filter_keeps : (within : Within) → Keeps IsHonest (rule.filter within) (IsFilter within)
unfolding rule.filter
filter_keeps within = optional_keeps (word_keeps k.Where (cond_keeps within))

-- ---- the references behind the first

-- their part of the printed form, without WHERE
abbrev joins : List RefTree → List (List Lexeme) → List Lexeme
joins [] parts = []
joins (r ∷ more) (part ∷ next ∷ parts) = join_tokens r part ++ joins more (next ∷ parts)
joins (r ∷ more) parts = comma ∷ ref_tokens r ++ joins more parts

-- the parts that are left for WHERE
abbrev left_over : {A : Type 0} → List RefTree → List A → List A
left_over [] parts = parts
left_over (r ∷ more) (part ∷ next ∷ parts) = left_over more (next ∷ parts)
left_over (r ∷ more) parts = left_over more parts

-- the parts that stand after ON
abbrev taken : List RefTree → List CondTree → List CondTree
taken [] parts = []
taken (r ∷ more) (part ∷ next ∷ parts) = part ∷ taken more (next ∷ parts)
taken (r ∷ more) parts = taken more parts

joins_and_where : (refs : List RefTree) (parts : List (List Lexeme)) → joined_tokens refs parts ≡ joins refs parts ++ where_tokens (left_over refs parts)
joins_and_where [] parts = refl
joins_and_where (r ∷ more) [] = ap (λ (xs : List Lexeme). comma ∷ ref_tokens r ++ xs) (joins_and_where more []) ∙ sym (append_assoc (comma ∷ ref_tokens r) (joins more []) (where_tokens (left_over more [])))
joins_and_where (r ∷ more) (p ∷ []) =
    ap (λ (xs : List Lexeme). comma ∷ ref_tokens r ++ xs) (joins_and_where more (p ∷ [])) ∙ sym (append_assoc (comma ∷ ref_tokens r) (joins more (p ∷ [])) (where_tokens (left_over more (p ∷ []))))
joins_and_where (r ∷ more) (p ∷ q ∷ parts) =
    ap (λ (xs : List Lexeme). join_tokens r p ++ xs) (joins_and_where more (q ∷ parts))
    ∙ sym (append_assoc (join_tokens r p) (joins more (q ∷ parts)) (where_tokens (left_over more (q ∷ parts))))

taken_and_left : (refs : List RefTree) (parts : List CondTree) → parts ≡ taken refs parts ++ left_over refs parts
taken_and_left [] parts = refl
taken_and_left (r ∷ more) [] = taken_and_left more []
taken_and_left (r ∷ more) (p ∷ []) = taken_and_left more (p ∷ [])
taken_and_left (r ∷ more) (p ∷ q ∷ parts) = ap (λ (xs : List CondTree). p ∷ xs) (taken_and_left more (q ∷ parts))

none_left : (refs : List RefTree) → left_over {A = CondTree} refs [] ≡ []
none_left [] = refl
none_left (r ∷ more) = none_left more

one_left : (refs : List RefTree) (p : CondTree) → left_over refs (p ∷ []) ≡ p ∷ []
one_left [] p = refl
one_left (r ∷ more) p = one_left more p

left_map : {A B : Type 0} (f : A → B) (refs : List RefTree) (parts : List A) → left_over refs (map f parts) ≡ map f (left_over refs parts)
left_map f [] parts = refl
left_map f (r ∷ more) [] = left_map f more []
left_map f (r ∷ more) (p ∷ []) = left_map f more (p ∷ [])
left_map f (r ∷ more) (p ∷ q ∷ parts) = left_map f more (q ∷ parts)

-- the ON conditions
abbrev ons : List Joined → List CondTree
ons joined = parts_of joined None

-- what a reference behind the first is
abbrev another : Within → Rule Joined
another within =
    (do token k.Comma; table ← rule.ref; pure (record { table = table; on = None }))
    or (do optional (token k.Inner); token k.Join; table ← rule.ref; token k.On; on ← rule.cond within; pure (record { table = table; on = Some on }))

-- alike but for places
abbrev AlikeJoined : RefTree → Option CondTree → Joined → Type 0
AlikeJoined r on j = (bare_ref j.table ≡ bare_ref r) × (option_map bare_cond j.on ≡ option_map bare_cond on)

-- each reference can be printed
abbrev RefAgain : RefTree → Type 0
RefAgain = Again rule.ref bare_ref ref_tokens

comma_shows : (within : Within) (r : RefTree) → RefAgain r → Shows (another within) (AlikeJoined r None) (comma ∷ ref_tokens r)
comma_shows within r h = left_shows (word_shows the_comma_sign (made_shows h (λ a e. (e, refl))))

join_shows : (within : Within) (r : RefTree) (p : CondTree) → RefAgain r → IsOne within p → Shows (another within) (AlikeJoined r (Some p)) (join_tokens r (shown p).tokens)
join_shows within r p h one =
    right_shows (then_shows (none_shows (λ o. Unit {0}) tt) (λ o u. word_shows the_join (then_shows h (λ a e. word_shows the_on (made_shows one
    (λ b f. (e, ap (λ (x : CondTree). Some x) f)))))))

-- found references and their conditions are alike
abbrev AlikeAll : List RefTree → List CondTree → List Joined → Type 0
AlikeAll refs parts found = (map bare_ref (tables_of found) ≡ map bare_ref refs) × (map bare_cond (ons found) ≡ map bare_cond (taken refs parts))

one_more_table : (r : RefTree) (refs : List RefTree) (j : Joined) (found : List Joined) → bare_ref j.table ≡ bare_ref r → map bare_ref (tables_of found) ≡ map bare_ref refs → map bare_ref (tables_of (j ∷ found)) ≡ map bare_ref (r ∷ refs)
one_more_table r refs j found e f = cc

with_none : (on : Option CondTree) (xs ys : List CondTree) → option_map bare_cond on ≡ None → map bare_cond xs ≡ map bare_cond ys → map bare_cond (with_on on xs) ≡ map bare_cond ys
with_none None xs ys e f = f
with_none (Some p) xs ys e f = absurd cc

with_some : (on : Option CondTree) (p : CondTree) (xs ys : List CondTree) → option_map bare_cond on ≡ Some (bare_cond p) → map bare_cond xs ≡ map bare_cond ys → map bare_cond (with_on on xs) ≡ map bare_cond (p ∷ ys)
with_some None p xs ys e f = absurd cc
with_some (Some q) p xs ys e f = let same : bare_cond q ≡ bare_cond p = cc in cc

module _ (within : Within) where
  others_show : (refs : List RefTree) (parts : List CondTree) → AllByRecursion RefAgain refs → AllByRecursion (IsOne within) parts → Shows (many (another within)) (AlikeAll refs parts) (joins refs (map (λ p. (shown p).tokens) parts))
  others_show [] parts each ones = no_more_shows (refl, refl)
  others_show (r ∷ more) [] each ones =
      more_shows (comma_shows within r each.0) (others_show more [] each.1 tt) (λ j found a b. (one_more_table r more j found a.0 b.0, with_none j.on (ons found) (taken more []) a.1 b.1))
  others_show (r ∷ more) (p ∷ []) each ones =
      more_shows (comma_shows within r each.0) (others_show more (p ∷ []) each.1 ones) (λ j found a b. (one_more_table r more j found a.0 b.0, with_none j.on (ons found) (taken more (p ∷ [])) a.1 b.1))
  others_show (r ∷ more) (p ∷ q ∷ parts) each ones =
      more_shows (join_shows within r p each.0 ones.0) (others_show more (q ∷ parts) each.1 ones.1) (λ j found a b. (one_more_table r more j found a.0 b.0, with_some j.on p (ons found) (taken more (q ∷ parts)) a.1 b.1))

  left_each : (refs : List RefTree) (parts : List CondTree) → AllByRecursion (IsOne within) parts → AllByRecursion (IsOne within) (left_over refs parts)
  left_each [] parts ones = ones
  left_each (r ∷ more) [] ones = left_each more [] ones
  left_each (r ∷ more) (p ∷ []) ones = left_each more (p ∷ []) ones
  left_each (r ∷ more) (p ∷ q ∷ parts) ones = left_each more (q ∷ parts) ones.1

left_small : (refs : List RefTree) (parts : List CondTree) → length parts ≤ length refs + 1 → length (left_over refs parts) ≤ 1
left_small [] parts h = omega arith
left_small (r ∷ more) [] h = left_small more [] (omega arith)
left_small (r ∷ more) (p ∷ []) h = left_small more (p ∷ []) (omega arith)
left_small (r ∷ more) (p ∷ q ∷ parts) h = left_small more (q ∷ parts) (omega arith)

-- conditions with parts that are alike are alike
gathered_same : (xs ys : List CondTree) → map bare_cond xs ≡ map bare_cond ys → bare_cond (gathered c.And xs) ≡ bare_cond (gathered c.And ys)
gathered_same [] [] e = refl
gathered_same [] (y ∷ ys) e = absurd cc
gathered_same (x ∷ xs) [] e = absurd cc
gathered_same (x ∷ []) (y ∷ []) e = cc
gathered_same (x ∷ []) (y ∷ z ∷ ys) e = absurd cc
gathered_same (x ∷ w ∷ xs) (y ∷ []) e = absurd cc
gathered_same (x ∷ w ∷ xs) (y ∷ z ∷ ys) e = bare-And (x ∷ w ∷ xs) ∙ ap c.And e ∙ sym (bare-And (y ∷ z ∷ ys))

-- ---- FROM and WHERE together

-- alike but for places
abbrev pub AlikeFrom : List RefTree → CondTree → List Joined → Option CondTree → Type 0
AlikeFrom refs p joined kept = (map bare_ref (tables_of joined) ≡ map bare_ref refs) × (bare_cond (condition_of joined kept) ≡ bare_cond p)

abbrev pub AlikeRefs : RefTree → List RefTree → List CondTree → List Joined → Type 0
AlikeRefs first more parts found = (map bare_ref (tables_of found) ≡ map bare_ref (first ∷ more)) × (map bare_cond (ons found) ≡ map bare_cond (taken more parts))

-- the printed references and condition are read again
pub record PrintsFrom (within : Within) (refs : List RefTree) (p : CondTree) : Type 0 where
  pub first : RefTree
  pub more : List RefTree
  pub parts : List CondTree
  pub from_part : List Lexeme
  pub where_part : List Lexeme
  pub tokens : from_tokens refs p ≡ from_part ++ where_part
  pub from : Shows (rule.from within) (AlikeRefs first more parts) from_part
  pub filter : (joined : List Joined) → AlikeRefs first more parts joined → Shows (rule.filter within) (AlikeFrom refs p joined) where_part

module _ (within : Within) (first : RefTree) (more : List RefTree) (p : CondTree) (ps : List CondTree) (ref : RefAgain first) (each : AllByRecursion RefAgain more) (ones : AllByRecursion (IsOne within) ps)
    (few : length ps ≤ suc (length more)) (placed : placed_parts (suc (length more)) (shown p) ≡ map (λ q. (shown q).tokens) ps) (gathers : p ≡ gathered c.And ps) where
  from_shows : Shows (rule.from within) (AlikeRefs first more ps) (the "from" ∷ ref_tokens first ++ joins more (map (λ q. (shown q).tokens) ps))
  unfolding rule.from
  from_shows =
      word_shows the_from (then_shows ref (λ a e. made_shows (others_show within more ps each ones)
      (λ found alike. (ap (λ (x : RefTree). x ∷ map bare_ref (tables_of found)) e ∙ ap (λ (xs : List RefTree). bare_ref first ∷ xs) alike.0, alike.1))))

  -- the parts that were read, in order
  conditions : (joined : List Joined) (kept : Option CondTree) (left : List CondTree) → left_over more ps ≡ left → AlikeRefs first more ps joined → map bare_cond (with_on kept []) ≡ map bare_cond left
      → AlikeFrom (first ∷ more) p joined kept
  conditions joined kept left are alike last =
      let read : map bare_cond (parts_of joined kept) ≡ map bare_cond (ons joined) ++ map bare_cond (with_on kept []) = ap (map bare_cond) (filter_behind joined kept) ∙ map-append bare_cond (ons joined) (with_on kept []) in
      let was : map bare_cond ps ≡ map bare_cond (taken more ps) ++ map bare_cond left =
      ap (map bare_cond) (taken_and_left more ps ∙ ap (λ (xs : List CondTree). taken more ps ++ xs) are) ∙ map-append bare_cond (taken more ps) left in
      let same : map bare_cond (parts_of joined kept) ≡ map bare_cond ps =
      read ∙ ap (λ (xs : List CondTree). xs ++ map bare_cond (with_on kept [])) alike.1 ∙ ap (λ (xs : List CondTree). map bare_cond (taken more ps) ++ xs) last ∙ sym was in
      (alike.0, gathered_same (parts_of joined kept) ps same ∙ ap bare_cond (sym gathers))

  kept_is : (kept : Option CondTree) (w : CondTree) → option_map bare_cond kept ≡ Some (bare_cond w) → map bare_cond (with_on kept []) ≡ map bare_cond (w ∷ [])
  kept_is None w e = absurd cc
  kept_is (Some q) w e = let same : bare_cond q ≡ bare_cond w = cc in ap (λ (x : CondTree). x ∷ []) same

  kept_none : (kept : Option CondTree) → option_map bare_cond kept ≡ None → map bare_cond (with_on kept []) ≡ []
  kept_none None e = refl
  kept_none (Some q) e = absurd cc

  -- WHERE, by the parts that are left
  abbrev Filters : List CondTree → Type 0
  Filters left = (joined : List Joined) → AlikeRefs first more ps joined → Shows (rule.filter within) (AlikeFrom (first ∷ more) p joined) (where_tokens (map (λ q. (shown q).tokens) left))

  filters : (left : List CondTree) → left_over more ps ≡ left → length left ≤ 1 → AllByRecursion (IsOne within) left → Filters left
  filters [] are small one joined alike = weaker (AlikeFrom (first ∷ more) p joined) (filter_none within) (λ kept e. conditions joined kept [] are alike (kept_none kept e))
  filters (w ∷ []) are small one joined alike = weaker (AlikeFrom (first ∷ more) p joined) (filter_some within w one.0) (λ kept e. conditions joined kept (w ∷ []) are alike (kept_is kept w e))
  filters (w ∷ x ∷ left) are small one joined alike = absurd (omega arith)

  prints_from : PrintsFrom within (first ∷ more) p
  prints_from =
      let texts = map (λ q. (shown q).tokens) ps in
      let left = left_over more ps in
      let by_left = filters left refl (left_small more ps (omega arith)) (left_each within more ps ones) in
      let from_part = the "from" ∷ ref_tokens first ++ joins more texts in
      let where_part = where_tokens (map (λ q. (shown q).tokens) left) in
      let parts : joined_tokens more (placed_parts (suc (length more)) (shown p)) ≡ joins more texts ++ where_part =
      ap (joined_tokens more) placed ∙ joins_and_where more texts ∙ ap (λ (xs : List (List Lexeme)). joins more texts ++ where_tokens xs) (left_map (λ q. (shown q).tokens) more ps) in
      record {
        first = first;
        more = more;
        parts = ps;
        from_part = from_part;
        where_part = where_part;
        tokens = ap (λ (xs : List Lexeme). the "from" ∷ ref_tokens first ++ xs) parts ∙ sym (append_assoc (the "from" ∷ ref_tokens first) (joins more texts) where_part);
        from = from_shows;
        filter = by_left;
      }

-- ---- what was read

-- a reference that was read, with its ON condition
abbrev IsJoined : Within → Joined → Type 0
IsJoined within j = RefAgain j.table × IsFilter within j.on

another_keeps : (within : Within) → Keeps IsHonest (another within) (IsJoined within)
another_keeps within =
    or_keeps (word_keeps k.Comma (made_keeps ref_prints (λ table h. (h, tt))))
    (then_keeps (optional_keeps (token_keeps k.Inner)) (λ o u. word_keeps k.Join (then_keeps ref_prints (λ table h. word_keeps k.On (made_keeps (cond_keeps within) (λ on cond. (h, cond)))))))

-- what FROM gave: a first reference, and others with their conditions
pub record IsFrom (within : Within) (joined : List Joined) : Type 0 where
  first : RefTree
  more : List Joined
  is : joined ≡ record { table = first; on = None } ∷ more
  ref : RefAgain first
  each : AllByRecursion (IsJoined within) more

pub from_keeps : (within : Within) → Keeps IsHonest (rule.from within) (IsFrom within)
unfolding rule.from
from_keeps within =
    word_keeps k.From (then_keeps ref_prints (λ first h. made_keeps (many_keeps (another_keeps within)) (λ more others. record { first = first; more = more; is = refl; ref = h; each = others })))

each_ref : (within : Within) (more : List Joined) → AllByRecursion (IsJoined within) more → AllByRecursion RefAgain (tables_of more)
each_ref within [] each = tt
each_ref within (j ∷ more) each = (each.0.0, each_ref within more each.1)

-- the parts of the condition
parts_known : (within : Within) (more : List Joined) (kept : Option CondTree) → AllByRecursion (IsJoined within) more → IsFilter within kept → AllByRecursion (IsWhole within) (parts_of more kept)
parts_known within [] None each filter = tt
parts_known within [] (Some p) each filter = (filter, tt)
parts_known within (j ∷ more) kept each filter = by j.on each.0.1 (parts_known within more kept each.1 filter)
  where
    by : (on : Option CondTree) → IsFilter within on → AllByRecursion (IsWhole within) (parts_of more kept) → AllByRecursion (IsWhole within) (with_on on (parts_of more kept))
    by None h rest = rest
    by (Some p) h rest = (h, rest)

parts_few : (more : List Joined) (kept : Option CondTree) → length (parts_of more kept) ≤ suc (length more)
parts_few [] None = omega arith
parts_few [] (Some p) = omega arith
parts_few (j ∷ more) kept = by j.on (parts_few more kept)
  where
    by : (on : Option CondTree) → length (parts_of more kept) ≤ suc (length more) → length (with_on on (parts_of more kept)) ≤ suc (suc (length more))
    by None h = omega arith
    by (Some p) h = omega arith

-- ---- the parts that are printed

texts : List CondTree → List (List Lexeme)
texts ps = map (λ q. (shown q).tokens) ps

-- the condition as parts that can be printed behind so many references
pub record Placed (within : Within) (refs : ℕ) (p : CondTree) : Type 0 where
  parts : List CondTree
  few : length parts ≤ refs
  placed : placed_parts refs (shown p) ≡ map (λ q. (shown q).tokens) parts
  gathers : p ≡ gathered c.And parts
  ones : AllByRecursion (IsOne within) parts

placed_none : (within : Within) (refs : ℕ) → Placed within refs c.True
placed_none within refs = record { parts = []; few = omega arith; placed = ap (placed_parts refs) shown-True; gathers = refl; ones = tt }

-- a condition that is no And stands alone
placed_alone : (within : Within) (refs : ℕ) (p : CondTree) → 1 ≤ refs → placed_parts refs (shown p) ≡ (shown p).tokens ∷ [] → IsOne within p → Placed within refs p
placed_alone within refs p some placed one = record { parts = p ∷ []; few = some; placed = placed; gathers = refl; ones = (one, tt) }

gathered_two : (ps : List CondTree) → 2 ≤ length ps → gathered c.And ps ≡ c.And ps
gathered_two [] h = absurd (omega arith)
gathered_two (p ∷ []) h = absurd (omega arith)
gathered_two (p ∷ q ∷ ps) h = refl

placed_and : (within : Within) (refs : ℕ) (p : CondTree) (ps : List CondTree) → 1 ≤ refs → p ≡ c.And ps → IsWhole within p → Placed within refs p
placed_and within refs p ps some is known = elim (cases_lt refs (length ps)) [
  | inl many ↦ placed_alone within refs p some
      (ap (λ (q : CondTree). placed_parts refs (shown q)) is ∙ placed-And_many refs ps many ∙ ap whole (shown-And ps)
      ∙ ap (λ (y : Shown). y.tokens ∷ []) (sym (shown-And ps)) ∙ ap (λ (q : CondTree). (shown q).tokens ∷ []) (sym is)) known.one
  | inr few ↦ record {
    parts = ps;
    few = few;
    placed = ap (λ (q : CondTree). placed_parts refs (shown q)) is ∙ placed-And_few refs ps few;
    gathers = is ∙ sym (gathered_two ps (known.parted.two ps is));
    ones = known.parted.parts ps is;
  }
]

-- one part
placed_one : (within : Within) (refs : ℕ) (p : CondTree) → 1 ≤ refs → IsWhole within p → Placed within refs p
placed_one within refs p some known = by (out-CondTree p) refl
  where
    alone_by : (q : CondTree) (x : Shown) → p ≡ q → shown q ≡ x → placed_parts refs x ≡ x.tokens ∷ [] → Placed within refs p
    alone_by q x is shows placed =
        placed_alone within refs p some (ap (λ (t : CondTree). placed_parts refs (shown t)) is ∙ ap (placed_parts refs) shows ∙ placed ∙ ap (λ (y : Shown). y.tokens ∷ []) (sym shows) ∙ ap (λ (t : CondTree). (shown t).tokens ∷ []) (sym is)) known.one

    by : (layer : CondTree-F CondTree) → out-CondTree p ≡ layer → Placed within refs p
    by CondTree-F.True e =
        let is : p ≡ c.True = sym (roll-out-CondTree p) ∙ ap roll-CondTree e ∙ rolls-True in
        absurd (known.parted.some (ap (λ (t : CondTree). (shown t).chain) is ∙ ap (λ (y : Shown). y.chain) shown-True))
    by (CondTree-F.Cmp op l r) e = alone_by (c.Cmp op l r) _ (sym (roll-out-CondTree p) ∙ ap roll-CondTree e ∙ rolls-Cmp op l r) (shown-Cmp op l r) refl
    by (CondTree-F.And ps) e = placed_and within refs p ps some (sym (roll-out-CondTree p) ∙ ap roll-CondTree e ∙ rolls-And ps) known
    by (CondTree-F.Or ps) e = alone_by (c.Or ps) _ (sym (roll-out-CondTree p) ∙ ap roll-CondTree e ∙ rolls-Or ps) (shown-Or ps) refl
    by (CondTree-F.Not q) e = alone_by (c.Not q) _ (sym (roll-out-CondTree p) ∙ ap roll-CondTree e ∙ rolls-Not q) (shown-Not q) refl

-- the condition of these parts
placed_gathered : (within : Within) (refs : ℕ) (qs : List CondTree) → length qs ≤ refs → AllByRecursion (IsWhole within) qs → Placed within refs (gathered c.And qs)
placed_gathered within refs [] few each = placed_none within refs
placed_gathered within refs (q ∷ []) few each = placed_one within refs q few each.0
placed_gathered within refs (q ∷ r ∷ more) few each = record {
  parts = q ∷ r ∷ more;
  few = few;
  placed = placed-And_few refs (q ∷ r ∷ more) few;
  gathers = refl;
  ones = each_of (IsWhole within) (IsOne within) (λ p h. h.one) (q ∷ r ∷ more) each;
}

-- What FROM and WHERE gave is read again where it is printed.
pub sources_again : (within : Within) (joined : List Joined) (kept : Option CondTree) → IsFrom within joined → IsFilter within kept → PrintsFrom within (tables_of joined) (condition_of joined kept)
sources_again within joined kept from filter =
    let all = record { table = from.first; on = None } ∷ from.more in
    let refs = suc (length (tables_of from.more)) in
    let few : length (parts_of from.more kept) ≤ refs = omega (arith, parts_few from.more kept, length-map from.more (λ j. j.table)) in
    let placed = placed_gathered within refs (parts_of from.more kept) few (parts_known within from.more kept from.each filter) in
    let P : List Joined → Type 0 = λ js. PrintsFrom within (tables_of js) (condition_of js kept) in
    subst P (sym from.is) (prints_from within from.first (tables_of from.more) (condition_of all kept) placed.parts from.ref (each_ref within from.more from.each) placed.ones placed.few placed.placed placed.gathers)

-- ---- a condition alone

-- WHERE of an UPDATE or a DELETE
pub filter_again : (within : Within) (kept : Option CondTree) → IsFilter within kept → Shows (rule.filter within) (λ o. bare_cond (cond_or_true o) ≡ bare_cond (cond_or_true kept)) (filter_tokens (cond_or_true kept))
filter_again within None h = as_tokens_of (sym (ap where_tokens whole-True)) (weaker (λ o. bare_cond (cond_or_true o) ≡ bare_cond c.True) (filter_none within) given)
  where
    given : (o : Option CondTree) → option_map bare_cond o ≡ None → bare_cond (cond_or_true o) ≡ bare_cond c.True
    given None e = refl
    given (Some q) e = absurd cc
filter_again within (Some p) h =
    as_tokens_of (sym (ap where_tokens (whole-Some p h.parted.some))) (weaker (λ o. bare_cond (cond_or_true o) ≡ bare_cond p) (filter_some within p h.one) given)
  where
    given : (o : Option CondTree) → option_map bare_cond o ≡ Some (bare_cond p) → bare_cond (cond_or_true o) ≡ bare_cond p
    given None e = absurd cc
    given (Some q) e = cc
