-- The links of a condition, by its kind; and every tuple that a condition keeps agrees in its links.
use Rattle.std.proofs.Common.{◌≡◌, ℕ, ◌+◌, ◌<◌, Bool, true, false, cond, ◌==◌, List, [], ◌∷◌, ◌++◌, map, length, take, get_or, Option, Some, None, refl, sym, ap, ◌∙◌, subst}
use Rattle.std.proofs.lemmas.List.{take_more}
use Rattle.std.proofs.lemmas.List.Elements.{filter_map-append}
use Rattle.std.specs.List.{cons_option, filter_map, AllByRecursion}
use Rattle.std.specs.Ordering.{is_eq}
use Rattle.std.specs.declared.cmp.Ordering.{Ordering}
use Rattle.std.specs.declared.cmp.Ordering.TheVariants.{Less, Equal, Greater}
use Rattle.lv_values.specs.Order.{value_cmp}
use Rattle.lv_values.specs.OrderLaws.{value_exact}
use Rattle.lv_schema.specs.declared.cond.Col.{Col}
use Rattle.lv_schema.specs.declared.cond.Cond.{Cond}
use Rattle.lv_schema.specs.declared.cond.Cond.TheFolds.{fold-roll-Cond, map-Cond}
use Rattle.lv_schema.specs.declared.cond.Cond.TheOpen.{Cond-F}
use Rattle.lv_schema.specs.declared.cond.Cond.TheVariants.{True, Cmp, And, Or, Not, rolls-True, rolls-Cmp, rolls-And, rolls-Or, rolls-Not}
use Rattle.lv_schema.specs.declared.cond.Cond.TheViews.{roll-Cond, out-Cond, roll-out-Cond}
use Rattle.lv_schema.specs.declared.cond.Op.{Op}
use Rattle.lv_schema.specs.declared.cond.Op.TheVariants.{Eq, Ne, Lt, Le, Gt, Ge}
use Rattle.lv_schema.specs.declared.cond.Operand.{Operand}
use Rattle.lv_schema.specs.declared.cond.Operand.TheVariants.{Column, Number, Text}
use Rattle.lv_schema.specs.declared.logic.Truth.{Truth}
use Rattle.lv_schema.specs.declared.logic.Truth.TheVariants.{No, Unknown, Yes}
use Rattle.lv_schema.specs.Truth.{operand_value, compared, both, all_of, truth_step, truth, is_yes, holds}
use Rattle.lv_schema.specs.Tuples.{Tuple, value_at}
use Rattle.lv_reach.specs.declared.link.Link.{Link}
use Rattle.lv_reach.specs.Links.{Found, found_step, found, as_list, link_of_columns, link_of_operands, link_of_comparison, link_of, links_of}

pub found-True : found True ≡ record { own = None; whole = [] }
found-True = ap found (sym rolls-True) ∙ fold-roll-Cond Found found_step Cond-F.True

pub found-Cmp : (op : Op) (left right : Operand) → found (Cmp op left right) ≡ record { own = link_of_comparison op left right; whole = as_list (link_of_comparison op left right) }
found-Cmp op left right = ap found (sym (rolls-Cmp op left right)) ∙ fold-roll-Cond Found found_step (Cond-F.Cmp op left right)

pub found-And : (parts : List Cond) → found (And parts) ≡ record { own = None; whole = filter_map (λ (part : Found). part.own) (map found parts) }
found-And parts = ap found (sym (rolls-And parts)) ∙ fold-roll-Cond Found found_step (Cond-F.And parts)

pub found-Or : (parts : List Cond) → found (Or parts) ≡ record { own = None; whole = [] }
found-Or parts = ap found (sym (rolls-Or parts)) ∙ fold-roll-Cond Found found_step (Cond-F.Or parts)

pub found-Not : (part : Cond) → found (Not part) ≡ record { own = None; whole = [] }
found-Not part = ap found (sym (rolls-Not part)) ∙ fold-roll-Cond Found found_step (Cond-F.Not part)

own_map : (parts : List Cond) → filter_map (λ (part : Found). part.own) (map found parts) ≡ filter_map link_of parts
own_map [] = refl
own_map (c ∷ parts) = ap (cons_option (link_of c)) (own_map parts)

pub links-And : (parts : List Cond) → links_of (And parts) ≡ filter_map link_of parts
links-And parts = ap (λ (f : Found). f.whole) (found-And parts) ∙ own_map parts

-- one part more
pub links_more : (conds : List Cond) (i : ℕ) (c : Cond) → i < length conds → c ≡ get_or conds i c → filter_map link_of (take (i + 1) conds) ≡ filter_map link_of (take i conds) ++ as_list (link_of c)
links_more conds i c lt is =
    ap (filter_map link_of) (take_more conds i c lt)
    ∙ filter_map-append link_of (take i conds) (get_or conds i c ∷ [])
    ∙ ap (λ x. filter_map link_of (take i conds) ++ as_list (link_of x)) (sym is)

-- ---- what a link says
equal_where_yes : (o : Ordering) → is_yes (cond (is_eq o) Yes No) ≡ true → o ≡ Equal
equal_where_yes Less h = cc
equal_where_yes Equal h = refl
equal_where_yes Greater h = cc

abbrev pub Agrees : Tuple → Link → Type 0
Agrees tuple link = value_at tuple link.left ≡ value_at tuple link.right

abbrev AllAgree : Tuple → List Link → Type 0
AllAgree tuple links = AllByRecursion (Agrees tuple) links

two_columns : (tuple : Tuple) (left right : Col) → value_at tuple left ≡ value_at tuple right → AllAgree tuple (as_list (link_of_columns left right))
two_columns tuple left right h = by (left.alias == right.alias)
  where
    by : (b : Bool) → AllAgree tuple (as_list (cond b None (Some (record { left = left; right = right }))))
    by true = tt
    by false = (h, tt)

two_sides : (tuple : Tuple) (left right : Operand) → operand_value tuple left ≡ operand_value tuple right → AllAgree tuple (as_list (link_of_operands left right))
two_sides tuple (Column left) (Column right) h = two_columns tuple left right h
two_sides tuple (Column left) (Number n) h = tt
two_sides tuple (Column left) (Text t) h = tt
two_sides tuple (Number n) right h = tt
two_sides tuple (Text t) right h = tt

compared_agrees : (tuple : Tuple) (op : Op) (left right : Operand) → is_yes (compared op (operand_value tuple left) (operand_value tuple right)) ≡ true → AllAgree tuple (as_list (link_of_comparison op left right))
compared_agrees tuple Eq left right h = two_sides tuple left right (value_exact _ _ (equal_where_yes (value_cmp (operand_value tuple left) (operand_value tuple right)) h))
compared_agrees tuple Ne left right h = tt
compared_agrees tuple Lt left right h = tt
compared_agrees tuple Le left right h = tt
compared_agrees tuple Gt left right h = tt
compared_agrees tuple Ge left right h = tt

holds_rolled : (tuple : Tuple) (e : Cond-F Cond) → truth (roll-Cond e) tuple ≡ truth_step tuple (map-Cond Cond Truth (λ c. truth c tuple) e)
holds_rolled tuple e = fold-roll-Cond Truth (truth_step tuple) e

pub found_rolled : (e : Cond-F Cond) → found (roll-Cond e) ≡ found_step (map-Cond Cond Found found e)
found_rolled e = fold-roll-Cond Found found_step e

module _ (tuple : Tuple) where
  -- the own link of a part
  part_agrees : (e : Cond-F Cond) → holds (roll-Cond e) tuple ≡ true → AllAgree tuple (as_list (link_of (roll-Cond e)))
  part_agrees e h =
      subst (λ (f : Found). AllAgree tuple (as_list f.own)) (sym (found_rolled e))
      (by e (ap is_yes (sym (holds_rolled tuple e)) ∙ h))
    where
      by : (e : Cond-F Cond) → is_yes (truth_step tuple (map-Cond Cond Truth (λ c. truth c tuple) e)) ≡ true → AllAgree tuple (as_list (found_step (map-Cond Cond Found found e)).own)
      by Cond-F.True h = tt
      by (Cond-F.Cmp op left right) h = compared_agrees tuple op left right h
      by (Cond-F.And parts) h = tt
      by (Cond-F.Or parts) h = tt
      by (Cond-F.Not part) h = tt

  own_agrees : (c : Cond) → holds c tuple ≡ true → AllAgree tuple (as_list (link_of c))
  own_agrees c h = subst (λ x. AllAgree tuple (as_list (link_of x))) (roll-out-Cond c) (part_agrees (out-Cond c) (ap (λ x. holds x tuple) (roll-out-Cond c) ∙ h))

  first_yes : (t u : Truth) → is_yes (both t u) ≡ true → (is_yes t ≡ true) × (is_yes u ≡ true)
  first_yes No u h = cc
  first_yes Unknown No h = cc
  first_yes Unknown Unknown h = cc
  first_yes Unknown Yes h = cc
  first_yes Yes u h = (refl, h)

  one_more : (o : Option Link) (links : List Link) → AllAgree tuple (as_list o) → AllAgree tuple links → AllAgree tuple (cons_option o links)
  one_more None links a b = b
  one_more (Some link) links a b = (a.0, b)

  parts_agree : (parts : List Cond) → is_yes (all_of (map (λ c. truth c tuple) parts)) ≡ true → AllAgree tuple (filter_map (λ (part : Found). part.own) (map found parts))
  parts_agree [] h = tt
  parts_agree (c ∷ parts) h =
      let split = first_yes (truth c tuple) _ h in
      one_more (link_of c) _ (own_agrees c split.0) (parts_agree parts split.1)

  rolled_agrees : (e : Cond-F Cond) → holds (roll-Cond e) tuple ≡ true → AllAgree tuple (links_of (roll-Cond e))
  rolled_agrees e h =
      subst (λ (f : Found). AllAgree tuple f.whole) (sym (found_rolled e))
      (by e (ap is_yes (sym (holds_rolled tuple e)) ∙ h))
    where
      by : (e : Cond-F Cond) → is_yes (truth_step tuple (map-Cond Cond Truth (λ c. truth c tuple) e)) ≡ true → AllAgree tuple (found_step (map-Cond Cond Found found e)).whole
      by Cond-F.True h = tt
      by (Cond-F.Cmp op left right) h = compared_agrees tuple op left right h
      by (Cond-F.And parts) h = parts_agree parts h
      by (Cond-F.Or parts) h = tt
      by (Cond-F.Not part) h = tt

-- a tuple that a condition keeps agrees in each of its links
pub links_agree : (c : Cond) (tuple : Tuple) → holds c tuple ≡ true → AllByRecursion (λ link. value_at tuple link.left ≡ value_at tuple link.right) (links_of c)
links_agree c tuple h = subst (λ x. AllAgree tuple (links_of x)) (roll-out-Cond c) (rolled_agrees tuple (out-Cond c) (ap (λ x. holds x tuple) (roll-out-Cond c) ∙ h))
