-- The links of a condition that is bound over some aliases are between two of them.
use Rattle.std.proofs.Common.{◌≡◌, ℕ, zero, suc, ◌<◌, Bool, true, false, cond, ◌==◌, List, [], ◌∷◌, map, length, Option, Some, None, refl, sym, ap, ◌∙◌, subst, arith}
use Rattle.std.proofs.lemmas.Bool.{and_parts}
use Rattle.std.specs.Prelude.{is_some, option_map, slice_get, slice_index_or}
use Rattle.std.specs.List.{cons_option, filter_map, list_all}
use Rattle.lv_schema.specs.declared.cond.Col.{Col}
use Rattle.lv_schema.specs.declared.cond.Cond.{Cond}
use Rattle.lv_schema.specs.declared.cond.Cond.TheFolds.{fold-roll-Cond, map-Cond}
use Rattle.lv_schema.specs.declared.cond.Cond.TheOpen.{Cond-F}
use Rattle.lv_schema.specs.declared.cond.Cond.TheViews.{roll-Cond, out-Cond, roll-out-Cond}
use Rattle.lv_schema.specs.declared.cond.Op.{Op}
use Rattle.lv_schema.specs.declared.cond.Op.TheVariants.{Eq, Ne, Lt, Le, Gt, Ge}
use Rattle.lv_schema.specs.declared.cond.Operand.{Operand}
use Rattle.lv_schema.specs.declared.cond.Operand.TheVariants.{Column as InColumn, Number, Text}
use Rattle.lv_schema.specs.declared.table.Column.{Column}
use Rattle.lv_schema.specs.Bound.{operand_text, both_are, compares, compares_step, is_text, IsBoundCond}
use Rattle.lv_reach.specs.declared.link.Link.{Link}
use Rattle.lv_reach.specs.Links.{Found, found_step, found, as_list, link_of_columns, link_of_operands, link_of_comparison, link_of, links_of}
use Rattle.lv_reach.specs.Reach.{AreWithin}
use Rattle.lv_reach.proofs.LinkLaws.{found_rolled}

both_there : (a b : Option Bool) → both_are a b ≡ true → (is_some a ≡ true) × (is_some b ≡ true)
both_there None b h = cc
both_there (Some a) None h = cc
both_there (Some a) (Some b) h = (refl, refl)

-- only an alias has a column
alias_within : (aliases : List (List Column)) (k n : ℕ) → is_some (option_map is_text (option_map (λ (c : Column). c.kind) (slice_get (slice_index_or aliases k []) n))) ≡ true → k < length aliases
alias_within [] k n h = cc
alias_within (columns ∷ aliases) zero n h = omega arith
alias_within (columns ∷ aliases) (suc k) n h = omega (arith, alias_within aliases k n h)

module _ (aliases : List (List Column)) where
  within_columns : (left right : Col) → left.alias < length aliases → right.alias < length aliases → AreWithin (length aliases) (as_list (link_of_columns left right))
  within_columns left right l r = by (left.alias == right.alias)
    where
      by : (b : Bool) → AreWithin (length aliases) (as_list (cond b None (Some (record { left = left; right = right }))))
      by true = tt
      by false = ((l, r), tt)

  within_sides : (left right : Operand) → is_some (operand_text aliases left) ≡ true → is_some (operand_text aliases right) ≡ true → AreWithin (length aliases) (as_list (link_of_operands left right))
  within_sides (InColumn left) (InColumn right) l r = within_columns left right (alias_within aliases left.alias left.column l) (alias_within aliases right.alias right.column r)
  within_sides (InColumn left) (Number n) l r = tt
  within_sides (InColumn left) (Text t) l r = tt
  within_sides (Number n) right l r = tt
  within_sides (Text t) right l r = tt

  within_comparison : (op : Op) (left right : Operand) → both_are (operand_text aliases left) (operand_text aliases right) ≡ true → AreWithin (length aliases) (as_list (link_of_comparison op left right))
  within_comparison Eq left right h = let both = both_there (operand_text aliases left) (operand_text aliases right) h in within_sides left right both.0 both.1
  within_comparison Ne left right h = tt
  within_comparison Lt left right h = tt
  within_comparison Le left right h = tt
  within_comparison Gt left right h = tt
  within_comparison Ge left right h = tt

  compares_rolled : (e : Cond-F Cond) → compares aliases (roll-Cond e) ≡ compares_step aliases (map-Cond Cond Bool (compares aliases) e)
  compares_rolled e = fold-roll-Cond Bool (compares_step aliases) e

  own_rolled : (e : Cond-F Cond) → compares aliases (roll-Cond e) ≡ true → AreWithin (length aliases) (as_list (link_of (roll-Cond e)))
  own_rolled e h =
      subst (λ (f : Found). AreWithin (length aliases) (as_list f.own)) (sym (found_rolled e)) (by e (sym (compares_rolled e) ∙ h))
    where
      by : (e : Cond-F Cond) → compares_step aliases (map-Cond Cond Bool (compares aliases) e) ≡ true → AreWithin (length aliases) (as_list (found_step (map-Cond Cond Found found e)).own)
      by Cond-F.True h = tt
      by (Cond-F.Cmp op left right) h = within_comparison op left right h
      by (Cond-F.And parts) h = tt
      by (Cond-F.Or parts) h = tt
      by (Cond-F.Not part) h = tt

  own_within : (c : Cond) → compares aliases c ≡ true → AreWithin (length aliases) (as_list (link_of c))
  own_within c h = subst (λ x. AreWithin (length aliases) (as_list (link_of x))) (roll-out-Cond c) (own_rolled (out-Cond c) (ap (compares aliases) (roll-out-Cond c) ∙ h))

  one_more : (o : Option Link) (links : List Link) → AreWithin (length aliases) (as_list o) → AreWithin (length aliases) links → AreWithin (length aliases) (cons_option o links)
  one_more None links a b = b
  one_more (Some link) links a b = (a.0, b)

  parts_within : (parts : List Cond) → list_all (λ part. part) (map (compares aliases) parts) ≡ true → AreWithin (length aliases) (filter_map (λ (part : Found). part.own) (map found parts))
  parts_within [] h = tt
  parts_within (c ∷ parts) h =
      let both = and_parts (compares aliases c) _ h in
      one_more (link_of c) _ (own_within c both.0) (parts_within parts both.1)

  rolled_within : (e : Cond-F Cond) → compares aliases (roll-Cond e) ≡ true → AreWithin (length aliases) (links_of (roll-Cond e))
  rolled_within e h =
      subst (λ (f : Found). AreWithin (length aliases) f.whole) (sym (found_rolled e)) (by e (sym (compares_rolled e) ∙ h))
    where
      by : (e : Cond-F Cond) → compares_step aliases (map-Cond Cond Bool (compares aliases) e) ≡ true → AreWithin (length aliases) (found_step (map-Cond Cond Found found e)).whole
      by Cond-F.True h = tt
      by (Cond-F.Cmp op left right) h = within_comparison op left right h
      by (Cond-F.And parts) h = parts_within parts h
      by (Cond-F.Or parts) h = tt
      by (Cond-F.Not part) h = tt

  pub links_within : (c : Cond) → IsBoundCond aliases c → AreWithin (length aliases) (links_of c)
  links_within c h = subst (λ x. AreWithin (length aliases) (links_of x)) (roll-out-Cond c) (rolled_within (out-Cond c) (ap (compares aliases) (roll-out-Cond c) ∙ h.compares_well))
