-- A row agrees with the same rows as one that has its values in the linked columns.
use Rattle.std.proofs.Common.{◌≡◌, ℕ, Bool, true, false, cond, not, ◌&&◌, ◌||◌, ◌==◌, List, [], ◌∷◌, ◌++◌, refl, sym, ap, ◌∙◌}
use Rattle.std.proofs.lemmas.Bool.{and_parts, eqb-true, eq-eqb}
use Rattle.std.specs.List.{AllByRecursion}
use Rattle.lv_values.specs.declared.value.Value.{Value}
use Rattle.lv_values.specs.Order.{value_eq}
use Rattle.lv_values.specs.Rows.{value_in, values_at}
use Rattle.lv_reach.specs.declared.link.Link.{Link}
use Rattle.lv_reach.specs.declared.rows.AliasRow.{AliasRow}
use Rattle.lv_reach.specs.Reach.{of_alias, goes, fit, all_fit, agree, are_linked}
use Rattle.lv_joining.specs.Joining.{linked_columns, named_columns}

module _ (alias : ℕ) (row new : List Value) where
  -- the same values in the columns of this alias that a link names
  record IsSame (link : Link) : Type 0 where
    pub left : link.left.alias ≡ alias → value_in row link.left.column ≡ value_in new link.left.column
    pub right : link.right.alias ≡ alias → value_in row link.right.column ≡ value_in new link.right.column

  named : (link : Link) (more : List ℕ) → values_at (named_columns link alias ++ more) row ≡ values_at (named_columns link alias ++ more) new → IsSame link × (values_at more row ≡ values_at more new)
  named link more = by (link.left.alias == alias) (link.right.alias == alias) refl refl
    where
      yes : (i : ℕ) → (i == alias) ≡ false → i ≡ alias → true ≡ false
      yes i e is = sym (eq-eqb i alias is) ∙ e

      by : (s t : Bool) → (link.left.alias == alias) ≡ s → (link.right.alias == alias) ≡ t
          → values_at ((cond s (link.left.column ∷ []) [] ++ cond t (link.right.column ∷ []) []) ++ more) row ≡ values_at ((cond s (link.left.column ∷ []) [] ++ cond t (link.right.column ∷ []) []) ++ more) new
          → IsSame link × (values_at more row ≡ values_at more new)
      by true true e d h = (record { left = λ is. cc; right = λ is. cc }, cc)
      by true false e d h = (record { left = λ is. cc; right = λ is. let no = yes link.right.alias d is in cc }, cc)
      by false true e d h = (record { left = λ is. let no = yes link.left.alias e is in cc; right = λ is. cc }, cc)
      by false false e d h = (record { left = λ is. let no = yes link.left.alias e is in cc; right = λ is. let no = yes link.right.alias d is in cc }, h)

  all_same : (links : List Link) → values_at (linked_columns links alias) row ≡ values_at (linked_columns links alias) new → AllByRecursion IsSame links
  all_same [] h = tt
  all_same (link ∷ links) h = let here = named link (linked_columns links alias) h in (here.0, all_same links here.1)

  fit_left : (link : Link) (b : AliasRow) → IsSame link → fit link (of_alias alias row) b ≡ fit link (of_alias alias new) b
  fit_left link b same = by (goes link alias b.alias) refl
    where
      by : (t : Bool) → goes link alias b.alias ≡ t
          → (not t || value_eq (value_in row link.left.column) (value_in b.row link.right.column)) ≡ (not t || value_eq (value_in new link.left.column) (value_in b.row link.right.column))
      by true e = ap (λ v. value_eq v (value_in b.row link.right.column)) (same.left (eqb-true link.left.alias alias (and_parts (link.left.alias == alias) (link.right.alias == b.alias) e).0))
      by false e = refl

  fit_right : (link : Link) (b : AliasRow) → IsSame link → fit link b (of_alias alias row) ≡ fit link b (of_alias alias new)
  fit_right link b same = by (goes link b.alias alias) refl
    where
      by : (t : Bool) → goes link b.alias alias ≡ t
          → (not t || value_eq (value_in b.row link.left.column) (value_in row link.right.column)) ≡ (not t || value_eq (value_in b.row link.left.column) (value_in new link.right.column))
      by true e = ap (λ v. value_eq (value_in b.row link.left.column) v) (same.right (eqb-true link.right.alias alias (and_parts (link.left.alias == b.alias) (link.right.alias == alias) e).1))
      by false e = refl

  all_fit_left : (links : List Link) (b : AliasRow) → AllByRecursion IsSame links → all_fit links (of_alias alias row) b ≡ all_fit links (of_alias alias new) b
  all_fit_left [] b same = refl
  all_fit_left (link ∷ links) b same = λ i. (fit_left link b same.0 i && fit_right link b same.0 i) && all_fit_left links b same.1 i

  all_fit_right : (links : List Link) (b : AliasRow) → AllByRecursion IsSame links → all_fit links b (of_alias alias row) ≡ all_fit links b (of_alias alias new)
  all_fit_right [] b same = refl
  all_fit_right (link ∷ links) b same = λ i. (fit_right link b same.0 i && fit_left link b same.0 i) && all_fit_right links b same.1 i

  module _ (links : List Link) (h : values_at (linked_columns links alias) row ≡ values_at (linked_columns links alias) new) where
    pub agree_left : (b : AliasRow) → agree links (of_alias alias row) b ≡ agree links (of_alias alias new) b
    agree_left b = ap (λ t. are_linked links alias b.alias && t) (all_fit_left links b (all_same links h))

    pub agree_right : (b : AliasRow) → agree links b (of_alias alias row) ≡ agree links b (of_alias alias new)
    agree_right b = ap (λ t. are_linked links b.alias alias && t) (all_fit_right links b (all_same links h))
