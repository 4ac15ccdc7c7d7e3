-- Near rows: the family that they are, and that a row which joins a changed row along links is among them.
use Rattle.std.proofs.Common.{◌≡◌, ℕ, zero, suc, ◌<◌, Bool, true, false, not, ◌&&◌, ◌||◌, ◌==◌, List, [], ◌∷◌, length, refl, sym, ap, ◌∙◌, subst, arith}
use Rattle.std.proofs.lemmas.Bool.{and_parts, eqb-true}
use Rattle.std.specs.List.{list_all}
use Rattle.std.specs.Ordering.{is_eq}
use Rattle.std.proofs.lemmas.Cmp.{tied_itself}
use Rattle.lv_values.specs.declared.value.Value.{Value}
use Rattle.lv_values.specs.Order.{value_eq}
use Rattle.lv_values.specs.OrderLaws.{value_total}
use Rattle.lv_values.specs.Rows.{value_in}
use Rattle.lv_schema.specs.declared.part.Part.{Part}
use Rattle.lv_schema.specs.Nets.{has_row}
use Rattle.lv_schema.specs.Tuples.{Tuple, value_at}
use Rattle.lv_reach.specs.declared.link.Link.{Link}
use Rattle.lv_reach.specs.declared.rows.AliasRow.{AliasRow}
use Rattle.lv_reach.specs.Reach.{in_tuple, row_at, part_at, goes, are_linked, fit, agree, IsPath, AreWithin, AgreesIn, is_changed, is_present, IsOver, Leads, IsNear}

-- ---- the least family
pub changed_near : (links : List Link) (parts : List Part) (a : AliasRow) → is_changed (part_at parts a.alias) a.row ≡ true → IsNear links parts a
changed_near links parts a h = ([], h)

pub agreeing_near : (links : List Link) (parts : List Part) (a b : AliasRow) → IsNear links parts a → has_row b.row (part_at parts b.alias).old ≡ true → agree links a b ≡ true → IsNear links parts b
agreeing_near links parts a b near there h = (a ∷ near.0, (there, h, near.1))

module _ (links : List Link) (parts : List Part) (family : AliasRow → Bool)
    (changed : (a : AliasRow) → is_changed (part_at parts a.alias) a.row ≡ true → family a ≡ true)
    (agreeing : (a b : AliasRow) → family a ≡ true → has_row b.row (part_at parts b.alias).old ≡ true → agree links a b ≡ true → family b ≡ true) where
  led : (chain : List AliasRow) (a : AliasRow) → Leads links parts chain a → family a ≡ true
  led [] a h = changed a h
  led (from ∷ chain) a h = agreeing from a (led chain from h.2) h.0 h.1

  pub near_least : (a : AliasRow) → IsNear links parts a → family a ≡ true
  near_least a near = led near.0 a near.1

-- ---- a tuple that agrees in the links
both_true : (a b : Bool) → a ≡ true → b ≡ true → (a && b) ≡ true
both_true a b h k = (λ i. h i && b) ∙ k

value_itself : (v w : Value) → v ≡ w → value_eq v w ≡ true
value_itself v w e = ap (λ x. value_eq v x) (sym e) ∙ ap is_eq (tied_itself value_total v)

-- where the test is no, nothing is asked
implied : (a b : Bool) → (a ≡ true → b ≡ true) → (not a || b) ≡ true
implied true b h = h refl
implied false b h = refl

module _ (tuple : Tuple) where
  fits : (link : Link) (i j : ℕ) → value_at tuple link.left ≡ value_at tuple link.right → fit link (in_tuple tuple i) (in_tuple tuple j) ≡ true
  fits link i j h = implied (goes link i j) _ (λ g.
      let at = and_parts (link.left.alias == i) (link.right.alias == j) g in
      let left : link.left.alias ≡ i = eqb-true link.left.alias i at.0 in
      let right : link.right.alias ≡ j = eqb-true link.right.alias j at.1 in
      value_itself (value_in (row_at tuple i) link.left.column) (value_in (row_at tuple j) link.right.column)
      (ap (λ k. value_in (row_at tuple k) link.left.column) (sym left) ∙ h ∙ ap (λ k. value_in (row_at tuple k) link.right.column) right))

  pub all_fit : (links : List Link) (i j : ℕ) → AgreesIn links tuple → list_all (λ link. fit link (in_tuple tuple i) (in_tuple tuple j) && fit link (in_tuple tuple j) (in_tuple tuple i)) links ≡ true
  all_fit [] i j h = refl
  all_fit (link ∷ links) i j h = both_true _ _ (both_true _ _ (fits link i j h.0) (fits link j i h.0)) (all_fit links i j h.1)

  rows_agree : (links : List Link) (i j : ℕ) → AgreesIn links tuple → are_linked links i j ≡ true → agree links (in_tuple tuple i) (in_tuple tuple j) ≡ true
  rows_agree links i j h l = both_true _ _ l (all_fit links i j h)

-- ---- a linked alias is one of the parts
pub linked_within : (n : ℕ) (links : List Link) (i k : ℕ) → AreWithin n links → are_linked links i k ≡ true → k < n
linked_within n [] i k w h = cc
linked_within n (link ∷ links) i k w h = by (goes link i k) (goes link k i) refl refl h (linked_within n links i k w.1)
  where
    by : (a b : Bool) → goes link i k ≡ a → goes link k i ≡ b → ((a || b) || are_linked links i k) ≡ true → (are_linked links i k ≡ true → k < n) → k < n
    by true b e f h rest = subst (λ m. m < n) (eqb-true link.right.alias k (and_parts (link.left.alias == i) (link.right.alias == k) e).1) w.0.1
    by false true e f h rest = subst (λ m. m < n) (eqb-true link.left.alias k (and_parts (link.left.alias == k) (link.right.alias == i) f).0) w.0.0
    by false false e f h rest = rest h

over_at : (parts : List Part) (tuple : Tuple) (k : ℕ) → IsOver parts tuple → k < length parts → is_present (part_at parts k) (row_at tuple k) ≡ true
over_at [] tuple k o lt = absurd (let none = lt in omega (arith, none))
over_at (p ∷ parts) [] k o lt = absurd o
over_at (p ∷ parts) (row ∷ tuple) zero o lt = o.0
over_at (p ∷ parts) (row ∷ tuple) (suc k) o lt = over_at parts tuple k o.1 (omega arith)

-- ---- along a chain of links
module _ (links : List Link) (parts : List Part) (tuple : Tuple) (within : AreWithin (length parts) links) (over : IsOver parts tuple) (agrees : AgreesIn links tuple) where
  next_near : (i k : ℕ) → IsNear links parts (in_tuple tuple i) → are_linked links i k ≡ true → IsNear links parts (in_tuple tuple k)
  next_near i k near linked = by (has_row (row_at tuple k) (part_at parts k).old) refl (over_at parts tuple k over (linked_within (length parts) links i k within linked))
    where
      by : (b : Bool) → has_row (row_at tuple k) (part_at parts k).old ≡ b → (b || has_row (row_at tuple k) (part_at parts k).plus) ≡ true → IsNear links parts (in_tuple tuple k)
      by true e h = agreeing_near links parts (in_tuple tuple i) (in_tuple tuple k) near e (rows_agree tuple links i k agrees linked)
      by false e h = changed_near links parts (in_tuple tuple k) (second (has_row (row_at tuple k) (part_at parts k).minus) _ h)
        where
          second : (a b : Bool) → b ≡ true → (a || b) ≡ true
          second true b h = refl
          second false b h = h

  pub near_along : (i : ℕ) (path : List ℕ) (j : ℕ) → IsNear links parts (in_tuple tuple i) → IsPath links i path j → IsNear links parts (in_tuple tuple j)
  near_along i [] j near p = subst (λ k. IsNear links parts (in_tuple tuple k)) p near
  near_along i (k ∷ path) j near p = near_along k path j (next_near i k near p.0) p.1
