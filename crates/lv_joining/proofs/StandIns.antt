-- Rows that stand for others: the first of them among some rows.
use Rattle.std.proofs.Common.{◌≡◌, ℕ, Bool, true, false, cond, ◌&&◌, ◌||◌, List, [], ◌∷◌, refl, sym, ap, ◌∙◌, subst}
use Rattle.std.proofs.lemmas.Bool.{and_parts}
use Rattle.std.proofs.lemmas.Cmp.{tied_itself}
use Rattle.std.specs.List.{list_any, AllByRecursion}
use Rattle.std.specs.declared.cmp.Ordering.TheVariants.{Equal}
use Rattle.lv_values.specs.Order.{row_cmp, row_eq}
use Rattle.lv_values.specs.OrderLaws.{row_total}
use Rattle.lv_values.specs.Rows.{key_cmp, values_at}
use Rattle.lv_schema.specs.Nets.{has_row}
use Rattle.lv_schema.specs.Once.{Ascends}
use Rattle.lv_schema.proofs.Apart.{all_weaker}
use Rattle.lv_schema.proofs.ChangeLists.{ARow}
use Rattle.lv_schema.proofs.NetsLead.{elements, one_of_key, row_itself, same_row}
use Rattle.lv_joining.specs.Joining.{HaveStandIns, stands_for}

first_true : (a b : Bool) → a ≡ true → (a || b) ≡ true
first_true true b h = refl
first_true false b h = cc

second_true : (a b : Bool) → b ≡ true → (a || b) ≡ true
second_true true b h = refl
second_true false b h = h

both_true : (a b : Bool) → a ≡ true → b ≡ true → (a && b) ≡ true
both_true a b h k = (λ i. h i && b) ∙ k

-- what holds of each holds of one among them
pub of_row : (P : ARow → Type 0) (q : ARow) (rows : List ARow) → AllByRecursion P rows → has_row q rows ≡ true → P q
of_row P q [] all h = cc
of_row P q (x ∷ rows) all h = by (row_eq q x) refl h (of_row P q rows all.1)
  where
    by : (t : Bool) → row_eq q x ≡ t → (t || has_row q rows) ≡ true → (has_row q rows ≡ true → P q) → P q
    by true e k rest = subst P (sym (same_row q x e)) all.0
    by false e k rest = rest k

module _ (key columns : List ℕ) where
  -- what a row and the one that stands for it have in common
  pub key_same : (row new : ARow) → stands_for key columns row new ≡ true → values_at key row ≡ values_at key new
  key_same row new h = same_row _ _ (and_parts (row_eq (values_at key row) (values_at key new)) (row_eq (values_at columns row) (values_at columns new)) h).0

  pub columns_same : (row new : ARow) → stands_for key columns row new ≡ true → values_at columns row ≡ values_at columns new
  columns_same row new h = same_row _ _ (and_parts (row_eq (values_at key row) (values_at key new)) (row_eq (values_at columns row) (values_at columns new)) h).1

  pub for_itself : (row : ARow) → stands_for key columns row row ≡ true
  for_itself row = both_true _ _ (row_itself (values_at key row)) (row_itself (values_at columns row))

  for_third : (a b c : ARow) → stands_for key columns a b ≡ true → stands_for key columns b c ≡ true → stands_for key columns a c ≡ true
  for_third a b c h k =
      both_true _ _
      (ap (row_eq (values_at key a)) (sym (key_same a b h ∙ key_same b c k)) ∙ row_itself (values_at key a))
      (ap (row_eq (values_at columns a)) (sym (columns_same a b h ∙ columns_same b c k)) ∙ row_itself (values_at columns a))

  -- the first row that stands for another, that one itself where none does
  abbrev pub stand_in : ARow → List ARow → ARow
  stand_in row [] = row
  stand_in row (x ∷ others) = cond (stands_for key columns row x) x (stand_in row others)

  pub stand_in_is : (row : ARow) (others : List ARow) → list_any (stands_for key columns row) others ≡ true → (has_row (stand_in row others) others ≡ true) × (stands_for key columns row (stand_in row others) ≡ true)
  stand_in_is row [] h = absurd (cc)
  stand_in_is row (x ∷ others) h = by (stands_for key columns row x) refl h (stand_in_is row others)
    where
      by : (t : Bool) → stands_for key columns row x ≡ t → (t || list_any (stands_for key columns row) others) ≡ true
          → (list_any (stands_for key columns row) others ≡ true → (has_row (stand_in row others) others ≡ true) × (stands_for key columns row (stand_in row others) ≡ true))
          → (has_row (cond t x (stand_in row others)) (x ∷ others) ≡ true) × (stands_for key columns row (cond t x (stand_in row others)) ≡ true)
      by true e k rest = (first_true _ _ (row_itself x), e)
      by false e k rest = let more = rest k in (second_true _ _ more.0, more.1)

  -- one that is there has a stand-in
  pub has_stand_in : (row new : ARow) (others : List ARow) → has_row new others ≡ true → stands_for key columns row new ≡ true → list_any (stands_for key columns row) others ≡ true
  has_stand_in row new [] h k = cc
  has_stand_in row new (x ∷ others) h k = by (row_eq new x) refl h (λ there. has_stand_in row new others there k)
    where
      by : (t : Bool) → row_eq new x ≡ t → (t || has_row new others) ≡ true → (has_row new others ≡ true → list_any (stands_for key columns row) others ≡ true)
          → (stands_for key columns row x || list_any (stands_for key columns row) others) ≡ true
      by true e d rest = first_true _ _ (ap (stands_for key columns row) (sym (same_row new x e)) ∙ k)
      by false e d rest = second_true _ _ (rest d)

  -- ---- steps one behind the other
  pub own_stand_ins : (rows : List ARow) → HaveStandIns key columns rows rows
  own_stand_ins rows = all_weaker (λ row. has_row row rows ≡ true) (λ row. list_any (stands_for key columns row) rows ≡ true) (λ row there. has_stand_in row row rows there (for_itself row)) rows (elements rows)

  pub next_stand_ins : (first middle last : List ARow) → HaveStandIns key columns first middle → HaveStandIns key columns middle last → HaveStandIns key columns first last
  next_stand_ins first middle last one two =
      all_weaker (λ row. list_any (stands_for key columns row) middle ≡ true) (λ row. list_any (stands_for key columns row) last ≡ true)
      (λ row h.
      let new = stand_in_is row middle h in
      let more = stand_in_is (stand_in row middle) last (of_row (λ row. list_any (stands_for key columns row) last ≡ true) (stand_in row middle) middle two new.0) in
      has_stand_in row (stand_in (stand_in row middle) last) last more.0 (for_third row (stand_in row middle) (stand_in (stand_in row middle) last) new.1 more.1))
      first one

  -- ---- rows of one key
  pub key_tied : (row new : ARow) → values_at key row ≡ values_at key new → key_cmp key row new ≡ Equal
  key_tied row new e = ap (row_cmp (values_at key row)) (sym e) ∙ tied_itself row_total (values_at key row)

  module _ (before after : List ARow) (up : Ascends (key_cmp key) before) (up_after : Ascends (key_cmp key) after) (all : HaveStandIns key columns before after) where
    pub there : (row : ARow) → has_row row before ≡ true → (has_row (stand_in row after) after ≡ true) × (stands_for key columns row (stand_in row after) ≡ true)
    there row h = stand_in_is row after (of_row (λ row. list_any (stands_for key columns row) after ≡ true) row before all h)

    -- one that stays stands for itself
    pub stays : (row : ARow) → has_row row before ≡ true → has_row row after ≡ true → stand_in row after ≡ row
    stays row h k =
        let is = there row h in
        sym (one_of_key key after up_after row (stand_in row after) k is.0 (key_tied row (stand_in row after) (key_same row (stand_in row after) is.1)))

    -- no two have one stand-in
    pub one : (a b : ARow) → has_row a before ≡ true → has_row b before ≡ true → stand_in a after ≡ stand_in b after → a ≡ b
    one a b h k e =
        let keys : values_at key a ≡ values_at key b = key_same a (stand_in a after) (there a h).1 ∙ ap (values_at key) e ∙ sym (key_same b (stand_in b after) (there b k).1) in
        one_of_key key before up a b h k (key_tied a b keys)
