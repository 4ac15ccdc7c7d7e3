-- The rows listed of groups that pass a test.
use Rattle.std.proofs.Common.{◌≡◌, Bool, true, false, cond, List, [], ◌∷◌, ◌++◌, map, filter, refl, sym, ap, ◌∙◌}
use Rattle.std.specs.Prelude.{if◌then◌else◌}
use Rattle.std.specs.List.{AllByRecursion}
use Rattle.std.specs.Ordering.{is_gt}
use Rattle.std.specs.Cmp.{IsTotalOrder}
use Rattle.std.specs.declared.cmp.Ordering.{Ordering}
use Rattle.std.specs.declared.cmp.Ordering.TheVariants.{Less, Equal, Greater}
use Rattle.std.proofs.lemmas.Cmp.{upto}
use Rattle.std.proofs.lemmas.List.{map-append}
use Rattle.std.proofs.lemmas.List.Elements.{filter-append}
use Rattle.lv_values.specs.declared.value.Value.{Value}
use Rattle.lv_values.specs.Ascending.{ascending, placed}
use Rattle.lv_values.specs.Order.{row_cmp}
use Rattle.lv_values.specs.OrderLaws.{row_total}
use Rattle.lv_schema.specs.declared.signed.SignedRow.{SignedRow}
use Rattle.lv_schema.specs.declared.view.ViewDef.{ViewDef}
use Rattle.lv_schema.proofs.Apart.{all_filter, all_weaker}
use Rattle.lv_group.specs.Gathered.{listed_values}
use Rattle.lv_viewrows.specs.Kept.{row_listed, rows_listed}
use Rattle.lv_viewrows.specs.Merged.{passing}
use Rattle.lv_viewrows.proofs.Keeping.{group_listed, join_listed}
use Rattle.lv_viewrows.proofs.Order.{all_placed, filter_placed_out}

pub all_pass : {X : Type 0} (xs : List X) → filter (λ _. true) xs ≡ xs
all_pass [] = refl
all_pass (x ∷ xs) = ap (λ l. x ∷ l) (all_pass xs)

-- ---- of what is sorted, what passes is what passes, sorted
module _ {A : Type 0} (R : A → A → Ordering) (o : IsTotalOrder R) where
  -- x is over none of them
  abbrev OverNone : A → List A → Type 0
  OverNone x ys = AllByRecursion (λ y. is_gt (R x y) ≡ false) ys

  abbrev Rises : List A → Type 0
  Rises [] = Unit {0}
  Rises (x ∷ xs) = OverNone x xs × Rises xs

  not_over : (x y : A) → is_gt (R x y) ≡ true → is_gt (R y x) ≡ false
  not_over x y g = by (R x y) refl g
    where
      by : (r : Ordering) → R x y ≡ r → is_gt r ≡ true → is_gt (R y x) ≡ false
      by Less e g = cc
      by Equal e g = cc
      by Greater e g = rw (o.antisymm y x, e) refl

  over_none : (x y : A) (ys : List A) → is_gt (R x y) ≡ false → OverNone y ys → OverNone x ys
  over_none x y ys h a = all_weaker (λ z. is_gt (R y z) ≡ false) (λ z. is_gt (R x z) ≡ false) (λ z g. upto o x y z h g) ys a

  rises_placed : (x : A) (ys : List A) → Rises ys → Rises (placed R x ys)
  rises_placed x [] u = (tt, tt)
  rises_placed x (y ∷ ys) u = by (is_gt (R x y)) refl (rises_placed x ys u.1)
    where
      by : (t : Bool) → is_gt (R x y) ≡ t → Rises (placed R x ys) → Rises (cond t (y ∷ placed R x ys) (x ∷ y ∷ ys))
      by true e r = (all_placed R (λ z. is_gt (R y z) ≡ false) x ys (not_over x y e) u.0, r)
      by false e r = ((e, over_none x y ys e u.0), u)

  rises_ascending : (xs : List A) → Rises (ascending R xs)
  rises_ascending [] = tt
  rises_ascending (x ∷ xs) = rises_placed x (ascending R xs) (rises_ascending xs)

  placed_first : (x : A) (ys : List A) → OverNone x ys → placed R x ys ≡ x ∷ ys
  placed_first x [] a = refl
  placed_first x (y ∷ ys) a = λ i. cond (a.0 i) (y ∷ placed R x ys) (x ∷ y ∷ ys)

  filter_placed : (p : A → Bool) (x : A) → p x ≡ true → (ys : List A) → Rises ys → filter p (placed R x ys) ≡ placed R x (filter p ys)
  filter_placed p x e [] u = λ i. cond (e i) (x ∷ []) []
  filter_placed p x e (y ∷ ys) u = by (is_gt (R x y)) refl (p y) refl (filter_placed p x e ys u.1)
    where
      by : (t : Bool) → is_gt (R x y) ≡ t → (a : Bool) → p y ≡ a → filter p (placed R x ys) ≡ placed R x (filter p ys) → filter p (cond t (y ∷ placed R x ys) (x ∷ y ∷ ys)) ≡ placed R x (filter p (y ∷ ys))
      by true f true g ih = rw g (ap (λ l. y ∷ l) ih ∙ (λ i. cond (sym f i) (y ∷ placed R x (filter p ys)) (x ∷ y ∷ filter p ys)))
      by true f false g ih = rw g ih
      by false f a g ih = rw e (sym (placed_first x (filter p (y ∷ ys)) (all_filter (λ z. is_gt (R x z) ≡ false) p (y ∷ ys) (f, over_none x y ys f u.0))))

  pub filter_ascending : (p : A → Bool) (xs : List A) → filter p (ascending R xs) ≡ ascending R (filter p xs)
  filter_ascending p [] = refl
  filter_ascending p (x ∷ xs) = by (p x) refl (filter_ascending p xs)
    where
      by : (b : Bool) → p x ≡ b → filter p (ascending R xs) ≡ ascending R (filter p xs) → filter p (placed R x (ascending R xs)) ≡ ascending R (cond b (x ∷ filter p xs) (filter p xs))
      by true e ih = filter_placed p x e (ascending R xs) (rises_ascending xs) ∙ ap (placed R x) ih
      by false e ih = filter_placed_out R p x e (ascending R xs) ∙ ih

-- ---- the rows that a view lists
pub passing_append : (view : ViewDef) (p : List Value → Bool) (xs ys : List SignedRow) → passing view p (xs ++ ys) ≡ passing view p xs ++ passing view p ys
passing_append view p xs ys = ap (filter p) (map-append (row_listed view) xs ys) ∙ filter-append p (map (row_listed view) xs) (map (row_listed view) ys)

pub group_passing : (view : ViewDef) (p : List Value → Bool) (groups : List SignedRow) → view.grouped ≡ true → ascending row_cmp (passing view p groups) ≡ filter p (rows_listed view groups)
group_passing view p groups e =
    sym (filter_ascending row_cmp row_total p (map (row_listed view) groups))
    ∙ (λ i. filter p (ascending row_cmp (map (λ (g : SignedRow). if e i then listed_values view.groups g view.items g.sums else g.row) groups)))
    ∙ ap (filter p) (sym (group_listed view groups e))

pub join_passing : (view : ViewDef) (p : List Value → Bool) (groups : List SignedRow) → view.grouped ≡ false → passing view p groups ≡ filter p (rows_listed view groups)
join_passing view p groups e =
    (λ i. filter p (map (λ (g : SignedRow). if e i then listed_values view.groups g view.items g.sums else g.row) groups)) ∙ ap (filter p) (sym (join_listed view groups e))
