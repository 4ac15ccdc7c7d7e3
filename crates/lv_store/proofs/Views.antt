-- The views that a query reads, ascending, each once.
use Rattle.std.proofs.Common.{◌≡◌, ℕ, ◌<◌, Bool, true, false, ◌&&◌, List, [], ◌∷◌, length, refl, sym, subst, arith}
use Rattle.std.specs.Prelude.{nat_lt}
use Rattle.std.specs.List.{AllByRecursion, filter_map, list_all}
use Rattle.std.specs.Ordering.{nat_cmp}
use Rattle.std.specs.declared.cmp.Ordering.{Ordering}
use Rattle.std.specs.declared.cmp.Ordering.TheVariants.{Less, Equal, Greater}
use Rattle.std.specs.FinMap.{nat_cmp-IsAntisymmetric}
use Rattle.std.specs.FinMap.Entries.{by_order}
use Rattle.std.proofs.lemmas.Bool.Decides.{nat_tests}
use mathlib.Core.Logic.{inl, inr}
use Rattle.lv_schema.specs.declared.query.Rel.{Rel}
use Rattle.lv_schema.specs.declared.query.Rel.TheVariants.{Table, View}
use Rattle.lv_schema.specs.declared.table.TableDef.{TableDef}
use Rattle.lv_schema.specs.declared.view.ViewDef.{ViewDef}
use Rattle.lv_schema.specs.Bound.{rel_in_use}
use Rattle.lv_schema.specs.Greatest.{Among}
use Rattle.lv_schema.specs.Once.{once, put_once}
use Rattle.lv_schema.specs.UpkeepCases.{view_number}

-- both sides of what holds
pub both : (a b : Bool) → (a && b) ≡ true → (a ≡ true) × (b ≡ true)
both true true e = (refl, refl)
both true false e = cc
both false b e = cc

module _ (P : ℕ → Type 0) where
  all_put : (x : ℕ) (ys : List ℕ) → P x → AllByRecursion P ys → AllByRecursion P (put_once nat_cmp x ys)
  all_put x [] h a = (h, tt)
  all_put x (y ∷ ys) h a =
      elim (nat_cmp x y) as (λ r. AllByRecursion P (by_order r (x ∷ y ∷ ys) (y ∷ ys) (y ∷ put_once nat_cmp x ys))) [
        | Less ↦ (h, a)
        | Equal ↦ a
        | Greater ↦ (a.0, all_put x ys h a.1)
      ]

  -- what holds of each element holds of each element once, and the other way round
  pub all_once : (xs : List ℕ) → AllByRecursion P xs → AllByRecursion P (once nat_cmp xs)
  all_once [] a = tt
  all_once (x ∷ xs) a = all_put x (once nat_cmp xs) a.0 (all_once xs a.1)

  put_all : (x : ℕ) (ys : List ℕ) → AllByRecursion P (put_once nat_cmp x ys) → P x × AllByRecursion P ys
  put_all x [] a = (a.0, tt)
  put_all x (y ∷ ys) a = by (nat_cmp x y) refl (put_all x ys) a
    where
      by : (r : Ordering) → nat_cmp x y ≡ r → (AllByRecursion P (put_once nat_cmp x ys) → P x × AllByRecursion P ys) → AllByRecursion P (by_order r (x ∷ y ∷ ys) (y ∷ ys) (y ∷ put_once nat_cmp x ys)) → P x × AllByRecursion P (y ∷ ys)
      by Less e more h = (h.0, h.1)
      by Equal e more h = (subst P (sym (nat_cmp-IsAntisymmetric x y e)) h.0, h)
      by Greater e more h = let rest = more h.1 in (rest.0, (h.0, rest.1))

  pub once_all : (xs : List ℕ) → AllByRecursion P (once nat_cmp xs) → AllByRecursion P xs
  once_all [] a = tt
  once_all (x ∷ xs) a = let here = put_all x (once nat_cmp xs) a in (here.0, once_all xs here.1)

each_among : (xs : List ℕ) → AllByRecursion (Among xs) xs
each_among xs = by xs (λ n a. a)
  where
    by : (ys : List ℕ) → ((n : ℕ) → Among ys n → Among xs n) → AllByRecursion (Among xs) ys
    by [] f = tt
    by (y ∷ ys) f = (f y (inl refl), by ys (λ n a. f n (inr a)))

-- what holds of each number among the views of relations
abbrev pub IfView : (ℕ → Type 0) → Rel → Type 0
IfView P (Table t) = Unit {0}
IfView P (View v) = P v

views_all : (P : ℕ → Type 0) (rels : List Rel) → AllByRecursion P (filter_map view_number rels) → AllByRecursion (IfView P) rels
views_all P [] a = tt
views_all P (Table t ∷ rels) a = (tt, views_all P rels a)
views_all P (View v ∷ rels) a = (a.0, views_all P rels a.1)

pub views_among : (rels : List Rel) → AllByRecursion (IfView (Among (once nat_cmp (filter_map view_number rels)))) rels
views_among rels =
    let views = filter_map view_number rels in
    views_all (Among (once nat_cmp views)) rels (once_all (Among (once nat_cmp views)) views (each_among (once nat_cmp views)))

pub views_each : (P : ℕ → Type 0) (rels : List Rel) → AllByRecursion P (once nat_cmp (filter_map view_number rels)) → AllByRecursion (IfView P) rels
views_each P rels a = views_all P rels (once_all P (filter_map view_number rels) a)

used : (tables : List TableDef) (views : List ViewDef) (rels : List Rel) → list_all (rel_in_use tables views) rels ≡ true → AllByRecursion (λ v. v < length views) (filter_map view_number rels)
used tables views [] e = tt
used tables views (Table t ∷ rels) e = used tables views rels (both (nat_lt t (length tables)) (list_all (rel_in_use tables views) rels) e).1
used tables views (View v ∷ rels) e =
    let es = both (nat_lt v (length views)) (list_all (rel_in_use tables views) rels) e in
    let test = es.0 in
    (grind (arith, nat_tests), used tables views rels es.1)

pub views_in_use : (tables : List TableDef) (views : List ViewDef) (rels : List Rel) → list_all (rel_in_use tables views) rels ≡ true → AllByRecursion (λ v. v < length views) (once nat_cmp (filter_map view_number rels))
views_in_use tables views rels e = all_once (λ v. v < length views) (filter_map view_number rels) (used tables views rels e)
