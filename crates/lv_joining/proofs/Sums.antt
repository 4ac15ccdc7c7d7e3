-- Sums over rows of aliases, each of which is mapped to one of its own among others.
use Rattle.std.proofs.Common.{◌≡◌, ℕ, ◌+◌, ◌≤◌, Bool, true, false, cond, not, ◌&&◌, ◌||◌, List, [], ◌∷◌, map, length, refl, sym, ap, ◌∙◌, subst, arith}
use Rattle.std.proofs.lemmas.List.Sums.{sum_by-cons, sum_by-le-sum_by}
use Rattle.std.specs.List.{filter, sum_by}
use Rattle.lv_schema.specs.Once.{are_apart}
use Rattle.lv_reach.specs.declared.rows.AliasRow.{AliasRow}
use Rattle.lv_reach.specs.Reach.{alike, has_alias_row}
use Rattle.lv_reach.proofs.Costing.{sum_within}
use Rattle.lv_reach.proofs.Gathering.{one_row, row_alike, first_there, second_there}

pub ones : (rows : List AliasRow) → sum_by (λ (a : AliasRow). 1) rows ≡ length rows
ones [] = refl
ones (a ∷ rows) = omega (arith, sum_by-cons (λ (a : AliasRow). 1) a rows, ones rows)

sum_mapped : (g : AliasRow → AliasRow) (h : AliasRow → ℕ) (rows : List AliasRow) → sum_by h (map g rows) ≡ sum_by (λ a. h (g a)) rows
sum_mapped g h [] = refl
sum_mapped g h (a ∷ rows) = omega (arith, sum_by-cons h (g a) (map g rows), sum_by-cons (λ a. h (g a)) a rows, sum_mapped g h rows)

-- rows that a test lets through, and the others
pub split_sum : (f : AliasRow → ℕ) (test : AliasRow → Bool) (rows : List AliasRow) → sum_by f (filter test rows) + sum_by f (filter (λ a. not (test a)) rows) ≡ sum_by f rows
split_sum f test [] = refl
split_sum f test (a ∷ rows) = by (test a) (split_sum f test rows)
  where
    by : (t : Bool) → sum_by f (filter test rows) + sum_by f (filter (λ a. not (test a)) rows) ≡ sum_by f rows
        → sum_by f (cond t (a ∷ filter test rows) (filter test rows)) + sum_by f (cond (not t) (a ∷ filter (λ a. not (test a)) rows) (filter (λ a. not (test a)) rows)) ≡ sum_by f (a ∷ rows)
    by true h = omega (arith, h, sum_by-cons f a (filter test rows), sum_by-cons f a rows)
    by false h = omega (arith, h, sum_by-cons f a (filter (λ a. not (test a)) rows), sum_by-cons f a rows)

pub from_filter : (test : AliasRow → Bool) (rows : List AliasRow) (a : AliasRow) → has_alias_row a (filter test rows) ≡ true → (has_alias_row a rows ≡ true) × (test a ≡ true)
from_filter test [] a h = absurd (cc)
from_filter test (b ∷ rows) a h = by (test b) (alike a b) refl refl h (from_filter test rows a)
  where
    by : (t s : Bool) → test b ≡ t → alike a b ≡ s → has_alias_row a (cond t (b ∷ filter test rows) (filter test rows)) ≡ true
        → (has_alias_row a (filter test rows) ≡ true → (has_alias_row a rows ≡ true) × (test a ≡ true)) → ((s || has_alias_row a rows) ≡ true) × (test a ≡ true)
    by true true e d k rest = (refl, ap test (one_row a b d) ∙ e)
    by true false e d k rest = rest (ap (λ s. s || has_alias_row a (filter test rows)) (sym d) ∙ k)
    by false true e d k rest = (refl, (rest k).1)
    by false false e d k rest = rest k

pub apart_filtered : (test : AliasRow → Bool) (rows : List AliasRow) → are_apart alike rows ≡ true → are_apart alike (filter test rows) ≡ true
apart_filtered test [] h = refl
apart_filtered test (a ∷ rows) h = by (test a) (has_alias_row a rows) (has_alias_row a (filter test rows)) refl refl h (apart_filtered test rows)
  where
    by : (t s u : Bool) → has_alias_row a rows ≡ s → has_alias_row a (filter test rows) ≡ u → (not s && are_apart alike rows) ≡ true → (are_apart alike rows ≡ true → are_apart alike (filter test rows) ≡ true)
        → are_apart alike (cond t (a ∷ filter test rows) (filter test rows)) ≡ true
    by t true u e d k rest = cc
    by true false true e d k rest = let no : true ≡ false = sym (from_filter test rows a d).0 ∙ e in cc
    by true false false e d k rest = (λ i. not (d i) && are_apart alike (filter test rows)) ∙ rest k
    by false false u e d k rest = rest k

module _ (g : AliasRow → AliasRow) where
  from_mapped : (x : AliasRow) (rows : List AliasRow) → has_alias_row x (map g rows) ≡ true → (b : AliasRow) × (has_alias_row b rows ≡ true) × (x ≡ g b)
  from_mapped x [] h = absurd (cc)
  from_mapped x (a ∷ rows) h = by (alike x (g a)) refl h (from_mapped x rows)
    where
      by : (t : Bool) → alike x (g a) ≡ t → (t || has_alias_row x (map g rows)) ≡ true → (has_alias_row x (map g rows) ≡ true → (b : AliasRow) × (has_alias_row b rows ≡ true) × (x ≡ g b))
          → (b : AliasRow) × (has_alias_row b (a ∷ rows) ≡ true) × (x ≡ g b)
      by true e k rest = (a, first_there _ _ (row_alike a), one_row x (g a) e)
      by false e k rest = let b = rest k in (b.0, second_there _ _ b.1, b.2)

  -- no two of these rows are mapped to one
  abbrev pub IsOneToOne : List AliasRow → Type 0
  IsOneToOne rows = (a b : AliasRow) → has_alias_row a rows ≡ true → has_alias_row b rows ≡ true → g a ≡ g b → a ≡ b

  apart_mapped : (rows : List AliasRow) → are_apart alike rows ≡ true → IsOneToOne rows → are_apart alike (map g rows) ≡ true
  apart_mapped [] h one = refl
  apart_mapped (a ∷ rows) h one = by (has_alias_row a rows) (has_alias_row (g a) (map g rows)) refl refl h (apart_mapped rows)
    where
      by : (s t : Bool) → has_alias_row a rows ≡ s → has_alias_row (g a) (map g rows) ≡ t → (not s && are_apart alike rows) ≡ true
          → (are_apart alike rows ≡ true → IsOneToOne rows → are_apart alike (map g rows) ≡ true) → (not t && are_apart alike (map g rows)) ≡ true
      by true t e d k rest = cc
      by false true e d k rest =
          let b = from_mapped (g a) rows d in
          let same : a ≡ b.0 = one a b.0 (first_there _ _ (row_alike a)) (second_there _ _ b.1) b.2 in
          let no : true ≡ false = sym b.1 ∙ ap (λ c. has_alias_row c rows) (sym same) ∙ e in
          cc
      by false false e d k rest = rest k (λ x y p q. one x y (second_there _ _ p) (second_there _ _ q))

  -- each row weighs at most what the one weighs to which it is mapped
  pub sum_into : (f h : AliasRow → ℕ) (some all : List AliasRow) → are_apart alike some ≡ true → IsOneToOne some → ((a : AliasRow) → has_alias_row a some ≡ true → has_alias_row (g a) all ≡ true)
      → ((a : AliasRow) → f a ≤ h (g a)) → sum_by f some ≤ sum_by h all
  sum_into f h some all apart one there most =
      let within = sum_within h (map g some) all (apart_mapped some apart one) (λ x k. let b = from_mapped x some k in subst (λ y. has_alias_row y all ≡ true) (sym b.2) (there b.0 b.1)) in
      omega (arith, within, sum_mapped g h some, sum_by-le-sum_by f (λ a. h (g a)) some most)

  pub fewer_into : (some all : List AliasRow) → are_apart alike some ≡ true → IsOneToOne some → ((a : AliasRow) → has_alias_row a some ≡ true → has_alias_row (g a) all ≡ true) → length some ≤ length all
  fewer_into some all apart one there = omega (arith, sum_into (λ (a : AliasRow). 1) (λ (a : AliasRow). 1) some all apart one there (λ a. omega arith), ones some, ones all)
