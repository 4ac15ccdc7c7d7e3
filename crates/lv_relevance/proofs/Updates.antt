-- An update that leaves the key and the columns in use as they were is not told.
use Rattle.std.proofs.Common.{◌≡◌, ℕ, Bool, true, false, cond, not, ◌&&◌, ◌||◌, List, [], ◌∷◌, map, refl, sym, ap, ap₂, ◌∙◌}
use Rattle.std.specs.Cmp.Lexicographic.{pointwise}
use Rattle.std.specs.List.{filter, AllByRecursion}
use Rattle.std.specs.Ordering.{ordering_reverse}
use Rattle.std.specs.declared.cmp.Ordering.TheVariants.{Equal}
use Rattle.lv_values.specs.Order.{row_eq}
use Rattle.lv_values.specs.Rows.{key_cmp}
use Rattle.lv_schema.specs.declared.cond.Col.{Col}
use Rattle.lv_schema.specs.Nets.{has_row, lacking}
use Rattle.lv_schema.specs.Once.{Ascends}
use Rattle.lv_schema.proofs.Apart.{all_weaker}
use Rattle.lv_schema.proofs.ChangeLists.{ARow}
use Rattle.lv_schema.proofs.NetsLead.{elements, key_total, one_of_key, row_itself, same_row}
use Rattle.lv_relevance.specs.Relevance.{same_in}

filter_on : {X : Type 0} (p q : X → Bool) (xs : List X) → AllByRecursion (λ x. p x ≡ q x) xs → filter p xs ≡ filter q xs
filter_on p q [] a = refl
filter_on p q (x ∷ xs) a = λ i. cond (a.0 i) (x ∷ filter_on p q xs a.1 i) (filter_on p q xs a.1 i)

filter_mapped : {X : Type 0} (p : X → Bool) (f : X → X) (xs : List X) → filter p (map f xs) ≡ map f (filter (λ x. p (f x)) xs)
filter_mapped p f [] = refl
filter_mapped p f (x ∷ xs) = by (p (f x)) (filter_mapped p f xs)
  where
    by : (b : Bool) → filter p (map f xs) ≡ map f (filter (λ x. p (f x)) xs) → cond b (f x ∷ filter p (map f xs)) (filter p (map f xs)) ≡ map f (cond b (x ∷ filter (λ x. p (f x)) xs) (filter (λ x. p (f x)) xs))
    by true e = ap (λ l. f x ∷ l) e
    by false e = e

later : (a b : Bool) → b ≡ true → (a || b) ≡ true
later true b e = refl
later false b e = e

module _ (f : ARow → ARow) where
  -- a row that an update gives is that of some row
  before_it : (q : ARow) (rows : List ARow) → has_row q (map f rows) ≡ true → (r : ARow) × ((has_row r rows ≡ true) × (q ≡ f r))
  before_it q [] h = cc
  before_it q (x ∷ rows) h = by (row_eq q (f x)) refl h (before_it q rows)
    where
      by : (b : Bool) → row_eq q (f x) ≡ b → (b || has_row q (map f rows)) ≡ true → (has_row q (map f rows) ≡ true → (r : ARow) × ((has_row r rows ≡ true) × (q ≡ f r)))
          → (r : ARow) × ((has_row r (x ∷ rows) ≡ true) × (q ≡ f r))
      by true e h rest = (x, (ap (λ b. b || has_row x rows) (row_itself x), same_row q (f x) e))
      by false e h rest = let found = rest h in (found.0, (later (row_eq found.0 x) _ found.1.0, found.1.1))

  after_it : (r : ARow) (rows : List ARow) → has_row r rows ≡ true → has_row (f r) (map f rows) ≡ true
  after_it r [] h = cc
  after_it r (x ∷ rows) h = by (row_eq r x) refl h (after_it r rows)
    where
      by : (b : Bool) → row_eq r x ≡ b → (b || has_row r rows) ≡ true → (has_row r rows ≡ true → has_row (f r) (map f rows) ≡ true) → has_row (f r) (map f (x ∷ rows)) ≡ true
      by true e h rest = ap (λ q. row_eq (f r) (f q) || has_row (f r) (map f rows)) (sym (same_row r x e)) ∙ ap (λ b. b || has_row (f r) (map f rows)) (row_itself (f r))
      by false e h rest = later (row_eq (f r) (f x)) _ (rest h)

  in_place : (same : ARow → ARow → Bool) → ((row : ARow) → same row (f row) ≡ true) → (xs : List ARow) → pointwise same xs (map f xs) ≡ true
  in_place same h [] = refl
  in_place same h (x ∷ xs) = both (same x (f x)) _ (h x) (in_place same h xs)
    where
      both : (a b : Bool) → a ≡ true → b ≡ true → (a && b) ≡ true
      both a b h k = (λ i. h i && b) ∙ k

  module _ (key : List ℕ) (rows : List ARow) (up : Ascends (key_cmp key) rows) (keeps : (row : ARow) → key_cmp key row (f row) ≡ Equal) where
    flipped_keeps : (row : ARow) → key_cmp key (f row) row ≡ Equal
    flipped_keeps row = (key_total key).antisymm (f row) row ∙ ap ordering_reverse (keeps row)

    -- a row stands after the update only where it stays
    stays_after : (r : ARow) → has_row r rows ≡ true → has_row r (map f rows) ≡ row_eq r (f r)
    stays_after r h = by (has_row r (map f rows)) (row_eq r (f r)) refl refl
      where
        by : (a b : Bool) → has_row r (map f rows) ≡ a → row_eq r (f r) ≡ b → a ≡ b
        by true true e d = refl
        by false false e d = refl
        by true false e d =
            let found = before_it r rows e in
            let tie : key_cmp key r found.0 ≡ Equal = ap (λ q. key_cmp key q found.0) found.1.1 ∙ flipped_keeps found.0 in
            let one : r ≡ found.0 = one_of_key key rows up r found.0 h found.1.0 tie in
            let is : r ≡ f r = found.1.1 ∙ ap f (sym one) in
            sym (sym d ∙ ap (λ q. row_eq r q) (sym is) ∙ row_itself r)
        by false true e d = sym e ∙ ap (λ q. has_row q (map f rows)) (same_row r (f r) d) ∙ after_it r rows h

    -- what it becomes stood before only where it stays
    stood_before : (r : ARow) → has_row r rows ≡ true → has_row (f r) rows ≡ row_eq r (f r)
    stood_before r h = by (has_row (f r) rows) (row_eq r (f r)) refl refl
      where
        by : (a b : Bool) → has_row (f r) rows ≡ a → row_eq r (f r) ≡ b → a ≡ b
        by true true e d = refl
        by false false e d = refl
        by true false e d =
            let is : r ≡ f r = one_of_key key rows up r (f r) h e (keeps r) in
            sym (sym d ∙ ap (λ q. row_eq r q) (sym is) ∙ row_itself r)
        by false true e d = sym e ∙ ap (λ q. has_row q rows) (sym (same_row r (f r) d)) ∙ h

    abbrev moved : List ARow
    moved = filter (λ row. not (row_eq row (f row))) rows

    minus_is : lacking rows (map f rows) ≡ moved
    minus_is = filter_on (λ row. not (has_row row (map f rows))) (λ row. not (row_eq row (f row))) rows
        (all_weaker (λ row. has_row row rows ≡ true) (λ row. not (has_row row (map f rows)) ≡ not (row_eq row (f row))) (λ row h. ap not (stays_after row h)) rows (elements rows))

    plus_is : lacking (map f rows) rows ≡ map f moved
    plus_is = filter_mapped (λ row. not (has_row row rows)) f rows
        ∙ ap (map f) (filter_on (λ row. not (has_row (f row) rows)) (λ row. not (row_eq row (f row))) rows
        (all_weaker (λ row. has_row row rows ≡ true) (λ row. not (has_row (f row) rows) ≡ not (row_eq row (f row))) (λ row h. ap not (stood_before row h)) rows (elements rows)))

    pub update_untold : (cols : List Col) (alias : ℕ) → ((row : ARow) → same_in cols alias row (f row) ≡ true) → pointwise (same_in cols alias) (lacking rows (map f rows)) (lacking (map f rows) rows) ≡ true
    update_untold cols alias h = ap₂ (λ minus plus. pointwise (same_in cols alias) minus plus) minus_is plus_is ∙ in_place (same_in cols alias) h moved
