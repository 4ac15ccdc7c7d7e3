-- The tuples without a changed row are the same before a step and after it.
use Rattle.std.proofs.Common.{◌≡◌, Bool, true, false, cond, not, ◌||◌, List, [], ◌∷◌, ◌++◌, map, refl, sym, ap, ◌∙◌}
use Rattle.std.proofs.lemmas.List.Elements.{filter-append}
use Rattle.std.specs.List.{filter, flat_map, AllByRecursion}
use Rattle.lv_schema.specs.declared.part.Part.{Part}
use Rattle.lv_schema.specs.Jobs.{new_rows, old_sides, new_sides}
use Rattle.lv_schema.specs.Nets.{has_row, lacking}
use Rattle.lv_schema.specs.Tuples.{Tuple, tuples}
use Rattle.lv_schema.proofs.Apart.{all_weaker}
use Rattle.lv_schema.proofs.ChangeLists.{ARow}
use Rattle.lv_schema.proofs.NetsLead.{elements}
use Rattle.lv_reach.specs.Reach.{is_changed, has_change, unchanged}

-- ---- filters
-- a filter behind a weaker one
filter_behind : {X : Type 0} (f g : X → Bool) → ((x : X) → g x ≡ false → f x ≡ false) → (xs : List X) → filter f (filter g xs) ≡ filter f xs
filter_behind f g h [] = refl
filter_behind f g h (x ∷ xs) = by (g x) refl (filter_behind f g h xs)
  where
    by : (b : Bool) → g x ≡ b → filter f (filter g xs) ≡ filter f xs → filter f (cond b (x ∷ filter g xs) (filter g xs)) ≡ cond (f x) (x ∷ filter f xs) (filter f xs)
    by true e r = λ i. cond (f x) (x ∷ r i) (r i)
    by false e r = r ∙ sym (λ i. cond (h x e i) (x ∷ filter f xs) (filter f xs))

pub none_pass : {X : Type 0} (f : X → Bool) (xs : List X) → AllByRecursion (λ x. f x ≡ false) xs → filter f xs ≡ []
none_pass f [] a = refl
none_pass f (x ∷ xs) a = (λ i. cond (a.0 i) (x ∷ filter f xs) (filter f xs)) ∙ none_pass f xs a.1

nothing_behind : {X : Type 0} (xs : List X) → xs ++ [] ≡ xs
nothing_behind [] = refl
nothing_behind (x ∷ xs) = ap (λ l. x ∷ l) (nothing_behind xs)

-- ---- the rows of a part that stay
abbrev pub stays : Part → ARow → Bool
stays p row = not (is_changed p row)

not_gone : (a b : Bool) → not a ≡ false → not (a || b) ≡ false
not_gone true b e = refl
not_gone false b e = cc

not_come : (a b : Bool) → b ≡ true → not (a || b) ≡ false
not_come true b e = refl
not_come false b e = ap not e

pub rows_stay : (p : Part) → filter (stays p) p.old ≡ filter (stays p) (new_rows p)
rows_stay p =
    let left = filter (stays p) (lacking p.old p.minus) in
    let come : filter (stays p) p.plus ≡ [] = none_pass (stays p) p.plus
    (all_weaker (λ row. has_row row p.plus ≡ true) (λ row. stays p row ≡ false) (λ row e. not_come (has_row row p.minus) (has_row row p.plus) e) p.plus (elements p.plus)) in
    sym (filter_behind (stays p) (λ row. not (has_row row p.minus)) (λ row e. not_gone (has_row row p.minus) (has_row row p.plus) e) p.old)
    ∙ sym (nothing_behind left)
    ∙ ap (λ l. left ++ l) (sym come)
    ∙ sym (filter-append (stays p) (lacking p.old p.minus) p.plus)

-- ---- tuples of such rows
abbrev staying : List Part → List (List ARow) → List (List ARow)
staying [] sides = sides
staying (p ∷ parts) [] = []
staying (p ∷ parts) (rows ∷ sides) = filter (stays p) rows ∷ staying parts sides

pub all_there : {X : Type 0} (xs : List X) → filter (λ _. true) xs ≡ xs
all_there [] = refl
all_there (x ∷ xs) = ap (λ l. x ∷ l) (all_there xs)

-- the tuples that begin with a row
beginning : (p : Part) (parts : List Part) (row : ARow) (b : Bool) → (ts : List Tuple) → filter (λ tuple. not (b || has_change parts tuple)) ts ≡ cond (not b) (unchanged parts ts) []
beginning p parts row true [] = refl
beginning p parts row true (t ∷ ts) = beginning p parts row true ts
beginning p parts row false ts = refl

filter_begun : (f : Tuple → Bool) (row : ARow) (ts : List Tuple) → filter f (map (λ tuple. row ∷ tuple) ts) ≡ map (λ tuple. row ∷ tuple) (filter (λ tuple. f (row ∷ tuple)) ts)
filter_begun f row [] = refl
filter_begun f row (t ∷ ts) = by (f (row ∷ t)) (filter_begun f row ts)
  where
    by : (b : Bool) → filter f (map (λ tuple. row ∷ tuple) ts) ≡ map (λ tuple. row ∷ tuple) (filter (λ tuple. f (row ∷ tuple)) ts)
        → cond b ((row ∷ t) ∷ filter f (map (λ tuple. row ∷ tuple) ts)) (filter f (map (λ tuple. row ∷ tuple) ts)) ≡ map (λ tuple. row ∷ tuple) (cond b (t ∷ filter (λ tuple. f (row ∷ tuple)) ts) (filter (λ tuple. f (row ∷ tuple)) ts))
    by true e = ap (λ l. (row ∷ t) ∷ l) e
    by false e = e

module _ (p : Part) (parts : List Part) (ts us : List Tuple) (same : unchanged parts ts ≡ us) where
  abbrev all_begun : ARow → List Tuple
  all_begun row = map (λ tuple. row ∷ tuple) ts

  abbrev begun : ARow → List Tuple
  begun row = map (λ tuple. row ∷ tuple) us

  row_first : (row : ARow) → unchanged (p ∷ parts) (all_begun row) ≡ cond (stays p row) (begun row) []
  row_first row =
      filter_begun (λ tuple. not (has_change (p ∷ parts) tuple)) row ts
      ∙ ap (map (λ tuple. row ∷ tuple)) (beginning p parts row (is_changed p row) ts)
      ∙ by (stays p row)
    where
      by : (b : Bool) → map (λ tuple. row ∷ tuple) (cond b (unchanged parts ts) []) ≡ cond b (begun row) []
      by true = ap (map (λ tuple. row ∷ tuple)) same
      by false = refl

  rows_first : (rows : List ARow) → unchanged (p ∷ parts) (flat_map all_begun rows) ≡ flat_map begun (filter (stays p) rows)
  rows_first [] = refl
  rows_first (row ∷ rows) =
      filter-append (λ tuple. not (has_change (p ∷ parts) tuple)) (all_begun row) (flat_map all_begun rows)
      ∙ (λ i. row_first row i ++ rows_first rows i)
      ∙ by (stays p row)
    where
      by : (b : Bool) → cond b (begun row) [] ++ flat_map begun (filter (stays p) rows) ≡ flat_map begun (cond b (row ∷ filter (stays p) rows) (filter (stays p) rows))
      by true = refl
      by false = refl

unchanged_tuples : (parts : List Part) (sides : List (List ARow)) → unchanged parts (tuples sides) ≡ tuples (staying parts sides)
unchanged_tuples [] sides = all_there (tuples sides)
unchanged_tuples (p ∷ parts) [] = refl
unchanged_tuples (p ∷ parts) (rows ∷ sides) = rows_first p parts (tuples sides) (tuples (staying parts sides)) (unchanged_tuples parts sides) rows

sides_stay : (parts : List Part) → staying parts (old_sides parts) ≡ staying parts (new_sides parts)
sides_stay [] = refl
sides_stay (p ∷ parts) = λ i. rows_stay p i ∷ sides_stay parts i

pub tuples_stay : (parts : List Part) → unchanged parts (tuples (old_sides parts)) ≡ unchanged parts (tuples (new_sides parts))
tuples_stay parts = unchanged_tuples parts (old_sides parts) ∙ ap tuples (sides_stay parts) ∙ sym (unchanged_tuples parts (new_sides parts))
