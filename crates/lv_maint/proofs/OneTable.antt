-- A view of one table: its changed rows as entries, one after another, and what they come to.
use Rattle.std.proofs.Common.{◌≡◌, ℕ, ◌+◌, ◌<◌, ◌≤◌, Bor, List, [], ◌∷◌, ◌++◌, map, length, take, get_or, refl, sym, ap, ◌∙◌, arith}
use Rattle.std.specs.Prelude.{flat_map, slice_set}
use Rattle.std.proofs.lemmas.List.{append-nil, map-append, take_all, take_more}
use Rattle.std.proofs.lemmas.List.Elements.{filter-append}
use Rattle.std.specs.List.{filter}
use Rattle.lv_schema.specs.declared.cond.Col.{Col}
use Rattle.lv_schema.specs.declared.cond.Cond.{Cond}
use Rattle.lv_schema.specs.declared.part.Part.{Part}
use Rattle.lv_schema.specs.declared.signed.SignedRow.{SignedRow}
use Rattle.lv_schema.specs.Truth.{holds}
use Rattle.lv_schema.specs.Tuples.{Tuple}
use Rattle.lv_schema.proofs.ChangeLists.{ARow}
use Rattle.lv_bags.specs.Bags.{negated}
use Rattle.lv_join.specs.Ties.{seen}
use Rattle.lv_maint.specs.Alone.{came, went}
use Rattle.lv_maint.specs.Terms.{entry_of, terms}

pub only_set : (tuple : Tuple) (row : ARow) → length tuple ≡ 1 → slice_set tuple 0 row ≡ row ∷ []
only_set [] row h = absurd (omega (arith, h))
only_set (q ∷ []) row h = refl
only_set (q ∷ r ∷ tuple) row h = absurd (omega (arith, h))

pub none_left : (rows : List (Bor ARow)) (place : ℕ) → length rows ≤ place → take (place + 1) rows ≡ take place rows
none_left rows place h = take_all (place + 1) rows (omega (arith, h)) ∙ sym (take_all place rows h)

module _ (keys sums : List Col) (c : Cond) where
  came_joined : (a b : List ARow) → came keys sums c (a ++ b) ≡ came keys sums c a ++ came keys sums c b
  came_joined a b =
      let one : ARow → Tuple = λ row. row ∷ [] in
      ap (λ (l : List Tuple). map (entry_of keys sums) (filter (holds c) l)) (map-append one a b)
      ∙ ap (map (entry_of keys sums)) (filter-append (holds c) (map one a) (map one b))
      ∙ map-append (entry_of keys sums) (filter (holds c) (map one a)) (filter (holds c) (map one b))

  rows_more : (rows : List (Bor ARow)) (place : ℕ) (p : Bor ARow) → place < length rows → p ≡ get_or rows place p → seen (take (place + 1) rows) ≡ seen (take place rows) ++ p.now ∷ []
  rows_more rows place p lt is =
      ap seen (take_more rows place p lt ∙ ap (λ (q : Bor ARow). take place rows ++ q ∷ []) (sym is))
      ∙ map-append (λ (q : Bor ARow). q.now) (take place rows) (p ∷ [])

  pub came_more : (rows : List (Bor ARow)) (place : ℕ) (p : Bor ARow) → place < length rows → p ≡ get_or rows place p
      → came keys sums c (seen (take (place + 1) rows)) ≡ came keys sums c (seen (take place rows)) ++ came keys sums c (p.now ∷ [])
  came_more rows place p lt is = ap (came keys sums c) (rows_more rows place p lt is) ∙ came_joined (seen (take place rows)) (p.now ∷ [])

  pub went_more : (rows : List (Bor ARow)) (place : ℕ) (p : Bor ARow) → place < length rows → p ≡ get_or rows place p
      → went keys sums c (seen (take (place + 1) rows)) ≡ went keys sums c (seen (take place rows)) ++ went keys sums c (p.now ∷ [])
  went_more rows place p lt is = ap (map negated) (came_more rows place p lt is) ∙ map-append negated (came keys sums c (seen (take place rows))) (came keys sums c (p.now ∷ []))

  -- the tuples of one table are its rows
  alone : (rows : List ARow) → flat_map (λ row. (row ∷ []) ∷ []) rows ≡ map (λ row. row ∷ []) rows
  alone [] = refl
  alone (row ∷ rows) = ap (λ (l : List Tuple). (row ∷ []) ∷ l) (alone rows)

  pub one_term : (p : Part) → came keys sums c p.plus ++ went keys sums c p.minus ≡ terms keys sums c [] (p ∷ [])
  one_term p =
      let select : List Tuple → List SignedRow = λ l. map (entry_of keys sums) (filter (holds c) l) in
      (λ i. select (sym (alone p.plus) i) ++ map negated (select (sym (alone p.minus) i)))
      ∙ sym (append-nil _)
