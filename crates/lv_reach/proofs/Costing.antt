-- What a walk costs: at most what any list of all near rows says.
use Rattle.std.proofs.Common.{◌<◌, subst, ◌≡◌, ℕ, zero, suc, ◌+◌, ◌≤◌, Bool, true, false, cond, not, ◌&&◌, ◌||◌, List, [], ◌∷◌, length, take, slice_get, Some, refl, sym, ap, ◌∙◌, arith}
use Rattle.std.proofs.lemmas.List.Sums.{sum_by_push, sum_by-cons}
use Rattle.std.specs.List.{filter, sum_by}
use Rattle.lv_schema.specs.declared.part.Part.{Part}
use Rattle.lv_schema.specs.Once.{are_apart}
use Rattle.lv_reach.specs.declared.link.Link.{Link}
use Rattle.lv_reach.specs.declared.rows.AliasRow.{AliasRow}
use Rattle.lv_reach.specs.Cost.{IsReach, cost, looked_up, neighbours, whole_from}
use Rattle.lv_reach.specs.Reach.{alike, IsNear, has_alias_row}
use Rattle.lv_reach.specs.Walk.{HasNear, IsWalk}
use Rattle.lv_reach.proofs.Gathering.{one_row, row_alike, among, first_there, second_there, filter_there}
use Rattle.lv_reach.proofs.Walking.{take_one}

module _ (f : AliasRow → ℕ) where
  fewer : (test : AliasRow → Bool) (rows : List AliasRow) → sum_by f (filter test rows) ≤ sum_by f rows
  fewer test [] = omega arith
  fewer test (a ∷ rows) = by (test a) (fewer test rows)
    where
      by : (t : Bool) → sum_by f (filter test rows) ≤ sum_by f rows → sum_by f (cond t (a ∷ filter test rows) (filter test rows)) ≤ sum_by f (a ∷ rows)
      by true h = omega (arith, h, sum_by-cons f a (filter test rows), sum_by-cons f a rows)
      by false h = omega (arith, h, sum_by-cons f a rows)

  without : (a : AliasRow) (rows : List AliasRow) → has_alias_row a rows ≡ true → f a + sum_by f (filter (λ b. not (alike a b)) rows) ≤ sum_by f rows
  without a [] h = cc
  without a (b ∷ rows) h = by (alike a b) refl h (without a rows)
    where
      by : (t : Bool) → alike a b ≡ t → (t || has_alias_row a rows) ≡ true → (has_alias_row a rows ≡ true → f a + sum_by f (filter (λ b. not (alike a b)) rows) ≤ sum_by f rows)
          → f a + sum_by f (cond (not t) (b ∷ filter (λ b. not (alike a b)) rows) (filter (λ b. not (alike a b)) rows)) ≤ sum_by f (b ∷ rows)
      by true e h rest = let same = ap f (one_row a b e) in omega (arith, same, fewer (λ b. not (alike a b)) rows, sum_by-cons f b rows)
      by false e h rest = let more = rest h in omega (arith, more, sum_by-cons f b (filter (λ b. not (alike a b)) rows), sum_by-cons f b rows)

  -- rows, each once, that are among others
  pub sum_within : (some all : List AliasRow) → are_apart alike some ≡ true → ((a : AliasRow) → has_alias_row a some ≡ true → has_alias_row a all ≡ true) → sum_by f some ≤ sum_by f all
  sum_within [] all apart h = omega arith
  sum_within (a ∷ some) all apart h = by (has_alias_row a some) refl apart (sum_within some (filter (λ b. not (alike a b)) all))
    where
      other : (b : AliasRow) → has_alias_row a some ≡ false → has_alias_row b some ≡ true → (t : Bool) → alike a b ≡ t → not (alike a b) ≡ true
      other b e there true d = let no : true ≡ false = sym there ∙ ap (λ c. has_alias_row c some) (sym (one_row a b d)) ∙ e in cc
      other b e there false d = ap not d

      by : (t : Bool) → has_alias_row a some ≡ t → (not t && are_apart alike some) ≡ true
          → (are_apart alike some ≡ true → ((b : AliasRow) → has_alias_row b some ≡ true → has_alias_row b (filter (λ b. not (alike a b)) all) ≡ true) → sum_by f some ≤ sum_by f (filter (λ b. not (alike a b)) all))
          → sum_by f (a ∷ some) ≤ sum_by f all
      by true e k rest = cc
      by false e k rest =
          let less = rest k (λ b there. filter_there (λ b. not (alike a b)) all b (h b (second_there _ _ there)) (other b e there (alike a b) refl)) in
          omega (arith, less, without a all (h a (first_there _ _ (row_alike a))), sum_by-cons f a some)

-- the first of some rows, each once
pub take_there : (n : ℕ) (rows : List AliasRow) (a : AliasRow) → has_alias_row a (take n rows) ≡ true → has_alias_row a rows ≡ true
take_there zero rows a h = cc
take_there (suc n) [] a h = cc
take_there (suc n) (b ∷ rows) a h = by (alike a b) h (take_there n rows a)
  where
    by : (t : Bool) → (t || has_alias_row a (take n rows)) ≡ true → (has_alias_row a (take n rows) ≡ true → has_alias_row a rows ≡ true) → (t || has_alias_row a rows) ≡ true
    by true k rest = refl
    by false k rest = rest k

apart_take : (n : ℕ) (rows : List AliasRow) → are_apart alike rows ≡ true → are_apart alike (take n rows) ≡ true
apart_take zero rows h = refl
apart_take (suc n) [] h = refl
apart_take (suc n) (a ∷ rows) h = by (has_alias_row a rows) (has_alias_row a (take n rows)) refl refl h (apart_take n rows)
  where
    by : (s t : Bool) → has_alias_row a rows ≡ s → has_alias_row a (take n rows) ≡ t → (not s && are_apart alike rows) ≡ true → (are_apart alike rows ≡ true → are_apart alike (take n rows) ≡ true)
        → (not (has_alias_row a (take n rows)) && are_apart alike (take n rows)) ≡ true
    by true t e d h rest = cc
    by false true e d h rest = let no : true ≡ false = sym (take_there n rows a d) ∙ e in cc
    by false false e d h rest = (λ i. not (d i) && are_apart alike (take n rows)) ∙ rest h

module _ (links : List Link) (parts : List Part) (first near : List AliasRow) (at : ℕ) (w : IsWalk links parts first near at) where
  pub looked_more : (next : ℕ) (a : AliasRow) → slice_get near at ≡ Some a → next ≡ suc at → looked_up links parts (take next near) ≡ looked_up links parts (take at near) + length (neighbours links parts a)
  looked_more next a here is =
      ap (looked_up links parts) (ap (λ n. take n near) is ∙ take_one near at a here)
      ∙ sum_by_push (λ b. length (neighbours links parts b)) (take at near) a

  pub at_most_all : (n : ℕ) (all : List AliasRow) → HasNear links parts all → looked_up links parts (take n near) ≤ looked_up links parts all
  at_most_all n all has =
      sum_within (λ b. length (neighbours links parts b)) (take n near) all (apart_take n near w.once)
      (λ a h. has a (among (IsNear links parts) near a w.sound (take_there n near a h)))

  -- where a look-up from the next row fails
  pub fails_within : (a : AliasRow) (start here there : ℕ) → slice_get near at ≡ Some a → here ≤ start + looked_up links parts (take at near) → there ≤ here + length (neighbours links parts a)
      → (all : List AliasRow) → HasNear links parts all → there ≤ start + looked_up links parts all
  fails_within a start here there at_a e le all has = omega (arith, e, le, looked_more (suc at) a at_a refl, at_most_all (suc at) all has)

-- ---- the cost is one number
pub looked_up_at_most : (links : List Link) (parts : List Part) (some all : List AliasRow) (f g : ℕ → Bool) → IsReach links parts some f → IsReach links parts all g → looked_up links parts some ≤ looked_up links parts all
looked_up_at_most links parts some all f g r s =
    sum_within (λ a. length (neighbours links parts a)) some all r.once (λ a h. (s.near_rows a).1 ((r.near_rows a).0 h))

same_flag : (a b : Bool) → (a ≡ true → b ≡ true) → (b ≡ true → a ≡ true) → a ≡ b
same_flag true b h k = sym (h refl)
same_flag false true h k = k refl
same_flag false false h k = refl

whole_same : (f g : ℕ → Bool) (i : ℕ) (parts : List Part) → ((j : ℕ) → j < length parts → f (i + j) ≡ g (i + j)) → whole_from f i parts ≡ whole_from g i parts
whole_same f g i [] h = refl
whole_same f g i (p ∷ parts) h =
    let here : i + 0 ≡ i = omega arith in
    let first : f i ≡ g i = subst (λ n. f n ≡ g n) here (h 0 (omega arith)) in
    λ t. cond (first t) (length p.old) 0 + whole_same f g (suc i) parts (λ j lt. let next : i + suc j ≡ suc i + j = omega arith in subst (λ n. f n ≡ g n) next (h (suc j) (omega arith))) t

pub one_cost : (links : List Link) (parts : List Part) (some all : List AliasRow) (f g : ℕ → Bool) → IsReach links parts some f → IsReach links parts all g → cost links parts some f ≡ cost links parts all g
one_cost links parts some all f g r s =
    let whole = whole_same f g 0 parts (λ j lt. let e : j ≡ 0 + j = omega arith in subst (λ n. f n ≡ g n) e
    (same_flag (f j) (g j) (λ h. (s.far_aliases j lt).1 ((r.far_aliases j lt).0 h)) (λ h. (r.far_aliases j lt).1 ((s.far_aliases j lt).0 h)))) in
    omega (arith, whole, looked_up_at_most links parts some all f g r s, looked_up_at_most links parts all some g f s r)
