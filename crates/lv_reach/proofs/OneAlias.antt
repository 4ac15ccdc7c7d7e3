-- Where one alias alone changes, those of its old rows that stay are not needed, neither to find what is near nor for the
-- difference.
use Rattle.std.proofs.Common.{◌≡◌, ℕ, zero, suc, ◌+◌, ◌<◌, Bool, true, false, cond, ◌||◌, ◌==◌, List, [], ◌∷◌, length, refl, sym, ap, ◌∙◌, subst, arith}
use Rattle.std.proofs.lemmas.Bool.{eqb-false, eqb-true, eq-eqb}
use Rattle.std.specs.List.{filter, AllByRecursion}
use Rattle.lv_values.specs.Order.{row_eq}
use Rattle.lv_schema.specs.declared.part.Part.{Part}
use Rattle.lv_schema.specs.declared.view.ViewDef.{ViewDef}
use Rattle.lv_schema.specs.Differences.{difference}
use Rattle.lv_schema.specs.Jobs.{old_sides, new_sides}
use Rattle.lv_schema.specs.Nets.{has_row}
use Rattle.lv_schema.specs.Tuples.{Tuple}
use Rattle.lv_schema.proofs.Apart.{all_weaker}
use Rattle.lv_schema.proofs.ChangeLists.{ARow}
use Rattle.lv_schema.proofs.NetsLead.{elements, same_row}
use Rattle.lv_reach.specs.declared.link.Link.{Link}
use Rattle.lv_reach.specs.declared.rows.AliasRow.{AliasRow}
use Rattle.lv_reach.specs.Links.{links_of}
use Rattle.lv_reach.specs.Reach.{of_alias, row_at, part_at, AreWithin, is_changed, has_change, Leads, IsNear, IsFar, KeepsReach, cut_from, cut}
use Rattle.lv_reach.specs.Within.{OnlyChanges, with_old_at, with_lost_at, without_old}
use Rattle.lv_reach.proofs.Gathering.{first_there, second_there}
use Rattle.lv_reach.proofs.NearLaws.{changed_near, agreeing_near}
use Rattle.lv_reach.proofs.Reached.{all_kept, change_in, each_kept, kept_gives, reach_gives}
use Rattle.lv_reach.proofs.Unchanged.{all_there}

-- ---- the parts with other old rows of one alias
as_long : (rows : Part → List ARow) (i : ℕ) (parts : List Part) → length (with_old_at rows i parts) ≡ length parts
as_long rows i [] = refl
as_long rows zero (p ∷ parts) = refl
as_long rows (suc i) (p ∷ parts) = ap suc (as_long rows i parts)

changed_at : (rows : Part → List ARow) (i : ℕ) (parts : List Part) (j : ℕ) (row : ARow) → is_changed (part_at (with_old_at rows i parts) j) row ≡ is_changed (part_at parts j) row
changed_at rows i [] j row = refl
changed_at rows zero (p ∷ parts) zero row = refl
changed_at rows zero (p ∷ parts) (suc j) row = refl
changed_at rows (suc i) (p ∷ parts) zero row = refl
changed_at rows (suc i) (p ∷ parts) (suc j) row = changed_at rows i parts j row

old_elsewhere : (rows : Part → List ARow) (i : ℕ) (parts : List Part) (j : ℕ) → (j ≡ i → ⊥) → (part_at (with_old_at rows i parts) j).old ≡ (part_at parts j).old
old_elsewhere rows i [] j other = refl
old_elsewhere rows zero (p ∷ parts) zero other = absurd (other refl)
old_elsewhere rows zero (p ∷ parts) (suc j) other = refl
old_elsewhere rows (suc i) (p ∷ parts) zero other = refl
old_elsewhere rows (suc i) (p ∷ parts) (suc j) other = old_elsewhere rows i parts j (λ same. other (ap suc same))

lost_there : (i : ℕ) (parts : List Part) → (part_at (with_lost_at i parts) i).old ≡ (part_at parts i).minus
lost_there i [] = refl
lost_there zero (p ∷ parts) = refl
lost_there (suc i) (p ∷ parts) = lost_there i parts

-- ---- what is near with the rows of the alias that go is near without them: they change themselves
module _ (links : List Link) (parts : List Part) (i : ℕ) where
  abbrev lost : List Part
  lost = with_lost_at i parts

  abbrev bare : List Part
  bare = without_old i parts

  changed_bare : (j : ℕ) (row : ARow) → is_changed (part_at lost j) row ≡ true → is_changed (part_at bare j) row ≡ true
  changed_bare j row h = changed_at (λ p. []) i parts j row ∙ sym (changed_at (λ p. p.minus) i parts j row) ∙ h

  near_bare : (chain : List AliasRow) (a : AliasRow) → Leads links lost chain a → IsNear links bare a
  near_bare [] a h = changed_near links bare a (changed_bare a.alias a.row h)
  near_bare (from ∷ chain) a h = by (a.alias == i) refl (near_bare chain from h.2)
    where
      by : (t : Bool) → (a.alias == i) ≡ t → IsNear links bare from → IsNear links bare a
      by true e near =
          let same : a.alias ≡ i = eqb-true a.alias i e in
          let goes : has_row a.row (part_at parts a.alias).minus ≡ true
          = ap (λ n. has_row a.row (part_at parts n).minus) same ∙ sym (ap (has_row a.row) (lost_there i parts)) ∙ sym (ap (λ n. has_row a.row (part_at lost n).old) same) ∙ h.0 in
          changed_near links bare a (changed_at (λ p. []) i parts a.alias a.row ∙ first_there _ _ goes)
      by false e near =
          let other = eqb-false a.alias i e in
          agreeing_near links bare from a near
          (ap (has_row a.row) (old_elsewhere (λ p. []) i parts a.alias other ∙ sym (old_elsewhere (λ p. p.minus) i parts a.alias other)) ∙ h.0) h.1

  far_bare : (j : ℕ) → IsFar links lost j → IsFar links bare j
  far_bare j far = record { from = far.from; changed = changed_bare far.from.alias far.from.row far.changed; apart = far.apart }

  keeps_lost : (keep : AliasRow → Bool) → KeepsReach links bare keep → KeepsReach links lost keep
  keeps_lost keep reach = record { near = λ a near. reach.near a (near_bare near.0 a near.1); far = λ a far. reach.far a (far_bare a.alias far) }

-- ---- only rows of the alias that change are kept of it, and all rows of the others
module _ (i : ℕ) (test : ARow → Bool) where
  abbrev chosen : AliasRow → Bool
  chosen a = cond (a.alias == i) (test a.row) true

  chosen_there : (j : ℕ) (row : ARow) → (j == i) ≡ true → test row ≡ true → chosen (of_alias j row) ≡ true
  chosen_there j row e h = ap (λ t. cond t (test row) true) e ∙ h

  part_elsewhere : (n : ℕ) (p : Part) → (n == i) ≡ false → filter (λ row. chosen (of_alias n row)) p.old ≡ p.old
  part_elsewhere n p e = (λ t. filter (λ row. cond (e t) (test row) true) p.old) ∙ all_there p.old

  cut_behind : (n : ℕ) (parts : List Part) → i < n → cut_from chosen n parts ≡ parts
  cut_behind n [] lt = refl
  cut_behind n (p ∷ parts) lt =
      let e : (n == i) ≡ false = apart_from n lt in
      λ t. record { old = part_elsewhere n p e t; minus = p.minus; plus = p.plus } ∷ cut_behind (suc n) parts (omega (arith, lt)) t
    where
      apart_from : (n : ℕ) → i < n → (n == i) ≡ false
      apart_from n lt = by (n == i) refl
        where
          by : (t : Bool) → (n == i) ≡ t → (n == i) ≡ false
          by true e = let same : n ≡ i = eqb-true n i e in absurd (omega (arith, same, lt))
          by false e = e

  cut_lost : (n k : ℕ) (parts : List Part) → n + k ≡ i → filter test (part_at parts k).old ≡ (part_at parts k).minus → cut_from chosen n parts ≡ with_lost_at k parts
  cut_lost n k [] is h = refl
  cut_lost n zero (p ∷ parts) is h =
      let same : n ≡ i = omega (arith, is) in
      let e : (n == i) ≡ true = eq-eqb n i same in
      let old : filter (λ row. chosen (of_alias n row)) p.old ≡ p.minus = (λ t. filter (λ row. cond (e t) (test row) true) p.old) ∙ h in
      λ t. record { old = old t; minus = p.minus; plus = p.plus } ∷ cut_behind (suc n) parts (omega (arith, is)) t
  cut_lost n (suc k) (p ∷ parts) is h =
      let e : (n == i) ≡ false = before n k is in
      λ t. record { old = part_elsewhere n p e t; minus = p.minus; plus = p.plus } ∷ cut_lost (suc n) k parts (omega (arith, is)) h t
    where
      before : (n k : ℕ) → n + suc k ≡ i → (n == i) ≡ false
      before n k is = by (n == i) refl
        where
          by : (t : Bool) → (n == i) ≡ t → (n == i) ≡ false
          by true e = let same : n ≡ i = eqb-true n i e in absurd (omega (arith, same, is))
          by false e = e

-- ---- the old rows that change are those that go
filter_on : (f g : ARow → Bool) (rows : List ARow) → AllByRecursion (λ row. f row ≡ g row) rows → filter f rows ≡ filter g rows
filter_on f g [] all = refl
filter_on f g (row ∷ rows) all = λ i. cond (all.0 i) (row ∷ filter_on f g rows all.1 i) (filter_on f g rows all.1 i)

not_new : (old plus : List ARow) → AllByRecursion (λ row. has_row row old ≡ false) plus → (row : ARow) → has_row row old ≡ true → has_row row plus ≡ false
not_new old [] all row h = refl
not_new old (r ∷ plus) all row h = by (row_eq row r) refl (not_new old plus all.1 row h)
  where
    by : (t : Bool) → row_eq row r ≡ t → has_row row plus ≡ false → (t || has_row row plus) ≡ false
    by true e rest = let no : true ≡ false = sym h ∙ ap (λ q. has_row q old) (same_row row r e) ∙ all.0 in cc
    by false e rest = rest

only_first : (a b : Bool) → b ≡ false → (a || b) ≡ a
only_first true b e = refl
only_first false b e = e

changed_go : (p : Part) → filter (λ row. has_row row p.minus) p.old ≡ p.minus → AllByRecursion (λ row. has_row row p.old ≡ false) p.plus → filter (is_changed p) p.old ≡ p.minus
changed_go p there new =
    filter_on (is_changed p) (λ row. has_row row p.minus) p.old
    (all_weaker (λ row. has_row row p.old ≡ true) (λ row. is_changed p row ≡ has_row row p.minus) (λ row h. only_first (has_row row p.minus) (has_row row p.plus) (not_new p.old p.plus new row h)) p.old (elements p.old))
    ∙ there

-- ---- the difference
module _ (parts : List Part) (i : ℕ) (only : OnlyChanges i parts) where
  abbrev keep_changed : AliasRow → Bool
  keep_changed = chosen i (is_changed (part_at parts i))

  there_alone : (j : ℕ) (row : ARow) → is_changed (part_at parts j) row ≡ true → j ≡ i
  there_alone j row h = by (j == i) refl
    where
      by : (t : Bool) → (j == i) ≡ t → j ≡ i
      by true e = eqb-true j i e
      by false e =
          let none = only j (eqb-false j i e) in
          let no : true ≡ false = sym h ∙ (λ t. has_row row (none.0 t) || has_row row (none.1 t)) in cc

  changed_kept : (j : ℕ) (row : ARow) → is_changed (part_at parts j) row ≡ true → keep_changed (of_alias j row) ≡ true
  changed_kept j row h =
      let same = there_alone j row h in
      chosen_there i (is_changed (part_at parts i)) j row (eq-eqb j i same) (subst (λ n. is_changed (part_at parts n) row ≡ true) same h)

  rows_kept : (tuple : Tuple) → has_change parts tuple ≡ true → all_kept keep_changed 0 tuple ≡ true
  rows_kept tuple changed =
      let at = change_in parts tuple changed in
      let same = there_alone at.0 (row_at tuple at.0) at.1 in
      let here : is_changed (part_at parts i) (row_at tuple i) ≡ true = subst (λ n. is_changed (part_at parts n) (row_at tuple n) ≡ true) same at.1 in
      each_kept keep_changed 0 tuple (λ j. let e : j ≡ 0 + j = omega arith in subst (λ n. keep_changed (of_alias n (row_at tuple j)) ≡ true) e (by here j (j == i) refl))
    where
      by : is_changed (part_at parts i) (row_at tuple i) ≡ true → (j : ℕ) (t : Bool) → (j == i) ≡ t → keep_changed (of_alias j (row_at tuple j)) ≡ true
      by here j true e = chosen_there i (is_changed (part_at parts i)) j (row_at tuple j) e (subst (λ n. is_changed (part_at parts i) (row_at tuple n) ≡ true) (sym (eqb-true j i e)) here)
      by here j false e = ap (λ t. cond t (is_changed (part_at parts i) (row_at tuple j)) true) e

  lost_gives : (view : ViewDef) → filter (λ row. has_row row (part_at parts i).minus) (part_at parts i).old ≡ (part_at parts i).minus → AllByRecursion (λ row. has_row row (part_at parts i).old ≡ false) (part_at parts i).plus
      → difference view (old_sides (with_lost_at i parts)) (new_sides (with_lost_at i parts)) ≡ difference view (old_sides parts) (new_sides parts)
  lost_gives view there new =
      let is : cut keep_changed parts ≡ with_lost_at i parts = cut_lost i (is_changed (part_at parts i)) 0 i parts (omega arith) (changed_go (part_at parts i) there new) in
      ap (λ smaller. difference view (old_sides smaller) (new_sides smaller)) (sym is)
      ∙ kept_gives view parts keep_changed (λ tuple over changed kept. rows_kept tuple changed)
      (λ j row h. changed_kept j row (second_there (has_row row (part_at parts j).minus) _ h))

pub one_alias_gives : (view : ViewDef) (parts : List Part) (i : ℕ) (keep : AliasRow → Bool) → AreWithin (length parts) (links_of view.cond) → OnlyChanges i parts
    → filter (λ row. has_row row (part_at parts i).minus) (part_at parts i).old ≡ (part_at parts i).minus
    → AllByRecursion (λ row. has_row row (part_at parts i).old ≡ false) (part_at parts i).plus
    → KeepsReach (links_of view.cond) (without_old i parts) keep
    → difference view (old_sides (cut keep (with_lost_at i parts))) (new_sides (cut keep (with_lost_at i parts))) ≡ difference view (old_sides parts) (new_sides parts)
one_alias_gives view parts i keep within only there new reach =
    reach_gives view (with_lost_at i parts) keep (subst (λ n. AreWithin n (links_of view.cond)) (sym (as_long (λ p. p.minus) i parts)) within) (keeps_lost (links_of view.cond) parts i keep reach)
    ∙ lost_gives parts i only view there new
