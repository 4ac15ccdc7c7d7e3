-- What a change does to the version of its row that has not ended.
use Rattle.std.proofs.Common.{◌≡◌, ℕ, zero, suc, ◌<◌, ◌+ℤ◌, Bool, true, false, cond, List, [], ◌∷◌, map, filter, get_or, set, Option, Some, None, refl, sym, ap, ap₂, ◌∙◌, subst, arith}
use Rattle.std.specs.Prelude.{◌&&◌, not, is_none, slice_get}
use Rattle.std.specs.List.{AllByRecursion}
use Rattle.std.specs.Ordering.{is_lt, nat_cmp, ordering_reverse, ordering_then}
use Rattle.std.specs.declared.cmp.Ordering.{Ordering}
use Rattle.std.specs.declared.cmp.Ordering.TheVariants.{Less, Equal, Greater}
use Rattle.std.proofs.lemmas.Cmp.{tied_itself}
use Rattle.std.proofs.lemmas.List.{set-get_or}
use Rattle.lv_values.specs.declared.value.Value.{Value}
use Rattle.lv_values.specs.Order.{row_cmp, row_eq}
use Rattle.lv_values.specs.OrderLaws.{row_total}
use Rattle.lv_schema.specs.declared.signed.SignedRow.{SignedRow}
use Rattle.lv_schema.specs.Versions.{end_by}
use Rattle.lv_schema.proofs.NetsLead.{same_row}
use Rattle.lv_shelf.specs.Cuts.{Apart, IsCut}
use Rattle.lv_shelf.proofs.Cutting.{all_at, cut_at, cut_long, got, got_within}
use Rattle.lv_viewrows.specs.declared.version.GroupVersion.{GroupVersion}
use Rattle.lv_viewrows.specs.Standing.{EndsBy, IsCount, MeetAll, Meets, Precedes, comes_before, current, ended, ended_at, has_no_end, is_current, meets_by, precedes_by}
use Rattle.lv_viewrows.proofs.Order.{less_of}

pub both : (a b : Bool) → (a && b) ≡ true → (a ≡ true) × (b ≡ true)
both true b h = (refl, h)
both false b h = cc

abbrev pub group_of : GroupVersion → SignedRow
group_of v = v.group

pub no_until : (u : Option ℕ) → is_none u ≡ true → u ≡ None
no_until None h = refl
no_until (Some k) h = cc

-- ---- a version that is not the current one of the row stays, and that one ends
pub ended_other : (number : ℕ) (row : List Value) (v : GroupVersion) → is_current row v ≡ false → ended number row v ≡ v
ended_other number row v h = by v.until refl
  where
    same : end_by v.until (not (row_eq row v.group.row)) number ≡ v.until → ended number row v ≡ v
    same e = ap (λ (u : Option ℕ). record v { until = u }) e

    by : (u : Option ℕ) → v.until ≡ u → ended number row v ≡ v
    by (Some k) e = same (ap (λ u. end_by u (not (row_eq row v.group.row)) number) e ∙ sym e)
    by None e =
        let other : row_eq row v.group.row ≡ false = sym (ap (λ u. is_none u && row_eq row v.group.row) e) ∙ h in
        same (ap₂ (λ u b. end_by u (not b) number) e other ∙ sym e)

pub ended_current : (number : ℕ) (row : List Value) (v : GroupVersion) → is_current row v ≡ true → ended number row v ≡ ended_at number v
ended_current number row v h =
    let parts = both (has_no_end v) (row_eq row v.group.row) h in
    ap (λ (u : Option ℕ). record v { until = u }) (ap₂ (λ u b. end_by u (not b) number) (no_until v.until parts.0) parts.1)

-- a version that has the row came before
pub came_before : (number : ℕ) (s : SignedRow) (v : GroupVersion) → Meets number s v → row_cmp v.group.row s.row ≡ Equal → v.from < number
came_before number s v m e = (subst (λ o. meets_by o number s v) e m).0

-- behind the place of the row no version is its current one
pub later_other : (number : ℕ) (s : SignedRow) (v : GroupVersion) → Meets number s v → comes_before s.row number v ≡ false → is_current s.row v ≡ false
later_other number s v m h = by (is_current s.row v) refl
  where
    by : (b : Bool) → is_current s.row v ≡ b → b ≡ false
    by false e = refl
    by true e =
        let same : s.row ≡ v.group.row = same_row s.row v.group.row (both (has_no_end v) (row_eq s.row v.group.row) e).1 in
        let tied : row_cmp v.group.row s.row ≡ Equal = ap (λ r. row_cmp v.group.row r) same ∙ tied_itself row_total v.group.row in
        let before : comes_before s.row number v ≡ true = ap (λ o. is_lt (ordering_then o (nat_cmp v.from number))) tied ∙ ap is_lt (less_of v.from number (came_before number s v m tied)) in
        cc

-- nor is one before the last that comes before the row
earlier_other : (row : List Value) (number : ℕ) (v w : GroupVersion) → Precedes v w → comes_before row number w ≡ true → is_current row v ≡ false
earlier_other row number v w r h = by (is_current row v) refl
  where
    above : (o : Ordering) → o ≡ Greater → is_lt (ordering_then o (nat_cmp w.from number)) ≡ true → ⊥
    above o e t = let f = ap (λ x. is_lt (ordering_then x (nat_cmp w.from number))) e in cc

    at : row ≡ v.group.row → v.until ≡ None → (o : Ordering) → row_cmp v.group.row w.group.row ≡ o → precedes_by o v w → ⊥
    at same none Less e r' =
        let less : row_cmp row w.group.row ≡ Less = ap (λ x. row_cmp x w.group.row) same ∙ e in
        above (row_cmp w.group.row row) (row_total.antisymm w.group.row row ∙ ap ordering_reverse less) h
    at same none Equal e r' = subst (EndsBy w.from) none r'.1
    at same none Greater e r' = r'

    by : (b : Bool) → is_current row v ≡ b → b ≡ false
    by false e = refl
    by true e =
        let parts = both (has_no_end v) (row_eq row v.group.row) e in
        absurd (at (same_row row v.group.row parts.1) (no_until v.until parts.0) (row_cmp v.group.row w.group.row) refl r)

-- ---- where a search by the row ends
-- the list where the version before a place is another one, and the current versions of the row, of which that one
-- alone may be
abbrev before_place : {X : Type 0} → (X → X) → ℕ → List X → X → List X
before_place f zero vs d = vs
before_place f (suc i) vs d = set vs i (f (get_or vs i d))

abbrev current_at : List Value → ℕ → List GroupVersion → GroupVersion → List GroupVersion
current_at row zero vs d = []
current_at row (suc i) vs d = filter (is_current row) (get_or vs i d ∷ [])

abbrev AtPlace : ℕ → SignedRow → ℕ → List GroupVersion → GroupVersion → Type 0
AtPlace number s i vs d = (filter (is_current s.row) vs ≡ current_at s.row i vs d) × (map (ended number s.row) vs ≡ before_place (ended number s.row) i vs d)

none_current : (number : ℕ) (s : SignedRow) (vs : List GroupVersion) (d : GroupVersion) → MeetAll number vs s → AllByRecursion (λ v. comes_before s.row number v ≡ false) vs → AtPlace number s zero vs d
none_current number s [] d m b = (refl, refl)
none_current number s (v ∷ vs) d m b =
    let other = later_other number s v m.0 b.0 in
    let rest = none_current number s vs d m.1 b.1 in
    ((λ i. cond (other i) (v ∷ filter (is_current s.row) vs) (filter (is_current s.row) vs)) ∙ rest.0, ap₂ (λ x l. x ∷ l) (ended_other number s.row v other) rest.1)

pub at_place : (number : ℕ) (s : SignedRow) (i : ℕ) (vs : List GroupVersion) (d : GroupVersion) → Apart Precedes vs → MeetAll number vs s → IsCut (comes_before s.row number) i vs → AtPlace number s i vs d
at_place number s zero vs d a m cut = none_current number s vs d m cut
at_place number s (suc i) [] d a m cut = absurd cut
at_place number s (suc zero) (v ∷ vs) d a m cut =
    let rest = none_current number s vs d m.1 cut.1 in
    ((λ i. cond (is_current s.row v) (v ∷ rest.0 i) (rest.0 i)), ap (λ l. ended number s.row v ∷ l) rest.1)
at_place number s (suc (suc i)) (v ∷ vs) d a m cut =
    let p = comes_before s.row number in
    let long = cut_long p (suc i) vs cut.1 in
    let w = get_or vs i d in
    let other = earlier_other s.row number v w (all_at (Precedes v) vs i d (omega (arith, long)) a.0) (cut_at p (suc i) i vs d cut.1 (omega arith)) in
    let rest = at_place number s (suc i) vs d a.1 m.1 cut.1 in
    ((λ i. cond (other i) (v ∷ filter (is_current s.row) vs) (filter (is_current s.row) vs)) ∙ rest.0, ap₂ (λ x l. x ∷ l) (ended_other number s.row v other) rest.1)

-- what the search leaves: no version in front, one in front that is not current, and one that is
module _ (number : ℕ) (s : SignedRow) (vs : List GroupVersion) (a : Apart Precedes vs) (m : MeetAll number vs s) (at : ℕ) (cut : IsCut (comes_before s.row number) at vs) where
  pub none_in_front : (d : GroupVersion) → at ≡ 0 → (current s.row vs ≡ []) × (map (ended number s.row) vs ≡ vs)
  none_in_front d e = let here = at_place number s zero vs d a m (subst (λ n. IsCut (comes_before s.row number) n vs) e cut) in (ap (map group_of) here.0, here.1)

  module _ (i : ℕ) (item : GroupVersion) (is : suc i ≡ at) (get : slice_get vs i ≡ Some item) where
    here : AtPlace number s (suc i) vs item
    here = at_place number s (suc i) vs item a m (subst (λ n. IsCut (comes_before s.row number) n vs) (sym is) cut)

    gets : get_or vs i item ≡ item
    gets = got vs i item item get

    pub other_in_front : is_current s.row item ≡ false → (current s.row vs ≡ []) × (map (ended number s.row) vs ≡ vs)
    other_in_front h = (
      ap (map group_of) (here.0 ∙ ap (λ v. filter (is_current s.row) (v ∷ [])) gets ∙ ap (λ b. cond b (item ∷ []) []) h),
      here.1 ∙ ap (λ x. set vs i (ended number s.row x)) gets ∙ ap (set vs i) (ended_other number s.row item h ∙ sym gets) ∙ set-get_or vs i item,
    )

    pub current_in_front : is_current s.row item ≡ true → (current s.row vs ≡ item.group ∷ []) × (map (ended number s.row) vs ≡ set vs i (ended_at number item))
    current_in_front h = (
      ap (map group_of) (here.0 ∙ ap (λ v. filter (is_current s.row) (v ∷ [])) gets ∙ ap (λ b. cond b (item ∷ []) []) h),
      here.1 ∙ ap (λ x. set vs i (ended number s.row x)) gets ∙ ap (set vs i) (ended_current number s.row item h),
    )

-- its count with the change's is a count
pub counted : (number : ℕ) (s : SignedRow) (vs : List GroupVersion) → MeetAll number vs s → (i : ℕ) (item : GroupVersion) → slice_get vs i ≡ Some item → is_current s.row item ≡ true → IsCount (item.group.count +ℤ s.count)
counted number s vs m i item get h =
    let here : Meets number s item = subst (Meets number s) (got vs i item item get) (all_at (Meets number s) vs i item (got_within vs i item get) m) in
    let parts = both (has_no_end item) (row_eq s.row item.group.row) h in
    let same : s.row ≡ item.group.row = same_row s.row item.group.row parts.1 in
    let tied : row_cmp item.group.row s.row ≡ Equal = ap (λ r. row_cmp item.group.row r) same ∙ tied_itself row_total item.group.row in
    (subst (λ o. meets_by o number s item) tied here).1 (no_until item.until parts.0)
