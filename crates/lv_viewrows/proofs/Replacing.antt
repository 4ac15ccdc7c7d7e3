-- One version in the place of another one, and what a change does where its row has a group.
use Rattle.std.proofs.Common.{◌≡◌, ℕ, zero, suc, ◌+◌, ◌-◌, ◌<◌, Bool, true, false, cond, List, [], ◌∷◌, map, set, Some, refl, sym, ap, ◌∙◌, subst, arith}
use Rattle.std.specs.Prelude.{slice_get}
use Rattle.std.specs.List.{insert}
use Rattle.std.specs.Ordering.{is_eq, ordering_reverse}
use Rattle.std.proofs.lemmas.Cmp.{tied_itself}
use Rattle.lv_values.specs.declared.value.Value.{Value}
use Rattle.lv_values.specs.Ascending.{placed}
use Rattle.lv_values.specs.Order.{row_eq}
use Rattle.lv_schema.specs.declared.signed.SignedRow.{SignedRow}
use Rattle.lv_schema.proofs.Apart.{all_weaker}
use Rattle.lv_group.specs.Gathered.{has_tuples}
use Rattle.lv_shelf.specs.Cuts.{Apart, IsCut}
use Rattle.lv_shelf.specs.Shelves.{ChangesOnly}
use Rattle.lv_shelf.proofs.Cutting.{all_at, cut_long, got, got_within}
use Rattle.lv_viewrows.specs.declared.version.GroupVersion.{GroupVersion}
use Rattle.lv_viewrows.specs.Changed.{group_with}
use Rattle.lv_viewrows.specs.Kept.{version_from}
use Rattle.lv_viewrows.specs.Standing.{MeetAll, Precedes, changed, comes_before, current, ended, ended_at, has_no_end, is_current, joined, not_ended_before, put, version_cmp}
use Rattle.lv_viewrows.proofs.Ending.{both, current_in_front, none_in_front, other_in_front}
use Rattle.lv_viewrows.proofs.Galloping.{cut_ended, cut_put}
use Rattle.lv_viewrows.proofs.NotEnded.{before_after, before_inserted, before_next, with_item}
use Rattle.lv_viewrows.proofs.Order.{placed_there, precedes_less, version_total}

-- ---- a version in the place of the one that stands where it does, and each other one as it is
abbrev pub swapped : GroupVersion → GroupVersion → GroupVersion → GroupVersion
swapped x y v = cond (is_eq (version_cmp x v)) y v

pub swapped_itself : (x y : GroupVersion) → swapped x y x ≡ y
swapped_itself x y = ap (λ o. cond (is_eq o) y x) (tied_itself version_total x)

pub swapped_once : (x y : GroupVersion) → swapped x y y ≡ y
swapped_once x y = by (is_eq (version_cmp x y))
  where
    by : (b : Bool) → cond b y y ≡ y
    by true = refl
    by false = refl

in_front : (x y v : GroupVersion) → Precedes v x → swapped x y v ≡ v
in_front x y v r = ap (λ o. cond (is_eq o) y v) (version_total.antisymm x v ∙ ap ordering_reverse (precedes_less v x r))

behind : (x y v : GroupVersion) → Precedes x v → swapped x y v ≡ v
behind x y v r = ap (λ o. cond (is_eq o) y v) (precedes_less x v r)

pub swaps_only : (x y : GroupVersion) (at : ℕ) (vs : List GroupVersion) → slice_get vs at ≡ Some x → Apart Precedes vs → ChangesOnly (swapped x y) at vs
swaps_only x y at [] get a = tt
swaps_only x y zero (v ∷ vs) get a =
    let is : Some v ≡ Some x = get in
    let there : v ≡ x = cc in
    all_weaker (Precedes v) (λ w. swapped x y w ≡ w) (λ w r. behind x y w (subst (λ u. Precedes u w) there r)) vs a.0
swaps_only x y (suc at) (v ∷ vs) get a =
    let before : Precedes v x = subst (Precedes v) (got vs at x x get) (all_at (Precedes v) vs at x (got_within vs at x get) a.0) in
    (in_front x y v before, swaps_only x y at vs get a.1)

-- ---- a change of a row that has no group
pub no_current : (number : ℕ) (s : SignedRow) (vs : List GroupVersion) → Apart Precedes vs → MeetAll number vs s → (at : ℕ) → IsCut (comes_before s.row number) at vs
    → ((v : GroupVersion) → 0 < at → slice_get vs (at - 1) ≡ Some v → is_current s.row v ≡ false) → (current s.row vs ≡ []) × (map (ended number s.row) vs ≡ vs)
no_current number s vs a m zero cut h = none_in_front number s vs a m zero cut (version_from number s) refl
no_current number s vs a m (suc i) cut h =
    let before : suc i - 1 ≡ i = omega arith in
    let long = cut_long (comes_before s.row number) (suc i) vs cut in
    with_item vs i (omega (arith, long)) (λ item get. other_in_front number s vs a m (suc i) cut i item refl get (h item (omega arith) (ap (slice_get vs) before ∙ get)))

pub put_alone : (number : ℕ) (s : SignedRow) (vs : List GroupVersion) → (current s.row vs ≡ []) × (map (ended number s.row) vs ≡ vs) → put number s vs ≡ changed number s vs
put_alone number s vs none = ap (put number s) (sym none.1) ∙ ap (λ groups. put number (joined groups s) (map (ended number s.row) vs)) (sym none.0)

-- ---- a change of a row that has one: the last of the first n versions, of which few have not ended
pub record HasCurrent (number : ℕ) (s : SignedRow) (vs : List GroupVersion) (n few : ℕ) (item : GroupVersion) : Type 0 where
  pub order : Apart Precedes vs
  pub meets : MeetAll number vs s
  pub some : 0 < n
  pub cut : IsCut (comes_before s.row number) n vs
  pub place : few ≡ not_ended_before n vs
  pub get : slice_get vs (n - 1) ≡ Some item
  pub here : is_current s.row item ≡ true

-- what the change leaves, where one more has ended
pub record IsChanged (number : ℕ) (s : SignedRow) (vs : List GroupVersion) (n few : ℕ) (now : List GroupVersion) : Type 0 where
  pub is : now ≡ changed number s vs
  pub cut : IsCut (comes_before s.row number) n now
  pub place : few ≡ suc (not_ended_before n now)

module _ {number : ℕ} {s : SignedRow} {vs : List GroupVersion} {n few : ℕ} {item : GroupVersion} (was : HasCurrent number s vs n few item) where
  suc_before : suc (n - 1) ≡ n
  suc_before = omega (arith, was.some)

  pub fewer : few ≡ suc (not_ended_before (n - 1) vs)
  fewer = was.place ∙ ap (λ k. not_ended_before k vs) (sym suc_before) ∙ before_next has_no_end (n - 1) vs item was.get (both (has_no_end item) (row_eq s.row item.group.row) was.here).0

  -- the versions once that of the group ended
  abbrev left : List GroupVersion
  left = set vs (n - 1) (ended_at number item)

  found : (current s.row vs ≡ item.group ∷ []) × (map (ended number s.row) vs ≡ left)
  found = current_in_front number s vs was.order was.meets n was.cut (n - 1) item suc_before was.get was.here

  cut_left : IsCut (comes_before s.row number) n left
  cut_left = subst (IsCut (comes_before s.row number) n) found.1 (cut_ended number s.row n vs was.cut)

  place_left : few ≡ suc (not_ended_before n left)
  place_left = fewer ∙ ap suc (sym (ap (λ k. not_ended_before k left) (sym suc_before) ∙ before_after has_no_end (n - 1) vs item (ended_at number item) was.get refl))

  module _ (group : SignedRow) (joins : group ≡ group_with item.group s) where
    -- the one that follows it
    abbrev added : GroupVersion
    added = version_from number group

    is_put : put number group left ≡ changed number s vs
    is_put = ap (λ g. put number g left) (joins ∙ ap (λ groups. joined groups s) (sym found.0)) ∙ ap (put number (joined (current s.row vs) s)) (sym found.1)

    pub is_left : has_tuples group ≡ false → (now : List GroupVersion) → now ≡ left → IsChanged number s vs n few now
    is_left e now ends = subst (IsChanged number s vs n few) (sym ends) (record {
      is = sym (ap (λ b. cond b (placed version_cmp added left) left) e) ∙ is_put;
      cut = cut_left;
      place = place_left;
    })

    pub is_followed : has_tuples group ≡ true → (now : List GroupVersion) → now ≡ insert left (n - 1 + 1) added → IsChanged number s vs n few now
    is_followed e now follows =
        let row : s.row ≡ group.row = sym (ap (λ (g : SignedRow). g.row) joins) in
        let own_cut = subst (λ (r : List Value). IsCut (comes_before r number) n left) row cut_left in
        let there = follows ∙ ap (λ k. insert left k added) (omega (arith, was.some)) in
        subst (IsChanged number s vs n few) (sym there) (record {
          is = sym (placed_there version_cmp version_total added left n own_cut) ∙ sym (ap (λ b. cond b (placed version_cmp added left) left) e) ∙ is_put;
          cut = subst (λ (r : List Value). IsCut (comes_before r number) n (insert left n added)) (sym row) (cut_put number group n left own_cut);
          place = place_left ∙ ap suc (sym (before_inserted has_no_end n left added (cut_long (comes_before s.row number) n left cut_left)));
        })
