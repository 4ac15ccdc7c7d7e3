-- A row that goes and the next one that comes right behind it, and what holds of the changes that are left.
use Rattle.std.proofs.Common.{◌≡◌, ℕ, zero, suc, ◌+◌, ◌-◌, ◌<◌, ◌≤◌, Bool, true, false, cond, List, [], ◌∷◌, ◌++◌, length, get_or, set, Some, refl, sym, ap, ap₂, ◌∙◌, subst, arith}
use Rattle.std.specs.Prelude.{◌&&◌, slice_get}
use Rattle.std.specs.List.{AllByRecursion, insert}
use Rattle.std.specs.Ordering.{is_eq, ordering_reverse}
use Rattle.std.specs.declared.cmp.Ordering.TheVariants.{Less}
use Rattle.lv_values.specs.Ascending.{placed}
use Rattle.lv_values.specs.Order.{row_cmp, row_eq}
use Rattle.lv_values.specs.OrderLaws.{row_total}
use Rattle.lv_schema.specs.declared.signed.SignedRow.{SignedRow}
use Rattle.lv_schema.proofs.Apart.{all_weaker}
use Rattle.lv_schema.proofs.NetsLead.{same_row}
use Rattle.lv_shelf.specs.Cuts.{Apart, IsCut}
use Rattle.lv_shelf.proofs.Cutting.{all_at, cut_fails, cut_from, cut_long, got, got_within, passed_up_to}
use Rattle.lv_shelf.proofs.Shelved.{all_last}
use Rattle.lv_viewrows.specs.declared.version.GroupVersion.{GroupVersion}
use Rattle.lv_viewrows.specs.Changed.{group_with}
use Rattle.lv_viewrows.specs.Kept.{version_from}
use Rattle.lv_viewrows.specs.Standing.{AreBoth, AreLeft, IsBy, MeetAll, Meets, NoneBefore, Precedes, changed, changed_all, comes_before, ended_at, has_no_end, is_current, not_ended, not_ended_before, version_cmp}
use Rattle.lv_viewrows.proofs.Bounds.{as_many, few_upto, left_wide}
use Rattle.lv_viewrows.proofs.Changes.{ascend_last, changed_each, changed_last, changed_order, rest_met}
use Rattle.lv_viewrows.proofs.Ending.{both, later_other}
use Rattle.lv_viewrows.proofs.Galloping.{cut_put, lower, none_lower, none_passes}
use Rattle.lv_viewrows.proofs.NotEnded.{before_inserted, cut_filtered, with_item}
use Rattle.lv_viewrows.proofs.Order.{before_falls, placed_there, version_total}
use Rattle.lv_viewrows.proofs.Replacing.{HasCurrent, IsChanged, is_left, no_current, put_alone}

-- ---- lists: what is put in leaves what is in front of it
pub got_in_front : {X : Type 0} (xs : List X) (n k : ℕ) (x : X) → k < n → n ≤ length xs → slice_get (insert xs n x) k ≡ slice_get xs k
got_in_front xs zero k x lt le = absurd (omega arith)
got_in_front [] (suc n) k x lt le = absurd (omega arith)
got_in_front (y ∷ xs) (suc n) zero x lt le = refl
got_in_front (y ∷ xs) (suc n) (suc k) x lt le = got_in_front xs n k x (omega arith) (omega arith)

pub set_in_front : {X : Type 0} (xs : List X) (n k : ℕ) (x y : X) → k < n → n ≤ length xs → insert (set xs k y) n x ≡ set (insert xs n x) k y
set_in_front xs zero k x y lt le = absurd (omega arith)
set_in_front [] (suc n) k x y lt le = absurd (omega arith)
set_in_front (z ∷ xs) (suc n) zero x y lt le = refl
set_in_front (z ∷ xs) (suc n) (suc k) x y lt le = ap (λ l. z ∷ l) (set_in_front xs n k x y (omega arith) (omega arith))

-- ---- changes that are left
-- what holds of those before the last one once that is applied
pub left_after : (number : ℕ) (rest : List SignedRow) (s : SignedRow) (vs : List GroupVersion) (all few : ℕ) → AreLeft number (rest ++ s ∷ []) vs all few
    → (now : List GroupVersion) → now ≡ changed number s vs → (at among : ℕ) → IsCut (comes_before s.row number) at now → among ≡ not_ended_before at now → AreLeft number rest now at among
left_after number rest s vs all few was now after at among cut place =
    let p = comes_before s.row number in
    let met = all_last (MeetAll number vs) rest s was.meet in
    let up = ascend_last rest s was.ascend in
    let cut_among = subst (λ n. IsCut p n (not_ended now)) (sym place) (cut_filtered has_no_end p at now cut) in
    record {
      order = subst (Apart Precedes) (sym after) (changed_order number s vs was.order was.each met.1);
      each = subst (AllByRecursion (IsBy number)) (sym after) (changed_each number s vs was.each);
      ascend = up.0;
      meet = subst (λ l. AllByRecursion (MeetAll number l) rest) (sym after) (rest_met number rest s vs up.1 met.0);
      within = cut_long p at now cut;
      above = all_weaker (λ (t : SignedRow). row_cmp t.row s.row ≡ Less) (λ (t : SignedRow). NoneBefore t.row number at now) (λ (t : SignedRow) less. none_lower s.row t.row number at now less (none_passes p at now cut)) rest up.1;
      within_few = cut_long p among (not_ended now) cut_among;
      above_few = all_weaker (λ (t : SignedRow). row_cmp t.row s.row ≡ Less) (λ (t : SignedRow). NoneBefore t.row number among (not_ended now)) (λ (t : SignedRow) less. none_lower s.row t.row number among (not_ended now) less (none_passes p among (not_ended now) cut_among)) rest up.1;
    }

-- ---- the current version of a row
-- it comes before its row
current_before : (number : ℕ) (t : SignedRow) (v : GroupVersion) → Meets number t v → is_current t.row v ≡ true → comes_before t.row number v ≡ true
current_before number t v m h = by (comes_before t.row number v) refl
  where
    by : (b : Bool) → comes_before t.row number v ≡ b → b ≡ true
    by true e = refl
    by false e = let other = later_other number t v m e in cc

-- it is not that of a row above
current_below : (t s : SignedRow) (v : GroupVersion) → row_cmp t.row s.row ≡ Less → is_current t.row v ≡ true → is_current s.row v ≡ false
current_below t s v less h =
    let parts = both (has_no_end v) (row_eq t.row v.group.row) h in
    let same : t.row ≡ v.group.row = same_row t.row v.group.row parts.1 in
    let apart : row_eq s.row v.group.row ≡ false = ap (row_eq s.row) (sym same) ∙ ap is_eq (row_total.antisymm s.row t.row ∙ ap ordering_reverse less) in
    ap₂ (λ a b. a && b) parts.0 apart

-- ---- a change that ends a version for good, and the next one, whose group comes right behind that
module _ (number : ℕ) (changes rest : List SignedRow) (t s : SignedRow) (vs : List GroupVersion) (all few : ℕ) (left : AreLeft number (changes ++ s ∷ []) vs all few)
    (n : ℕ) (cut : IsCut (comes_before s.row number) n vs) (pair : AreBoth t s n changes rest vs) where
  abbrev new : GroupVersion
  new = version_from number s

  -- the versions once the new one is there
  abbrev more : List GroupVersion
  more = insert vs n new

  was : AreLeft number ((rest ++ t ∷ []) ++ s ∷ []) vs all few
  was = subst (λ l. AreLeft number (l ++ s ∷ []) vs all few) pair.last left

  less : row_cmp t.row s.row ≡ Less
  less = (all_last (λ (u : SignedRow). row_cmp u.row s.row ≡ Less) rest t (ascend_last (rest ++ t ∷ []) s was.ascend).1).1

  is_put : more ≡ changed number s vs
  is_put =
      let meets = (all_last (MeetAll number vs) (rest ++ t ∷ []) s was.meet).1 in
      let none = no_current number s vs was.order meets n cut (λ v lt e. current_below t s v less (pair.ends.current v e)) in
      sym (placed_there version_cmp version_total new vs n cut)
      ∙ sym (ap (λ b. cond b (placed version_cmp new vs) vs) pair.brings)
      ∙ put_alone number s vs none

  left_more : AreLeft number (rest ++ t ∷ []) more n (not_ended_before n more)
  left_more = left_after number (rest ++ t ∷ []) s vs all few was more is_put n (not_ended_before n more) (cut_put number s n vs cut) refl

  long : n ≤ length vs
  long = cut_long (comes_before s.row number) n vs cut

  pub last_within : n - 1 < length vs
  last_within = omega (arith, pair.ends.some, long)

  module _ (item : GroupVersion) (get : slice_get vs (n - 1) ≡ Some item) where
    in_front : n - 1 < n
    in_front = omega (arith, pair.ends.some)

    get_more : slice_get more (n - 1) ≡ Some item
    get_more = got_in_front vs n (n - 1) new in_front long ∙ get

    meets_more : MeetAll number more t
    meets_more = (all_last (MeetAll number more) rest t left_more.meet).1

    -- the place of its row is that of the new one
    cut_more : IsCut (comes_before t.row number) n more
    cut_more =
        let own = cut_put number s n vs cut in
        let meets : Meets number t item = subst (Meets number t) (got more (n - 1) item item get_more) (all_at (Meets number t) more (n - 1) item (got_within more (n - 1) item get_more) meets_more) in
        let before = current_before number t item meets (pair.ends.current item get) in
        cut_from (comes_before t.row number) more n (cut_long (comes_before s.row number) n more own)
        (passed_up_to (comes_before t.row number) more n item (before_falls t.row number more left_more.order) pair.ends.some get_more before)
        (λ k d le lt. lower s.row t.row number (get_or more k d) less (cut_fails (comes_before s.row number) n k more d own le lt))

    ends_more : HasCurrent number t more n (not_ended_before n vs) item
    ends_more = record {
      order = left_more.order;
      meets = meets_more;
      some = pair.ends.some;
      cut = cut_more;
      place = sym (before_inserted has_no_end n vs new long);
      get = get_more;
      here = pair.ends.current item get;
    }

    replaced : (now : List GroupVersion) → now ≡ insert (set vs (n - 1) (ended_at number item)) (n - 1 + 1) new → IsChanged number t more n (not_ended_before n vs) now
    replaced now follows =
        let ended_there = set vs (n - 1) (ended_at number item) in
        let behind : n - 1 + 1 ≡ n = omega (arith, pair.ends.some) in
        is_left ends_more (group_with item.group t) refl (pair.ends.gone item get) now (follows ∙ ap (λ k. insert ended_there k new) behind ∙ set_in_front vs n (n - 1) new (ended_at number item) in_front long)

  -- what one in the place of the other leaves
  module _ (now : List GroupVersion) (follows : (v : GroupVersion) → slice_get vs (n - 1) ≡ Some v → now ≡ insert (set vs (n - 1) (ended_at number v)) (n - 1 + 1) new) where
    done : IsChanged number t more n (not_ended_before n vs) now
    done = with_item vs (n - 1) last_within (λ item get. replaced item get now (follows item get))

    both_fewer : not_ended_before n vs ≡ suc (not_ended_before n now)
    both_fewer = done.place

    pub both_changed : changed_all number rest now ≡ changed_all number (changes ++ s ∷ []) vs
    both_changed =
        ap (changed_all number rest) done.is
        ∙ sym (changed_last number rest t more)
        ∙ ap (changed_all number (rest ++ t ∷ [])) is_put
        ∙ sym (changed_last number (rest ++ t ∷ []) s vs)
        ∙ ap (λ l. changed_all number (l ++ s ∷ []) vs) (sym pair.last)

    as_many_here : length (not_ended now) ≡ length (not_ended vs)
    as_many_here = with_item vs (n - 1) last_within (λ item get. as_many number (n - 1) vs item new get (both (has_no_end item) (row_eq t.row item.group.row) (pair.ends.current item get)).0 refl now (follows item get))

    pub both_left : AreLeft number rest now n few
    both_left =
        let above = (all_last (λ (u : SignedRow). NoneBefore u.row number few (not_ended vs)) changes s left.above_few).1 in
        left_wide number rest now n (not_ended_before n now) few
        (left_after number rest t more n (not_ended_before n more) left_more now done.is n (not_ended_before n now) done.cut refl)
        (omega (arith, both_fewer, few_upto s.row number n few vs cut above))
        (omega (arith, left.within_few, as_many_here))
