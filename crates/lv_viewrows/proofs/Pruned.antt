-- Versions that ended at or below a commit may be dropped before changes of that commit as well as behind them.
use Rattle.std.proofs.Common.{◌≡◌, ℕ, Bool, true, false, cond, List, [], ◌∷◌, map, filter, Option, Some, None, refl, sym, ap, ◌∙◌}
use Rattle.std.specs.Prelude.{◌&&◌, is_none, not}
use Rattle.std.specs.List.{AllByRecursion}
use Rattle.std.specs.Ordering.{is_gt, ordering_reverse}
use Rattle.std.specs.Cmp.{IsTotalOrder}
use Rattle.std.specs.declared.cmp.Ordering.{Ordering}
use Rattle.std.specs.declared.cmp.Ordering.TheVariants.{Less, Equal}
use Rattle.std.proofs.lemmas.Cmp.{upto}
use Rattle.lv_values.specs.declared.value.Value.{Value}
use Rattle.lv_values.specs.Ascending.{placed}
use Rattle.lv_values.specs.Order.{row_cmp, row_eq}
use Rattle.lv_values.specs.OrderLaws.{row_total}
use Rattle.lv_schema.specs.declared.signed.SignedRow.{SignedRow}
use Rattle.lv_schema.specs.Once.{Ascends}
use Rattle.lv_schema.specs.Versions.{end_by, ends_after}
use Rattle.lv_schema.proofs.Apart.{all_filter, all_weaker, apart_filter}
use Rattle.lv_group.specs.Gathered.{has_tuples}
use Rattle.lv_shelf.specs.Cuts.{Apart}
use Rattle.lv_viewrows.specs.declared.version.GroupVersion.{GroupVersion}
use Rattle.lv_viewrows.specs.Kept.{version_from}
use Rattle.lv_viewrows.specs.Standing.{IsBy, MeetAll, Meets, Precedes, changed, changed_all, current, ended, is_current, joined, pruned, put, version_cmp}
use Rattle.lv_viewrows.proofs.Changes.{RowsAscend, changed_each, changed_meets, changed_order, ended_order}
use Rattle.lv_viewrows.proofs.Order.{precedes_less, version_total}

-- ---- order and ends behind all changes
meets_behind : (number : ℕ) (list : List SignedRow) (s : SignedRow) (vs : List GroupVersion) → AllByRecursion (λ t. row_cmp s.row t.row ≡ Less) list → MeetAll number vs s → MeetAll number (changed_all number list vs) s
meets_behind number [] s vs above m = m
meets_behind number (t ∷ list) s vs above m = changed_meets number t s (changed_all number list vs) apart (meets_behind number list s vs above.1 m)
  where
    apart : row_cmp t.row s.row ≡ Equal → ⊥
    apart e = let back = row_total.antisymm t.row s.row ∙ ap ordering_reverse above.0 in cc

pub all_stand : (number : ℕ) (list : List SignedRow) (vs : List GroupVersion) → Apart Precedes vs → AllByRecursion (IsBy number) vs → RowsAscend list → AllByRecursion (MeetAll number vs) list
    → Apart Precedes (changed_all number list vs) × AllByRecursion (IsBy number) (changed_all number list vs)
all_stand number [] vs order each ascend meet = (order, each)
all_stand number (s ∷ list) vs order each ascend meet =
    let behind = all_stand number list vs order each ascend.1 meet.1 in
    let met = meets_behind number list s vs ascend.0 meet.0 in
    (changed_order number s (changed_all number list vs) behind.0 behind.1 met, changed_each number s (changed_all number list vs) behind.1)

-- ---- one change
-- the current versions are not among those that are dropped
not_current : (number : ℕ) (u : Option ℕ) (b : Bool) → ends_after number u ≡ false → (is_none u && b) ≡ false
not_current number None b e = cc
not_current number (Some k) b e = refl

current_pruned : (number : ℕ) (row : List Value) (vs : List GroupVersion) → filter (is_current row) (pruned number vs) ≡ filter (is_current row) vs
current_pruned number row [] = refl
current_pruned number row (v ∷ vs) = by (ends_after number v.until) refl (current_pruned number row vs)
  where
    by : (b : Bool) → ends_after number v.until ≡ b → filter (is_current row) (pruned number vs) ≡ filter (is_current row) vs
        → filter (is_current row) (cond b (v ∷ pruned number vs) (pruned number vs)) ≡ filter (is_current row) (v ∷ vs)
    by true e ih = λ i. cond (is_current row v) (v ∷ ih i) (ih i)
    by false e ih = ih ∙ (λ i. cond (sym (not_current number v.until (row_eq row v.group.row) e) i) (v ∷ filter (is_current row) vs) (filter (is_current row) vs))

-- an end that is there stays
stays_out : (number : ℕ) (u : Option ℕ) (b : Bool) → ends_after number u ≡ false → ends_after number (end_by u b number) ≡ false
stays_out number None b e = cc
stays_out number (Some k) b e = e

ended_pruned : (number : ℕ) (row : List Value) (vs : List GroupVersion) → pruned number (map (ended number row) (pruned number vs)) ≡ pruned number (map (ended number row) vs)
ended_pruned number row [] = refl
ended_pruned number row (v ∷ vs) = by (ends_after number v.until) refl (ended_pruned number row vs)
  where
    by : (b : Bool) → ends_after number v.until ≡ b → pruned number (map (ended number row) (pruned number vs)) ≡ pruned number (map (ended number row) vs)
        → pruned number (map (ended number row) (cond b (v ∷ pruned number vs) (pruned number vs))) ≡ pruned number (map (ended number row) (v ∷ vs))
    by true e ih = λ i. cond (ends_after number (ended number row v).until) (ended number row v ∷ ih i) (ih i)
    by false e ih =
        ih ∙ (λ i. cond (sym (stays_out number v.until (not (row_eq row v.group.row)) e) i) (ended number row v ∷ pruned number (map (ended number row) vs)) (pruned number (map (ended number row) vs)))

-- an element that passes goes to the same place among those that pass
placed_front : {X : Type 0} (R : X → X → Ordering) (x : X) (ys : List X) → AllByRecursion (λ y. is_gt (R x y) ≡ false) ys → placed R x ys ≡ x ∷ ys
placed_front R x [] a = refl
placed_front R x (y ∷ ys) a = λ i. cond (a.0 i) (y ∷ placed R x ys) (x ∷ y ∷ ys)

filter_placed : {X : Type 0} (R : X → X → Ordering) → IsTotalOrder R → (p : X → Bool) (x : X) → p x ≡ true → (ys : List X) → Ascends R ys → filter p (placed R x ys) ≡ placed R x (filter p ys)
filter_placed R o p x e [] a = λ i. cond (e i) (x ∷ []) []
filter_placed {X} R o p x e (y ∷ ys) a = by (is_gt (R x y)) refl (p y) refl (filter_placed R o p x e ys a.1)
  where
    front : is_gt (R x y) ≡ false → AllByRecursion (λ z. is_gt (R x z) ≡ false) (y ∷ ys)
    front f = (f, all_weaker (λ z. R y z ≡ Less) (λ z. is_gt (R x z) ≡ false) (λ z less. upto o x y z f (ap is_gt less)) ys a.0)

    by : (t : Bool) → is_gt (R x y) ≡ t → (c : Bool) → p y ≡ c → filter p (placed R x ys) ≡ placed R x (filter p ys)
        → filter p (cond t (y ∷ placed R x ys) (x ∷ y ∷ ys)) ≡ placed R x (cond (p y) (y ∷ filter p ys) (filter p ys))
    by true f true g ih =
        (λ i. cond (g i) (y ∷ ih i) (ih i)) ∙ (λ i. cond (sym f i) (y ∷ placed R x (filter p ys)) (x ∷ y ∷ filter p ys)) ∙ (λ i. placed R x (cond (sym g i) (y ∷ filter p ys) (filter p ys)))
    by true f false g ih = (λ i. cond (g i) (y ∷ ih i) (ih i)) ∙ (λ i. placed R x (cond (sym g i) (y ∷ filter p ys) (filter p ys)))
    by false f c g ih =
        (λ i. cond (e i) (x ∷ filter p (y ∷ ys)) (filter p (y ∷ ys)))
        ∙ sym (placed_front R x (filter p (y ∷ ys)) (all_filter (λ z. is_gt (R x z) ≡ false) p (y ∷ ys) (front f)))

versions_ascend : (vs : List GroupVersion) → Apart Precedes vs → Ascends version_cmp vs
versions_ascend [] a = tt
versions_ascend (v ∷ vs) a = (all_weaker (Precedes v) (λ w. version_cmp v w ≡ Less) (precedes_less v) vs a.0, versions_ascend vs a.1)

put_pruned : (number : ℕ) (group : SignedRow) (vs : List GroupVersion) → Apart Precedes vs → pruned number (put number group vs) ≡ put number group (pruned number vs)
put_pruned number group vs order = by (has_tuples group)
  where
    by : (b : Bool) → pruned number (cond b (placed version_cmp (version_from number group) vs) vs) ≡ cond b (placed version_cmp (version_from number group) (pruned number vs)) (pruned number vs)
    by true = filter_placed version_cmp version_total (λ v. ends_after number v.until) (version_from number group) refl vs (versions_ascend vs order)
    by false = refl

pub pruned_changed : (number : ℕ) (s : SignedRow) (vs : List GroupVersion) → Apart Precedes vs → pruned number (changed number s (pruned number vs)) ≡ pruned number (changed number s vs)
pruned_changed number s vs order =
    let group = joined (current s.row vs) s in
    ap (λ list. pruned number (put number (joined (map (λ v. v.group) list) s) (map (ended number s.row) (pruned number vs)))) (current_pruned number s.row vs)
    ∙ put_pruned number group (map (ended number s.row) (pruned number vs)) (ended_order number s.row (pruned number vs) (apart_filter Precedes (λ v. ends_after number v.until) vs order))
    ∙ ap (put number group) (ended_pruned number s.row vs)
    ∙ sym (put_pruned number group (map (ended number s.row) vs) (ended_order number s.row vs order))

-- ---- changes one after another
pruned_twice : (number : ℕ) (vs : List GroupVersion) → pruned number (pruned number vs) ≡ pruned number vs
pruned_twice number [] = refl
pruned_twice number (v ∷ vs) = by (ends_after number v.until) refl (pruned_twice number vs)
  where
    by : (b : Bool) → ends_after number v.until ≡ b → pruned number (pruned number vs) ≡ pruned number vs
        → pruned number (cond b (v ∷ pruned number vs) (pruned number vs)) ≡ cond b (v ∷ pruned number vs) (pruned number vs)
    by true e ih = λ i. cond (e i) (v ∷ ih i) (ih i)
    by false e ih = ih

pub pruned_all : (number : ℕ) (list : List SignedRow) (vs : List GroupVersion) → Apart Precedes vs → AllByRecursion (IsBy number) vs → RowsAscend list → AllByRecursion (MeetAll number vs) list
    → pruned number (changed_all number list (pruned number vs)) ≡ pruned number (changed_all number list vs)
pruned_all number [] vs order each ascend meet = pruned_twice number vs
pruned_all number (s ∷ list) vs order each ascend meet =
    let passes : GroupVersion → Bool = λ v. ends_after number v.until in
    let met = all_weaker (MeetAll number vs) (MeetAll number (pruned number vs)) (λ t m. all_filter (Meets number t) passes vs m) list meet.1 in
    let few = all_stand number list (pruned number vs) (apart_filter Precedes passes vs order) (all_filter (IsBy number) passes vs each) ascend.1 met in
    let all = all_stand number list vs order each ascend.1 meet.1 in
    sym (pruned_changed number s (changed_all number list (pruned number vs)) few.0)
    ∙ ap (λ later. pruned number (changed number s later)) (pruned_all number list vs order each ascend.1 meet.1)
    ∙ pruned_changed number s (changed_all number list vs) all.0
