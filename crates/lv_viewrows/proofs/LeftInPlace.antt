-- Changes that are left where versions are replaced.
use Rattle.std.proofs.Common.{◌≡◌, ℕ, zero, suc, ◌+◌, ◌-◌, ◌<◌, ◌≤◌, Bool, true, false, cond, List, [], ◌∷◌, ◌++◌, length, filter, drop, set, Some, refl, sym, ap, ap₂, ◌∙◌, subst, arith}
use Rattle.std.specs.Prelude.{slice_get}
use Rattle.std.specs.List.{AllByRecursion, insert}
use Rattle.std.specs.declared.cmp.Ordering.TheVariants.{Less}
use Rattle.std.proofs.lemmas.Bool.Decides.{nat_tests}
use Rattle.std.proofs.lemmas.List.{length-set}
use Rattle.lv_values.specs.Order.{row_cmp}
use Rattle.lv_schema.specs.declared.signed.SignedRow.{SignedRow}
use Rattle.lv_schema.specs.Versions.{ends_after}
use Rattle.lv_schema.proofs.Apart.{all_filter, all_true, all_weaker, apart_filter}
use Rattle.lv_shelf.specs.Cuts.{Apart, IsCut}
use Rattle.lv_shelf.proofs.Cutting.{cut_long}
use Rattle.lv_shelf.proofs.Shelved.{all_last}
use Rattle.lv_viewrows.specs.declared.version.GroupVersion.{GroupVersion}
use Rattle.lv_viewrows.specs.Kept.{version_from}
use Rattle.lv_viewrows.specs.Standing.{AreBoth, AreLeft, AreOpen, IsBy, MeetAll, Meets, NoneBefore, Precedes, changed, changed_all, comes_before, ended_at, has_no_end, pruned}
use Rattle.lv_viewrows.proofs.Changes.{RowsAscend, ascend_last, changed_each, changed_last, changed_order, rest_met}
use Rattle.lv_viewrows.proofs.Ending.{no_until}
use Rattle.lv_viewrows.proofs.Following.{both_changed, both_left, last_within}
use Rattle.lv_viewrows.proofs.Galloping.{none_at_end, none_lower, none_passes}
use Rattle.lv_viewrows.proofs.NotEnded.{with_item}
use Rattle.lv_viewrows.proofs.Open.{open_not_ended, pruned_open}
use Rattle.lv_viewrows.proofs.Pruned.{pruned_all}

-- ---- lists
filter_all : {X : Type 0} (p : X → Bool) (xs : List X) → AllByRecursion (λ x. p x ≡ true) xs → filter p xs ≡ xs
filter_all p [] a = refl
filter_all p (x ∷ xs) a = let ih = filter_all p xs a.1 in λ i. cond (a.0 i) (x ∷ ih i) (ih i)

all_set : {X : Type 0} (P : X → Type 0) (xs : List X) (k : ℕ) (x : X) → P x → AllByRecursion P xs → AllByRecursion P (set xs k x)
all_set P [] k x h a = tt
all_set P (y ∷ xs) zero x h a = (h, a.1)
all_set P (y ∷ xs) (suc k) x h a = (a.0, all_set P xs k x h a.1)

-- one that is followed by the one that takes its place, and does not pass
filter_followed : {X : Type 0} (p : X → Bool) (xs : List X) (k : ℕ) (x y : X) → k < length xs → AllByRecursion (λ z. p z ≡ true) xs → p x ≡ true → p y ≡ false → filter p (insert (set xs k y) (suc k) x) ≡ set xs k x
filter_followed p [] k x y lt a e f = absurd (omega arith)
filter_followed p (z ∷ xs) zero x y lt a e f =
    let rest = filter_all p xs a.1 in
    λ i. cond (f i) (y ∷ cond (e i) (x ∷ rest i) (rest i)) (cond (e i) (x ∷ rest i) (rest i))
filter_followed p (z ∷ xs) (suc k) x y lt a e f =
    let ih = filter_followed p xs k x y (omega arith) a.1 e f in
    λ i. cond (a.0 i) (z ∷ ih i) (ih i)

drop_followed : {X : Type 0} (xs : List X) (k : ℕ) (x y : X) → k < length xs → drop (suc k) (insert (set xs k y) (suc k) x) ≡ drop k (set xs k x)
drop_followed [] k x y lt = absurd (omega arith)
drop_followed (z ∷ xs) zero x y lt = refl
drop_followed (z ∷ xs) (suc k) x y lt = drop_followed xs k x y (omega arith)

-- ---- what holds of the changes that are left, once that is done behind one of them
-- where none has ended, the places among those that have not are the same
left_open : (number : ℕ) (rest : List SignedRow) (now : List GroupVersion) (at : ℕ) → AreOpen now → Apart Precedes now → AllByRecursion (IsBy number) now → RowsAscend rest → AllByRecursion (MeetAll number now) rest
    → at ≤ length now → AllByRecursion (λ (s : SignedRow). NoneBefore s.row number at now) rest → AreLeft number rest now at at
left_open number rest now at open_now order each ascend meet within above =
    let same = sym (open_not_ended now open_now) in
    record {
      order = order;
      each = each;
      ascend = ascend;
      meet = meet;
      within = within;
      above = above;
      within_few = subst (λ (l : List GroupVersion). at ≤ length l) same within;
      above_few = subst (λ (l : List GroupVersion). AllByRecursion (λ (s : SignedRow). NoneBefore s.row number at l) rest) same above;
    }

-- before the first one, from behind all on
pub left_first : (number : ℕ) (changes : List SignedRow) (vs : List GroupVersion) (at : ℕ) → AreOpen vs → Apart Precedes vs → AllByRecursion (IsBy number) vs → RowsAscend changes → AllByRecursion (MeetAll number vs) changes
    → at ≡ length vs → AreLeft number changes vs at at
left_first number changes vs at open_now order each ascend meet long =
    left_open number changes vs at open_now order each ascend meet (omega (arith, long)) (all_true (λ (s : SignedRow). NoneBefore s.row number at vs) (λ (s : SignedRow). none_at_end s.row number at vs (omega (arith, long))) changes)

meet_pruned : (number : ℕ) (rest : List SignedRow) (vs : List GroupVersion) → AllByRecursion (MeetAll number vs) rest → AllByRecursion (MeetAll number (pruned number vs)) rest
meet_pruned number rest vs met =
    all_weaker (MeetAll number vs) (MeetAll number (pruned number vs)) (λ (t : SignedRow) m. all_filter (Meets number t) (λ v. ends_after number v.until) vs m) rest met

pub left_pruned : (number : ℕ) (rest : List SignedRow) (s : SignedRow) (vs now : List GroupVersion) (all few : ℕ) → AreLeft number (rest ++ s ∷ []) vs all few
    → now ≡ pruned number (changed number s vs) → (at : ℕ) → IsCut (comes_before s.row number) at now → AreLeft number rest now at at
left_pruned number rest s vs now all few was after at cut =
    let p = comes_before s.row number in
    let q : GroupVersion → Bool = λ v. ends_after number v.until in
    let then = changed number s vs in
    let met = all_last (MeetAll number vs) rest s was.meet in
    let up = ascend_last rest s was.ascend in
    let each = changed_each number s vs was.each in
    left_open number rest now at
    (subst AreOpen (sym after) (pruned_open number then each))
    (subst (Apart Precedes) (sym after) (apart_filter Precedes q then (changed_order number s vs was.order was.each met.1)))
    (subst (AllByRecursion (IsBy number)) (sym after) (all_filter (IsBy number) q then each))
    up.0
    (subst (λ l. AllByRecursion (MeetAll number l) rest) (sym after) (meet_pruned number rest then (rest_met number rest s vs up.1 met.0)))
    (cut_long p at now cut)
    (all_weaker (λ (t : SignedRow). row_cmp t.row s.row ≡ Less) (λ (t : SignedRow). NoneBefore t.row number at now) (λ (t : SignedRow) less. none_lower s.row t.row number at now less (none_passes p at now cut)) rest up.1)

pub left_changed : (number : ℕ) (rest : List SignedRow) (s : SignedRow) (vs : List GroupVersion) (all few : ℕ) → AreLeft number (rest ++ s ∷ []) vs all few
    → pruned number (changed_all number rest (pruned number (changed number s vs))) ≡ pruned number (changed_all number (rest ++ s ∷ []) vs)
left_changed number rest s vs all few was =
    let met = all_last (MeetAll number vs) rest s was.meet in
    let up = ascend_last rest s was.ascend in
    pruned_all number rest (changed number s vs) (changed_order number s vs was.order was.each met.1) (changed_each number s vs was.each) up.0 (rest_met number rest s vs up.1 met.0)
    ∙ ap (pruned number) (sym (changed_last number rest s vs))

ended_goes : (number : ℕ) → ends_after number (Some number) ≡ false
ended_goes number = grind (arith, nat_tests)

-- ---- a change that ends a version for good, and the next one, whose group comes right behind that: the one takes the place of the other
module _ (number : ℕ) (changes rest : List SignedRow) (t s : SignedRow) (vs : List GroupVersion) (all few : ℕ) (left : AreLeft number (changes ++ s ∷ []) vs all few)
    (open_now : AreOpen vs) (n : ℕ) (cut : IsCut (comes_before s.row number) n vs) (pair : AreBoth t s n changes rest vs) where
  abbrev new : GroupVersion
  new = version_from number s

  abbrev there : List GroupVersion
  there = set vs (n - 1) new

  within : n - 1 < length vs
  within = last_within number changes rest t s vs all few left n cut pair

  pair_open : AreOpen (set vs (n - 1) (version_from number s))
  pair_open = all_set (λ v. has_no_end v ≡ true) vs (n - 1) new refl open_now

  -- with the version that ends behind which it comes
  module _ (item : GroupVersion) (get : slice_get vs (n - 1) ≡ Some item) where
    abbrev kept : List GroupVersion
    kept = insert (set vs (n - 1) (ended_at number item)) (n - 1 + 1) new

    follows : (v : GroupVersion) → slice_get vs (n - 1) ≡ Some v → kept ≡ insert (set vs (n - 1) (ended_at number v)) (n - 1 + 1) new
    follows v e =
        let is : Some item ≡ Some v = sym get ∙ e in
        let same : item ≡ v = cc in
        ap (λ x. insert (set vs (n - 1) (ended_at number x)) (n - 1 + 1) new) same

    next : n - 1 + 1 ≡ suc (n - 1)
    next = omega arith

    whole : suc (n - 1) ≡ n
    whole = omega (arith, pair.ends.some)

    is_pruned : pruned number kept ≡ there
    is_pruned =
        let q : GroupVersion → Bool = λ v. ends_after number v.until in
        ap (λ k. filter q (insert (set vs (n - 1) (ended_at number item)) k new)) next
        ∙ filter_followed q vs (n - 1) new (ended_at number item) within (all_weaker (λ v. has_no_end v ≡ true) (λ v. q v ≡ true) (λ v e. ap (ends_after number) (no_until v.until e)) vs open_now) refl (ended_goes number)

    behind : drop n kept ≡ drop (n - 1) there
    behind =
        ap₂ (λ m k. drop m (insert (set vs (n - 1) (ended_at number item)) k new)) (sym whole) next
        ∙ drop_followed vs (n - 1) new (ended_at number item) within

    stands : AreLeft number rest kept n few
    stands = both_left number changes rest t s vs all few left n cut pair kept follows

    item_changed : pruned number (changed_all number rest there) ≡ pruned number (changed_all number (changes ++ s ∷ []) vs)
    item_changed =
        ap (λ l. pruned number (changed_all number rest l)) (sym is_pruned)
        ∙ pruned_all number rest kept stands.order stands.each stands.ascend stands.meet
        ∙ ap (pruned number) (both_changed number changes rest t s vs all few left n cut pair kept follows)

    item_left : AreLeft number rest there (n - 1) (n - 1)
    item_left =
        let q : GroupVersion → Bool = λ v. ends_after number v.until in
        left_open number rest there (n - 1)
        pair_open
        (subst (Apart Precedes) is_pruned (apart_filter Precedes q kept stands.order))
        (subst (AllByRecursion (IsBy number)) is_pruned (all_filter (IsBy number) q kept stands.each))
        stands.ascend
        (subst (λ l. AllByRecursion (MeetAll number l) rest) is_pruned (meet_pruned number rest kept stands.meet))
        (omega (arith, within, length-set vs (n - 1) new))
        (all_weaker (λ (u : SignedRow). NoneBefore u.row number n kept) (λ (u : SignedRow). NoneBefore u.row number (n - 1) there) (λ (u : SignedRow) h. subst (AllByRecursion (λ v. comes_before u.row number v ≡ false)) behind h) rest stands.above)

  pub pair_changed : pruned number (changed_all number rest (set vs (n - 1) (version_from number s))) ≡ pruned number (changed_all number (changes ++ s ∷ []) vs)
  pair_changed = with_item vs (n - 1) within item_changed

  pub pair_left : AreLeft number rest (set vs (n - 1) (version_from number s)) (n - 1) (n - 1)
  pair_left = with_item vs (n - 1) within item_left
