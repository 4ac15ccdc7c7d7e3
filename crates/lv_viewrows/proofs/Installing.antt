-- What an install asks and what it leaves.
use Rattle.std.proofs.Common.{◌≡◌, ℕ, ◌<◌, ◌≤◌, ℤ, pos, ◌+ℤ◌, ◌⊎◌, inl, inr, Bool, true, false, cond, List, [], ◌∷◌, map, filter, Option, Some, None, refl, sym, ap, ap₂, ◌∙◌, subst, arith}
use Rattle.std.specs.Prelude.{◌&&◌, nat_lt, nat_le, is_none}
use Rattle.std.specs.List.{AllByRecursion}
use Rattle.std.specs.Ordering.{is_eq, ordering_reverse}
use Rattle.std.specs.declared.cmp.Ordering.{Ordering}
use Rattle.std.specs.declared.cmp.Ordering.TheVariants.{Less, Equal, Greater}
use Rattle.std.proofs.lemmas.Bool.Decides.{nat_tests}
use Rattle.std.proofs.lemmas.Int.{ints}
use Rattle.lv_values.specs.declared.value.Value.{Value}
use Rattle.lv_values.specs.Ascending.{placed}
use Rattle.lv_values.specs.Order.{row_cmp, row_eq}
use Rattle.lv_values.specs.OrderLaws.{row_total}
use Rattle.lv_schema.specs.declared.signed.SignedRow.{SignedRow}
use Rattle.lv_schema.specs.declared.view.ViewDef.{ViewDef}
use Rattle.lv_schema.specs.Applicable.{ApplyToGroups, LeavesCount}
use Rattle.lv_schema.specs.Groups.{total}
use Rattle.lv_schema.specs.SignedRows.{entries_of}
use Rattle.lv_schema.specs.Versions.{ends_after}
use Rattle.lv_schema.proofs.Apart.{all_both, all_filter, all_map, all_true, all_weaker, apart_filter}
use Rattle.lv_schema.proofs.NetsLead.{same_row}
use Rattle.lv_group.specs.Gathered.{has_tuples}
use Rattle.lv_shelf.specs.Cuts.{Apart}
use Rattle.lv_viewrows.specs.declared.version.GroupVersion.{GroupVersion}
use Rattle.lv_viewrows.specs.Changed.{groups_with}
use Rattle.lv_viewrows.specs.Kept.{groups_at, is_there, one_row, version_from}
use Rattle.lv_viewrows.specs.Standing.{AreVersions, EndsAtMost, EndsBy, IsBy, IsCount, IsRow, MeetAll, Meets, Precedes, changed_all, current, ended, is_current, joined, meets_by, precedes_by, put, version_cmp}
use Rattle.lv_viewrows.proofs.Changes.{RowsAscend, all_current, none_above, settled}
use Rattle.lv_viewrows.proofs.Ending.{both, group_of, no_until}
use Rattle.lv_viewrows.proofs.Entries.{AtMostOne, at_most_one, groups_with_is}
use Rattle.lv_viewrows.proofs.Order.{all_placed, groups_ascend}

-- from the last commit on the groups that are there are the current ones
pub entries_current : (q : List Value) (m n : ℕ) (vs : List GroupVersion) → m ≤ n → AllByRecursion (IsBy m) vs → entries_of q (groups_at n vs) ≡ current q vs
entries_current q m n [] le a = refl
entries_current q m n (v ∷ vs) le a = by v.until refl a.0.1 (entries_current q m n vs le a.1)
  where
    came : nat_le v.from n ≡ true
    came = let h = a.0.0 in grind (arith, nat_tests)

    over : (k : ℕ) → k ≤ m → nat_lt n k ≡ false
    over k h = grind (arith, nat_tests)

    at : (b : Bool) → entries_of q (groups_at n vs) ≡ current q vs → cond b (v.group ∷ entries_of q (groups_at n vs)) (entries_of q (groups_at n vs)) ≡ map group_of (cond b (v ∷ filter (is_current q) vs) (filter (is_current q) vs))
    at true ih = ap (λ l. v.group ∷ l) ih
    at false ih = ih

    by : (u : Option ℕ) → v.until ≡ u → EndsAtMost m v.until → entries_of q (groups_at n vs) ≡ current q vs → entries_of q (groups_at n (v ∷ vs)) ≡ current q (v ∷ vs)
    by None e h ih =
        let there : is_there n v ≡ true = ap₂ (λ a b. a && b) came (ap (ends_after n) e) in
        let now : is_current q v ≡ row_eq q v.group.row = ap (λ u. is_none u && row_eq q v.group.row) e in
        (λ i. entries_of q (map group_of (cond (there i) (v ∷ filter (is_there n) vs) (filter (is_there n) vs))))
        ∙ at (row_eq q v.group.row) ih
        ∙ (λ i. map group_of (cond (sym now i) (v ∷ filter (is_current q) vs) (filter (is_current q) vs)))
    by (Some k) e h ih =
        let bound : k ≤ m = subst (EndsAtMost m) e h in
        let gone : is_there n v ≡ false = ap₂ (λ a b. a && b) came (ap (ends_after n) e ∙ over k bound) in
        let now : is_current q v ≡ false = ap (λ u. is_none u && row_eq q v.group.row) e in
        (λ i. entries_of q (map group_of (cond (gone i) (v ∷ filter (is_there n) vs) (filter (is_there n) vs))))
        ∙ ih
        ∙ (λ i. map group_of (cond (sym now i) (v ∷ filter (is_current q) vs) (filter (is_current q) vs)))

-- what holds of the group of each version holds of those that are there
pub all_there : (P : SignedRow → Type 0) (n : ℕ) (vs : List GroupVersion) → AllByRecursion (λ v. P v.group) vs → AllByRecursion P (groups_at n vs)
all_there P n vs a = all_map group_of P (filter (is_there n) vs) (all_filter (λ (v : GroupVersion). P v.group) (is_there n) vs a)

-- ---- a row has one current version at most
not_both : (q : List Value) (v w : GroupVersion) → Precedes v w → is_current q v ≡ true → is_current q w ≡ true → ⊥
not_both q v w r h k =
    let first = both (is_none v.until) (row_eq q v.group.row) h in
    let second = both (is_none w.until) (row_eq q w.group.row) k in
    let same : v.group.row ≡ q = sym (same_row q v.group.row first.1) in
    let tied : row_cmp v.group.row w.group.row ≡ Equal = ap (λ x. row_cmp x w.group.row) same ∙ equal (row_cmp q w.group.row) second.1 in
    subst (EndsBy w.from) (no_until v.until first.0) (subst (λ o. precedes_by o v w) tied r).1
  where
    equal : (o : Ordering) → is_eq o ≡ true → o ≡ Equal
    equal Less e = cc
    equal Equal e = refl
    equal Greater e = cc

none_later : (q : List Value) (v : GroupVersion) (ws : List GroupVersion) → AllByRecursion (Precedes v) ws → is_current q v ≡ true → filter (is_current q) ws ≡ []
none_later q v [] a h = refl
none_later q v (w ∷ ws) a h = by (is_current q w) refl (none_later q v ws a.1 h)
  where
    by : (b : Bool) → is_current q w ≡ b → filter (is_current q) ws ≡ [] → cond b (w ∷ filter (is_current q) ws) (filter (is_current q) ws) ≡ []
    by true e rest = absurd (not_both q v w a.0 h e)
    by false e rest = rest

abbrev IsOnly : List Value → List GroupVersion → GroupVersion → Type 0
IsOnly q vs v = is_current q v ≡ true → filter (is_current q) vs ≡ v ∷ []

only_current : (q : List Value) (vs : List GroupVersion) → Apart Precedes vs → AllByRecursion (IsOnly q vs) vs
only_current q [] a = tt
only_current q (v ∷ vs) a = (
  λ h. (λ i. cond (h i) (v ∷ filter (is_current q) vs) (filter (is_current q) vs)) ∙ ap (λ l. v ∷ l) (none_later q v vs a.0 h),
  all_both (Precedes v) (IsOnly q vs) (IsOnly q (v ∷ vs)) (λ w r only h. by w r only h (is_current q v) refl) vs a.0 (only_current q vs a.1),
)
  where
    by : (w : GroupVersion) → Precedes v w → IsOnly q vs w → is_current q w ≡ true → (b : Bool) → is_current q v ≡ b → cond b (v ∷ filter (is_current q) vs) (filter (is_current q) vs) ≡ w ∷ []
    by w r only h true e = absurd (not_both q v w r e h)
    by w r only h false e = only h

-- ---- a change that can be applied is met by each version
-- the count of a group with a change is a count
abbrev pub Fits : List SignedRow → SignedRow → Type 0
Fits groups s = (g : SignedRow) (more : List SignedRow) → entries_of s.row groups ≡ g ∷ more → IsCount (g.count +ℤ s.count)

module _ (view : ViewDef) (at : ℕ) (vs : List GroupVersion) (held : AreVersions view at vs) where
  abbrev now : List SignedRow
  now = groups_at at vs

  pub entries_now : (q : List Value) → entries_of q now ≡ current q vs
  entries_now q = entries_current q at at vs (omega arith) held.each

  pub now_ascend : RowsAscend now
  now_ascend = groups_ascend at vs held.order

  pub now_change : AllByRecursion (λ s. has_tuples s ≡ true) now
  now_change = all_there (λ s. has_tuples s ≡ true) at vs held.counts

  abbrev IsOneRow : SignedRow → Type 0
  IsOneRow g = g ≡ one_row g.row

  pub now_rows : view.grouped ≡ false → AllByRecursion IsOneRow now
  now_rows join = all_there IsOneRow at vs (held.rows join)

  met : (hi : ℕ) → at < hi → (s : SignedRow) → Fits now s → MeetAll hi vs s
  met hi lt s fits = all_both (IsBy at) (IsOnly s.row vs) (Meets hi s) each vs held.each (only_current s.row vs held.order)
    where
      each : (v : GroupVersion) → IsBy at v → IsOnly s.row vs v → Meets hi s v
      each v h only = by (row_cmp v.group.row s.row) refl
        where
          by : (o : Ordering) → row_cmp v.group.row s.row ≡ o → meets_by o hi s v
          by Less e = tt
          by Equal e =
              let same : row_eq s.row v.group.row ≡ true = ap is_eq (row_total.antisymm s.row v.group.row ∙ ap ordering_reverse e) in
              (omega (arith, h.0), λ none. fits v.group [] (entries_now s.row ∙ ap (map group_of) (only (ap₂ (λ a b. a && b) (ap is_none none) same))))
          by Greater e = tt

  pub all_met : (hi : ℕ) → at < hi → (list : List SignedRow) → AllByRecursion (Fits now) list → AllByRecursion (MeetAll hi vs) list
  all_met hi lt list a = all_weaker (Fits now) (MeetAll hi vs) (met hi lt) list a

  -- the changes of a grouped view, and those of a join view
  add_none : (x : ℤ) → x +ℤ pos 0 ≡ x
  add_none x = grind (arith, ints)

  pub groups_fit : (list : List SignedRow) → ApplyToGroups now list → AllByRecursion (Fits now) list
  groups_fit list a = all_weaker (LeavesCount now) (Fits now) fits list a
    where
      fits : (s : SignedRow) → LeavesCount now s → Fits now s
      fits s l g more e = by more e (at_most_one s.row now now_ascend)
        where
          by : (more : List SignedRow) → entries_of s.row now ≡ g ∷ more → AtMostOne (entries_of s.row now) → IsCount (g.count +ℤ s.count)
          by [] e one = record {
            count = l.count;
            is = ap (λ n. n +ℤ s.count) (sym (ap (total (λ (t : SignedRow). t.count)) e ∙ add_none g.count)) ∙ l.left;
            small = l.small;
          }
          by (t ∷ more) e one = absurd (subst AtMostOne e one)

  -- ---- what an install leaves
  module _ (hi : ℕ) (list : List SignedRow) (up : RowsAscend list) where
    abbrev after : List GroupVersion
    after = changed_all hi list vs

    pub groups_after : Apart Precedes after → AllByRecursion (IsBy hi) after → (n : ℕ) → hi ≤ n → groups_at n after ≡ groups_with list now
    groups_after order each n le =
        groups_with_is list now now_ascend now_change (groups_at n after) (groups_ascend n after order)
        (λ q. entries_current q hi n after le each ∙ all_current hi q list vs up ∙ ap (λ l. settled l (entries_of q list)) (sym (entries_now q)))

-- what holds of each group, and of each that changes make, holds after them
ended_all : (P : SignedRow → Type 0) (number : ℕ) (row : List Value) (vs : List GroupVersion) → AllByRecursion (λ v. P v.group) vs → AllByRecursion (λ v. P v.group) (map (ended number row) vs)
ended_all P number row vs a = all_map (ended number row) (λ (v : GroupVersion). P v.group) vs a

pub all_changed : (P : SignedRow → Type 0) (number : ℕ) (list : List SignedRow) (vs : List GroupVersion) → RowsAscend list → AllByRecursion (λ v. P v.group) vs
    → AllByRecursion (λ s. has_tuples (joined (current s.row vs) s) ≡ true → P (joined (current s.row vs) s)) list → AllByRecursion (λ v. P v.group) (changed_all number list vs)
all_changed P number [] vs up a f = a
all_changed P number (s ∷ list) vs up a f = by (joined (current s.row inner) s) (ap (λ l. joined l s) same) (all_changed P number list vs up.1 a f.1)
  where
    inner : List GroupVersion
    inner = changed_all number list vs

    same : current s.row (changed_all number list vs) ≡ current s.row vs
    same = all_current number s.row list vs up.1 ∙ ap (settled (current s.row vs)) (none_above s.row list up.0)

    by : (group : SignedRow) → group ≡ joined (current s.row vs) s → AllByRecursion (λ v. P v.group) (changed_all number list vs) → AllByRecursion (λ (v : GroupVersion). P v.group) (put number group (map (ended number s.row) (changed_all number list vs)))
    by group is ih = at (has_tuples group) refl
      where
        left : List GroupVersion
        left = map (ended number s.row) (changed_all number list vs)

        at : (b : Bool) → has_tuples group ≡ b → AllByRecursion (λ (v : GroupVersion). P v.group) (cond b (placed version_cmp (version_from number group) (map (ended number s.row) (changed_all number list vs))) (map (ended number s.row) (changed_all number list vs)))
        at true e = all_placed version_cmp (λ (v : GroupVersion). P v.group) (version_from number group) (map (ended number s.row) (changed_all number list vs)) (subst P (sym is) (f.0 (ap has_tuples (sym is) ∙ e))) (ended_all P number s.row (changed_all number list vs) ih)
        at false e = ended_all P number s.row (changed_all number list vs) ih

-- ---- versions that are not there may be dropped
pub dropped_groups : (n : ℕ) (p : GroupVersion → Bool) (vs : List GroupVersion) → AllByRecursion (λ v. p v ≡ false → is_there n v ≡ false) vs → groups_at n (filter p vs) ≡ groups_at n vs
dropped_groups n p [] a = refl
dropped_groups n p (v ∷ vs) a = by (p v) refl (is_there n v) refl (dropped_groups n p vs a.1)
  where
    by : (b : Bool) → p v ≡ b → (c : Bool) → is_there n v ≡ c → groups_at n (filter p vs) ≡ groups_at n vs → groups_at n (cond b (v ∷ filter p vs) (filter p vs)) ≡ map group_of (cond c (v ∷ filter (is_there n) vs) (filter (is_there n) vs))
    by true e true f ih = (λ i. map group_of (cond (f i) (v ∷ filter (is_there n) (filter p vs)) (filter (is_there n) (filter p vs)))) ∙ ap (λ l. v.group ∷ l) ih
    by true e false f ih = (λ i. map group_of (cond (f i) (v ∷ filter (is_there n) (filter p vs)) (filter (is_there n) (filter p vs)))) ∙ ih
    by false e true f ih = let g = a.0 e in cc
    by false e false f ih = ih

and_false : (a b : Bool) → b ≡ false → (a && b) ≡ false
and_false true b e = e
and_false false b e = refl

-- those that ended by a commit, from there on or from the last one on
ended_over : (number n : ℕ) (u : Option ℕ) → number ≤ n → ends_after number u ≡ false → ends_after n u ≡ false
ended_over number n None le h = cc
ended_over number n (Some k) le h = grind (arith, nat_tests)

last_over : (m n : ℕ) (u : Option ℕ) → m ≤ n → EndsAtMost m u → (u ≡ None → ⊥) → ends_after n u ≡ false
last_over m n None le h some = absurd (some refl)
last_over m n (Some k) le h some = let f : k ≤ m = h in grind (arith, nat_tests)

not_none : (number : ℕ) (u : Option ℕ) → ends_after number u ≡ false → u ≡ None → ⊥
not_none number u h e = let t = ap (ends_after number) e in cc

pub pruned_groups : (n number m : ℕ) (vs : List GroupVersion) → AllByRecursion (IsBy m) vs → (number ≤ n) ⊎ (m ≤ n) → groups_at n (filter (λ v. ends_after number v.until) vs) ≡ groups_at n vs
pruned_groups n number m vs a (inl le) =
    dropped_groups n (λ v. ends_after number v.until) vs (all_true (λ v. ends_after number v.until ≡ false → is_there n v ≡ false) (λ v h. and_false (nat_le v.from n) (ends_after n v.until) (ended_over number n v.until le h)) vs)
pruned_groups n number m vs a (inr le) =
    dropped_groups n (λ v. ends_after number v.until) vs
    (all_weaker (IsBy m) (λ v. ends_after number v.until ≡ false → is_there n v ≡ false) (λ v by h. and_false (nat_le v.from n) (ends_after n v.until) (last_over m n v.until le by.1 (not_none number v.until h))) vs a)

pub some_kept : (view : ViewDef) (at : ℕ) (p : GroupVersion → Bool) (vs : List GroupVersion) → AreVersions view at vs → AreVersions view at (filter p vs)
some_kept view at p vs held = record {
  order = apart_filter Precedes p vs held.order;
  each = all_filter (IsBy at) p vs held.each;
  counts = all_filter (λ (v : GroupVersion). has_tuples v.group ≡ true) p vs held.counts;
  rows = λ e. all_filter IsRow p vs (held.rows e);
}

-- ---- groups that are there from the start
pub first_kept : (view : ViewDef) (at : ℕ) (groups : List SignedRow) → RowsAscend groups → AllByRecursion (λ s. has_tuples s ≡ true) groups → (view.grouped ≡ false → AllByRecursion (λ s. s ≡ one_row s.row) groups) → AreVersions view at (map (version_from 0) groups)
first_kept view at groups up c ones = record {
  order = order groups up;
  each = all_map (version_from 0) (IsBy at) groups (all_true (λ g. IsBy at (version_from 0 g)) (λ g. (omega arith, tt)) groups);
  counts = all_map (version_from 0) (λ (v : GroupVersion). has_tuples v.group ≡ true) groups c;
  rows = λ e. all_map (version_from 0) IsRow groups (ones e);
}
  where
    order : (gs : List SignedRow) → RowsAscend gs → Apart Precedes (map (version_from 0) gs)
    order [] a = tt
    order (g ∷ gs) a =
        (all_map (version_from 0) (Precedes (version_from 0 g)) gs (all_weaker (λ (h : SignedRow). row_cmp g.row h.row ≡ Less) (λ h. Precedes (version_from 0 g) (version_from 0 h)) (λ h e. subst (λ o. precedes_by o (version_from 0 g) (version_from 0 h)) (sym e) tt) gs a.0), order gs a.1)

pub first_groups : (n : ℕ) (groups : List SignedRow) → groups_at n (map (version_from 0) groups) ≡ groups
first_groups n [] = refl
first_groups n (g ∷ groups) =
    let there : is_there n (version_from 0 g) ≡ true = let f : nat_le 0 n ≡ true = grind (arith, nat_tests) in ap (λ b. b && true) f in
    (λ i. map group_of (cond (there i) (version_from 0 g ∷ filter (is_there n) (map (version_from 0) groups)) (filter (is_there n) (map (version_from 0) groups)))) ∙ ap (λ l. g ∷ l) (first_groups n groups)
