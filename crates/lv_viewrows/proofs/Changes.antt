-- What changes leave of the versions: their order, the groups that are there before, and the current groups after.
use Rattle.std.proofs.Common.{◌≡◌, ℕ, ◌<◌, Bool, true, false, cond, List, [], ◌∷◌, ◌++◌, map, filter, Option, Some, None, refl, sym, ap, ◌∙◌, subst, arith}
use Rattle.std.specs.Prelude.{◌&&◌, nat_le, not, is_none}
use Rattle.std.specs.List.{AllByRecursion}
use Rattle.std.specs.Ordering.{is_eq, is_gt, ordering_reverse}
use Rattle.std.specs.declared.cmp.Ordering.{Ordering}
use Rattle.std.specs.declared.cmp.Ordering.TheVariants.{Less, Equal, Greater}
use Rattle.std.proofs.lemmas.Bool.Decides.{nat_tests}
use Rattle.lv_values.specs.declared.value.Value.{Value}
use Rattle.lv_values.specs.Ascending.{placed}
use Rattle.lv_values.specs.Order.{row_cmp, row_eq}
use Rattle.lv_values.specs.OrderLaws.{row_total}
use Rattle.lv_schema.specs.declared.signed.SignedRow.{SignedRow}
use Rattle.lv_schema.specs.Once.{Ascends}
use Rattle.lv_schema.specs.SignedRows.{entries_of}
use Rattle.lv_schema.specs.Versions.{end_by, ends_after}
use Rattle.lv_schema.proofs.Apart.{all_both, all_map, all_weaker, apart_map, apart_weaker}
use Rattle.lv_schema.proofs.NetsLead.{same_row}
use Rattle.lv_group.specs.Gathered.{has_tuples}
use Rattle.lv_shelf.specs.Cuts.{Apart}
use Rattle.lv_shelf.proofs.Shelved.{all_last}
use Rattle.lv_viewrows.specs.declared.version.GroupVersion.{GroupVersion}
use Rattle.lv_viewrows.specs.Kept.{groups_at, is_there, version_from}
use Rattle.lv_viewrows.specs.Standing.{EndsAtMost, EndsBy, IsBy, MeetAll, Meets, Precedes, changed, changed_all, current, ended, is_current, joined, meets_by, precedes_by, put, version_cmp}
use Rattle.lv_viewrows.proofs.Ending.{came_before, group_of}
use Rattle.lv_viewrows.proofs.Order.{IsNewTo, all_placed, filter_placed_out, new_by, placed_order}

-- ---- order
ends_by : (u : Option ℕ) (b : Bool) (k n : ℕ) → EndsBy n u → EndsBy n (end_by u b k)
ends_by None b k n h = absurd h
ends_by (Some j) b k n h = h

ended_precedes : (number : ℕ) (row : List Value) (v w : GroupVersion) → Precedes v w → Precedes (ended number row v) (ended number row w)
ended_precedes number row v w r = at (row_cmp v.group.row w.group.row) r
  where
    at : (o : Ordering) → precedes_by o v w → precedes_by o (ended number row v) (ended number row w)
    at Less r' = tt
    at Equal r' = (r'.0, ends_by v.until (not (row_eq row v.group.row)) number w.from r'.1)
    at Greater r' = r'

pub ended_order : (number : ℕ) (row : List Value) (vs : List GroupVersion) → Apart Precedes vs → Apart Precedes (map (ended number row) vs)
ended_order number row vs a =
    apart_map (ended number row) Precedes vs (apart_weaker Precedes (λ v w. Precedes (ended number row v) (ended number row w)) (ended_precedes number row) vs a)

ends_at_most : (u : Option ℕ) (b : Bool) (number : ℕ) → EndsAtMost number u → EndsAtMost number (end_by u b number)
ends_at_most None true number h = tt
ends_at_most None false number h = omega arith
ends_at_most (Some k) b number h = h

ended_each : (number : ℕ) (row : List Value) (vs : List GroupVersion) → AllByRecursion (IsBy number) vs → AllByRecursion (IsBy number) (map (ended number row) vs)
ended_each number row vs a =
    all_map (ended number row) (IsBy number) vs (all_weaker (IsBy number) (λ v. IsBy number (ended number row v)) (λ v h. (h.0, ends_at_most v.until (not (row_eq row v.group.row)) number h.1)) vs a)

-- a change's group is new to each version once its row's ended
ends_now : (u : Option ℕ) (b : Bool) (number : ℕ) → b ≡ true → EndsAtMost number u → EndsBy number (end_by u (not b) number)
ends_now None true number e h = omega arith
ends_now None false number e h = cc
ends_now (Some k) b number e h = h

ended_new : (number : ℕ) (s group : SignedRow) (vs : List GroupVersion) → group.row ≡ s.row → AllByRecursion (IsBy number) vs → MeetAll number vs s → AllByRecursion (IsNewTo number group) (map (ended number s.row) vs)
ended_new number s group vs same a m =
    all_map (ended number s.row) (IsNewTo number group) vs (all_both (IsBy number) (Meets number s) (λ v. IsNewTo number group (ended number s.row v)) new vs a m)
  where
    new : (v : GroupVersion) → IsBy number v → Meets number s v → IsNewTo number group (ended number s.row v)
    new v h met = at (row_cmp group.row v.group.row) refl
      where
        at : (o : Ordering) → row_cmp group.row v.group.row ≡ o → new_by o number (ended number s.row v)
        at Less e = tt
        at Equal e =
            let here : row_cmp s.row v.group.row ≡ Equal = ap (λ r. row_cmp r v.group.row) (sym same) ∙ e in
            let back : row_cmp v.group.row s.row ≡ Equal = row_total.antisymm v.group.row s.row ∙ ap ordering_reverse here in
            (came_before number s v met back, ends_now v.until (row_eq s.row v.group.row) number (ap is_eq here) h.1)
        at Greater e = tt

pub joined_row : (groups : List SignedRow) (s : SignedRow) → (joined groups s).row ≡ s.row
joined_row [] s = refl
joined_row (group ∷ groups) s = refl

-- what a group that is put gives, and what it leaves
put_by : (Q : List GroupVersion → Type 0) (number : ℕ) (group : SignedRow) (vs : List GroupVersion) → (has_tuples group ≡ true → Q (placed version_cmp (version_from number group) vs)) → Q vs → Q (put number group vs)
put_by Q number group vs f q = by (has_tuples group) refl
  where
    by : (b : Bool) → has_tuples group ≡ b → Q (cond b (placed version_cmp (version_from number group) vs) vs)
    by true e = f e
    by false e = q

pub changed_order : (number : ℕ) (s : SignedRow) (vs : List GroupVersion) → Apart Precedes vs → AllByRecursion (IsBy number) vs → MeetAll number vs s → Apart Precedes (changed number s vs)
changed_order number s vs a b m =
    let group = joined (current s.row vs) s in
    let left = map (ended number s.row) vs in
    put_by (Apart Precedes) number group left (λ e. placed_order number group left (ended_order number s.row vs a) (ended_new number s group vs (joined_row (current s.row vs) s) b m)) (ended_order number s.row vs a)

pub changed_each : (number : ℕ) (s : SignedRow) (vs : List GroupVersion) → AllByRecursion (IsBy number) vs → AllByRecursion (IsBy number) (changed number s vs)
changed_each number s vs b =
    let group = joined (current s.row vs) s in
    let left = map (ended number s.row) vs in
    put_by (AllByRecursion (IsBy number)) number group left (λ e. all_placed version_cmp (IsBy number) (version_from number group) left (omega arith, tt) (ended_each number s.row vs b)) (ended_each number s.row vs b)

-- a change of another row is met as before
no_end : (u : Option ℕ) (b : Bool) (k : ℕ) → end_by u b k ≡ None → u ≡ None
no_end None b k e = refl
no_end (Some j) b k e = cc

ended_meets : (number : ℕ) (row : List Value) (t : SignedRow) (v : GroupVersion) → Meets number t v → Meets number t (ended number row v)
ended_meets number row t v m = at (row_cmp v.group.row t.row) m
  where
    at : (o : Ordering) → meets_by o number t v → meets_by o number t (ended number row v)
    at Less m' = tt
    at Equal m' = (m'.0, λ e. m'.1 (no_end v.until (not (row_eq row v.group.row)) number e))
    at Greater m' = tt

pub changed_meets : (number : ℕ) (s t : SignedRow) (vs : List GroupVersion) → (row_cmp s.row t.row ≡ Equal → ⊥) → MeetAll number vs t → MeetAll number (changed number s vs) t
changed_meets number s t vs apart m =
    let group = joined (current s.row vs) s in
    let left = map (ended number s.row) vs in
    let rest = all_map (ended number s.row) (Meets number t) vs (all_weaker (Meets number t) (λ v. Meets number t (ended number s.row v)) (ended_meets number s.row t) vs m) in
    put_by (λ list. MeetAll number list t) number group left (λ e. all_placed version_cmp (Meets number t) (version_from number group) left (other group (joined_row (current s.row vs) s) (row_cmp group.row t.row) refl) rest) rest
  where
    other : (group : SignedRow) → group.row ≡ s.row → (o : Ordering) → row_cmp group.row t.row ≡ o → Meets number t (version_from number group)
    other group same Less e = subst (λ o. meets_by o number t (version_from number group)) (sym e) tt
    other group same Equal e = absurd (apart (ap (λ r. row_cmp r t.row) (sym same) ∙ e))
    other group same Greater e = subst (λ o. meets_by o number t (version_from number group)) (sym e) tt

-- ---- changes one after another
pub changed_last : (number : ℕ) (list : List SignedRow) (s : SignedRow) (vs : List GroupVersion) → changed_all number (list ++ s ∷ []) vs ≡ changed_all number list (changed number s vs)
changed_last number [] s vs = refl
changed_last number (t ∷ list) s vs = ap (changed number t) (changed_last number list s vs)

abbrev pub RowsAscend : List SignedRow → Type 0
RowsAscend list = Ascends (λ (a b : SignedRow). row_cmp a.row b.row) list

pub ascend_last : (list : List SignedRow) (s : SignedRow) → RowsAscend (list ++ s ∷ []) → RowsAscend list × AllByRecursion (λ t. row_cmp t.row s.row ≡ Less) list
ascend_last [] s a = (tt, tt)
ascend_last (t ∷ list) s a =
    let more = ascend_last list s a.1 in
    let ends = all_last (λ (u : SignedRow). row_cmp t.row u.row ≡ Less) list s a.0 in
    ((ends.0, more.0), (ends.1, more.1))

pub rest_met : (number : ℕ) (list : List SignedRow) (s : SignedRow) (vs : List GroupVersion) → AllByRecursion (λ t. row_cmp t.row s.row ≡ Less) list → AllByRecursion (MeetAll number vs) list → AllByRecursion (MeetAll number (changed number s vs)) list
rest_met number list s vs l m =
    all_both (λ (t : SignedRow). row_cmp t.row s.row ≡ Less) (MeetAll number vs) (MeetAll number (changed number s vs)) (λ t less met. changed_meets number s t vs (apart t less) met) list l m
  where
    apart : (t : SignedRow) → row_cmp t.row s.row ≡ Less → row_cmp s.row t.row ≡ Equal → ⊥
    apart t less e = let back = row_total.antisymm s.row t.row ∙ ap ordering_reverse less in cc

-- ---- the groups at earlier commits
end_before : (u : Option ℕ) (b : Bool) (n number : ℕ) → n < number → ends_after n (end_by u b number) ≡ ends_after n u
end_before None true n number lt = refl
end_before None false n number lt = grind (arith, nat_tests)
end_before (Some k) b n number lt = refl

ended_before : (number n : ℕ) (row : List Value) (vs : List GroupVersion) → n < number → groups_at n (map (ended number row) vs) ≡ groups_at n vs
ended_before number n row [] lt = refl
ended_before number n row (v ∷ vs) lt = by (is_there n v) refl (ended_before number n row vs lt)
  where
    same : is_there n (ended number row v) ≡ is_there n v
    same = ap (λ b. nat_le v.from n && b) (end_before v.until (not (row_eq row v.group.row)) n number lt)

    by : (t : Bool) → is_there n v ≡ t → groups_at n (map (ended number row) vs) ≡ groups_at n vs → groups_at n (map (ended number row) (v ∷ vs)) ≡ groups_at n (v ∷ vs)
    by true e ih = rw (same, e) (ap (λ l. v.group ∷ l) ih)
    by false e ih = rw (same, e) ih

placed_before : (number n : ℕ) (group : SignedRow) (vs : List GroupVersion) → n < number → groups_at n (placed version_cmp (version_from number group) vs) ≡ groups_at n vs
placed_before number n group vs lt =
    let later : nat_le number n ≡ false = grind (arith, nat_tests) in
    ap (map group_of) (filter_placed_out version_cmp (is_there n) (version_from number group) (ap (λ b. b && true) later) vs)

pub all_before : (number n : ℕ) (list : List SignedRow) (vs : List GroupVersion) → n < number → groups_at n (changed_all number list vs) ≡ groups_at n vs
all_before number n [] vs lt = refl
all_before number n (s ∷ list) vs lt =
    let inner = changed_all number list vs in
    let group = joined (current s.row inner) s in
    let left = map (ended number s.row) inner in
    put_by (λ l. groups_at n l ≡ groups_at n left) number group left (λ e. placed_before number n group left lt) refl ∙ ended_before number n s.row inner lt ∙ all_before number n list vs lt

-- ---- the current groups of a row
abbrev pub kept : SignedRow → List SignedRow
kept group = cond (has_tuples group) (group ∷ []) []

flip : (q row x : List Value) → row_eq q row ≡ false → row_eq row x ≡ true → row_eq q x ≡ false
flip q row x other same = ap (row_eq q) (sym (same_row row x same)) ∙ other

ended_is_current : (number : ℕ) (q row : List Value) (v : GroupVersion) → is_current q (ended number row v) ≡ cond (row_eq q row) false (is_current q v)
ended_is_current number q row v = by v.until (row_eq q row) refl (row_eq row v.group.row) refl
  where
    by : (u : Option ℕ) (b : Bool) → row_eq q row ≡ b → (c : Bool) → row_eq row v.group.row ≡ c → (is_none (end_by u (not c) number) && row_eq q v.group.row) ≡ cond b false (is_none u && row_eq q v.group.row)
    by (Some k) true e c f = refl
    by (Some k) false e c f = refl
    by None true e true f = refl
    by None true e false f = ap (λ r. row_eq r v.group.row) (same_row q row e) ∙ f
    by None false e true f = sym (flip q row v.group.row e f)
    by None false e false f = refl

ended_now : (number : ℕ) (q row : List Value) (vs : List GroupVersion) → filter (is_current q) (map (ended number row) vs) ≡ cond (row_eq q row) [] (map (ended number row) (filter (is_current q) vs))
ended_now number q row [] = by (row_eq q row)
  where
    by : (b : Bool) → [] ≡ cond {A = List GroupVersion} b [] []
    by true = refl
    by false = refl
ended_now number q row (v ∷ vs) =
    (λ i. cond (ended_is_current number q row v i) (ended number row v ∷ ended_now number q row vs i) (ended_now number q row vs i)) ∙ by (row_eq q row) (is_current q v)
  where
    by : (b c : Bool) → cond (cond b false c) (ended number row v ∷ cond b [] (map (ended number row) (filter (is_current q) vs))) (cond b [] (map (ended number row) (filter (is_current q) vs)))
        ≡ cond b [] (map (ended number row) (cond c (v ∷ filter (is_current q) vs) (filter (is_current q) vs)))
    by true c = refl
    by false true = refl
    by false false = refl

groups_of_ended : (number : ℕ) (row : List Value) (vs : List GroupVersion) → map group_of (map (ended number row) vs) ≡ map group_of vs
groups_of_ended number row [] = refl
groups_of_ended number row (v ∷ vs) = ap (λ l. v.group ∷ l) (groups_of_ended number row vs)

ended_current : (number : ℕ) (q row : List Value) (vs : List GroupVersion) → current q (map (ended number row) vs) ≡ cond (row_eq q row) [] (current q vs)
ended_current number q row vs = ap (map group_of) (ended_now number q row vs) ∙ by (row_eq q row)
  where
    by : (b : Bool) → map group_of (cond b [] (map (ended number row) (filter (is_current q) vs))) ≡ cond b [] (current q vs)
    by true = refl
    by false = groups_of_ended number row (filter (is_current q) vs)

-- a group that is put is current for its row, and for no other
placed_other : (number : ℕ) (q : List Value) (group : SignedRow) (vs : List GroupVersion) → row_eq q group.row ≡ false → current q (placed version_cmp (version_from number group) vs) ≡ current q vs
placed_other number q group vs h = ap (map group_of) (filter_placed_out version_cmp (is_current q) (version_from number group) h vs)

placed_own : (number : ℕ) (q : List Value) (group : SignedRow) (vs : List GroupVersion) → row_eq q group.row ≡ true → current q vs ≡ [] → current q (placed version_cmp (version_from number group) vs) ≡ group ∷ []
placed_own number q group [] h none = λ i. map group_of (cond (h i) (version_from number group ∷ []) [])
placed_own number q group (w ∷ vs) h none = by (is_current q w) refl none (λ e. placed_own number q group vs h e)
  where
    by : (s : Bool) → is_current q w ≡ s → map group_of (cond s (w ∷ filter (is_current q) vs) (filter (is_current q) vs)) ≡ [] → (current q vs ≡ [] → current q (placed version_cmp (version_from number group) vs) ≡ group ∷ [])
        → current q (placed version_cmp (version_from number group) (w ∷ vs)) ≡ group ∷ []
    by true e n ih = cc
    by false e n ih = at (is_gt (version_cmp (version_from number group) w))
      where
        at : (t : Bool) → current q (cond t (w ∷ placed version_cmp (version_from number group) vs) (version_from number group ∷ w ∷ vs)) ≡ group ∷ []
        at true = (λ i. map group_of (cond (e i) (w ∷ filter (is_current q) (placed version_cmp (version_from number group) vs)) (filter (is_current q) (placed version_cmp (version_from number group) vs)))) ∙ ih n
        at false = (λ i. map group_of (cond (h i) (version_from number group ∷ cond (e i) (w ∷ filter (is_current q) vs) (filter (is_current q) vs)) (cond (e i) (w ∷ filter (is_current q) vs) (filter (is_current q) vs)))) ∙ ap (λ l. group ∷ l) n

-- after one change
pub changed_current : (number : ℕ) (q : List Value) (s : SignedRow) (vs : List GroupVersion) → current q (changed number s vs) ≡ cond (row_eq q s.row) (kept (joined (current s.row vs) s)) (current q vs)
changed_current number q s vs = by (row_eq q s.row) refl (has_tuples group) refl
  where
    group : SignedRow
    group = joined (current s.row vs) s

    left : List GroupVersion
    left = map (ended number s.row) vs

    own : (b : Bool) → row_eq q s.row ≡ b → row_eq q (joined (current s.row vs) s).row ≡ b
    own b e = ap (row_eq q) (joined_row (current s.row vs) s) ∙ e

    left_is : (b : Bool) → row_eq q s.row ≡ b → current q (map (ended number s.row) vs) ≡ cond b [] (current q vs)
    left_is b e = ended_current number q s.row vs ∙ ap (λ c. cond c [] (current q vs)) e

    by : (b : Bool) → row_eq q s.row ≡ b → (c : Bool) → has_tuples (joined (current s.row vs) s) ≡ c
        → current q (cond c (placed version_cmp (version_from number (joined (current s.row vs) s)) (map (ended number s.row) vs)) (map (ended number s.row) vs)) ≡ cond b (cond c (joined (current s.row vs) s ∷ []) []) (current q vs)
    by true e true f = placed_own number q (joined (current s.row vs) s) (map (ended number s.row) vs) (own true e) (left_is true e)
    by true e false f = left_is true e
    by false e true f = placed_other number q (joined (current s.row vs) s) (map (ended number s.row) vs) (own false e) ∙ left_is false e
    by false e false f = left_is false e

-- ---- after several
pub none_above : (q : List Value) (list : List SignedRow) → AllByRecursion (λ (s : SignedRow). row_cmp q s.row ≡ Less) list → entries_of q list ≡ []
none_above q [] a = refl
none_above q (s ∷ list) a = (λ i. cond (is_eq (a.0 i)) (s ∷ entries_of q list) (entries_of q list)) ∙ none_above q list a.1

-- what is left of a row with these groups by these changes of it
abbrev pub settled : List SignedRow → List SignedRow → List SignedRow
settled groups [] = groups
settled groups (s ∷ more) = kept (joined groups s)

pub all_current : (number : ℕ) (q : List Value) (list : List SignedRow) (vs : List GroupVersion) → RowsAscend list → current q (changed_all number list vs) ≡ settled (current q vs) (entries_of q list)
all_current number q [] vs a = refl
all_current number q (s ∷ list) vs a = changed_current number q s (changed_all number list vs) ∙ by (row_eq q s.row) refl (all_current number q list vs a.1) (all_current number s.row list vs a.1)
  where
    by : (b : Bool) → row_eq q s.row ≡ b → current q (changed_all number list vs) ≡ settled (current q vs) (entries_of q list) → current s.row (changed_all number list vs) ≡ settled (current s.row vs) (entries_of s.row list)
        → cond b (kept (joined (current s.row (changed_all number list vs)) s)) (current q (changed_all number list vs)) ≡ settled (current q vs) (cond b (s ∷ entries_of q list) (entries_of q list))
    by true e ih own =
        ap (λ l. kept (joined l s)) (own ∙ ap (settled (current s.row vs)) (none_above s.row list a.0))
        ∙ ap (λ r. kept (joined (current r vs) s)) (sym (same_row q s.row e))
    by false e ih own = ih
