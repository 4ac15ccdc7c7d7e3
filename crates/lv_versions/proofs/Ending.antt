-- What a commit does to the versions of the rows that it takes away, and of those whose keys it changes.
use Rattle.std.proofs.Common.{◌≡◌, ℕ, zero, suc, ◌<◌, ◌≤◌, Bool, true, false, List, [], ◌∷◌, ◌++◌, map, get_or, set, Option, Some, None, refl, sym, ap, ap₂, ◌∙◌, subst, arith}
use Rattle.std.specs.Prelude.{◌&&◌, ◌||◌, nat_lt, nat_le, not, is_none, slice_get}
use Rattle.std.specs.List.{AllByRecursion}
use Rattle.std.specs.Ordering.{is_gt, ordering_reverse}
use Rattle.std.specs.declared.cmp.Ordering.{Ordering}
use Rattle.std.specs.declared.cmp.Ordering.TheVariants.{Less, Equal, Greater}
use Rattle.std.proofs.lemmas.Bool.Decides.{nat_tests}
use Rattle.std.proofs.lemmas.Cmp.{tied_itself}
use Rattle.std.proofs.lemmas.List.Folds.{list_any-append}
use Rattle.std.proofs.lemmas.List.{set-get_or}
use Rattle.lv_values.specs.declared.value.Value.{Value}
use Rattle.lv_values.specs.Order.{row_cmp, row_eq}
use Rattle.lv_values.specs.OrderLaws.{row_exact, row_total}
use Rattle.lv_values.specs.Rows.{key_cmp, values_at}
use Rattle.lv_schema.specs.Effects.{has_key, same_key}
use Rattle.lv_schema.specs.Nets.{has_row, lacking}
use Rattle.lv_schema.specs.Versions.{end_by}
use Rattle.lv_schema.proofs.Apart.{all_weaker}
use Rattle.lv_schema.proofs.NetsLead.{same_row}
use Rattle.lv_schema.specs.declared.version.RowVersion.{RowVersion}
use Rattle.lv_shelf.specs.Cuts.{Apart, IsCut}
use Rattle.lv_versions.specs.Versions.{EndsAtMost, EndsBy, IsBy, Precedes, closed, ended_at, ends_after, is_at, is_current, lost, precedes_by, state_at, upto}
use Rattle.lv_shelf.proofs.Cutting.{all_at, cut_at, cut_long, got}

-- ---- the one version that a row names
abbrev pub Closed : List ℕ → ℕ → List Value → RowVersion → RowVersion
Closed ps number row = closed ps number (row ∷ [])

or_false : (b : Bool) → (b || false) ≡ b
or_false true = refl
or_false false = refl

pub closed_other : (ps : List ℕ) (number : ℕ) (row : List Value) (v : RowVersion) → is_current ps row number v ≡ false → Closed ps number row v ≡ v
closed_other ps number row v h = by v.until refl
  where
    same : end_by v.until (not (nat_lt v.from number && has_key ps v.row (row ∷ []))) number ≡ v.until → Closed ps number row v ≡ v
    same e = ap (λ (u : Option ℕ). record v { until = u }) e

    by : (u : Option ℕ) → v.until ≡ u → Closed ps number row v ≡ v
    by (Some k) e = same (ap (λ u. end_by u (not (nat_lt v.from number && has_key ps v.row (row ∷ []))) number) e ∙ sym e)
    by None e =
        let other : (nat_lt v.from number && same_key ps v.row row) ≡ false = sym (ap (λ u. is_none u && (nat_lt v.from number && same_key ps v.row row)) e) ∙ h in
        same (ap₂ (λ u b. end_by u (not b) number) e (ap (λ b. nat_lt v.from number && b) (or_false (same_key ps v.row row)) ∙ other) ∙ sym e)

pub closed_current : (ps : List ℕ) (number : ℕ) (row : List Value) (v : RowVersion) → is_current ps row number v ≡ true → Closed ps number row v ≡ ended_at number v
closed_current ps number row v h = by v.until refl
  where
    same : end_by v.until (not (nat_lt v.from number && has_key ps v.row (row ∷ []))) number ≡ Some number → Closed ps number row v ≡ ended_at number v
    same e = ap (λ (u : Option ℕ). record v { until = u }) e

    by : (u : Option ℕ) → v.until ≡ u → Closed ps number row v ≡ ended_at number v
    by (Some k) e = let f = ap (λ u. is_none u && (nat_lt v.from number && same_key ps v.row row)) e in cc
    by None e =
        let this : (nat_lt v.from number && same_key ps v.row row) ≡ true = sym (ap (λ u. is_none u && (nat_lt v.from number && same_key ps v.row row)) e) ∙ h in
        same (ap₂ (λ u b. end_by u (not b) number) e (ap (λ b. nat_lt v.from number && b) (or_false (same_key ps v.row row)) ∙ this))

both : (a b : Bool) → (a && b) ≡ true → (a ≡ true) × (b ≡ true)
both true b h = (refl, h)
both false b h = cc

no_until : (u : Option ℕ) → is_none u ≡ true → u ≡ None
no_until None h = refl
no_until (Some k) h = cc

-- what is current has not ended, came before, and has the key
current_parts : (ps : List ℕ) (row : List Value) (number : ℕ) (v : RowVersion) → is_current ps row number v ≡ true → (v.until ≡ None) × (v.from < number) × (values_at ps v.row ≡ values_at ps row)
current_parts ps row number v e =
    let parts = both (is_none v.until) (nat_lt v.from number && same_key ps v.row row) e in
    let more = both (nat_lt v.from number) (same_key ps v.row row) parts.1 in
    let came = more.0 in
    (no_until v.until parts.0, grind (arith, nat_tests), same_row (values_at ps v.row) (values_at ps row) more.1)

-- above the key of the row no version is its current one
pub later_other : (ps : List ℕ) (row : List Value) (number : ℕ) (v : RowVersion) → upto ps row v ≡ false → is_current ps row number v ≡ false
later_other ps row number v h = by (is_current ps row number v) refl
  where
    by : (b : Bool) → is_current ps row number v ≡ b → b ≡ false
    by false e = refl
    by true e =
        let parts = current_parts ps row number v e in
        let tied : row_cmp (values_at ps v.row) (values_at ps row) ≡ Equal = ap (λ k. row_cmp k (values_at ps row)) parts.2 ∙ tied_itself row_total (values_at ps row) in
        let before : upto ps row v ≡ true = ap (λ o. not (is_gt o)) tied in
        cc

-- nor is one before the last that is not above it
pub earlier_other : (ps : List ℕ) (row : List Value) (number : ℕ) (v w : RowVersion) → Precedes ps v w → upto ps row w ≡ true → is_current ps row number v ≡ false
earlier_other ps row number v w r h = by (is_current ps row number v) refl
  where
    above : (o : Ordering) → o ≡ Greater → not (is_gt o) ≡ true → ⊥
    above o e t = let f = ap (λ x. not (is_gt x)) e in cc

    at : values_at ps v.row ≡ values_at ps row → v.until ≡ None → (o : Ordering) → key_cmp ps v.row w.row ≡ o → precedes_by o v w → ⊥
    at same none Less e r' =
        let less : row_cmp (values_at ps row) (values_at ps w.row) ≡ Less = ap (λ k. row_cmp k (values_at ps w.row)) (sym same) ∙ e in
        above (row_cmp (values_at ps w.row) (values_at ps row)) (row_total.antisymm (values_at ps w.row) (values_at ps row) ∙ ap ordering_reverse less) h
    at same none Equal e r' = subst (EndsBy w.from) none r'.1
    at same none Greater e r' = r'

    by : (b : Bool) → is_current ps row number v ≡ b → b ≡ false
    by false e = refl
    by true e = let parts = current_parts ps row number v e in absurd (at parts.2 parts.0 (key_cmp ps v.row w.row) refl r)

none_closed : (ps : List ℕ) (row : List Value) (number : ℕ) (vs : List RowVersion) → AllByRecursion (λ v. upto ps row v ≡ false) vs → map (Closed ps number row) vs ≡ vs
none_closed ps row number [] b = refl
none_closed ps row number (v ∷ vs) b = ap₂ (λ x l. x ∷ l) (closed_other ps number row v (later_other ps row number v b.0)) (none_closed ps row number vs b.1)

-- the list where the version before a place is another one
abbrev pub changed_before : {X : Type 0} → (X → X) → ℕ → List X → X → List X
changed_before f zero vs d = vs
changed_before f (suc i) vs d = set vs i (f (get_or vs i d))

pub closed_at : (ps : List ℕ) (row : List Value) (number : ℕ) (i : ℕ) (vs : List RowVersion) (d : RowVersion) → Apart (Precedes ps) vs → IsCut (upto ps row) i vs
    → map (Closed ps number row) vs ≡ changed_before (Closed ps number row) i vs d
closed_at ps row number zero vs d a cut = none_closed ps row number vs cut
closed_at ps row number (suc i) [] d a cut = absurd cut
closed_at ps row number (suc zero) (v ∷ vs) d a cut = ap (λ l. Closed ps number row v ∷ l) (none_closed ps row number vs cut.1)
closed_at ps row number (suc (suc i)) (v ∷ vs) d a cut =
    let p = upto ps row in
    let long = cut_long p (suc i) vs cut.1 in
    let w = get_or vs i d in
    ap₂ (λ x l. x ∷ l)
    (closed_other ps number row v (earlier_other ps row number v w (all_at (Precedes ps v) vs i d (omega (arith, long)) a.0) (cut_at p (suc i) i vs d cut.1 (omega arith))))
    (closed_at ps row number (suc i) vs d a.1 cut.1)

-- ---- a row more
pub end_twice : (u : Option ℕ) (a b : Bool) (k : ℕ) → end_by (end_by u (not a) k) (not b) k ≡ end_by u (not (a || b)) k
end_twice None true b k = refl
end_twice None false b k = refl
end_twice (Some j) a b k = refl

and_or : (t a b : Bool) → ((t && a) || (t && b)) ≡ (t && (a || b))
and_or true a b = refl
and_or false a b = refl

pub or_comm : (a b : Bool) → (a || b) ≡ (b || a)
or_comm true true = refl
or_comm true false = refl
or_comm false true = refl
or_comm false false = refl

or_same : (a : Bool) → (a || a) ≡ a
or_same true = refl
or_same false = refl

abbrev Hits : List ℕ → ℕ → List (List Value) → RowVersion → Bool
Hits ps number rows v = nat_lt v.from number && has_key ps v.row rows

pub closed_more : (ps : List ℕ) (number : ℕ) (rows : List (List Value)) (row : List Value) (vs : List RowVersion) → map (Closed ps number row) (map (closed ps number rows) vs) ≡ map (closed ps number (rows ++ row ∷ [])) vs
closed_more ps number rows row [] = refl
closed_more ps number rows row (v ∷ vs) =
    ap₂ (λ (u : Option ℕ) (l : List RowVersion). record v { until = u } ∷ l)
    (end_twice v.until (Hits ps number rows v) (Hits ps number (row ∷ []) v) number
    ∙ ap (λ b. end_by v.until (not b) number) (and_or (nat_lt v.from number) (has_key ps v.row rows) (has_key ps v.row (row ∷ [])) ∙ ap (λ b. nat_lt v.from number && b) (sym (list_any-append (same_key ps v.row) rows (row ∷ [])))))
    (closed_more ps number rows row vs)

-- the keys may come in any order
pub closed_swap : (ps : List ℕ) (number : ℕ) (rows others : List (List Value)) (vs : List RowVersion) → map (closed ps number rows) (map (closed ps number others) vs) ≡ map (closed ps number others) (map (closed ps number rows) vs)
closed_swap ps number rows others [] = refl
closed_swap ps number rows others (v ∷ vs) =
    ap₂ (λ (u : Option ℕ) (l : List RowVersion). record v { until = u } ∷ l)
    (end_twice v.until (Hits ps number others v) (Hits ps number rows v) number
    ∙ ap (λ b. end_by v.until (not b) number) (or_comm (Hits ps number others v) (Hits ps number rows v))
    ∙ sym (end_twice v.until (Hits ps number rows v) (Hits ps number others v) number))
    (closed_swap ps number rows others vs)

pub closed_last : (ps : List ℕ) (number : ℕ) (rows : List (List Value)) (row : List Value) (vs : List RowVersion) → map (closed ps number (rows ++ row ∷ [])) vs ≡ map (closed ps number rows) (map (Closed ps number row) vs)
closed_last ps number rows row vs = sym (closed_more ps number rows row vs) ∙ closed_swap ps number (row ∷ []) rows vs

-- the last of the rows that come, and others that go in place of those that did
pub closed_due : (ps : List ℕ) (number : ℕ) (plus rest : List (List Value)) (row : List Value) (minus left : List (List Value)) (vs us : List RowVersion) → plus ≡ rest ++ row ∷ []
    → map (closed ps number left) (map (Closed ps number row) us) ≡ map (closed ps number minus) (map (Closed ps number row) vs)
    → map (closed ps number plus) (map (closed ps number minus) vs) ≡ map (closed ps number rest) (map (closed ps number left) (map (Closed ps number row) us))
closed_due ps number plus rest row minus left vs us popped same =
    ap (λ l. map (closed ps number l) (map (closed ps number minus) vs)) popped
    ∙ closed_last ps number rest row (map (closed ps number minus) vs)
    ∙ ap (map (closed ps number rest)) (closed_swap ps number (row ∷ []) minus vs ∙ sym same)

closed_again : (ps : List ℕ) (number : ℕ) (rows : List (List Value)) (vs : List RowVersion) → map (closed ps number rows) (map (closed ps number rows) vs) ≡ map (closed ps number rows) vs
closed_again ps number rows [] = refl
closed_again ps number rows (v ∷ vs) =
    ap₂ (λ (u : Option ℕ) (l : List RowVersion). record v { until = u } ∷ l)
    (end_twice v.until (Hits ps number rows v) (Hits ps number rows v) number ∙ ap (λ b. end_by v.until (not b) number) (or_same (Hits ps number rows v)))
    (closed_again ps number rows vs)

-- a row of a key whose version has ended ends none
pub closed_tied : (ps : List ℕ) (number : ℕ) (q row : List Value) (vs : List RowVersion) → key_cmp ps q row ≡ Equal → map (Closed ps number q) (map (Closed ps number row) vs) ≡ map (Closed ps number row) vs
closed_tied ps number q row vs e =
    ap (λ k. map (λ (v : RowVersion). record v { until = end_by v.until (not (nat_lt v.from number && (row_eq (values_at ps v.row) k || false))) number }) (map (Closed ps number row) vs))
    (row_exact (values_at ps q) (values_at ps row) e)
    ∙ closed_again ps number (row ∷ []) vs

-- ---- what stays
lost_ends : (u : Option ℕ) (b : Bool) (k n : ℕ) → EndsBy n u → EndsBy n (end_by u b k)
lost_ends None b k n h = absurd h
lost_ends (Some j) b k n h = h

closed_precedes : (ps : List ℕ) (number : ℕ) (rows : List (List Value)) (v w : RowVersion) → Precedes ps v w → Precedes ps (closed ps number rows v) (closed ps number rows w)
closed_precedes ps number rows v w r = at (key_cmp ps v.row w.row) r
  where
    at : (o : Ordering) → precedes_by o v w → precedes_by o (closed ps number rows v) (closed ps number rows w)
    at Less r' = tt
    at Equal r' = (r'.0, lost_ends v.until (not (Hits ps number rows v)) number w.from r'.1)
    at Greater r' = r'

pub all_mapped : {X Y : Type 0} (f : X → Y) (P : Y → Type 0) (xs : List X) → AllByRecursion (λ x. P (f x)) xs → AllByRecursion P (map f xs)
all_mapped f P [] a = tt
all_mapped f P (x ∷ xs) a = (a.0, all_mapped f P xs a.1)

pub all_unmapped : {X Y : Type 0} (f : X → Y) (P : Y → Type 0) (xs : List X) → AllByRecursion P (map f xs) → AllByRecursion (λ x. P (f x)) xs
all_unmapped f P [] a = tt
all_unmapped f P (x ∷ xs) a = (a.0, all_unmapped f P xs a.1)

cut_mapped : {X Y : Type 0} (f : X → Y) (p : Y → Bool) (n : ℕ) (xs : List X) → IsCut (λ x. p (f x)) n xs → IsCut p n (map f xs)
cut_mapped f p zero xs a = all_mapped f (λ y. p y ≡ false) xs a
cut_mapped f p (suc n) [] a = a
cut_mapped f p (suc n) (x ∷ xs) a = (a.0, cut_mapped f p n xs a.1)

-- the place of a row is as it was
pub closed_cut : (ps : List ℕ) (number : ℕ) (row : List Value) (at : ℕ) (vs us : List RowVersion) → us ≡ map (Closed ps number row) vs → IsCut (upto ps row) at vs → IsCut (upto ps row) at us
closed_cut ps number row at vs us is cut = subst (IsCut (upto ps row) at) (sym is) (cut_mapped (Closed ps number row) (upto ps row) at vs cut)

pub closed_order : (ps : List ℕ) (number : ℕ) (rows : List (List Value)) (vs : List RowVersion) → Apart (Precedes ps) vs → Apart (Precedes ps) (map (closed ps number rows) vs)
closed_order ps number rows [] a = tt
closed_order ps number rows (v ∷ vs) a = (
  all_mapped (closed ps number rows) (Precedes ps (closed ps number rows v)) vs (all_weaker (Precedes ps v) (λ w. Precedes ps (closed ps number rows v) (closed ps number rows w)) (λ w r. closed_precedes ps number rows v w r) vs a.0),
  closed_order ps number rows vs a.1,
)

pub lost_earlier : (number : ℕ) (rows : List (List Value)) (vs : List RowVersion) → AllByRecursion (λ v. v.from < number) vs → AllByRecursion (λ v. v.from < number) (map (lost number rows) vs)
lost_earlier number rows vs a = all_mapped (lost number rows) (λ v. v.from < number) vs a

pub ends_at_most : (u : Option ℕ) (b : Bool) (last number : ℕ) → last ≤ number → EndsAtMost last u → EndsAtMost number (end_by u b number)
ends_at_most None true last number le h = tt
ends_at_most None false last number le h = omega arith
ends_at_most (Some k) b last number le h = omega (arith, h)

pub lost_by : (last number : ℕ) (rows : List (List Value)) (vs : List RowVersion) → last ≤ number → AllByRecursion (IsBy last) vs → AllByRecursion (IsBy number) (map (lost number rows) vs)
lost_by last number rows vs le a =
    all_mapped (lost number rows) (IsBy number) vs
    (all_weaker (IsBy last) (λ v. IsBy number (lost number rows v)) (λ v h. (omega (arith, h.0), ends_at_most v.until (not (has_row v.row rows)) last number le h.1)) vs a)

kept_end : (u : Option ℕ) (b : Bool) (floor number : ℕ) → floor < number → ends_after floor u ≡ true → ends_after floor (end_by u b number) ≡ true
kept_end None true floor number lt h = refl
kept_end None false floor number lt h = grind (arith, nat_tests)
kept_end (Some k) b floor number lt h = h

pub lost_kept : (floor number : ℕ) (rows : List (List Value)) (vs : List RowVersion) → floor < number → AllByRecursion (λ v. ends_after floor v.until ≡ true) vs → AllByRecursion (λ v. ends_after floor v.until ≡ true) (map (lost number rows) vs)
lost_kept floor number rows vs lt a =
    all_mapped (lost number rows) (λ v. ends_after floor v.until ≡ true) vs
    (all_weaker (λ v. ends_after floor v.until ≡ true) (λ v. ends_after floor (lost number rows v).until ≡ true) (λ v h. kept_end v.until (not (has_row v.row rows)) floor number lt h) vs a)

-- ---- the rows after each commit
abbrev row_of : RowVersion → List Value
row_of v = v.row

end_before : (u : Option ℕ) (b : Bool) (n number : ℕ) → n < number → ends_after n (end_by u b number) ≡ ends_after n u
end_before None true n number lt = refl
end_before None false n number lt = grind (arith, nat_tests)
end_before (Some k) b n number lt = refl

pub lost_before : (number n : ℕ) (rows : List (List Value)) (vs : List RowVersion) → n < number → state_at n (map (lost number rows) vs) ≡ state_at n vs
lost_before number n rows [] lt = refl
lost_before number n rows (v ∷ vs) lt = by (is_at n v) refl (lost_before number n rows vs lt)
  where
    same : is_at n (lost number rows v) ≡ is_at n v
    same = ap (λ b. nat_le v.from n && b) (end_before v.until (not (has_row v.row rows)) n number lt)

    by : (t : Bool) → is_at n v ≡ t → state_at n (map (lost number rows) vs) ≡ state_at n vs → state_at n (map (lost number rows) (v ∷ vs)) ≡ state_at n (v ∷ vs)
    by true e ih = rw (same, e) (ap (λ l. v.row ∷ l) ih)
    by false e ih = rw (same, e) ih

ended_by : (u : Option ℕ) (last n : ℕ) (b : Bool) → last < n → EndsAtMost last u → (u ≡ None → ⊥) → (ends_after n (end_by u b n) ≡ false) × (ends_after last u ≡ false)
ended_by None last n b lt h some = absurd (some refl)
ended_by (Some k) last n b lt h some = (grind (arith, nat_tests), grind (arith, nat_tests))

and_false : (a b : Bool) → b ≡ false → (a && b) ≡ false
and_false true b e = e
and_false false b e = refl

pub lost_from : (last number n : ℕ) (rows : List (List Value)) (vs : List RowVersion) → last < number → number ≤ n → AllByRecursion (IsBy last) vs → state_at n (map (lost number rows) vs) ≡ lacking (state_at last vs) rows
lost_from last number n rows [] lt le a = refl
lost_from last number n rows (v ∷ vs) lt le a = by v.until refl (has_row v.row rows) refl (lost_from last number n rows vs lt le a.1)
  where
    came : nat_le v.from n ≡ true
    came = let h = a.0.0 in grind (arith, nat_tests)

    there : nat_le v.from last ≡ true
    there = let h = a.0.0 in grind (arith, nat_tests)

    over : (k : ℕ) → k ≤ last → nat_lt n k ≡ false
    over k h = grind (arith, nat_tests)

    over_last : (k : ℕ) → k ≤ last → nat_lt last k ≡ false
    over_last k h = grind (arith, nat_tests)

    ends_now : nat_lt n number ≡ false
    ends_now = grind (arith, nat_tests)

    by : (u : Option ℕ) → v.until ≡ u → (h : Bool) → has_row v.row rows ≡ h → state_at n (map (lost number rows) vs) ≡ lacking (state_at last vs) rows
        → state_at n (map (lost number rows) (v ∷ vs)) ≡ lacking (state_at last (v ∷ vs)) rows
    by (Some k) e h f ih =
        let bound : k ≤ last = subst (EndsAtMost last) e a.0.1 in
        let gone : is_at n (lost number rows v) ≡ false = and_false (nat_le v.from n) (ends_after n (end_by v.until (not (has_row v.row rows)) number)) (ap (λ u. ends_after n (end_by u (not (has_row v.row rows)) number)) e ∙ over k bound) in
        let gone' : is_at last v ≡ false = and_false (nat_le v.from last) (ends_after last v.until) (ap (ends_after last) e ∙ over_last k bound) in
        rw (gone, gone') ih
    by None e true f ih =
        let gone : is_at n (lost number rows v) ≡ false = and_false (nat_le v.from n) (ends_after n (end_by v.until (not (has_row v.row rows)) number)) (ap₂ (λ u b. ends_after n (end_by u (not b) number)) e f ∙ ends_now) in
        let stays : is_at last v ≡ true = ap₂ (λ a b. a && b) there (ap (ends_after last) e) in
        rw (gone, stays) (rw f ih)
    by None e false f ih =
        let stays : is_at n (lost number rows v) ≡ true = ap₂ (λ a b. a && b) came (ap₂ (λ u b. ends_after n (end_by u (not b) number)) e f) in
        let stays' : is_at last v ≡ true = ap₂ (λ a b. a && b) there (ap (ends_after last) e) in
        rw (stays, stays') (rw f (ap (λ l. v.row ∷ l) ih))

pub not_ended_here : (ps : List ℕ) (row : List Value) (number i at : ℕ) (vs : List RowVersion) (item : RowVersion) → suc i ≡ at → Apart (Precedes ps) vs
    → IsCut (upto ps row) at vs → slice_get vs i ≡ Some item → is_current ps row number item ≡ false → map (Closed ps number row) vs ≡ vs
not_ended_here ps row number i at vs item is a cut e h =
    closed_at ps row number (suc i) vs item a (subst (λ n. IsCut (upto ps row) n vs) (sym is) cut)
    ∙ ap (λ x. set vs i (Closed ps number row x)) (got vs i item item e)
    ∙ ap (set vs i) (closed_other ps number row item h ∙ sym (got vs i item item e))
    ∙ set-get_or vs i item

pub none_ended : (ps : List ℕ) (row : List Value) (number at : ℕ) (vs : List RowVersion) (d : RowVersion) → at ≡ 0 → Apart (Precedes ps) vs
    → IsCut (upto ps row) at vs → map (Closed ps number row) vs ≡ vs
none_ended ps row number at vs d is a cut = closed_at ps row number zero vs d a (subst (λ n. IsCut (upto ps row) n vs) is cut)

end_none : (u : Option ℕ) (k : ℕ) → end_by u true k ≡ u
end_none None k = refl
end_none (Some j) k = refl

pub lost_none : (number : ℕ) (vs : List RowVersion) → map (lost number []) vs ≡ vs
lost_none number [] = refl
lost_none number (v ∷ vs) = ap₂ (λ (u : Option ℕ) (l : List RowVersion). record v { until = u } ∷ l) (end_none v.until number) (lost_none number vs)

pub closed_none : (ps : List ℕ) (number : ℕ) (vs : List RowVersion) → map (closed ps number []) vs ≡ vs
closed_none ps number [] = refl
closed_none ps number (v ∷ vs) =
    ap₂ (λ (u : Option ℕ) (l : List RowVersion). record v { until = u } ∷ l) (ap (λ b. end_by v.until (not b) number) (and_false (nat_lt v.from number) false refl) ∙ end_none v.until number) (closed_none ps number vs)
