-- What a commit does with the rows that it brings.
use Rattle.std.proofs.Common.{◌≡◌, ℕ, ◌<◌, ◌≤◌, Bool, true, false, cond, List, [], ◌∷◌, ◌++◌, map, filter, Option, Some, None, refl, sym, ap, ap₂, ◌∙◌, subst, arith}
use Rattle.std.specs.Prelude.{◌&&◌, ◌||◌, nat_le, nat_lt, not}
use Rattle.std.specs.List.{AllByRecursion}
use Rattle.std.specs.List.Sorted.{IsPermutation}
use Rattle.std.proofs.lemmas.List.{append-nil}
use Rattle.std.proofs.lemmas.List.Sorted.{IsPermutation-cons, IsPermutation-middle, IsPermutation-refl, IsPermutation-swap, IsPermutation-trans}
use Rattle.std.specs.Ordering.{is_eq, is_gt, nat_cmp, ordering_reverse, ordering_then}
use Rattle.std.specs.declared.cmp.Ordering.{Ordering}
use Rattle.std.specs.declared.cmp.Ordering.TheVariants.{Less, Equal, Greater}
use Rattle.std.proofs.lemmas.Bool.Decides.{nat_tests}
use Rattle.std.proofs.lemmas.Cmp.{upto}
use Rattle.lv_values.specs.declared.value.Value.{Value}
use Rattle.lv_values.specs.Ascending.{placed}
use Rattle.lv_values.specs.Order.{row_eq}
use Rattle.lv_values.specs.Rows.{key_cmp, values_at}
use Rattle.lv_schema.specs.Effects.{has_key, same_key}
use Rattle.lv_schema.specs.Nets.{has_row}
use Rattle.lv_schema.proofs.Apart.{all_both, all_weaker}
use Rattle.lv_schema.proofs.NetsLead.{key_total}
use Rattle.lv_schema.specs.declared.version.RowVersion.{RowVersion}
use Rattle.lv_shelf.specs.Cuts.{Apart}
use Rattle.lv_versions.specs.Versions.{AreNew, EndsAtMost, EndsBy, HaveOtherKeys, IsBy, IsNewTo, IsOlder, Precedes, closed, ends_after, is_at, new_by, new_version, precedes_by, state_at, version_cmp, with_versions}
use Rattle.lv_schema.specs.Versions.{end_by}
use Rattle.lv_versions.proofs.Ending.{Closed, all_mapped, all_unmapped, closed_due}
use Rattle.lv_versions.proofs.Standing.{all_placed, precedes_less, version_total}

abbrev Placed : List ℕ → ℕ → List Value → List RowVersion → List RowVersion
Placed ps number row vs = placed (version_cmp ps) (new_version number row) vs

-- ---- the order
greater_of : (x y : ℕ) → y < x → nat_cmp x y ≡ Greater
greater_of x y lt = nat_cmp_back (nat_cmp x y) refl
  where
    nat_cmp_back : (o : Ordering) → nat_cmp x y ≡ o → nat_cmp x y ≡ Greater
    nat_cmp_back o e = grind (arith, nat_tests)

-- each version stands on its side of a new one
abbrev Sides : List ℕ → ℕ → List Value → RowVersion → Type 0
Sides ps number row w =
    (is_gt (version_cmp ps (new_version number row) w) ≡ true → Precedes ps w (new_version number row)) × (is_gt (version_cmp ps (new_version number row) w) ≡ false → Precedes ps (new_version number row) w)

sides : (ps : List ℕ) (number : ℕ) (row : List Value) (w : RowVersion) → IsNewTo ps number row w → Sides ps number row w
sides ps number row w h = at (key_cmp ps row w.row) refl h
  where
    back : (o : Ordering) → key_cmp ps row w.row ≡ o → key_cmp ps w.row row ≡ ordering_reverse o
    back o e = (key_total ps).antisymm w.row row ∙ ap ordering_reverse e

    at : (o : Ordering) → key_cmp ps row w.row ≡ o → new_by o number w → Sides ps number row w
    at Less e h' = (
      (λ t. let f = ap (λ o. is_gt (ordering_then o (nat_cmp number w.from))) e in cc),
      (λ t. subst (λ o. precedes_by o (new_version number row) w) (sym e) tt),
    )
    at Equal e h' = (
      (λ t. subst (λ o. precedes_by o w (new_version number row)) (sym (back Equal e)) h'),
      (λ t. let f = ap (λ o. is_gt (ordering_then o (nat_cmp number w.from))) e ∙ ap is_gt (greater_of number w.from h'.0) in cc),
    )
    at Greater e h' = (
      (λ t. subst (λ o. precedes_by o w (new_version number row)) (sym (back Greater e)) tt),
      (λ t. let f = ap (λ o. is_gt (ordering_then o (nat_cmp number w.from))) e in cc),
    )

not_gt : (o : Ordering) → o ≡ Less → is_gt o ≡ false
not_gt o e = ap is_gt e

-- a version goes in at its place
pub placed_order : (ps : List ℕ) (number : ℕ) (row : List Value) (vs : List RowVersion) → Apart (Precedes ps) vs → AllByRecursion (IsNewTo ps number row) vs → Apart (Precedes ps) (Placed ps number row vs)
placed_order ps number row [] a h = (tt, tt)
placed_order ps number row (w ∷ vs) a h = by (is_gt (R x w)) refl (placed_order ps number row vs a.1 h.1)
  where
    x : RowVersion
    x = new_version number row

    R : RowVersion → RowVersion → Ordering
    R = version_cmp ps

    behind : is_gt (version_cmp ps (new_version number row) w) ≡ false → (us : List RowVersion) → AllByRecursion (Precedes ps w) us → AllByRecursion (IsNewTo ps number row) us → AllByRecursion (Precedes ps (new_version number row)) us
    behind e us b n =
        all_both (Precedes ps w) (IsNewTo ps number row) (Precedes ps (new_version number row))
        (λ u r s. (sides ps number row u s).1 (upto (version_total ps) (new_version number row) w u e (not_gt (version_cmp ps w u) (precedes_less ps w u r)))) us b n

    by : (t : Bool) → is_gt (version_cmp ps (new_version number row) w) ≡ t → Apart (Precedes ps) (Placed ps number row vs)
        → Apart (Precedes ps) (cond t (w ∷ Placed ps number row vs) (new_version number row ∷ w ∷ vs))
    by true e ih = (all_placed (version_cmp ps) (Precedes ps w) (new_version number row) vs ((sides ps number row w h.0).0 e) a.0, ih)
    by false e ih = (((sides ps number row w h.0).1 e, behind e vs a.0 h.1), a)

-- ---- rows one after another
pub all_last : {X : Type 0} (P : X → Type 0) (xs : List X) (x : X) → AllByRecursion P (xs ++ x ∷ []) → AllByRecursion P xs × P x
all_last P [] x a = (tt, a.0)
all_last P (y ∷ xs) x a = let more = all_last P xs x a.1 in ((a.0, more.0), more.1)

apart_last : {X : Type 0} (R : X → X → Type 0) (xs : List X) (x : X) → Apart R (xs ++ x ∷ []) → Apart R xs × AllByRecursion (λ y. R y x) xs
apart_last R [] x a = (tt, tt)
apart_last R (y ∷ xs) x a = let more = apart_last R xs x a.1 in let ends = all_last (R y) xs x a.0 in ((ends.0, more.0), (ends.1, more.1))

other_new : (ps : List ℕ) (number : ℕ) (q row : List Value) → HaveOtherKeys ps q row → IsNewTo ps number q (new_version number row)
other_new ps number q row ne = at (key_cmp ps q row) refl
  where
    at : (o : Ordering) → key_cmp ps q row ≡ o → new_by o number (new_version number row)
    at Less e = tt
    at Equal e = absurd (ne e)
    at Greater e = tt

pub last_new : (ps : List ℕ) (number : ℕ) (rows : List (List Value)) (row : List Value) (vs : List RowVersion) → AreNew ps number (rows ++ row ∷ []) vs → AllByRecursion (IsNewTo ps number row) vs
last_new ps number rows row vs n = (all_last (λ r. AllByRecursion (IsNewTo ps number r) vs) rows row n.new).1

pub rest_new : (ps : List ℕ) (number : ℕ) (rows : List (List Value)) (row : List Value) (vs : List RowVersion) → AreNew ps number (rows ++ row ∷ []) vs → AreNew ps number rows (Placed ps number row vs)
rest_new ps number rows row vs n =
    let apart = apart_last (HaveOtherKeys ps) rows row n.apart in
    record {
      apart = apart.0;
      new = all_both (λ q. HaveOtherKeys ps q row) (λ q. AllByRecursion (IsNewTo ps number q) vs) (λ q. AllByRecursion (IsNewTo ps number q) (Placed ps number row vs))
          (λ q ne a. all_placed (version_cmp ps) (IsNewTo ps number q) (new_version number row) vs (other_new ps number q row ne) a) rows apart.1
          (all_last (λ r. AllByRecursion (IsNewTo ps number r) vs) rows row n.new).0;
    }

-- ---- the versions of a commit's keys end
-- a version that the commit brings does not
pub closed_placed : (ps : List ℕ) (number : ℕ) (rows : List (List Value)) (row : List Value) (vs : List RowVersion) → map (closed ps number rows) (Placed ps number row vs) ≡ Placed ps number row (map (closed ps number rows) vs)
closed_placed ps number rows row vs = go vs
  where
    x : RowVersion
    x = new_version number row

    own : closed ps number rows (new_version number row) ≡ new_version number row
    own =
        let now : nat_lt number number ≡ false = grind (arith, nat_tests) in
        ap (λ b. record (new_version number row) { until = end_by None (not (b && has_key ps row rows)) number }) now

    go : (ws : List RowVersion) → map (closed ps number rows) (Placed ps number row ws) ≡ Placed ps number row (map (closed ps number rows) ws)
    go [] = ap (λ y. y ∷ []) own
    go (w ∷ ws) = by (is_gt (version_cmp ps (new_version number row) w)) (go ws)
      where
        by : (t : Bool) → map (closed ps number rows) (Placed ps number row ws) ≡ Placed ps number row (map (closed ps number rows) ws)
            → map (closed ps number rows) (cond t (w ∷ Placed ps number row ws) (new_version number row ∷ w ∷ ws))
            ≡ cond t (closed ps number rows w ∷ Placed ps number row (map (closed ps number rows) ws)) (new_version number row ∷ closed ps number rows w ∷ map (closed ps number rows) ws)
        by true ih = ap (λ l. closed ps number rows w ∷ l) ih
        by false ih = ap (λ y. y ∷ closed ps number rows w ∷ map (closed ps number rows) ws) own

-- where a row is new after the ends of all, each version of its key came before
pub new_older : (ps : List ℕ) (number : ℕ) (row : List Value) (plus minus : List (List Value)) (vs : List RowVersion)
    → AllByRecursion (IsNewTo ps number row) (map (closed ps number plus) (map (closed ps number minus) (map (Closed ps number row) vs))) → AllByRecursion (IsOlder ps number row) vs
new_older ps number row plus minus vs a =
    all_unmapped (Closed ps number row) (IsOlder ps number row) vs
    (all_unmapped (closed ps number minus) (IsOlder ps number row) (map (Closed ps number row) vs)
    (all_unmapped (closed ps number plus) (IsOlder ps number row) (map (closed ps number minus) (map (Closed ps number row) vs))
    (all_weaker (IsNewTo ps number row) (IsOlder ps number row) (λ v n e. came v (subst (λ o. new_by o number v) e n)) (map (closed ps number plus) (map (closed ps number minus) (map (Closed ps number row) vs))) a)))
  where
    came : (v : RowVersion) → new_by Equal number v → v.from < number
    came v n = n.0

-- and then it is new after the end of its own
pub older_new : (ps : List ℕ) (number : ℕ) (row : List Value) (vs : List RowVersion) → AllByRecursion (IsOlder ps number row) vs → AllByRecursion (λ v. EndsAtMost number v.until) vs → AllByRecursion (IsNewTo ps number row) (map (Closed ps number row) vs)
older_new ps number row vs a b = all_mapped (Closed ps number row) (IsNewTo ps number row) vs (all_both (IsOlder ps number row) (λ v. EndsAtMost number v.until) (λ v. IsNewTo ps number row (Closed ps number row v)) (λ v o e. one v o e) vs a b)
  where
    ended : (u : Option ℕ) (b : Bool) → b ≡ true → EndsAtMost number u → EndsBy number (end_by u (not b) number)
    ended None true t h = omega arith
    ended None false t h = cc
    ended (Some k) b t h = h

    hit : (v : RowVersion) → key_cmp ps row v.row ≡ Equal → v.from < number → (nat_lt v.from number && has_key ps v.row (row ∷ [])) ≡ true
    hit v e lt =
        let came : nat_lt v.from number ≡ true = grind (arith, nat_tests) in
        let back : key_cmp ps v.row row ≡ Equal = (key_total ps).antisymm v.row row ∙ ap ordering_reverse e in
        let tied : same_key ps v.row row ≡ true = ap is_eq back in
        ap₂ (λ s t. s && (t || false)) came tied

    one : (v : RowVersion) → IsOlder ps number row v → EndsAtMost number v.until → IsNewTo ps number row (Closed ps number row v)
    one v o h = at (key_cmp ps row v.row) refl
      where
        at : (c : Ordering) → key_cmp ps row v.row ≡ c → new_by c number (Closed ps number row v)
        at Less e = tt
        at Equal e = let lt = o e in (lt, ended v.until (nat_lt v.from number && has_key ps v.row (row ∷ [])) (hit v e lt) h)
        at Greater e = tt

pub due_new : (ps : List ℕ) (number : ℕ) (plus rest : List (List Value)) (row : List Value) (minus left : List (List Value)) (vs us : List RowVersion) → plus ≡ rest ++ row ∷ []
    → map (closed ps number left) (map (Closed ps number row) us) ≡ map (closed ps number minus) (map (Closed ps number row) vs) → AreNew ps number plus (map (closed ps number plus) (map (closed ps number minus) vs))
    → AreNew ps number (rest ++ row ∷ []) (map (closed ps number rest) (map (closed ps number left) (map (Closed ps number row) us)))
due_new ps number plus rest row minus left vs us popped same new =
    subst (λ l. AreNew ps number l (map (closed ps number rest) (map (closed ps number left) (map (Closed ps number row) us)))) popped (subst (AreNew ps number plus) (closed_due ps number plus rest row minus left vs us popped same) new)

-- ---- a row put in
pub put_last : (ps : List ℕ) (number : ℕ) (rows : List (List Value)) (row : List Value) (vs : List RowVersion) → with_versions ps number (rows ++ row ∷ []) vs ≡ with_versions ps number rows (Placed ps number row vs)
put_last ps number [] row vs = refl
put_last ps number (r ∷ rows) row vs = ap (Placed ps number r) (put_last ps number rows row vs)

pub all_with : (P : RowVersion → Type 0) (ps : List ℕ) (number : ℕ) (rows : List (List Value)) (vs : List RowVersion) → ((row : List Value) → P (new_version number row)) → AllByRecursion P vs → AllByRecursion P (with_versions ps number rows vs)
all_with P ps number [] vs f a = a
all_with P ps number (row ∷ rows) vs f a = all_placed (version_cmp ps) P (new_version number row) (with_versions ps number rows vs) (f row) (all_with P ps number rows vs f a)

put_permutes : {X : Type 0} (R : X → X → Ordering) (x : X) (ys : List X) → IsPermutation (x ∷ ys) (placed R x ys)
put_permutes R x [] = IsPermutation-refl (x ∷ [])
put_permutes {X} R x (y ∷ ys) = by (is_gt (R x y)) (put_permutes R x ys)
  where
    by : (t : Bool) → IsPermutation (x ∷ ys) (placed R x ys) → IsPermutation (x ∷ y ∷ ys) (cond t (y ∷ placed R x ys) (x ∷ y ∷ ys))
    by true e = IsPermutation-trans (x ∷ y ∷ ys) (y ∷ x ∷ ys) (y ∷ placed R x ys) (IsPermutation-swap (x ∷ y ∷ ys) (y ∷ x ∷ ys) 0 1 (omega arith) (omega arith) refl) (IsPermutation-cons y (x ∷ ys) (placed R x ys) e)
    by false e = IsPermutation-refl (x ∷ y ∷ ys)

pub with_permutes : (ps : List ℕ) (number : ℕ) (rows : List (List Value)) (vs : List RowVersion) → IsPermutation (vs ++ map (new_version number) rows) (with_versions ps number rows vs)
with_permutes ps number [] vs = subst (λ l. IsPermutation l vs) (sym (append-nil vs)) (IsPermutation-refl vs)
with_permutes ps number (row ∷ rows) vs =
    let x = new_version number row in
    let more = map (new_version number) rows in
    let inner = with_versions ps number rows vs in
    IsPermutation-trans (vs ++ x ∷ more) (x ∷ (vs ++ more)) (Placed ps number row inner) (IsPermutation-middle vs x more)
    (IsPermutation-trans (x ∷ (vs ++ more)) (x ∷ inner) (Placed ps number row inner) (IsPermutation-cons x (vs ++ more) inner (with_permutes ps number rows vs)) (put_permutes (version_cmp ps) x inner))

-- ---- the rows after each commit
placed_before : (ps : List ℕ) (number n : ℕ) (row : List Value) (vs : List RowVersion) → n < number → state_at n (Placed ps number row vs) ≡ state_at n vs
placed_before ps number n row [] lt =
    let e : is_at n (new_version number row) ≡ false = let f : nat_le number n ≡ false = grind (arith, nat_tests) in ap (λ b. b && true) f in
    rw e refl
placed_before ps number n row (w ∷ vs) lt = by (is_gt (version_cmp ps (new_version number row) w)) (placed_before ps number n row vs lt)
  where
    e : is_at n (new_version number row) ≡ false
    e = let f : nat_le number n ≡ false = grind (arith, nat_tests) in ap (λ b. b && true) f

    shown : (s : Bool) → state_at n (Placed ps number row vs) ≡ state_at n vs
        → map (λ (v : RowVersion). v.row) (cond s (w ∷ filter (is_at n) (Placed ps number row vs)) (filter (is_at n) (Placed ps number row vs))) ≡ map (λ (v : RowVersion). v.row) (cond s (w ∷ filter (is_at n) vs) (filter (is_at n) vs))
    shown true ih = ap (λ l. w.row ∷ l) ih
    shown false ih = ih

    by : (t : Bool) → state_at n (Placed ps number row vs) ≡ state_at n vs → state_at n (cond t (w ∷ Placed ps number row vs) (new_version number row ∷ w ∷ vs)) ≡ state_at n (w ∷ vs)
    by true ih = shown (is_at n w) ih
    by false ih = rw e refl

pub with_before : (ps : List ℕ) (number n : ℕ) (rows : List (List Value)) (vs : List RowVersion) → n < number → state_at n (with_versions ps number rows vs) ≡ state_at n vs
with_before ps number n [] vs lt = refl
with_before ps number n (row ∷ rows) vs lt = placed_before ps number n row (with_versions ps number rows vs) lt ∙ with_before ps number n rows vs lt

or_swap : (a b c : Bool) → (a || (b || c)) ≡ (b || (a || c))
or_swap true true c = refl
or_swap true false c = refl
or_swap false b c = refl

placed_from : (ps : List ℕ) (number n : ℕ) (row q : List Value) (vs : List RowVersion) → number ≤ n → has_row q (state_at n (Placed ps number row vs)) ≡ (row_eq q row || has_row q (state_at n vs))
placed_from ps number n row q [] le =
    let e : is_at n (new_version number row) ≡ true = let f : nat_le number n ≡ true = grind (arith, nat_tests) in ap (λ b. b && true) f in
    rw e refl
placed_from ps number n row q (w ∷ vs) le = by (is_gt (version_cmp ps (new_version number row) w)) (placed_from ps number n row q vs le)
  where
    e : is_at n (new_version number row) ≡ true
    e = let f : nat_le number n ≡ true = grind (arith, nat_tests) in ap (λ b. b && true) f

    shown : (s : Bool) → has_row q (state_at n (Placed ps number row vs)) ≡ (row_eq q row || has_row q (state_at n vs))
        → has_row q (map (λ (v : RowVersion). v.row) (cond s (w ∷ filter (is_at n) (Placed ps number row vs)) (filter (is_at n) (Placed ps number row vs))))
        ≡ (row_eq q row || has_row q (map (λ (v : RowVersion). v.row) (cond s (w ∷ filter (is_at n) vs) (filter (is_at n) vs))))
    shown true ih = ap (λ b. row_eq q w.row || b) ih ∙ or_swap (row_eq q w.row) (row_eq q row) (has_row q (state_at n vs))
    shown false ih = ih

    by : (t : Bool) → has_row q (state_at n (Placed ps number row vs)) ≡ (row_eq q row || has_row q (state_at n vs))
        → has_row q (state_at n (cond t (w ∷ Placed ps number row vs) (new_version number row ∷ w ∷ vs))) ≡ (row_eq q row || has_row q (state_at n (w ∷ vs)))
    by true ih = shown (is_at n w) ih
    by false ih = rw e refl

or_assoc : (a b c : Bool) → (a || (b || c)) ≡ ((a || b) || c)
or_assoc true b c = refl
or_assoc false b c = refl

pub with_from : (ps : List ℕ) (number n : ℕ) (rows : List (List Value)) (q : List Value) (vs : List RowVersion) → number ≤ n → has_row q (state_at n (with_versions ps number rows vs)) ≡ (has_row q rows || has_row q (state_at n vs))
with_from ps number n [] q vs le = refl
with_from ps number n (row ∷ rows) q vs le =
    placed_from ps number n row q (with_versions ps number rows vs) le ∙ ap (λ b. row_eq q row || b) (with_from ps number n rows q vs le) ∙ or_assoc (row_eq q row) (has_row q rows) (has_row q (state_at n vs))

-- ---- a row whose key no row after the commit has is new to each version
pub new_to_all : (ps : List ℕ) (number : ℕ) (row : List Value) (vs : List RowVersion) → AllByRecursion (λ v. v.from < number) vs → AllByRecursion (IsBy number) vs → has_key ps row (state_at number vs) ≡ false → AllByRecursion (IsNewTo ps number row) vs
new_to_all ps number row [] a b h = tt
new_to_all ps number row (v ∷ vs) a b h = by v.until refl (is_at number v) refl h (λ h'. new_to_all ps number row vs a.1 b.1 h')
  where
    came : nat_le v.from number ≡ true
    came = let le = a.0 in grind (arith, nat_tests)

    rest : (b c : Bool) → (b || c) ≡ false → (b ≡ false) × (c ≡ false)
    rest true c e = cc
    rest false c e = (refl, e)

    ended : (k : ℕ) → v.until ≡ Some k → (o : Ordering) → new_by o number v
    ended k e Less = tt
    ended k e Equal = (a.0, subst (EndsBy number) (sym e) (subst (EndsAtMost number) e b.0.1))
    ended k e Greater = tt

    other : (o : Ordering) → is_eq o ≡ false → new_by o number v
    other Less e = tt
    other Equal e = cc
    other Greater e = tt

    by : (u : Option ℕ) → v.until ≡ u → (s : Bool) → is_at number v ≡ s → has_key ps row (map (λ (w : RowVersion). w.row) (cond s (v ∷ filter (is_at number) vs) (filter (is_at number) vs))) ≡ false
        → (has_key ps row (state_at number vs) ≡ false → AllByRecursion (IsNewTo ps number row) vs) → AllByRecursion (IsNewTo ps number row) (v ∷ vs)
    by (Some k) e true f h' ih = let parts = rest (row_eq (values_at ps row) (values_at ps v.row)) (has_key ps row (state_at number vs)) h' in (ended k e (key_cmp ps row v.row), ih parts.1)
    by (Some k) e false f h' ih = (ended k e (key_cmp ps row v.row), ih h')
    by None e true f h' ih = let parts = rest (row_eq (values_at ps row) (values_at ps v.row)) (has_key ps row (state_at number vs)) h' in (other (key_cmp ps row v.row) parts.0, ih parts.1)
    by None e false f h' ih = let t : is_at number v ≡ true = ap₂ (λ x y. x && y) came (ap (ends_after number) e) in cc
