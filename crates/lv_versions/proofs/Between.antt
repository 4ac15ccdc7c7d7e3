-- The rows whose first key values are between two others.
use Rattle.std.proofs.Common.{◌≡◌, ℕ, zero, suc, ◌+◌, ◌≤◌, Bool, true, false, not, cond, List, [], ◌∷◌, drop, take, length, map, filter, Option, Some, None, Result, Ok, Err, Bor, refl, sym, ap, ap₂, ◌∙◌, subst, arith}
use Rattle.std.specs.Prelude.{◌&&◌, MatchOption, OnErr, OnOk}
use Rattle.std.specs.List.{AllByRecursion}
use Rattle.std.specs.Option.{option_copied}
use Rattle.std.specs.Ordering.{is_gt, is_lt, ordering_then}
use Rattle.std.specs.declared.cmp.Ordering.{Ordering}
use Rattle.std.specs.declared.cmp.Ordering.TheVariants.{Less, Equal, Greater}
use Rattle.lv_values.specs.declared.value.Value.{Value}
use Rattle.lv_values.specs.Order.{row_cmp, value_cmp}
use Rattle.lv_values.specs.OrderLaws.{row_exact}
use Rattle.lv_values.specs.Rows.{key_cmp, value_in, values_at}
use Rattle.lv_schema.specs.declared.version.RowVersion.{RowVersion}
use Rattle.lv_shelf.specs.Cuts.{Apart, Falls, IsCut}
use Rattle.lv_versions.specs.Versions.{IsHigh, IsLow, Precedes, is_at, is_from, is_to, is_upto, precedes_by, reaches_by, rows_within, state_at}
use Rattle.lv_versions.proofs.Standing.{falls_from, less_reaches}

-- ---- versions stand in the order of their first key values
prefix_le : (k : ℕ) (ps : List ℕ) (a b : List Value) → is_gt (row_cmp (values_at ps a) (values_at ps b)) ≡ false → is_gt (row_cmp (values_at (take k ps) a) (values_at (take k ps) b)) ≡ false
prefix_le zero ps a b h = refl
prefix_le (suc k) [] a b h = refl
prefix_le (suc k) (p ∷ ps) a b h = by (value_cmp (value_in a p) (value_in b p)) h (prefix_le k ps a b)
  where
    by : (o : Ordering) → is_gt (ordering_then o (row_cmp (values_at ps a) (values_at ps b))) ≡ false → (is_gt (row_cmp (values_at ps a) (values_at ps b)) ≡ false → is_gt (row_cmp (values_at (take k ps) a) (values_at (take k ps) b)) ≡ false)
        → is_gt (ordering_then o (row_cmp (values_at (take k ps) a) (values_at (take k ps) b))) ≡ false
    by Less h' f = refl
    by Equal h' f = f h'
    by Greater h' f = h'

not_over : (ps : List ℕ) (v w : RowVersion) → Precedes ps v w → is_gt (key_cmp ps v.row w.row) ≡ false
not_over ps v w r = by (key_cmp ps v.row w.row) r
  where
    by : (o : Ordering) → precedes_by o v w → is_gt o ≡ false
    by Less r' = refl
    by Equal r' = refl
    by Greater r' = absurd r'

pub prefix_falls : (k : ℕ) (ps : List ℕ) (values : List Value) (b : Bool) (vs : List RowVersion) → Apart (Precedes ps) vs → Falls (is_upto (take k ps) values b) vs
prefix_falls k ps values b vs a = falls_from (is_upto cs values b) (Precedes ps) step vs a
  where
    cs : List ℕ
    cs = take k ps

    step : (v w : RowVersion) → Precedes ps v w → is_upto (take k ps) values b w ≡ true → is_upto (take k ps) values b v ≡ true
    step v w r t = by (row_cmp (values_at (take k ps) v.row) (values_at (take k ps) w.row)) refl (prefix_le k ps v.row w.row (not_over ps v w r))
      where
        by : (o : Ordering) → row_cmp (values_at (take k ps) v.row) (values_at (take k ps) w.row) ≡ o → is_gt o ≡ false → is_upto (take k ps) values b v ≡ true
        by Less e g = less_reaches (values_at (take k ps) v.row) (values_at (take k ps) w.row) values (row_cmp (values_at (take k ps) w.row) values) b b e refl t
        by Equal e g = ap (λ q. reaches_by (row_cmp q values) b) (row_exact (values_at (take k ps) v.row) (values_at (take k ps) w.row) e) ∙ t
        by Greater e g = cc

-- ---- the elements between two places where tests stop to pass
none_there : {X : Type 0} (i : ℕ) → drop {A = X} i [] ≡ []
none_there zero = refl
none_there (suc i) = refl

between_cuts : {X : Type 0} (q r : X → Bool) (i j : ℕ) (xs : List X) → IsCut q i xs → IsCut r j xs → drop i (take j xs) ≡ filter (λ x. r x && not (q x)) xs
between_cuts q r zero zero [] a b = refl
between_cuts q r zero zero (x ∷ xs) a b = rw b.0 (between_cuts q r zero zero xs a.1 b.1)
between_cuts q r zero (suc j) [] a b = refl
between_cuts q r zero (suc j) (x ∷ xs) a b = rw (b.0, a.0) (ap (λ l. x ∷ l) (between_cuts q r zero j xs a.1 b.1))
between_cuts q r (suc i) j [] a b = absurd a
between_cuts q r (suc i) zero (x ∷ xs) a b = rw b.0 (sym (none_there i) ∙ between_cuts q r i zero xs a.1 b.1)
between_cuts q r (suc i) (suc j) (x ∷ xs) a b = rw (b.0, a.0) (between_cuts q r i j xs a.1 b.1)

-- a test of versions that looks at their rows alone
rows_that_pass : (n : ℕ) (q : RowVersion → Bool) (p : List Value → Bool) (vs : List RowVersion) → ((v : RowVersion) → q v ≡ p v.row) → state_at n (filter q vs) ≡ filter p (state_at n vs)
rows_that_pass n q p [] same = refl
rows_that_pass n q p (v ∷ vs) same = by (q v) (sym (same v)) (is_at n v) refl (rows_that_pass n q p vs same)
  where
    by : (b : Bool) → p v.row ≡ b → (a : Bool) → is_at n v ≡ a → state_at n (filter q vs) ≡ filter p (state_at n vs)
        → state_at n (cond b (v ∷ filter q vs) (filter q vs)) ≡ filter p (map (λ (w : RowVersion). w.row) (cond a (v ∷ filter (is_at n) vs) (filter (is_at n) vs)))
    by true e true h ih = rw (h, e) (ap (λ l. v.row ∷ l) ih)
    by true e false h ih = rw h ih
    by false e true h ih = rw e ih
    by false e false h ih = ih

-- ---- the versions between two bounds, either of which may be left out
abbrev is_below : List ℕ → Option (Bor (List Value)) → RowVersion → Bool
is_below key None = λ _. false
is_below key (Some low) = is_upto (take (length low.now) key) low.now false

abbrev is_not_above : List ℕ → Option (Bor (List Value)) → RowVersion → Bool
is_not_above key None = λ _. true
is_not_above key (Some high) = is_upto (take (length high.now) key) high.now true

none_pass : {X : Type 0} (xs : List X) → AllByRecursion (λ (x : X). false ≡ false) xs
none_pass [] = tt
none_pass (x ∷ xs) = (refl, none_pass xs)

each_passes : {X : Type 0} (xs : List X) → IsCut (λ (x : X). true) (length xs) xs
each_passes [] = tt
each_passes (x ∷ xs) = (refl, each_passes xs)

low_cut : (key : List ℕ) (low : Option (Bor (List Value))) (first : ℕ) (vs : List RowVersion) → MatchOption low (first ≡ 0) (λ values. IsCut (is_upto (take (length values.now) key) values.now false) first vs) → IsCut (is_below key low) first vs
low_cut key None first vs is = subst (λ i. IsCut (λ (_ : RowVersion). false) i vs) (sym is) (none_pass vs)
low_cut key (Some low) first vs cut = cut

high_cut : (key : List ℕ) (high : Option (Bor (List Value))) (end : ℕ) (vs : List RowVersion) → MatchOption high (end ≡ length vs) (λ values. IsCut (is_upto (take (length values.now) key) values.now true) end vs) → IsCut (is_not_above key high) end vs
high_cut key None end vs is = subst (λ i. IsCut (λ (_ : RowVersion). true) i vs) (sym is) (each_passes vs)
high_cut key (Some high) end vs cut = cut

not_below : (key : List ℕ) (low : Option (Bor (List Value))) (v : RowVersion) → not (is_below key low v) ≡ is_from key (option_copied low) v.row
not_below key None v = refl
not_below key (Some low) v = by (row_cmp (values_at (take (length low.now) key) v.row) low.now)
  where
    by : (o : Ordering) → not (reaches_by o false) ≡ not (is_lt o)
    by Less = refl
    by Equal = refl
    by Greater = refl

not_above : (key : List ℕ) (high : Option (Bor (List Value))) (v : RowVersion) → is_not_above key high v ≡ is_to key (option_copied high) v.row
not_above key None v = refl
not_above key (Some high) v = by (row_cmp (values_at (take (length high.now) key) v.row) high.now)
  where
    by : (o : Ordering) → reaches_by o true ≡ not (is_gt o)
    by Less = refl
    by Equal = refl
    by Greater = refl

turned : (a b : Bool) → (a && b) ≡ (b && a)
turned true true = refl
turned true false = refl
turned false true = refl
turned false false = refl

pub rows_between_cuts : (key : List ℕ) (low high : Option (Bor (List Value))) (n first end : ℕ) (vs : List RowVersion) → MatchOption low (first ≡ 0) (λ values. IsCut (is_upto (take (length values.now) key) values.now false) first vs)
    → MatchOption high (end ≡ length vs) (λ values. IsCut (is_upto (take (length values.now) key) values.now true) end vs) → state_at n (drop first (take end vs)) ≡ rows_within key (option_copied low) (option_copied high) (state_at n vs)
rows_between_cuts key low high n first end vs a b =
    ap (state_at n) (between_cuts (is_below key low) (is_not_above key high) first end vs (low_cut key low first vs a) (high_cut key high end vs b))
    ∙ rows_that_pass n (λ v. is_not_above key high v && not (is_below key low v)) (λ row. is_from key (option_copied low) row && is_to key (option_copied high) row) vs
    (λ v. ap₂ (λ s t. s && t) (not_above key high v) (not_below key low v) ∙ turned (is_to key (option_copied high) v.row) (is_from key (option_copied low) v.row))

-- ---- what does not pass is not between
filter_within : {X : Type 0} (p q : X → Bool) (xs : List X) → ((x : X) → p x ≡ true → q x ≡ true) → filter p (filter q xs) ≡ filter p xs
filter_within p q [] h = refl
filter_within p q (x ∷ xs) h = by (p x) refl (q x) refl (filter_within p q xs h)
  where
    by : (a : Bool) → p x ≡ a → (b : Bool) → q x ≡ b → filter p (filter q xs) ≡ filter p xs → filter p (cond b (x ∷ filter q xs) (filter q xs)) ≡ cond a (x ∷ filter p xs) (filter p xs)
    by true e true f ih = rw e (ap (λ l. x ∷ l) ih)
    by true e false f ih = let t = h x e in cc
    by false e true f ih = rw e ih
    by false e false f ih = ih

passing_from : (key : List ℕ) (low : Option (Bor (List Value))) (p : List Value → Bool) → MatchOption low (Unit {0}) (λ values. IsLow key values.now p) → (row : List Value) → p row ≡ true → is_from key (option_copied low) row ≡ true
passing_from key None p h row t = refl
passing_from key (Some low) p h row t = ap not (h.least row t)

passing_to : (key : List ℕ) (high : Option (Bor (List Value))) (p : List Value → Bool) → MatchOption high (Unit {0}) (λ values. IsHigh key values.now p) → (row : List Value) → p row ≡ true → is_to key (option_copied high) row ≡ true
passing_to key None p h row t = refl
passing_to key (Some high) p h row t = ap not (h.most row t)

pub passing_within : (key : List ℕ) (low high : Option (Bor (List Value))) (p : List Value → Bool) (rows : List (List Value)) → MatchOption low (Unit {0}) (λ values. IsLow key values.now p) → MatchOption high (Unit {0}) (λ values. IsHigh key values.now p)
    → filter p (rows_within key (option_copied low) (option_copied high) rows) ≡ filter p rows
passing_within key low high p rows a b =
    filter_within p (λ row. is_from key (option_copied low) row && is_to key (option_copied high) row) rows (λ row t. ap₂ (λ s u. s && u) (passing_from key low p a row t) (passing_to key high p b row t))

-- ---- what is counted
pub fewer_within : (key : List ℕ) (low high : Option (List Value)) (rows : List (List Value)) → length (rows_within key low high rows) ≤ length rows
fewer_within key low high [] = omega arith
fewer_within key low high (row ∷ rows) = by (is_from key low row && is_to key high row) (fewer_within key low high rows)
  where
    by : (b : Bool) → length (rows_within key low high rows) ≤ length rows → length (cond b (row ∷ rows_within key low high rows) (rows_within key low high rows)) ≤ length (row ∷ rows)
    by true le = omega (arith, le)
    by false le = omega (arith, le)

pub at_most : {A E : Type 0} (r : Result A E) (new old few many : ℕ) → few ≤ many → OnOk r (new ≡ old + few) → OnErr r (new ≤ old + few) → new ≤ old + many
at_most (Ok x) new old few many le is most = omega (arith, le, is)
at_most (Err e) new old few many le is most = omega (arith, le, most)

-- ---- up to a place
pub none_left : (n end at : ℕ) (vs : List RowVersion) → end ≤ at → state_at n (drop at (take end vs)) ≡ []
none_left n zero at vs le = ap (state_at n) (none_there at)
none_left n (suc end) at [] le = ap (state_at n) (none_there at)
none_left n (suc end) zero (v ∷ vs) le = absurd (omega (arith, le))
none_left n (suc end) (suc at) (v ∷ vs) le = none_left n end at vs (omega (arith, le))
