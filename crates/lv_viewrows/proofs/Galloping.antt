-- What searches among versions find.
use Rattle.std.proofs.Common.{◌≡◌, ℕ, zero, suc, ◌<◌, ◌≤◌, Bool, true, false, List, [], ◌∷◌, length, map, take, drop, get_or, refl, sym, ap, ◌∙◌, subst, arith}
use Rattle.std.specs.List.{AllByRecursion, insert}
use Rattle.std.specs.Ordering.{is_gt, is_lt, nat_cmp, ordering_reverse, ordering_then}
use Rattle.std.specs.declared.cmp.Ordering.{Ordering}
use Rattle.std.specs.declared.cmp.Ordering.TheVariants.{Less, Equal, Greater}
use Rattle.std.proofs.lemmas.Cmp.{tied_itself}
use Rattle.std.proofs.lemmas.List.{drop_all}
use Rattle.lv_values.specs.declared.value.Value.{Value}
use Rattle.lv_values.specs.Order.{row_cmp}
use Rattle.lv_values.specs.OrderLaws.{row_exact, row_total}
use Rattle.lv_schema.specs.declared.signed.SignedRow.{SignedRow}
use Rattle.lv_schema.proofs.Apart.{all_weaker}
use Rattle.lv_shelf.specs.Cuts.{Apart, Falls, IsCut}
use Rattle.lv_shelf.proofs.Cutting.{all_at}
use Rattle.lv_viewrows.specs.declared.version.GroupVersion.{GroupVersion}
use Rattle.lv_viewrows.specs.Kept.{one_row, version_from}
use Rattle.lv_viewrows.specs.Merged.{is_below}
use Rattle.lv_viewrows.specs.Standing.{NoneBefore, Precedes, comes_before, ended, precedes_by, version_cmp}
use Rattle.lv_viewrows.proofs.Order.{falls_from, is_less, is_over, version_total}

-- ---- parts of a list
pub all_drop : {X : Type 0} (P : X → Type 0) (n : ℕ) (xs : List X) → AllByRecursion P xs → AllByRecursion P (drop n xs)
all_drop P zero xs a = a
all_drop P (suc n) [] a = tt
all_drop P (suc n) (x ∷ xs) a = all_drop P n xs a.1

-- what holds from a place on holds at each place from there on
pub all_behind : {X : Type 0} (P : X → Type 0) (h : ℕ) (xs : List X) → AllByRecursion P (drop h xs) → (k : ℕ) (d : X) → h ≤ k → k < length xs → P (get_or xs k d)
all_behind P zero xs a k d le lt = all_at P xs k d lt a
all_behind P (suc h) [] a k d le lt = absurd (omega arith)
all_behind P (suc h) (x ∷ xs) a zero d le lt = absurd (omega arith)
all_behind P (suc h) (x ∷ xs) a (suc k) d le lt = all_behind P h xs a k d (omega arith) (omega arith)

-- where a test passes, it passes up to there
pub passes_up_to : {X : Type 0} (p : X → Bool) (j : ℕ) (xs : List X) (d : X) → Falls p xs → j < length xs → p (get_or xs j d) ≡ true → AllByRecursion (λ x. p x ≡ true) (take (suc j) xs)
passes_up_to p j [] d h lt t = absurd (omega arith)
passes_up_to p zero (x ∷ xs) d h lt t = (t, tt)
passes_up_to p (suc j) (x ∷ xs) d h lt t = (all_at (λ later. p later ≡ true → p x ≡ true) xs j d (omega arith) h.0 t, passes_up_to p j xs d h.1 (omega arith) t)

pub nothing_between : {X : Type 0} (n : ℕ) (xs : List X) → drop n (take n xs) ≡ []
nothing_between zero xs = refl
nothing_between (suc n) [] = refl
nothing_between (suc n) (x ∷ xs) = nothing_between n xs

-- ---- where a test stops to pass
pub none_passes : {X : Type 0} (p : X → Bool) (i : ℕ) (xs : List X) → IsCut p i xs → AllByRecursion (λ x. p x ≡ false) (drop i xs)
none_passes p zero xs h = h
none_passes p (suc i) [] h = absurd h
none_passes p (suc i) (x ∷ xs) h = none_passes p i xs h.1

cut_inserted : {X : Type 0} (p : X → Bool) (i : ℕ) (xs : List X) (x : X) → IsCut p i xs → p x ≡ false → IsCut p i (insert xs i x)
cut_inserted p zero [] x h e = (e, tt)
cut_inserted p zero (y ∷ xs) x h e = (e, h)
cut_inserted p (suc i) [] x h e = absurd h
cut_inserted p (suc i) (y ∷ xs) x h e = (h.0, cut_inserted p i xs x h.1 e)

cut_mapped : {X : Type 0} (p : X → Bool) (f : X → X) → ((x : X) → p (f x) ≡ p x) → (i : ℕ) (xs : List X) → IsCut p i xs → IsCut p i (map f xs)
cut_mapped p f same zero [] h = tt
cut_mapped p f same zero (x ∷ xs) h = (same x ∙ h.0, cut_mapped p f same zero xs h.1)
cut_mapped p f same (suc i) [] h = absurd h
cut_mapped p f same (suc i) (x ∷ xs) h = (same x ∙ h.0, cut_mapped p f same i xs h.1)

-- ---- places of rows
not_before_itself : (row : List Value) (number : ℕ) (group : SignedRow) → group.row ≡ row → comes_before row number (version_from number group) ≡ false
not_before_itself row number group e = ap (λ r. comes_before r number (version_from number group)) (sym e) ∙ ap is_lt (tied_itself version_total (version_from number group))

-- a version that ends stands where it stood, and one of the row comes at the place of the row
pub cut_ended : (number : ℕ) (row : List Value) (i : ℕ) (vs : List GroupVersion) → IsCut (comes_before row number) i vs → IsCut (comes_before row number) i (map (ended number row) vs)
cut_ended number row i vs h = cut_mapped (comes_before row number) (ended number row) (λ v. refl) i vs h

pub cut_put : (number : ℕ) (group : SignedRow) (i : ℕ) (vs : List GroupVersion) → IsCut (comes_before group.row number) i vs → IsCut (comes_before group.row number) i (insert vs i (version_from number group))
cut_put number group i vs h = cut_inserted (comes_before group.row number) i vs (version_from number group) h (not_before_itself group.row number group refl)

-- there is none behind all
pub none_at_end : (row : List Value) (number i : ℕ) (vs : List GroupVersion) → length vs ≤ i → NoneBefore row number i vs
none_at_end row number i vs le = subst (AllByRecursion (λ v. comes_before row number v ≡ false)) (sym (drop_all i vs le)) tt

-- what does not come before a row comes before no lower one
pub lower : (row low : List Value) (number : ℕ) (v : GroupVersion) → row_cmp low row ≡ Less → comes_before row number v ≡ false → comes_before low number v ≡ false
lower row low number v less h = by (comes_before low number v) refl
  where
    first : GroupVersion
    first = version_from number (one_row low)

    last : GroupVersion
    last = version_from number (one_row row)

    by : (b : Bool) → comes_before low number v ≡ b → b ≡ false
    by false e = refl
    by true e =
        let ordered : version_cmp first last ≡ Less = ap (λ o. ordering_then o (nat_cmp number number)) less in
        let before : comes_before row number v ≡ true = ap is_lt (version_total.trans v first last (is_less (version_cmp v first) e) ordered) in
        cc

pub none_lower : (row low : List Value) (number i : ℕ) (vs : List GroupVersion) → row_cmp low row ≡ Less → NoneBefore row number i vs → NoneBefore low number i vs
none_lower row low number i vs less a = all_weaker (λ v. comes_before row number v ≡ false) (λ v. comes_before low number v ≡ false) (λ v h. lower row low number v less h) (drop i vs) a

-- ---- versions below changes
pub below_falls : (list : List SignedRow) (vs : List GroupVersion) → Apart Precedes vs → Falls (λ v. is_below list v.group) vs
below_falls list vs a = falls_from (λ v. is_below list v.group) Precedes (step list) vs a
  where
    step : (list : List SignedRow) (v w : GroupVersion) → Precedes v w → is_below list w.group ≡ true → is_below list v.group ≡ true
    step [] v w r t = refl
    step (s ∷ list) v w r t = by (row_cmp v.group.row w.group.row) refl r
      where
        by : (o : Ordering) → row_cmp v.group.row w.group.row ≡ o → precedes_by o v w → is_gt (row_cmp s.row v.group.row) ≡ true
        by Less e r' =
            let under : row_cmp w.group.row s.row ≡ Less = row_total.antisymm w.group.row s.row ∙ ap ordering_reverse (is_over (row_cmp s.row w.group.row) t) in
            ap is_gt (row_total.antisymm s.row v.group.row ∙ ap ordering_reverse (row_total.trans v.group.row w.group.row s.row e under))
        by Equal e r' = ap (λ r. is_gt (row_cmp s.row r)) (row_exact v.group.row w.group.row e) ∙ t
        by Greater e r' = absurd r'
