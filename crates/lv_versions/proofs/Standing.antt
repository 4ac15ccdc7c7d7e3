-- The order of versions.
use Rattle.std.proofs.Common.{◌≡◌, ℕ, zero, suc, ◌<◌, Bool, true, false, cond, List, [], ◌∷◌, map, filter, Option, Some, None, refl, ap, ◌∙◌, subst, arith}
use Rattle.std.specs.Prelude.{◌&&◌, nat_lt, nat_le}
use Rattle.std.specs.List.{AllByRecursion, insert}
use Rattle.std.specs.Ordering.{is_gt, is_lt, nat_cmp, ordering_reverse, ordering_then}
use Rattle.std.specs.Cmp.{IsTotalOrder}
use Rattle.std.specs.declared.cmp.Ordering.{Ordering}
use Rattle.std.specs.declared.cmp.Ordering.TheVariants.{Less, Equal, Greater}
use Rattle.std.proofs.lemmas.Bool.Decides.{nat_tests}
use Rattle.std.proofs.lemmas.Cmp.{nat_cmp_total, on_total, then_total}
use Rattle.lv_values.specs.declared.value.Value.{Value}
use Rattle.lv_values.specs.Ascending.{placed}
use Rattle.lv_values.specs.Order.{row_cmp}
use Rattle.lv_values.specs.OrderLaws.{row_exact, row_total}
use Rattle.lv_values.specs.Rows.{key_cmp, values_at}
use Rattle.lv_schema.specs.Once.{Ascends}
use Rattle.lv_schema.proofs.Apart.{all_weaker}
use Rattle.lv_schema.specs.declared.version.RowVersion.{RowVersion}
use Rattle.lv_shelf.specs.Cuts.{Apart, Falls, IsCut}
use Rattle.lv_versions.specs.Versions.{EndsBy, Precedes, comes_before, ends_after, is_at, new_version, precedes_by, reaches_by, state_at, version_cmp}

pub version_total : (ps : List ℕ) → IsTotalOrder (version_cmp ps)
version_total ps = then_total (on_total (λ (v : RowVersion). values_at ps v.row) row_total) (on_total (λ (v : RowVersion). v.from) nat_cmp_total)

pub less_of : (x y : ℕ) → x < y → nat_cmp x y ≡ Less
less_of x y lt = let e : nat_lt x y ≡ true = grind (arith, nat_tests) in rw e refl

pub true_not_false : (b : Bool) → b ≡ true → b ≡ false → ⊥
true_not_false b e f = cc

pub is_less : (o : Ordering) → is_lt o ≡ true → o ≡ Less
is_less Less h = refl
is_less Equal h = cc
is_less Greater h = cc

-- one version before another is less
pub precedes_less : (ps : List ℕ) (v w : RowVersion) → Precedes ps v w → version_cmp ps v w ≡ Less
precedes_less ps v w h = by (key_cmp ps v.row w.row) refl h
  where
    by : (o : Ordering) → key_cmp ps v.row w.row ≡ o → precedes_by o v w → ordering_then (key_cmp ps v.row w.row) (nat_cmp v.from w.from) ≡ Less
    by Less e h' = ap (λ o. ordering_then o (nat_cmp v.from w.from)) e
    by Equal e h' = ap (λ o. ordering_then o (nat_cmp v.from w.from)) e ∙ less_of v.from w.from h'.0
    by Greater e h' = absurd h'

pub falls_from : (p : RowVersion → Bool) (R : RowVersion → RowVersion → Type 0) → ((v w : RowVersion) → R v w → p w ≡ true → p v ≡ true) → (vs : List RowVersion) → Apart R vs → Falls p vs
falls_from p R f [] a = tt
falls_from p R f (v ∷ vs) a = (all_weaker (R v) (λ later. p later ≡ true → p v ≡ true) (λ w r. f v w r) vs a.0, falls_from p R f vs a.1)

pub before_falls : (ps : List ℕ) (row : List Value) (number : ℕ) (vs : List RowVersion) → Apart (Precedes ps) vs → Falls (comes_before ps row number) vs
before_falls ps row number vs a = falls_from (comes_before ps row number) (Precedes ps) step vs a
  where
    step : (v w : RowVersion) → Precedes ps v w → comes_before ps row number w ≡ true → comes_before ps row number v ≡ true
    step v w r t = ap is_lt ((version_total ps).trans v w (new_version number row) (precedes_less ps v w r) (is_less (version_cmp ps w (new_version number row)) t))

-- below what a key reaches
pub less_reaches : (x y key : List Value) (o : Ordering) (b c : Bool) → row_cmp x y ≡ Less → row_cmp y key ≡ o → reaches_by o b ≡ true → reaches_by (row_cmp x key) c ≡ true
less_reaches x y key Less b c e f t = ap (λ o. reaches_by o c) (row_total.trans x y key e f)
less_reaches x y key Equal b c e f t =
    let same : y ≡ key = row_exact y key f in
    ap (λ o. reaches_by o c) (subst (λ k. row_cmp x k ≡ Less) same e)
less_reaches x y key Greater b c e f t = cc

-- ---- a version goes in where those before it end
turned : (r : Ordering) → is_gt (ordering_reverse r) ≡ is_lt r
turned Less = refl
turned Equal = refl
turned Greater = refl

pub placed_there : {X : Type 0} (R : X → X → Ordering) → IsTotalOrder R → (x : X) (ys : List X) (i : ℕ) → IsCut (λ y. is_lt (R y x)) i ys → placed R x ys ≡ insert ys i x
placed_there R o x [] zero h = refl
placed_there R o x [] (suc i) h = absurd h
placed_there R o x (y ∷ ys) zero h = ap (λ b. cond b (y ∷ placed R x ys) (x ∷ y ∷ ys)) (ap is_gt (o.antisymm x y) ∙ turned (R y x) ∙ h.0)
placed_there R o x (y ∷ ys) (suc i) h =
    ap (λ b. cond b (y ∷ placed R x ys) (x ∷ y ∷ ys)) (ap is_gt (o.antisymm x y) ∙ turned (R y x) ∙ h.0) ∙ ap (λ l. y ∷ l) (placed_there R o x ys i h.1)

-- ---- what holds of the element put in and of the others holds of all
pub all_placed : {X : Type 0} (R : X → X → Ordering) (P : X → Type 0) (x : X) (ys : List X) → P x → AllByRecursion P ys → AllByRecursion P (placed R x ys)
all_placed R P x [] a b = (a, tt)
all_placed R P x (y ∷ ys) a b = by (is_gt (R x y)) (all_placed R P x ys a b.1)
  where
    by : (t : Bool) → AllByRecursion P (placed R x ys) → AllByRecursion P (cond t (y ∷ placed R x ys) (x ∷ y ∷ ys))
    by true r = (b.0, r)
    by false r = (a, b)

-- the rows after a commit stand in the order of their keys
pub state_ascends : (ps : List ℕ) (n : ℕ) (vs : List RowVersion) → Apart (Precedes ps) vs → Ascends (key_cmp ps) (state_at n vs)
state_ascends ps n [] a = tt
state_ascends ps n (v ∷ vs) a = by (is_at n v) refl (state_ascends ps n vs a.1)
  where
    ended : (u : Option ℕ) (from : ℕ) → EndsBy from u → nat_le from n ≡ true → ends_after n u ≡ true → ⊥
    ended None from e le t = e
    ended (Some k) from e le t = let f : nat_lt n k ≡ false = grind (arith, nat_tests) in cc

    parts : (a b : Bool) → (a && b) ≡ true → (a ≡ true) × (b ≡ true)
    parts true b h = (refl, h)
    parts false b h = cc

    less : (w : RowVersion) → Precedes ps v w → is_at n v ≡ true → is_at n w ≡ true → key_cmp ps v.row w.row ≡ Less
    less w r t t' = at (key_cmp ps v.row w.row) refl r
      where
        at : (o : Ordering) → key_cmp ps v.row w.row ≡ o → precedes_by o v w → o ≡ Less
        at Less e r' = refl
        at Equal e r' = absurd (ended v.until w.from r'.1 (parts (nat_le w.from n) (ends_after n w.until) t').0 (parts (nat_le v.from n) (ends_after n v.until) t).1)
        at Greater e r' = absurd r'

    above : is_at n v ≡ true → (ws : List RowVersion) → AllByRecursion (Precedes ps v) ws → AllByRecursion (λ y. key_cmp ps v.row y ≡ Less) (state_at n ws)
    above t [] b = tt
    above t (w ∷ ws) b = at (is_at n w) refl (above t ws b.1)
      where
        at : (s : Bool) → is_at n w ≡ s → AllByRecursion (λ y. key_cmp ps v.row y ≡ Less) (state_at n ws) → AllByRecursion (λ y. key_cmp ps v.row y ≡ Less) (map (λ (x : RowVersion). x.row) (cond s (w ∷ filter (is_at n) ws) (filter (is_at n) ws)))
        at true e ih = (less w b.0 t e, ih)
        at false e ih = ih

    by : (t : Bool) → is_at n v ≡ t → Ascends (key_cmp ps) (state_at n vs) → Ascends (key_cmp ps) (map (λ (x : RowVersion). x.row) (cond t (v ∷ filter (is_at n) vs) (filter (is_at n) vs)))
    by true e ih = (above e vs a.0, ih)
    by false e ih = ih
