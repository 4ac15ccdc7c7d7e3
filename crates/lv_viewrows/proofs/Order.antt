-- The order of versions: where a new one goes in, and that the groups that are there ascend.
use Rattle.std.proofs.Common.{◌≡◌, ℕ, zero, suc, ◌<◌, Bool, true, false, cond, List, [], ◌∷◌, map, filter, Option, Some, None, refl, sym, ap, ◌∙◌, subst, arith}
use Rattle.std.specs.Prelude.{◌&&◌, nat_lt, nat_le}
use Rattle.std.specs.List.{AllByRecursion, insert}
use Rattle.std.specs.Ordering.{is_gt, is_lt, nat_cmp, ordering_reverse, ordering_then}
use Rattle.std.specs.Cmp.{IsTotalOrder}
use Rattle.std.specs.declared.cmp.Ordering.{Ordering}
use Rattle.std.specs.declared.cmp.Ordering.TheVariants.{Less, Equal, Greater}
use Rattle.std.proofs.lemmas.Bool.Decides.{nat_tests}
use Rattle.std.proofs.lemmas.Cmp.{nat_cmp_total, on_total, then_total, upto}
use Rattle.lv_values.specs.declared.value.Value.{Value}
use Rattle.lv_values.specs.Ascending.{placed}
use Rattle.lv_values.specs.Order.{row_cmp}
use Rattle.lv_values.specs.OrderLaws.{row_total}
use Rattle.lv_schema.specs.declared.signed.SignedRow.{SignedRow}
use Rattle.lv_schema.specs.Once.{Ascends}
use Rattle.lv_schema.specs.Versions.{ends_after}
use Rattle.lv_schema.proofs.Apart.{all_both, all_weaker}
use Rattle.lv_shelf.specs.Cuts.{Apart, Falls, IsCut}
use Rattle.lv_viewrows.specs.declared.version.GroupVersion.{GroupVersion}
use Rattle.lv_viewrows.specs.Kept.{groups_at, is_there, one_row, version_from}
use Rattle.lv_viewrows.specs.Standing.{EndsBy, Precedes, comes_before, precedes_by, version_cmp}

pub version_total : IsTotalOrder version_cmp
version_total = then_total (on_total (λ (v : GroupVersion). v.group.row) row_total) (on_total (λ (v : GroupVersion). v.from) nat_cmp_total)

pub less_of : (x y : ℕ) → x < y → nat_cmp x y ≡ Less
less_of x y lt = let e : nat_lt x y ≡ true = grind (arith, nat_tests) in rw e refl

greater_of : (x y : ℕ) → y < x → nat_cmp x y ≡ Greater
greater_of x y lt = by (nat_cmp x y) refl
  where
    by : (o : Ordering) → nat_cmp x y ≡ o → nat_cmp x y ≡ Greater
    by o e = grind (arith, nat_tests)

pub is_less : (o : Ordering) → is_lt o ≡ true → o ≡ Less
is_less Less h = refl
is_less Equal h = cc
is_less Greater h = cc

pub is_over : (o : Ordering) → is_gt o ≡ true → o ≡ Greater
is_over Less h = cc
is_over Equal h = cc
is_over Greater h = refl

-- one version before another is less
pub precedes_less : (v w : GroupVersion) → Precedes v w → version_cmp v w ≡ Less
precedes_less v w h = by (row_cmp v.group.row w.group.row) refl h
  where
    by : (o : Ordering) → row_cmp v.group.row w.group.row ≡ o → precedes_by o v w → ordering_then (row_cmp v.group.row w.group.row) (nat_cmp v.from w.from) ≡ Less
    by Less e h' = ap (λ o. ordering_then o (nat_cmp v.from w.from)) e
    by Equal e h' = ap (λ o. ordering_then o (nat_cmp v.from w.from)) e ∙ less_of v.from w.from h'.0
    by Greater e h' = absurd h'

pub falls_from : (p : GroupVersion → Bool) (R : GroupVersion → GroupVersion → Type 0) → ((v w : GroupVersion) → R v w → p w ≡ true → p v ≡ true) → (vs : List GroupVersion) → Apart R vs → Falls p vs
falls_from p R f [] a = tt
falls_from p R f (v ∷ vs) a = (all_weaker (R v) (λ later. p later ≡ true → p v ≡ true) (λ w r. f v w r) vs a.0, falls_from p R f vs a.1)

-- a search by a row and a commit finds a place
pub before_falls : (row : List Value) (number : ℕ) (vs : List GroupVersion) → Apart Precedes vs → Falls (comes_before row number) vs
before_falls row number vs a = falls_from (comes_before row number) Precedes step vs a
  where
    step : (v w : GroupVersion) → Precedes v w → comes_before row number w ≡ true → comes_before row number v ≡ true
    step v w r t = ap is_lt (version_total.trans v w (version_from number (one_row row)) (precedes_less v w r) (is_less (version_cmp w (version_from number (one_row row))) t))

-- ---- a version goes in where those before it end
turned : (r : Ordering) → is_gt (ordering_reverse r) ≡ is_lt r
turned Less = refl
turned Equal = refl
turned Greater = refl

pub placed_there : {X : Type 0} (R : X → X → Ordering) → IsTotalOrder R → (x : X) (ys : List X) (i : ℕ) → IsCut (λ y. is_lt (R y x)) i ys → placed R x ys ≡ insert ys i x
placed_there R o x [] zero h = refl
placed_there R o x [] (suc i) h = absurd h
placed_there R o x (y ∷ ys) zero h = ap (λ b. cond b (y ∷ placed R x ys) (x ∷ y ∷ ys)) (ap is_gt (o.antisymm x y) ∙ turned (R y x) ∙ h.0)
placed_there R o x (y ∷ ys) (suc i) h =
    ap (λ b. cond b (y ∷ placed R x ys) (x ∷ y ∷ ys)) (ap is_gt (o.antisymm x y) ∙ turned (R y x) ∙ h.0) ∙ ap (λ l. y ∷ l) (placed_there R o x ys i h.1)

pub filter_placed_out : {X : Type 0} (R : X → X → Ordering) (p : X → Bool) (x : X) → p x ≡ false → (ys : List X) → filter p (placed R x ys) ≡ filter p ys
filter_placed_out R p x e [] = λ i. cond (e i) (x ∷ []) []
filter_placed_out {X} R p x e (y ∷ ys) = by (is_gt (R x y)) (filter_placed_out R p x e ys)
  where
    by : (t : Bool) → filter p (placed R x ys) ≡ filter p ys → filter p (cond t (y ∷ placed R x ys) (x ∷ y ∷ ys)) ≡ filter p (y ∷ ys)
    by true ih = λ i. cond (p y) (y ∷ ih i) (ih i)
    by false ih = λ i. cond (e i) (x ∷ filter p (y ∷ ys)) (filter p (y ∷ ys))

pub all_placed : {X : Type 0} (R : X → X → Ordering) (P : X → Type 0) (x : X) (ys : List X) → P x → AllByRecursion P ys → AllByRecursion P (placed R x ys)
all_placed R P x [] a b = (a, tt)
all_placed R P x (y ∷ ys) a b = by (is_gt (R x y)) (all_placed R P x ys a b.1)
  where
    by : (t : Bool) → AllByRecursion P (placed R x ys) → AllByRecursion P (cond t (y ∷ placed R x ys) (x ∷ y ∷ ys))
    by true r = (b.0, r)
    by false r = (a, b)

-- a group that comes is new to a version: the version has another row, or ended by then
abbrev pub new_by : Ordering → ℕ → GroupVersion → Type 0
new_by Less number v = Unit {0}
new_by Equal number v = (v.from < number) × EndsBy number v.until
new_by Greater number v = Unit {0}

abbrev pub IsNewTo : ℕ → SignedRow → GroupVersion → Type 0
IsNewTo number group v = new_by (row_cmp group.row v.group.row) number v

-- each version stands on its side of a new one
abbrev Sides : ℕ → SignedRow → GroupVersion → Type 0
Sides number group w =
    (is_gt (version_cmp (version_from number group) w) ≡ true → Precedes w (version_from number group)) × (is_gt (version_cmp (version_from number group) w) ≡ false → Precedes (version_from number group) w)

sides : (number : ℕ) (group : SignedRow) (w : GroupVersion) → IsNewTo number group w → Sides number group w
sides number group w h = at (row_cmp group.row w.group.row) refl h
  where
    back : (o : Ordering) → row_cmp group.row w.group.row ≡ o → row_cmp w.group.row group.row ≡ ordering_reverse o
    back o e = row_total.antisymm w.group.row group.row ∙ ap ordering_reverse e

    at : (o : Ordering) → row_cmp group.row w.group.row ≡ o → new_by o number w → Sides number group w
    at Less e h' = (
      (λ t. let f = ap (λ o. is_gt (ordering_then o (nat_cmp number w.from))) e in cc),
      (λ t. subst (λ o. precedes_by o (version_from number group) w) (sym e) tt),
    )
    at Equal e h' = (
      (λ t. subst (λ o. precedes_by o w (version_from number group)) (sym (back Equal e)) h'),
      (λ t. let f = ap (λ o. is_gt (ordering_then o (nat_cmp number w.from))) e ∙ ap is_gt (greater_of number w.from h'.0) in cc),
    )
    at Greater e h' = (
      (λ t. subst (λ o. precedes_by o w (version_from number group)) (sym (back Greater e)) tt),
      (λ t. let f = ap (λ o. is_gt (ordering_then o (nat_cmp number w.from))) e in cc),
    )

not_gt : (o : Ordering) → o ≡ Less → is_gt o ≡ false
not_gt o e = ap is_gt e

pub placed_order : (number : ℕ) (group : SignedRow) (vs : List GroupVersion) → Apart Precedes vs → AllByRecursion (IsNewTo number group) vs → Apart Precedes (placed version_cmp (version_from number group) vs)
placed_order number group [] a h = (tt, tt)
placed_order number group (w ∷ vs) a h = by (is_gt (version_cmp (version_from number group) w)) refl (placed_order number group vs a.1 h.1)
  where
    behind : is_gt (version_cmp (version_from number group) w) ≡ false → (us : List GroupVersion) → AllByRecursion (Precedes w) us → AllByRecursion (IsNewTo number group) us → AllByRecursion (Precedes (version_from number group)) us
    behind e us b n =
        all_both (Precedes w) (IsNewTo number group) (Precedes (version_from number group))
        (λ u r s. (sides number group u s).1 (upto version_total (version_from number group) w u e (not_gt (version_cmp w u) (precedes_less w u r)))) us b n

    by : (t : Bool) → is_gt (version_cmp (version_from number group) w) ≡ t → Apart Precedes (placed version_cmp (version_from number group) vs)
        → Apart Precedes (cond t (w ∷ placed version_cmp (version_from number group) vs) (version_from number group ∷ w ∷ vs))
    by true e ih = (all_placed version_cmp (Precedes w) (version_from number group) vs ((sides number group w h.0).0 e) a.0, ih)
    by false e ih = (((sides number group w h.0).1 e, behind e vs a.0 h.1), a)

-- ---- the groups that are there at a commit ascend by their rows
pub groups_ascend : (n : ℕ) (vs : List GroupVersion) → Apart Precedes vs → Ascends (λ (a b : SignedRow). row_cmp a.row b.row) (groups_at n vs)
groups_ascend n [] a = tt
groups_ascend n (v ∷ vs) a = by (is_there n v) refl (groups_ascend n vs a.1)
  where
    R : SignedRow → SignedRow → Ordering
    R = λ x y. row_cmp x.row y.row

    over : (u : Option ℕ) (from : ℕ) → EndsBy from u → nat_le from n ≡ true → ends_after n u ≡ true → ⊥
    over None from e le t = e
    over (Some k) from e le t = let f : nat_lt n k ≡ false = grind (arith, nat_tests) in cc

    parts : (a b : Bool) → (a && b) ≡ true → (a ≡ true) × (b ≡ true)
    parts true b h = (refl, h)
    parts false b h = cc

    less : (w : GroupVersion) → Precedes v w → is_there n v ≡ true → is_there n w ≡ true → row_cmp v.group.row w.group.row ≡ Less
    less w r t t' = at (row_cmp v.group.row w.group.row) refl r
      where
        at : (o : Ordering) → row_cmp v.group.row w.group.row ≡ o → precedes_by o v w → o ≡ Less
        at Less e r' = refl
        at Equal e r' = absurd (over v.until w.from r'.1 (parts (nat_le w.from n) (ends_after n w.until) t').0 (parts (nat_le v.from n) (ends_after n v.until) t).1)
        at Greater e r' = absurd r'

    above : is_there n v ≡ true → (ws : List GroupVersion) → AllByRecursion (Precedes v) ws → AllByRecursion (λ (y : SignedRow). row_cmp v.group.row y.row ≡ Less) (groups_at n ws)
    above t [] b = tt
    above t (w ∷ ws) b = at (is_there n w) refl (above t ws b.1)
      where
        at : (s : Bool) → is_there n w ≡ s → AllByRecursion (λ (y : SignedRow). row_cmp v.group.row y.row ≡ Less) (groups_at n ws)
            → AllByRecursion (λ (y : SignedRow). row_cmp v.group.row y.row ≡ Less) (map (λ (x : GroupVersion). x.group) (cond s (w ∷ filter (is_there n) ws) (filter (is_there n) ws)))
        at true e ih = (less w b.0 t e, ih)
        at false e ih = ih

    by : (t : Bool) → is_there n v ≡ t → Ascends (λ (a b : SignedRow). row_cmp a.row b.row) (groups_at n vs)
        → Ascends (λ (a b : SignedRow). row_cmp a.row b.row) (map (λ (x : GroupVersion). x.group) (cond t (v ∷ filter (is_there n) vs) (filter (is_there n) vs)))
    by true e ih = (above e vs a.0, ih)
    by false e ih = ih
