-- The versions that have not ended.
use Rattle.std.proofs.Common.{◌≡◌, ℕ, zero, suc, ◌+◌, ◌-◌, ◌<◌, ◌≤◌, Bool, true, false, cond, List, [], ◌∷◌, ◌++◌, length, get_or, map, filter, take, Option, Some, None, refl, sym, ap, ap₂, ◌∙◌, subst, arith}
use Rattle.std.specs.Prelude.{◌&&◌, is_none, nat_le, nat_lt, slice_get}
use Rattle.std.specs.List.{AllByRecursion, insert, remove}
use Rattle.std.proofs.lemmas.Bool.Decides.{nat_tests}
use Rattle.std.proofs.lemmas.List.{append-nil, take_more}
use Rattle.std.proofs.lemmas.List.Elements.{filter-append}
use Rattle.lv_values.specs.declared.value.Value.{Value}
use Rattle.lv_schema.specs.Effects.{same_key}
use Rattle.lv_schema.proofs.Apart.{all_filter, all_weaker}
use Rattle.lv_schema.specs.declared.version.RowVersion.{RowVersion}
use Rattle.lv_shelf.specs.Cuts.{Apart, Falls, IsCut}
use Rattle.lv_shelf.specs.Shelves.{ChangesOnly, LacksItem}
use Rattle.lv_shelf.proofs.Cutting.{all_kept, cut_from, cut_long, got, got_within, passed_up_to}
use Rattle.lv_versions.specs.Versions.{EndsAtMost, HasEnded, IsBy, Precedes, ends_after, is_at, current_of, is_current, is_open, state_at, upto}
use Rattle.lv_versions.proofs.Cleaning.{changes_one}
use Rattle.lv_versions.proofs.Ending.{Closed, closed_current}
use Rattle.lv_versions.proofs.Keeping.{item_there}
use Rattle.lv_versions.proofs.Standing.{true_not_false}

-- ---- what a reader sees of them
and_false : (a b : Bool) → b ≡ false → (a && b) ≡ false
and_false true b e = e
and_false false b e = refl

-- from the last commit on no other one shows its row
hidden : (n last : ℕ) (v : RowVersion) → last ≤ n → IsBy last v → is_open v ≡ false → is_at n v ≡ false
hidden n last v le h o = by v.until refl
  where
    by : (u : Option ℕ) → v.until ≡ u → is_at n v ≡ false
    by None e = absurd (true_not_false (is_none v.until) (ap is_none e) o)
    by (Some k) e =
        let bound : k ≤ last = subst (EndsAtMost last) e h.1 in
        let over : nat_lt n k ≡ false = grind (arith, nat_tests) in
        and_false (nat_le v.from n) (ends_after n v.until) (ap (ends_after n) e ∙ over)

pub open_rows : (n last : ℕ) (vs : List RowVersion) → last ≤ n → AllByRecursion (IsBy last) vs → state_at n (filter is_open vs) ≡ state_at n vs
open_rows n last [] le a = refl
open_rows n last (v ∷ vs) le a = by (is_open v) refl (is_at n v) refl (open_rows n last vs le a.1)
  where
    by : (o : Bool) → is_open v ≡ o → (s : Bool) → is_at n v ≡ s → state_at n (filter is_open vs) ≡ state_at n vs
        → state_at n (cond o (v ∷ filter is_open vs) (filter is_open vs)) ≡ state_at n (v ∷ vs)
    by true e true f ih = rw f (ap (λ l. v.row ∷ l) ih)
    by true e false f ih = rw f ih
    by false e true f ih = absurd (true_not_false (is_at n v) f (hidden n last v le a.0 e))
    by false e false f ih = rw f ih

-- ---- one that ended is not among them
pub ended_lacks : (v : RowVersion) (order : List RowVersion) → AllByRecursion (λ y. is_open y ≡ true) order → HasEnded v → LacksItem v order
ended_lacks v order a h = all_weaker (λ y. is_open y ≡ true) (λ y. y ≡ v → ⊥) (λ y t same. true_not_false (is_open v) (ap is_open (sym same) ∙ t) h) order a

-- ---- elements that pass one test, in a list where another test stops to pass at a place
none_cut : {X : Type 0} (c : X → Bool) (k : ℕ) (xs : List X) → AllByRecursion (λ x. c x ≡ false) xs → IsCut c k xs → k ≡ 0
none_cut c zero xs a cut = refl
none_cut c (suc k) [] a cut = absurd cut
none_cut c (suc k) (x ∷ xs) a cut = absurd (true_not_false (c x) cut.0 a.0)

all_fixed : {X : Type 0} (f : X → X) (xs : List X) → AllByRecursion (λ x. f x ≡ x) xs → map f xs ≡ xs
all_fixed f [] a = refl
all_fixed f (x ∷ xs) a = ap₂ (λ y l. y ∷ l) a.0 (all_fixed f xs a.1)

-- the last one before the place passes, and a change of it alone takes it from them
pub record Left {X : Type 0} (p c : X → Bool) (f : X → X) (k : ℕ) (item : X) (xs : List X) : Type 0 where
  pub place : ℕ
  pub is : k ≡ suc place
  pub there : slice_get (filter p xs) place ≡ Some item
  pub rest : map f (remove (filter p xs) place) ≡ filter p (map f xs)
  pub cut : IsCut c place (filter p (map f xs))

module _ {X : Type 0} (p c : X → Bool) (f : X → X) where
  left_first : (k : ℕ) (x : X) (xs : List X) → p x ≡ true → p (f x) ≡ false → c x ≡ true → AllByRecursion (λ y. c y ≡ false) xs → AllByRecursion (λ y. f y ≡ y) xs → IsCut c k (x ∷ filter p xs) → Left p c f k x (x ∷ xs)
  left_first zero x xs t u before behind fixed cut = absurd (true_not_false (c x) before cut.0)
  left_first (suc k) x xs t u before behind fixed cut = record {
    place = 0;
    is = ap suc (none_cut c k (filter p xs) (all_filter (λ y. c y ≡ false) p xs behind) cut.1);
    there = rw t refl;
    rest = rw (t, u) (all_fixed f (filter p xs) (all_filter (λ y. f y ≡ y) p xs fixed) ∙ sym (ap (filter p) (all_fixed f xs fixed)));
    cut = rw u (subst (λ l. AllByRecursion (λ y. c y ≡ false) (filter p l)) (sym (all_fixed f xs fixed)) (all_filter (λ y. c y ≡ false) p xs behind));
  }

  left_passed : (k : ℕ) (x item : X) (xs : List X) → p x ≡ true → f x ≡ x → c x ≡ true → (IsCut c k (x ∷ filter p xs)) → ((j : ℕ) → IsCut c j (filter p xs) → Left p c f j item xs) → Left p c f k item (x ∷ xs)
  left_passed zero x item xs t same before cut more = absurd (true_not_false (c x) before cut.0)
  left_passed (suc k) x item xs t same before cut more =
      let r = more k cut.1 in
      record {
        place = suc r.place;
        is = ap suc r.is;
        there = rw t r.there;
        rest = rw (t, same) (rw t (ap (λ l. x ∷ l) r.rest));
        cut = rw (same, t) (before, r.cut);
      }

  pub left_open : (i k : ℕ) (item : X) (xs : List X) → IsCut c (suc i) xs → slice_get xs i ≡ Some item → ChangesOnly f i xs → p item ≡ true → p (f item) ≡ false → IsCut c k (filter p xs) → Left p c f k item xs
  left_open i k item [] cut e only t u cut' = absurd cut
  left_open zero k item (x ∷ xs) cut e only t u cut' =
      let is : x ≡ item = got (x ∷ xs) zero item item e in
      let t' : p x ≡ true = ap p is ∙ t in
      subst (λ y. Left p c f k y (x ∷ xs)) is (left_first k x xs t' (ap (λ y. p (f y)) is ∙ u) cut.0 cut.1 only (rw t' at cut'))
  left_open (suc i) k item (x ∷ xs) cut e only t u cut' = by (p x) refl (λ j cut''. left_open i j item xs cut.1 e only.1 t u cut'')
    where
      by : (b : Bool) → p x ≡ b → ((j : ℕ) → IsCut c j (filter p xs) → Left p c f j item xs) → Left p c f k item (x ∷ xs)
      by true h more = left_passed k x item xs h only.0 cut.0 (rw h at cut') more
      by false h more =
          let r = more k (rw h at cut') in
          record {
            place = r.place;
            is = r.is;
            there = rw h r.there;
            rest = rw (h, only.0) (rw h r.rest);
            cut = rw (only.0, h) r.cut;
          }

-- the current version of a row, which ends
first_of : (a b : Bool) → (a && b) ≡ true → a ≡ true
first_of true b h = refl
first_of false b h = cc

left_current : (ps : List ℕ) (row : List Value) (number at k : ℕ) (vs shown : List RowVersion) (item : RowVersion) → Apart (Precedes ps) vs → slice_get vs at ≡ Some item → is_current ps row number item ≡ true
    → IsCut (upto ps row) (at + 1) vs → shown ≡ filter is_open vs → IsCut (upto ps row) k shown → Left is_open (upto ps row) (Closed ps number row) k item vs
left_current ps row number at k vs shown item stand e h cut is cut' =
    let next : suc at ≡ at + 1 = omega arith in
    left_open is_open (upto ps row) (Closed ps number row) at k item vs
    (subst (λ n. IsCut (upto ps row) n vs) (sym next) cut) e
    (changes_one ps row number at (at + 1) vs item next stand cut e)
    (first_of (is_none item.until) (nat_lt item.from number && same_key ps item.row row) h)
    (ap is_open (closed_current ps number row item h))
    (subst (IsCut (upto ps row) k) is cut')

-- it leaves the order of those that have not ended, which is kept: it is the last one there before the row's place
pub record Leaves (ps : List ℕ) (row : List Value) (number k : ℕ) (kept : Bool) (vs shown : List RowVersion) : Type 0 where
  pub some : 0 < k
  pub within : k - 1 < length shown
  pub rest : map (Closed ps number row) (remove shown (k - 1)) ≡ current_of kept (map (Closed ps number row) vs)
  pub cut : IsCut (upto ps row) (k - 1) (current_of kept (map (Closed ps number row) vs))

pub leaving : (ps : List ℕ) (row : List Value) (number at k : ℕ) (kept : Bool) (vs shown : List RowVersion) → kept ≡ true → Apart (Precedes ps) vs → IsCut (upto ps row) (at + 1) vs
    → ((v : RowVersion) → slice_get vs at ≡ Some v → is_current ps row number v ≡ true) → shown ≡ current_of kept vs → IsCut (upto ps row) k shown → Leaves ps row number k kept vs shown
leaving ps row number at k kept vs shown t stand cut is these cut' =
    let before = upto ps row in
    let f = Closed ps number row in
    let item = item_there vs at (omega (arith, cut_long before (at + 1) vs cut)) in
    let current : shown ≡ filter is_open vs = these ∙ ap (λ b. current_of b vs) t in
    let left = left_current ps row number at k vs shown item.0 stand item.1 (is item.0 item.1) cut current cut' in
    let place : k - 1 ≡ left.place = omega (arith, left.is) in
    record {
      some = omega (arith, left.is);
      within = omega (arith, left.is, got_within (filter is_open vs) left.place item.0 left.there, ap length current);
      rest = ap (map f) (ap₂ (λ l i. remove l i) current place) ∙ left.rest ∙ sym (ap (λ b. current_of b (map f vs)) t);
      cut = subst (λ b. IsCut before (k - 1) (current_of b (map f vs))) (sym t) (subst (λ i. IsCut before i (filter is_open (map f vs))) (sym place) left.cut);
    }

-- one that passes is put in
module _ {X : Type 0} (p c : X → Bool) where
  put_passed : (k : ℕ) (x item : X) (xs ys : List X) → c x ≡ true → IsCut c k (x ∷ ys) → ((j : ℕ) → IsCut c j ys → filter p xs ≡ insert ys j item) → (x ∷ filter p xs) ≡ insert (x ∷ ys) k item
  put_passed zero x item xs ys before cut more = absurd (true_not_false (c x) before cut.0)
  put_passed (suc k) x item xs ys before cut more = ap (λ l. x ∷ l) (more k cut.1)

  pub put_open : (i k : ℕ) (item : X) (xs : List X) → p item ≡ true → IsCut c i xs → IsCut c k (filter p xs) → filter p (insert xs i item) ≡ insert (filter p xs) k item
  put_open zero k item xs t cut cut' =
      let none : k ≡ 0 = none_cut c k (filter p xs) (all_filter (λ y. c y ≡ false) p xs cut) cut' in
      rw (t, none) refl
  put_open (suc i) k item [] t cut cut' = absurd cut
  put_open (suc i) k item (x ∷ xs) t cut cut' = by (p x) refl (λ j cut''. put_open i j item xs t cut.1 cut'')
    where
      by : (b : Bool) → p x ≡ b → ((j : ℕ) → IsCut c j (filter p xs) → filter p (insert xs i item) ≡ insert (filter p xs) j item) → filter p (insert (x ∷ xs) (suc i) item) ≡ insert (filter p (x ∷ xs)) k item
      by true h more = rw h (put_passed k x item (insert xs i item) (filter p xs) cut.0 (rw h at cut') more)
      by false h more = rw h (more k (rw h at cut'))

-- ---- two tests, the one after the other
pub filter_swap : {X : Type 0} (p q : X → Bool) (xs : List X) → filter p (filter q xs) ≡ filter q (filter p xs)
filter_swap p q [] = refl
filter_swap p q (x ∷ xs) = by (p x) refl (q x) refl (filter_swap p q xs)
  where
    by : (a : Bool) → p x ≡ a → (b : Bool) → q x ≡ b → filter p (filter q xs) ≡ filter q (filter p xs)
        → filter p (cond b (x ∷ filter q xs) (filter q xs)) ≡ filter q (cond a (x ∷ filter p xs) (filter p xs))
    by true e true f ih = rw (e, f) (ap (λ l. x ∷ l) ih)
    by true e false f ih = rw f ih
    by false e true f ih = rw e ih
    by false e false f ih = ih

open_passes : (floor : ℕ) (v : RowVersion) → is_open v ≡ true → ends_after floor v.until ≡ true
open_passes floor v h = by v.until refl
  where
    by : (u : Option ℕ) → v.until ≡ u → ends_after floor v.until ≡ true
    by None e = ap (ends_after floor) e
    by (Some k) e = absurd (true_not_false (is_none v.until) h (ap is_none e))

-- a clean-up leaves those that have not ended
pub open_stay : (floor : ℕ) (order : List RowVersion) → AllByRecursion (λ v. is_open v ≡ true) order → filter (λ v. ends_after floor v.until) order ≡ order
open_stay floor [] a = refl
open_stay floor (v ∷ order) a =
    ap (λ b. cond b (v ∷ filter (λ (w : RowVersion). ends_after floor w.until) order) (filter (λ (w : RowVersion). ends_after floor w.until) order)) (open_passes floor v a.0)
    ∙ ap (λ l. v ∷ l) (open_stay floor order a.1)

pub current_open : (kept : Bool) (vs : List RowVersion) → AllByRecursion (λ v. is_open v ≡ true) (current_of kept vs)
current_open true vs = all_kept is_open vs
current_open false vs = tt

pub current_stay : (kept : Bool) (floor : ℕ) (vs : List RowVersion) → current_of kept (filter (λ v. ends_after floor v.until) vs) ≡ current_of kept vs
current_stay true floor vs = filter_swap is_open (λ v. ends_after floor v.until) vs ∙ open_stay floor (filter is_open vs) (all_kept is_open vs)
current_stay false floor vs = refl

-- the versions are put into the order one after another
pub open_more : (at : ℕ) (v : RowVersion) (vs : List RowVersion) → slice_get vs at ≡ Some v → is_open v ≡ true → filter is_open (take (at + 1) vs) ≡ filter is_open (take at vs) ++ v ∷ []
open_more at v vs e h =
    ap (filter is_open) (take_more vs at v (got_within vs at v e) ∙ ap (λ x. take at vs ++ x ∷ []) (got vs at v v e))
    ∙ filter-append is_open (take at vs) (v ∷ [])
    ∙ ap (λ b. filter is_open (take at vs) ++ cond b (v ∷ []) []) h

pub ended_more : (at : ℕ) (v : RowVersion) (vs : List RowVersion) → slice_get vs at ≡ Some v → is_open v ≡ false → filter is_open (take (at + 1) vs) ≡ filter is_open (take at vs)
ended_more at v vs e h =
    ap (filter is_open) (take_more vs at v (got_within vs at v e) ∙ ap (λ x. take at vs ++ x ∷ []) (got vs at v v e))
    ∙ filter-append is_open (take at vs) (v ∷ [])
    ∙ ap (λ b. filter is_open (take at vs) ++ cond b (v ∷ []) []) h
    ∙ append-nil (filter is_open (take at vs))

-- ---- the last element that passes
pub last_cut : {X : Type 0} (p : X → Bool) (xs : List X) (at : ℕ) (x : X) → Falls p xs → slice_get xs at ≡ Some x → p x ≡ true → ((k : ℕ) (d : X) → at + 1 ≤ k → k < length xs → p (get_or xs k d) ≡ false) → IsCut p (at + 1) xs
last_cut p xs at x h e t fails =
    let place : at + 1 - 1 ≡ at = omega arith in
    cut_from p xs (at + 1) (omega (arith, got_within xs at x e)) (passed_up_to p xs (at + 1) x h (omega arith) (subst (λ i. slice_get xs i ≡ Some x) (sym place) e) t) fails
