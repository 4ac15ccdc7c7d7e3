-- What a clean-up leaves, and rows that a reader finds.
use Rattle.std.proofs.Common.{◌≡◌, ℕ, ◌+◌, ◌<◌, ◌≤◌, Bool, true, false, cond, List, [], ◌∷◌, ◌++◌, append_assoc, drop, length, length-append, map, filter, Option, Some, None, refl, sym, ap, ap₂, ◌∙◌, arith}
use Rattle.std.specs.Prelude.{◌&&◌, nat_lt, nat_le, slice_get}
use Rattle.std.specs.List.{AllByRecursion}
use Rattle.std.specs.declared.cmp.Ordering.TheVariants.{Less}
use Rattle.std.proofs.lemmas.Bool.Decides.{nat_tests}
use Rattle.std.proofs.lemmas.List.{drop_more, length-map}
use denote.Ref.{Bor}
use Rattle.lv_values.specs.declared.value.Value.{Value}
use Rattle.lv_values.specs.Order.{row_eq}
use Rattle.lv_values.specs.Rows.{key_cmp, values_at}
use Rattle.lv_schema.specs.Once.{Ascends}
use Rattle.lv_schema.proofs.Apart.{all_both, all_filter, all_weaker, apart_filter}
use Rattle.lv_schema.specs.declared.version.RowVersion.{RowVersion}
use Rattle.lv_shelf.specs.Cuts.{Apart}
use Rattle.lv_versions.specs.Versions.{EndsAtMost, EndsFrom, IsBy, Precedes, ends_after, hits, is_at, rows_hit, rows_with, state_at}
use Rattle.lv_shelf.proofs.Cutting.{all_kept, got}
use Rattle.lv_versions.proofs.Standing.{state_ascends}

pub both : (a b : Bool) → (a && b) ≡ true → (a ≡ true) × (b ≡ true)
both true b h = (refl, h)
both false b h = cc

-- ---- a clean-up
alive_ends_after : (n floor : ℕ) (u : Option ℕ) → floor ≤ n → ends_after n u ≡ true → ends_after floor u ≡ true
alive_ends_after n floor None le h = refl
alive_ends_after n floor (Some k) le h = grind (arith, nat_tests)

pub pruned_state : (n floor : ℕ) (vs : List RowVersion) → floor ≤ n → state_at n (filter (λ v. ends_after floor v.until) vs) ≡ state_at n vs
pruned_state n floor [] le = refl
pruned_state n floor (v ∷ vs) le = by (ends_after floor v.until) refl (is_at n v) refl (pruned_state n floor vs le)
  where
    by : (k : Bool) → ends_after floor v.until ≡ k → (a : Bool) → is_at n v ≡ a → state_at n (filter (λ (w : RowVersion). ends_after floor w.until) vs) ≡ state_at n vs
        → state_at n (cond k (v ∷ filter (λ (w : RowVersion). ends_after floor w.until) vs) (filter (λ (w : RowVersion). ends_after floor w.until) vs)) ≡ state_at n (v ∷ vs)
    by true e true f ih = rw f (ap (λ l. v.row ∷ l) ih)
    by true e false f ih = rw f ih
    by false e true f ih = let t = alive_ends_after n floor v.until le (both (nat_le v.from n) (ends_after n v.until) f).1 in cc
    by false e false f ih = rw f ih

-- from the last commit on a version shows its row exactly where it has not ended
ended_shows : (n last floor : ℕ) (u : Option ℕ) → last ≤ n → EndsAtMost last u → ends_after floor u ≡ false → ends_after n u ≡ false
ended_shows n last floor None le h e = cc
ended_shows n last floor (Some k) le h e = grind (arith, nat_tests)

pub pruned_newest : (n last floor : ℕ) (vs : List RowVersion) → last ≤ n → AllByRecursion (IsBy last) vs → state_at n (filter (λ v. ends_after floor v.until) vs) ≡ state_at n vs
pruned_newest n last floor [] le a = refl
pruned_newest n last floor (v ∷ vs) le a = by (ends_after floor v.until) refl (is_at n v) refl (pruned_newest n last floor vs le a.1)
  where
    by : (k : Bool) → ends_after floor v.until ≡ k → (s : Bool) → is_at n v ≡ s → state_at n (filter (λ (w : RowVersion). ends_after floor w.until) vs) ≡ state_at n vs
        → state_at n (cond k (v ∷ filter (λ (w : RowVersion). ends_after floor w.until) vs) (filter (λ (w : RowVersion). ends_after floor w.until) vs)) ≡ state_at n (v ∷ vs)
    by true e true f ih = rw f (ap (λ l. v.row ∷ l) ih)
    by true e false f ih = rw f ih
    by false e true f ih = let t = ended_shows n last floor v.until le a.0.1 e in let u = (both (nat_le v.from n) (ends_after n v.until) f).1 in cc
    by false e false f ih = rw f ih

shows_alike : (n last : ℕ) (v : RowVersion) → last ≤ n → IsBy last v → is_at n v ≡ is_at last v
shows_alike n last v le h = by v.until h.1
  where
    came : nat_le v.from n ≡ nat_le v.from last
    came = let e : v.from ≤ last = h.0 in grind (arith, nat_tests)

    by : (u : Option ℕ) → EndsAtMost last u → (nat_le v.from n && ends_after n u) ≡ (nat_le v.from last && ends_after last u)
    by None e = ap (λ b. b && true) came
    by (Some k) e =
        let f : nat_lt n k ≡ nat_lt last k = grind (arith, nat_tests) in
        ap₂ (λ a b. a && b) came f

pub newest_rows : (n last : ℕ) (vs : List RowVersion) → last ≤ n → AllByRecursion (IsBy last) vs → state_at n vs ≡ state_at last vs
newest_rows n last [] le a = refl
newest_rows n last (v ∷ vs) le a = by (is_at n v) (is_at last v) (shows_alike n last v le a.0) (newest_rows n last vs le a.1)
  where
    by : (s t : Bool) → s ≡ t → state_at n vs ≡ state_at last vs
        → map (λ (w : RowVersion). w.row) (cond s (v ∷ filter (is_at n) vs) (filter (is_at n) vs)) ≡ map (λ (w : RowVersion). w.row) (cond t (v ∷ filter (is_at last) vs) (filter (is_at last) vs))
    by true true e ih = ap (λ l. v.row ∷ l) ih
    by true false e ih = cc
    by false true e ih = cc
    by false false e ih = ih

-- ---- the rows version by version
pub state_cons : (n : ℕ) (v : RowVersion) (vs : List RowVersion) → state_at n (v ∷ []) ++ state_at n vs ≡ state_at n (v ∷ vs)
state_cons n v vs = by (is_at n v)
  where
    by : (b : Bool) → map (λ (w : RowVersion). w.row) (cond b (v ∷ []) []) ++ state_at n vs ≡ map (λ (w : RowVersion). w.row) (cond b (v ∷ filter (is_at n) vs) (filter (is_at n) vs))
    by true = refl
    by false = refl

-- one version of those that a loop goes over
pub shown_step : (n i : ℕ) (rows : List (List Value)) (v : RowVersion) (vs : List RowVersion) → i < length vs → slice_get vs i ≡ Some v → (rows ++ state_at n (v ∷ [])) ++ state_at n (drop (i + 1) vs) ≡ rows ++ state_at n (drop i vs)
shown_step n i rows v vs lt e =
    append_assoc rows (state_at n (v ∷ [])) (state_at n (drop (i + 1) vs))
    ∙ ap (λ l. rows ++ l) (state_cons n v (drop (i + 1) vs) ∙ ap (λ x. state_at n (x ∷ drop (i + 1) vs)) (sym (got vs i v v e)) ∙ ap (state_at n) (sym (drop_more vs i v lt)))

-- where nothing is tested all stay
pub all_pass : {X : Type 0} (xs : List X) → filter (λ _. true) xs ≡ xs
all_pass [] = refl
all_pass (x ∷ xs) = ap (λ l. x ∷ l) (all_pass xs)

-- ---- the soonest end
none_dropped : (soonest floor : ℕ) (u : Option ℕ) → floor < soonest → EndsFrom soonest u → ends_after floor u ≡ true
none_dropped soonest floor None lt h = refl
none_dropped soonest floor (Some k) lt h = grind (arith, nat_tests)

pub all_stay : (soonest floor : ℕ) (vs : List RowVersion) → floor < soonest → AllByRecursion (λ v. EndsFrom soonest v.until) vs → filter (λ v. ends_after floor v.until) vs ≡ vs
all_stay soonest floor [] lt a = refl
all_stay soonest floor (v ∷ vs) lt a =
    ap (λ b. cond b (v ∷ filter (λ (w : RowVersion). ends_after floor w.until) vs) (filter (λ (w : RowVersion). ends_after floor w.until) vs)) (none_dropped soonest floor v.until lt a.0)
    ∙ ap (λ l. v ∷ l) (all_stay soonest floor vs lt a.1)

above_floor : (floor : ℕ) (u : Option ℕ) → ends_after floor u ≡ true → EndsFrom (floor + 1) u
above_floor floor None h = tt
above_floor floor (Some k) h = grind (arith, nat_tests)

pub kept_ends : (floor : ℕ) (vs : List RowVersion) → AllByRecursion (λ v. EndsFrom (floor + 1) v.until) (filter (λ v. ends_after floor v.until) vs)
kept_ends floor vs =
    all_weaker (λ v. ends_after floor v.until ≡ true) (λ v. EndsFrom (floor + 1) v.until) (λ v h. above_floor floor v.until h) (filter (λ v. ends_after floor v.until) vs) (all_kept (λ v. ends_after floor v.until) vs)

no_end : (last floor top : ℕ) (u : Option ℕ) → last ≤ floor → EndsAtMost last u → ends_after floor u ≡ true → EndsFrom top u
no_end last floor top None le a h = tt
no_end last floor top (Some k) le a h = let e : nat_lt floor k ≡ false = grind (arith, nat_tests) in cc

pub none_ends : (last floor top : ℕ) (vs : List RowVersion) → last ≤ floor → AllByRecursion (IsBy last) vs → AllByRecursion (λ v. EndsFrom top v.until) (filter (λ v. ends_after floor v.until) vs)
none_ends last floor top vs le a =
    all_both (IsBy last) (λ v. ends_after floor v.until ≡ true) (λ v. EndsFrom top v.until) (λ v b h. no_end last floor top v.until le b.1 h) (filter (λ v. ends_after floor v.until) vs)
    (all_filter (IsBy last) (λ v. ends_after floor v.until) vs a) (all_kept (λ v. ends_after floor v.until) vs)

-- ---- the rows with these values
pub hit_rows : (ps : List ℕ) (key : List Value) (n : ℕ) (vs : List RowVersion) → rows_hit ps key n vs ≡ rows_with ps key (state_at n vs)
hit_rows ps key n [] = refl
hit_rows ps key n (v ∷ vs) = by (is_at n v) (row_eq (values_at ps v.row) key) refl (hit_rows ps key n vs)
  where
    by : (a b : Bool) → row_eq (values_at ps v.row) key ≡ b → rows_hit ps key n vs ≡ rows_with ps key (state_at n vs)
        → map (λ (w : RowVersion). w.row) (cond (a && b) (v ∷ filter (hits ps key n) vs) (filter (hits ps key n) vs)) ≡ rows_with ps key (map (λ (w : RowVersion). w.row) (cond a (v ∷ filter (is_at n) vs) (filter (is_at n) vs)))
    by true true e ih = ap (λ l. v.row ∷ l) ih ∙ sym (ap (λ b. cond b (v.row ∷ rows_with ps key (state_at n vs)) (rows_with ps key (state_at n vs))) e)
    by true false e ih = ih ∙ sym (ap (λ b. cond b (v.row ∷ rows_with ps key (state_at n vs)) (rows_with ps key (state_at n vs))) e)
    by false b e ih = ih

-- they stand in the order of their keys
pub with_ascends : (ps columns : List ℕ) (values : List Value) (n : ℕ) (vs : List RowVersion) → Apart (Precedes ps) vs → Ascends (key_cmp ps) (rows_with columns values (state_at n vs))
with_ascends ps columns values n vs a = apart_filter (λ x y. key_cmp ps x y ≡ Less) (λ row. row_eq (values_at columns row) values) (state_at n vs) (state_ascends ps n vs a)

-- ---- rows where they lie
abbrev pub seen : List (Bor (List Value)) → List (List Value)
seen rows = map (λ row. row.now) rows

pub long_seen : (rows : List (Bor (List Value))) → length (seen rows) ≡ length rows
long_seen rows = length-map rows (λ (row : Bor (List Value)). row.now)

pub longer_seen : (rows more : List (Bor (List Value))) (found : List (List Value)) → seen more ≡ seen rows ++ found → length more ≡ length rows + length found
longer_seen rows more found e = omega (arith, long_seen rows, long_seen more, ap length e, length-append (seen rows) found)
