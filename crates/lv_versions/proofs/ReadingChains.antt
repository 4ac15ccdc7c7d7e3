-- What a reader of chains sees.
use Rattle.std.proofs.Common.{◌≡◌, ℕ, zero, suc, ◌+◌, ◌-◌, ◌<◌, ◌≤◌, Bool, true, false, cond, List, [], ◌∷◌, ◌++◌, append_assoc, drop, take, length, map, filter, get_or, Option, Some, None, Bor, refl, sym, ap, ap₂, ◌∙◌, subst, arith}
use Rattle.std.specs.Prelude.{MatchOption, is_none, slice_get}
use Rattle.std.specs.List.{AllByRecursion, cons_option}
use Rattle.std.specs.Option.{option_copied}
use Rattle.std.specs.Ordering.{is_eq, ordering_reverse}
use Rattle.std.specs.declared.cmp.Ordering.{Ordering}
use Rattle.std.specs.declared.cmp.Ordering.TheVariants.{Less, Equal, Greater}
use Rattle.std.proofs.lemmas.List.{append-nil, drop_all, drop_more, get_or-drop, get_or-take, length-drop, length-take, length-take-le, map-append, take-map}
use Rattle.std.proofs.Math.Seq.{take-length}
use Rattle.std.proofs.lemmas.List.Elements.{filter-append}
use Rattle.std.proofs.lemmas.Option.{slice_get-get_or}
use Rattle.lv_values.specs.declared.value.Value.{Value}
use Rattle.lv_values.specs.Order.{row_cmp, row_eq}
use Rattle.lv_values.specs.OrderLaws.{row_exact, row_total}
use Rattle.lv_values.specs.Rows.{key_cmp, value_in, values_at}
use Rattle.lv_schema.proofs.Apart.{all_weaker, apart_both, apart_map}
use Rattle.lv_schema.proofs.NetsLead.{same_row}
use Rattle.lv_schema.specs.declared.version.RowVersion.{RowVersion}
use Rattle.lv_shelf.specs.Cuts.{Apart, Falls, IsCut}
use Rattle.lv_shelf.proofs.Cutting.{all_at, failed_from, got, got_within}
use Rattle.lv_shelf.specs.Chains.{AgreesOn, HasSome, all_newest, before, chain_at, joined, later_or, newest_of, newest_that}
use Rattle.lv_versions.specs.Versions.{AreChains, AreHistories, EndsBy, HaveOneKey, IsBelow, Precedes, Succeeds, alone, came_by, hits, is_at, is_open, is_upto, precedes_by, reaches_by, row_with, rows_hit, rows_with, rows_within, state_at}
use Rattle.lv_versions.proofs.Between.{prefix_falls, rows_between_cuts}
use Rattle.lv_versions.proofs.Chaining.{agreeing, all_joined, at_chain, before_all, before_next, histories, joined_append, joined_at, newest_flat, newest_some, newest_there, oldest_flat, shown_by, shown_in}
use Rattle.lv_versions.proofs.Current.{last_cut}
use Rattle.lv_versions.proofs.Finding.{both, hit_rows}
use Rattle.lv_versions.proofs.Runs.{split_run, state_append}

-- ---- each version as a chain by itself
pub joined_alone : (xs : List RowVersion) → joined (map alone xs) ≡ xs
joined_alone [] = refl
joined_alone (x ∷ xs) = ap (λ l. x ∷ l) (joined_alone xs)

pub newest_alone : (xs : List RowVersion) → all_newest (map alone xs) ≡ xs
newest_alone [] = refl
newest_alone (x ∷ xs) = ap (λ l. x ∷ l) (newest_alone xs)

pub before_alone : (xs : List RowVersion) (i : ℕ) → i ≤ length xs → before (map alone xs) i ≡ i
before_alone xs i le = ap (λ l. length (joined l)) (take-map alone i xs) ∙ ap length (joined_alone (take i xs)) ∙ length-take-le i xs le

pub some_alone : (xs : List RowVersion) → AllByRecursion HasSome (map alone xs)
some_alone [] = tt
some_alone (x ∷ xs) = (omega arith, some_alone xs)

pub alone_cut : (p : RowVersion → Bool) (k : ℕ) (xs : List RowVersion) → k ≤ length xs → IsCut p k xs → IsCut p (before (map alone xs) k) (joined (map alone xs))
alone_cut p k xs le cut =
    subst (λ l. IsCut p (before (map alone xs) k) l) (sym (joined_alone xs)) (subst (λ i. IsCut p i xs) (sym (before_alone xs k le)) cut)

-- ---- versions that have not ended
open_below : (ps : List ℕ) (v w : RowVersion) → is_open v ≡ true → is_open w ≡ true → Precedes ps v w → IsBelow ps (alone v) (alone w)
open_below ps v w o o' r = by (key_cmp ps v.row w.row) refl r
  where
    no_end : (u : Option ℕ) → is_none u ≡ true → EndsBy w.from u → ⊥
    no_end None t e = e
    no_end (Some k) t e = cc

    by : (q : Ordering) → key_cmp ps v.row w.row ≡ q → precedes_by q v w → IsBelow ps (alone v) (alone w)
    by Less e r' = ((e, tt), tt)
    by Equal e r' = absurd (no_end v.until o r'.1)
    by Greater e r' = absurd r'

one_each : (ps : List ℕ) (xs : List RowVersion) → AllByRecursion (Apart (HaveOneKey ps)) (map alone xs)
one_each ps [] = tt
one_each ps (x ∷ xs) = ((tt, tt), one_each ps xs)

pub open_chains : (ps : List ℕ) (xs : List RowVersion) → AllByRecursion (λ v. is_open v ≡ true) xs → Apart (Precedes ps) xs → AreChains ps (map alone xs)
open_chains ps xs o a =
    (one_each ps xs, apart_map alone (IsBelow ps) xs (apart_both (λ v. is_open v ≡ true) (Precedes ps) (λ v w. IsBelow ps (alone v) (alone w)) (open_below ps) xs o a))

-- ---- the newest one that passes
newest_next : {X : Type 0} (x y : X) (ys : List X) → newest_of (x ∷ y ∷ ys) ≡ newest_of (y ∷ ys)
newest_next x y ys =
    let e : length (x ∷ y ∷ ys) - 1 ≡ suc (length (y ∷ ys) - 1) = omega arith in
    ap (slice_get (x ∷ y ∷ ys)) e

pub newest_passes : {X : Type 0} (p : X → Bool) (c : List X) (v : X) → newest_of c ≡ Some v → p v ≡ true → newest_that p c ≡ Some v
newest_passes p [] v e t = cc
newest_passes p (x ∷ []) v e t = ap (λ y. later_or None (p y) y) (got (x ∷ []) zero v v e) ∙ ap (λ b. later_or None b v) t
newest_passes p (x ∷ y ∷ ys) v e t = ap (λ o. later_or o (p x) x) (newest_passes p (y ∷ ys) v (sym (newest_next x y ys) ∙ e) t)

pub alone_fails : (p : RowVersion → Bool) (xs : List RowVersion) (i : ℕ) (v : RowVersion) → newest_of (chain_at (map alone xs) i) ≡ Some v → p v ≡ false → newest_that p (chain_at (map alone xs) i) ≡ None
alone_fails p [] i v e f = refl
alone_fails p (x ∷ xs) zero v e f = ap (λ y. later_or None (p y) y) (got (x ∷ []) zero v v e) ∙ ap (λ b. later_or None b v) f
alone_fails p (x ∷ xs) (suc i) v e f = alone_fails p xs i v e f

-- ---- the last chain that passes
agree_first : {X : Type 0} (p : X → Bool) (c : List X) (v w : X) → AgreesOn p c → slice_get c 0 ≡ Some v → newest_of c ≡ Some w → p v ≡ p w
agree_first p [] v w a e f = cc
agree_first p (x ∷ []) v w a e f = ap p (sym (got (x ∷ []) zero v v e) ∙ got (x ∷ []) zero w w f)
agree_first p (x ∷ y ∷ ys) v w a e f =
    ap p (sym (got (x ∷ y ∷ ys) zero v v e)) ∙ a.0.0 ∙ agree_first p (y ∷ ys) y w a.1 refl (sym (newest_next x y ys) ∙ f)

oldest_there : {X : Type 0} (c : List X) → 0 < length c → (v : X) × (slice_get c 0 ≡ Some v)
oldest_there [] lt = absurd (omega arith)
oldest_there (x ∷ xs) lt = (x, refl)

last_passing : {X : Type 0} (p : X → Bool) (cs : List (List X)) (i : ℕ) (v : X) → Falls p (joined cs) → i < length cs → newest_of (chain_at cs i) ≡ Some v → p v ≡ true
    → ((k : ℕ) (d : X) → before cs (i + 1) ≤ k → k < length (joined cs) → p (get_or (joined cs) k d) ≡ false) → IsCut p (before cs (i + 1)) (joined cs)
last_passing p cs i v h lt e t fails =
    let at = before cs (i + 1) - 1 in
    let next : at + 1 ≡ before cs (i + 1) = omega (arith, before_next cs i lt, newest_some (chain_at cs i) v e) in
    subst (λ k. IsCut p k (joined cs)) next (last_cut p (joined cs) at v h (newest_flat cs i v lt e) t (λ k d le within. fails k d (omega (arith, le, next)) within))

-- it is the very last one, or the next one fails
pub last_of_all : {X : Type 0} (p : X → Bool) (cs : List (List X)) (i : ℕ) (v : X) → Falls p (joined cs) → i < length cs → newest_of (chain_at cs i) ≡ Some v → p v ≡ true → i + 1 ≡ length cs → IsCut p (before cs (i + 1)) (joined cs)
last_of_all p cs i v h lt e t end =
    let all : before cs (i + 1) ≡ length (joined cs) = ap (before cs) end ∙ before_all cs in
    last_passing p cs i v h lt e t (λ k d le within. absurd (omega (arith, all, le, within)))

pub last_before : {X : Type 0} (p : X → Bool) (cs : List (List X)) (i : ℕ) (v w : X) → Falls p (joined cs) → AllByRecursion (AgreesOn p) cs → i + 1 < length cs → newest_of (chain_at cs i) ≡ Some v → p v ≡ true
    → newest_of (chain_at cs (i + 1)) ≡ Some w → p w ≡ false → IsCut p (before cs (i + 1)) (joined cs)
last_before p cs i v w h agrees lt e t e' f =
    let oldest = oldest_there (chain_at cs (i + 1)) (newest_some (chain_at cs (i + 1)) w e') in
    let same = agree_first p (chain_at cs (i + 1)) oldest.0 w (at_chain (AgreesOn p) cs (i + 1) lt agrees) oldest.1 e' in
    last_passing p cs i v h (omega (arith, lt)) e t (failed_from p (joined cs) (before cs (i + 1)) oldest.0 h (oldest_flat cs (i + 1) oldest.0 lt oldest.1) (same ∙ f))

-- ---- the newest versions of chains that are looked up together
pub newest_at : {X : Type 0} (cs : List (List X)) (i : ℕ) (v : X) → AllByRecursion HasSome cs → slice_get (all_newest cs) i ≡ Some v → newest_of (chain_at cs i) ≡ Some v
newest_at [] i v a e = cc
newest_at {X} (c ∷ cs) i v a e = by i (λ j e'. newest_at cs j v a.1 e') (subst (λ o. slice_get (cons_option o (all_newest cs)) i ≡ Some v) there.1 e)
  where
    there : (w : X) × (newest_of c ≡ Some w)
    there = newest_there c a.0

    by : (j : ℕ) → ((k : ℕ) → slice_get (all_newest cs) k ≡ Some v → newest_of (chain_at cs k) ≡ Some v) → slice_get (there.0 ∷ all_newest cs) j ≡ Some v → newest_of (chain_at (c ∷ cs) j) ≡ Some v
    by zero more e' = there.1 ∙ ap Some (got (there.0 ∷ all_newest cs) zero v v e')
    by (suc j) more e' = more j e'

pub in_run : {X : Type 0} (run xs : List X) (first i : ℕ) (v : X) → run ≡ take (length run) (drop first xs) → slice_get run i ≡ Some v → slice_get xs (first + i) ≡ Some v
in_run run xs first i v is e =
    let lt = got_within run i v e in
    let within : first + i < length xs = omega (arith, lt, ap length is, length-take (length run) (drop first xs), length-drop first xs) in
    slice_get-get_or xs (first + i) v within
    ∙ ap Some (sym (get_or-drop first xs i v) ∙ sym (get_or-take (length run) (drop first xs) i v lt) ∙ ap (λ l. get_or l i v) (sym is) ∙ got run i v v e)

-- ---- the rows chain by chain
pub hit_append : (ps : List ℕ) (key : List Value) (n : ℕ) (vs ws : List RowVersion) → rows_hit ps key n (vs ++ ws) ≡ rows_hit ps key n vs ++ rows_hit ps key n ws
hit_append ps key n vs ws = ap (map (λ (v : RowVersion). v.row)) (filter-append (hits ps key n) vs ws) ∙ map-append (λ (v : RowVersion). v.row) (filter (hits ps key n) vs) (filter (hits ps key n) ws)

state_chain : (n i : ℕ) (cs : List (List RowVersion)) → i < length cs → state_at n (joined (drop i cs)) ≡ state_at n (chain_at cs i) ++ state_at n (joined (drop (i + 1) cs))
state_chain n i cs lt = ap (λ l. state_at n (joined l)) (drop_more cs i [] lt) ∙ state_append n (chain_at cs i) (joined (drop (i + 1) cs))

pub chain_step : (n i : ℕ) (rows : List (List Value)) (cs : List (List RowVersion)) → i < length cs → (rows ++ state_at n (chain_at cs i)) ++ state_at n (joined (drop (i + 1) cs)) ≡ rows ++ state_at n (joined (drop i cs))
chain_step n i rows cs lt = append_assoc rows (state_at n (chain_at cs i)) (state_at n (joined (drop (i + 1) cs))) ∙ ap (λ l. rows ++ l) (sym (state_chain n i cs lt))

pub passing_chain : (p : List Value → Bool) (n i : ℕ) (rows : List (List Value)) (cs : List (List RowVersion)) → i < length cs
    → (rows ++ filter p (state_at n (chain_at cs i))) ++ filter p (state_at n (joined (drop (i + 1) cs))) ≡ rows ++ filter p (state_at n (joined (drop i cs)))
passing_chain p n i rows cs lt =
    append_assoc rows (filter p (state_at n (chain_at cs i))) (filter p (state_at n (joined (drop (i + 1) cs))))
    ∙ ap (λ l. rows ++ l) (sym (filter-append p (state_at n (chain_at cs i)) (state_at n (joined (drop (i + 1) cs)))) ∙ ap (filter p) (sym (state_chain n i cs lt)))

pub hit_chain : (ps : List ℕ) (key : List Value) (n i : ℕ) (rows : List (List Value)) (cs : List (List RowVersion)) → i < length cs
    → (rows ++ rows_hit ps key n (chain_at cs i)) ++ rows_hit ps key n (joined (drop (i + 1) cs)) ≡ rows ++ rows_hit ps key n (joined (drop i cs))
hit_chain ps key n i rows cs lt =
    append_assoc rows (rows_hit ps key n (chain_at cs i)) (rows_hit ps key n (joined (drop (i + 1) cs)))
    ∙ ap (λ l. rows ++ l) (sym (hit_append ps key n (chain_at cs i) (joined (drop (i + 1) cs))) ∙ ap (λ l. rows_hit ps key n (joined l)) (sym (drop_more cs i [] lt)))

-- of those of a run, the one with a number
pub chain_within : {X : Type 0} (cs : List (List X)) (first k i : ℕ) → i < k → chain_at (take k (drop first cs)) i ≡ chain_at cs (first + i)
chain_within cs first k i lt = get_or-take k (drop first cs) i [] lt ∙ get_or-drop first cs i []

pub run_long : {X : Type 0} (cs : List (List X)) (first k : ℕ) → first + k ≤ length cs → length (take k (drop first cs)) ≡ k
run_long cs first k le = length-take-le k (drop first cs) (omega (arith, length-drop first cs, le))

-- ---- runs of chains
run_of_chains : (n at end k : ℕ) (cs : List (List RowVersion)) → at + k ≤ end → state_at n (joined (take k (drop at cs))) ++ state_at n (joined (drop (at + k) (take end cs))) ≡ state_at n (joined (drop at (take end cs)))
run_of_chains n at end k cs le =
    let run = take k (drop at cs) in
    let rest = drop (at + k) (take end cs) in
    sym (state_append n (joined run) (joined rest)) ∙ ap (state_at n) (sym (joined_append run rest) ∙ ap joined (split_run at end k cs le))

pub chains_step : (n at end k : ℕ) (rows : List (List Value)) (cs : List (List RowVersion)) → at + k ≤ end
    → (rows ++ state_at n (joined (take k (drop at cs)))) ++ state_at n (joined (drop (at + k) (take end cs))) ≡ rows ++ state_at n (joined (drop at (take end cs)))
chains_step n at end k rows cs le =
    append_assoc rows (state_at n (joined (take k (drop at cs)))) (state_at n (joined (drop (at + k) (take end cs)))) ∙ ap (λ l. rows ++ l) (run_of_chains n at end k cs le)

pub passing_chains : (p : List Value → Bool) (n at end k : ℕ) (rows : List (List Value)) (cs : List (List RowVersion)) → at + k ≤ end
    → (rows ++ filter p (state_at n (joined (take k (drop at cs))))) ++ filter p (state_at n (joined (drop (at + k) (take end cs)))) ≡ rows ++ filter p (state_at n (joined (drop at (take end cs))))
passing_chains p n at end k rows cs le =
    let run = state_at n (joined (take k (drop at cs))) in
    let rest = state_at n (joined (drop (at + k) (take end cs))) in
    append_assoc rows (filter p run) (filter p rest) ∙ ap (λ l. rows ++ l) (sym (filter-append p run rest) ∙ ap (filter p) (run_of_chains n at end k cs le))

pub no_chain_left : (n end at : ℕ) (cs : List (List RowVersion)) → end ≤ at → state_at n (joined (drop at (take end cs))) ≡ []
no_chain_left n end at cs le = ap (λ l. state_at n (joined l)) (drop_all at (take end cs) (omega (arith, length-take end cs, le)))

-- ---- what a chain shows
pub chain_shows : (n i : ℕ) (cs : List (List RowVersion)) (o : Option RowVersion) → i < length cs → AreHistories cs → o ≡ newest_that (came_by n) (chain_at cs i) → state_at n (chain_at cs i) ≡ shown_by n o
chain_shows n i cs o lt h e = shown_in n (chain_at cs i) (at_chain (Apart Succeeds) cs i lt h) ∙ ap (shown_by n) (sym e)

pub chain_hits : (ps : List ℕ) (key : List Value) (n i : ℕ) (cs : List (List RowVersion)) (v : RowVersion) → i < length cs → AreHistories cs → Some v ≡ newest_that (came_by n) (chain_at cs i)
    → rows_hit ps key n (chain_at cs i) ≡ rows_hit ps key n (v ∷ [])
chain_hits ps key n i cs v lt h e =
    hit_rows ps key n (chain_at cs i) ∙ ap (rows_with ps key) (chain_shows n i cs (Some v) lt h e) ∙ sym (hit_rows ps key n (v ∷ []))

pub chain_misses : (ps : List ℕ) (key : List Value) (n i : ℕ) (cs : List (List RowVersion)) → i < length cs → AreHistories cs → None ≡ newest_that (came_by n) (chain_at cs i) → rows_hit ps key n (chain_at cs i) ≡ []
chain_misses ps key n i cs lt h e = hit_rows ps key n (chain_at cs i) ∙ ap (rows_with ps key) (chain_shows n i cs None lt h e)

-- ---- chains between two bounds
take_past : {X : Type 0} (c b d : List X) → take (length (c ++ b)) (c ++ d) ≡ c ++ take (length b) d
take_past [] b d = refl
take_past (x ∷ c) b d = ap (λ l. x ∷ l) (take_past c b d)

drop_past : {X : Type 0} (c a b d : List X) → drop (length (c ++ a)) (take (length (c ++ b)) (c ++ d)) ≡ drop (length a) (take (length b) d)
drop_past [] a b d = refl
drop_past (x ∷ c) a b d = drop_past c a b d

none_there : {X : Type 0} (i : ℕ) → drop {A = X} i [] ≡ []
none_there zero = refl
none_there (suc i) = refl

joined_take : {X : Type 0} (j : ℕ) (cs : List (List X)) → joined (take j cs) ≡ take (before cs j) (joined cs)
joined_take zero cs = refl
joined_take (suc j) [] = refl
joined_take (suc j) (c ∷ cs) = ap (λ l. c ++ l) (joined_take j cs) ∙ sym (take_past c (joined (take j cs)) (joined cs))

joined_between : {X : Type 0} (i j : ℕ) (cs : List (List X)) → joined (drop i (take j cs)) ≡ drop (before cs i) (take (before cs j) (joined cs))
joined_between zero j cs = joined_take j cs
joined_between (suc i) zero cs = sym (none_there (before cs (suc i)))
joined_between (suc i) (suc j) [] = refl
joined_between (suc i) (suc j) (c ∷ cs) = joined_between i j cs ∙ sym (drop_past c (joined (take i cs)) (joined (take j cs)) (joined cs))

low_place : (key : List ℕ) (low : Option (Bor (List Value))) (first : ℕ) (cs : List (List RowVersion)) → MatchOption low (first ≡ 0) (λ values. IsCut (is_upto (take (length values.now) key) values.now false) (before cs first) (joined cs))
    → MatchOption low (before cs first ≡ 0) (λ values. IsCut (is_upto (take (length values.now) key) values.now false) (before cs first) (joined cs))
low_place key None first cs is = ap (before cs) is
low_place key (Some low) first cs cut = cut

high_place : (key : List ℕ) (high : Option (Bor (List Value))) (end : ℕ) (cs : List (List RowVersion)) → MatchOption high (end ≡ length cs) (λ values. IsCut (is_upto (take (length values.now) key) values.now true) (before cs end) (joined cs))
    → MatchOption high (before cs end ≡ length (joined cs)) (λ values. IsCut (is_upto (take (length values.now) key) values.now true) (before cs end) (joined cs))
high_place key None end cs is = ap (before cs) is ∙ before_all cs
high_place key (Some high) end cs cut = cut

pub rows_between_chains : (key : List ℕ) (low high : Option (Bor (List Value))) (n first end : ℕ) (cs : List (List RowVersion)) → MatchOption low (first ≡ 0) (λ values. IsCut (is_upto (take (length values.now) key) values.now false) (before cs first) (joined cs))
    → MatchOption high (end ≡ length cs) (λ values. IsCut (is_upto (take (length values.now) key) values.now true) (before cs end) (joined cs))
    → state_at n (joined (drop first (take end cs))) ≡ rows_within key (option_copied low) (option_copied high) (state_at n (joined cs))
rows_between_chains key low high n first end cs a b =
    ap (state_at n) (joined_between first end cs)
    ∙ rows_between_cuts key low high n (before cs first) (before cs end) (joined cs) (low_place key low first cs a) (high_place key high end cs b)

-- ---- a test of first key values says the same of all versions of a chain
key_agrees : (ps : List ℕ) (values : List Value) (b : Bool) (v w : RowVersion) → values_at ps v.row ≡ values_at ps w.row → is_upto ps values b v ≡ is_upto ps values b w
key_agrees ps values b v w e = ap (λ q. reaches_by (row_cmp q values) b) e

first_values : (k : ℕ) (ps : List ℕ) (v w : RowVersion) → HaveOneKey ps v w → values_at (take k ps) v.row ≡ values_at (take k ps) w.row
first_values k ps v w e =
    sym (take-map (value_in v.row) k ps) ∙ ap (take k) (row_exact (values_at ps v.row) (values_at ps w.row) e) ∙ take-map (value_in w.row) k ps

pub prefix_agrees : (k : ℕ) (ps : List ℕ) (values : List Value) (b : Bool) (cs : List (List RowVersion)) → AreChains ps cs → AllByRecursion (AgreesOn (is_upto (take k ps) values b)) cs
prefix_agrees k ps values b cs chained = agreeing ps (is_upto (take k ps) values b) (λ v w e. key_agrees (take k ps) values b v w (first_values k ps v w e)) cs chained

pub key_falls : (ps : List ℕ) (key : List Value) (vs : List RowVersion) → Apart (Precedes ps) vs → Falls (is_upto ps key true) vs
key_falls ps key vs stand = subst (λ l. Falls (is_upto l key true) vs) (take-length ps) (prefix_falls (length ps) ps key true vs stand)

pub key_agreeing : (ps : List ℕ) (key : List Value) (cs : List (List RowVersion)) → AreChains ps cs → AllByRecursion (AgreesOn (is_upto ps key true)) cs
key_agreeing ps key cs chained = subst (λ l. AllByRecursion (AgreesOn (is_upto l key true)) cs) (take-length ps) (prefix_agrees (length ps) ps key true cs chained)

-- ---- a key's version
equal_of : (o : Ordering) → is_eq o ≡ true → o ≡ Equal
equal_of Less h = cc
equal_of Equal h = refl
equal_of Greater h = cc

-- one that hits has the key, so none of a greater key does, and none of a lesser one than that of a version up to the key
hit_same : (ps : List ℕ) (key : List Value) (n : ℕ) (v : RowVersion) → hits ps key n v ≡ true → values_at ps v.row ≡ key
hit_same ps key n v e = same_row (values_at ps v.row) key (both (is_at n v) (row_eq (values_at ps v.row) key) e).1

above_misses : (ps : List ℕ) (key : List Value) (n : ℕ) (v : RowVersion) → is_upto ps key true v ≡ false → hits ps key n v ≡ false
above_misses ps key n v h = by (hits ps key n v) refl
  where
    by : (b : Bool) → hits ps key n v ≡ b → b ≡ false
    by false e = refl
    by true e =
        let same = equal_of (row_cmp (values_at ps v.row) key) (both (is_at n v) (row_eq (values_at ps v.row) key) e).1 in
        let there : is_upto ps key true v ≡ true = ap (λ o. reaches_by o true) same in
        cc

below_misses : (ps : List ℕ) (key : List Value) (n : ℕ) (v w : RowVersion) → is_upto ps key true w ≡ true → key_cmp ps v.row w.row ≡ Less → hits ps key n v ≡ false
below_misses ps key n v w h less = by (hits ps key n v) refl
  where
    by : (b : Bool) → hits ps key n v ≡ b → b ≡ false
    by false e = refl
    by true e =
        let lesser : row_cmp key (values_at ps w.row) ≡ Less = ap (λ k. row_cmp k (values_at ps w.row)) (sym (hit_same ps key n v e)) ∙ less in
        let greater : row_cmp (values_at ps w.row) key ≡ Greater = row_total.antisymm (values_at ps w.row) key ∙ ap ordering_reverse lesser in
        let f : is_upto ps key true w ≡ false = ap (λ o. reaches_by o true) greater in
        cc

none_hit : (ps : List ℕ) (key : List Value) (n : ℕ) (vs : List RowVersion) → AllByRecursion (λ v. hits ps key n v ≡ false) vs → rows_hit ps key n vs ≡ []
none_hit ps key n [] a = refl
none_hit ps key n (v ∷ vs) a = ap (λ b. map (λ (w : RowVersion). w.row) (cond b (v ∷ filter (hits ps key n) vs) (filter (hits ps key n) vs))) a.0 ∙ none_hit ps key n vs a.1

pub none_found : (ps : List ℕ) (key : List Value) (n end : ℕ) (cs : List (List RowVersion)) → end ≡ 0 → IsCut (is_upto ps key true) (before cs end) (joined cs) → row_with ps key (state_at n (joined cs)) ≡ None
none_found ps key n end cs is cut =
    let fail = subst (λ i. IsCut (is_upto ps key true) (before cs i) (joined cs)) is cut in
    ap (λ l. slice_get l 0)
    (sym (hit_rows ps key n (joined cs)) ∙ none_hit ps key n (joined cs) (all_weaker (λ v. is_upto ps key true v ≡ false) (λ v. hits ps key n v ≡ false) (above_misses ps key n) (joined cs) fail))

-- a place behind some elements is a place among the others
cut_rest : {X : Type 0} (p : X → Bool) (xs ys : List X) (k m : ℕ) → m ≡ length xs + k → IsCut p m (xs ++ ys) → IsCut p k ys
cut_rest p [] ys k m e cut = let is : m ≡ k = omega (arith, e) in subst (λ i. IsCut p i ys) is cut
cut_rest p (x ∷ xs) ys k zero e cut = absurd (omega (arith, e))
cut_rest p (x ∷ xs) ys k (suc m) e cut = cut_rest p xs ys k m (omega (arith, e)) cut.1

below_at : (ps : List ℕ) (cs : List (List RowVersion)) (i : ℕ) → i < length cs → Apart (IsBelow ps) cs → AllByRecursion (λ c. IsBelow ps c (chain_at cs i)) (take i cs)
below_at ps [] i lt a = absurd (omega arith)
below_at ps (c ∷ cs) zero lt a = tt
below_at ps (c ∷ cs) (suc i) lt a = (all_at (IsBelow ps c) cs i [] (omega arith) a.0, below_at ps cs i (omega arith) a.1)

-- the versions of the key are those of the last chain that is not above it
hits_in : (ps : List ℕ) (key : List Value) (n : ℕ) (ls bs : List RowVersion) (c : List RowVersion) → 0 < length c → AllByRecursion (λ v. AllByRecursion (λ w. key_cmp ps v.row w.row ≡ Less) c) ls
    → IsCut (is_upto ps key true) (length c) (c ++ bs) → rows_hit ps key n (ls ++ (c ++ bs)) ≡ rows_hit ps key n c
hits_in ps key n ls bs [] lt below cut = absurd (omega arith)
hits_in ps key n ls bs (x ∷ c) lt below cut =
    let p = is_upto ps key true in
    let chain = x ∷ c in
    let none = none_hit ps key n ls (all_weaker (λ v. AllByRecursion (λ w. key_cmp ps v.row w.row ≡ Less) chain) (λ v. hits ps key n v ≡ false) (λ v a. below_misses ps key n v x cut.0 a.0) ls below) in
    let fail : IsCut p 0 bs = cut_rest p chain bs 0 (length chain) (omega arith) cut in
    let no_more = none_hit ps key n bs (all_weaker (λ v. p v ≡ false) (λ v. hits ps key n v ≡ false) (above_misses ps key n) bs fail) in
    hit_append ps key n ls (chain ++ bs)
    ∙ ap (λ l. l ++ rows_hit ps key n (chain ++ bs)) none
    ∙ hit_append ps key n chain bs
    ∙ ap (λ l. rows_hit ps key n chain ++ l) no_more
    ∙ append-nil (rows_hit ps key n chain)

abbrev pub found_by : List ℕ → List Value → ℕ → Option RowVersion → Option (List Value)
found_by ps key n None = None
found_by ps key n (Some v) = cond (hits ps key n v) (Some v.row) None

shown_found : (ps : List ℕ) (key : List Value) (n : ℕ) (o : Option RowVersion) → row_with ps key (shown_by n o) ≡ found_by ps key n o
shown_found ps key n None = refl
shown_found ps key n (Some v) = ap (λ l. slice_get l 0) (sym (hit_rows ps key n (v ∷ []))) ∙ by (hits ps key n v)
  where
    by : (b : Bool) → slice_get (map (λ (w : RowVersion). w.row) (cond b (v ∷ []) [])) 0 ≡ cond b (Some v.row) None
    by true = refl
    by false = refl

pub found_last : (ps : List ℕ) (key : List Value) (n i end : ℕ) (cs : List (List RowVersion)) (o : Option RowVersion) → end ≡ i + 1 → end ≤ length cs → 0 < length (chain_at cs i) → Apart (Precedes ps) (joined cs) → AreChains ps cs
    → IsCut (is_upto ps key true) (before cs end) (joined cs) → o ≡ newest_that (came_by n) (chain_at cs i) → row_with ps key (state_at n (joined cs)) ≡ found_by ps key n o
found_last ps key n i end cs o is le some stand chained cut e =
    let p = is_upto ps key true in
    let c = chain_at cs i in
    let ls = joined (take i cs) in
    let bs = joined (drop (suc i) cs) in
    let lt : i < length cs = omega (arith, is, le) in
    let parts : joined cs ≡ ls ++ (c ++ bs) = joined_at cs i lt in
    let upto : IsCut p (before cs (i + 1)) (ls ++ (c ++ bs)) = subst (λ l. IsCut p (before cs (i + 1)) l) parts (subst (λ k. IsCut p (before cs k) (joined cs)) is cut) in
    let here : IsCut p (length c) (c ++ bs) = cut_rest p ls (c ++ bs) (length c) (before cs (i + 1)) (before_next cs i lt) upto in
    let below : AllByRecursion (λ v. AllByRecursion (λ w. key_cmp ps v.row w.row ≡ Less) c) ls =
    all_joined (λ v. AllByRecursion (λ w. key_cmp ps v.row w.row ≡ Less) c) (take i cs) (below_at ps cs i lt chained.1) in
    ap (λ l. slice_get l 0)
    (sym (hit_rows ps key n (joined cs)) ∙ ap (rows_hit ps key n) parts ∙ hits_in ps key n ls bs c some below here ∙ hit_rows ps key n c)
    ∙ ap (row_with ps key) (chain_shows n i cs o lt (histories ps cs stand chained) e)
    ∙ shown_found ps key n o

-- ---- what a read finds
pub read_none : (ps keys : List ℕ) (key : List Value) (n end : ℕ) (cs chains : List (List RowVersion)) → ps ≡ keys → cs ≡ chains → end ≡ 0 → IsCut (is_upto ps key true) (before cs end) (joined cs) → row_with keys key (state_at n (joined chains)) ≡ None
read_none ps keys key n end cs chains is same zeroth cut = ap₂ (λ k l. row_with k key (state_at n (joined l))) (sym is) (sym same) ∙ none_found ps key n end cs zeroth cut

pub read_found : (ps keys : List ℕ) (key : List Value) (n end : ℕ) (cs chains : List (List RowVersion)) (v : RowVersion) (o : Option RowVersion) → ps ≡ keys → cs ≡ chains → 0 < end → end ≤ length cs → newest_of (chain_at cs (end - 1)) ≡ Some v
    → Apart (Precedes keys) (joined chains) → AreChains keys chains → IsCut (is_upto ps key true) (before cs end) (joined cs) → o ≡ newest_that (came_by n) (chain_at cs (end - 1))
    → row_with keys key (state_at n (joined chains)) ≡ found_by ps key n o
read_found ps keys key n end cs chains v o is same more le e stand chained cut found =
    let stand' : Apart (Precedes ps) (joined cs) = subst (λ k. Apart (Precedes k) (joined cs)) (sym is) (subst (λ l. Apart (Precedes keys) (joined l)) (sym same) stand) in
    let chained' : AreChains ps cs = subst (λ k. AreChains k cs) (sym is) (subst (AreChains keys) (sym same) chained) in
    let next : end ≡ (end - 1) + 1 = omega (arith, more) in
    ap₂ (λ k l. row_with k key (state_at n (joined l))) (sym is) (sym same)
    ∙ found_last ps key n (end - 1) end cs o next le (newest_some (chain_at cs (end - 1)) v e) stand' chained' cut found
