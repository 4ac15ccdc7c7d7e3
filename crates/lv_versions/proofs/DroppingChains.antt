-- Chains that a clean-up shortens, and orders that are filled chain by chain.
use Rattle.std.proofs.Common.{◌≡◌, ℕ, zero, suc, ◌+◌, ◌-◌, ◌<◌, ◌≤◌, Bool, true, false, cond, not, List, [], ◌∷◌, ◌++◌, append_assoc, length, filter, set, take, drop, Option, Some, None, refl, sym, ap, ◌∙◌, subst, arith}
use Rattle.std.specs.Prelude.{◌==◌, nat_eq, nat_lt, is_none, slice_get}
use Rattle.std.specs.List.{AllByRecursion, remove}
use Rattle.std.specs.Ordering.{is_lt, nat_cmp, ordering_then}
use Rattle.std.specs.declared.cmp.Ordering.{Ordering}
use Rattle.std.specs.declared.cmp.Ordering.TheVariants.{Less, Equal, Greater}
use Rattle.std.proofs.lemmas.Bool.Decides.{nat_tests}
use Rattle.std.proofs.lemmas.Cmp.{tied_itself}
use Rattle.std.proofs.lemmas.List.{append-nil, take_more}
use Rattle.std.proofs.lemmas.List.Elements.{filter-append}
use Rattle.lv_values.specs.declared.value.Value.{Value}
use Rattle.lv_values.specs.Ascending.{placed}
use Rattle.lv_values.specs.Order.{row_cmp}
use Rattle.lv_values.specs.OrderLaws.{row_exact, row_total}
use Rattle.lv_values.specs.Rows.{key_cmp, values_at}
use Rattle.lv_schema.proofs.Apart.{all_append, all_both, all_filter, all_weaker, apart_both, apart_filter}
use Rattle.lv_schema.specs.declared.version.RowVersion.{RowVersion}
use Rattle.lv_shelf.specs.Cuts.{Apart, Falls, IsCut}
use Rattle.lv_shelf.specs.Shelves.{LacksItem}
use Rattle.lv_shelf.proofs.Among.{all_remove, apart_remove}
use Rattle.lv_shelf.proofs.Cutting.{cut_at, cut_fails, got, got_within}
use Rattle.lv_shelf.specs.Chains.{before, chain_at, joined, kept_in, newest_of, shortened, with_chain}
use Rattle.lv_versions.specs.Versions.{AreChains, AreEnded, AreIndexed, CameBefore, EndsBy, EndsNoLater, EndsSooner, HasEnded, HaveOneKey, IsBelow, IsIn, Lived, Precedes, Succeeds, comes_before, ends_after, index_cmp, is_open, is_over, precedes_by}
use Rattle.lv_versions.proofs.Chaining.{at_chain, all_in, before_all, histories, joined_append, joined_at, newest_flat, oldest_flat}
use Rattle.lv_versions.proofs.Indexing.{in_at, in_part, indexed_next, not_less, place_there}
use Rattle.lv_versions.proofs.Keeping.{all_got, item_there, same_item}
use Rattle.lv_versions.proofs.Standing.{falls_from, precedes_less, true_not_false, version_total}

-- ---- lists in two parts
all_parts : {X : Type 0} (P : X → Type 0) (xs ys : List X) → AllByRecursion P (xs ++ ys) → AllByRecursion P xs × AllByRecursion P ys
all_parts P [] ys a = (tt, a)
all_parts P (x ∷ xs) ys a = let more = all_parts P xs ys a.1 in ((a.0, more.0), more.1)

apart_across : {X : Type 0} (R : X → X → Type 0) (xs ys : List X) → Apart R (xs ++ ys) → AllByRecursion (λ x. AllByRecursion (R x) ys) xs
apart_across R [] ys a = tt
apart_across R (x ∷ xs) ys a = ((all_parts (R x) xs ys a.0).1, apart_across R xs ys a.1)

apart_at : (R : RowVersion → RowVersion → Type 0) (xs : List RowVersion) (i j : ℕ) (x y : RowVersion) → Apart R xs → i < j → slice_get xs i ≡ Some x → slice_get xs j ≡ Some y → R x y
apart_at R [] i j x y a lt e f = cc
apart_at R (z ∷ zs) zero zero x y a lt e f = absurd (omega arith)
apart_at R (z ∷ zs) zero (suc j) x y a lt e f = subst (λ k. R k y) (got (z ∷ zs) zero x x e) (all_got (R z) zs j y f a.0)
apart_at R (z ∷ zs) (suc i) zero x y a lt e f = absurd (omega arith)
apart_at R (z ∷ zs) (suc i) (suc j) x y a lt e f = apart_at R zs i j x y a.1 (omega arith) e f

all_themselves : (vs : List RowVersion) → AllByRecursion (λ v. IsIn v vs) vs
all_themselves [] = tt
all_themselves (v ∷ vs) = ((λ l. l.0 refl), all_weaker (λ w. IsIn w vs) (λ w. IsIn w (v ∷ vs)) (λ w i l. i l.1) vs (all_themselves vs))

all_passing : (P : RowVersion → Type 0) (p : RowVersion → Bool) (vs : List RowVersion) → AllByRecursion P (filter p vs) → AllByRecursion (λ v. p v ≡ true → P v) vs
all_passing P p [] a = tt
all_passing P p (v ∷ vs) a = by (p v) refl a (all_passing P p vs)
  where
    by : (b : Bool) → p v ≡ b → AllByRecursion P (cond b (v ∷ filter p vs) (filter p vs)) → (AllByRecursion P (filter p vs) → AllByRecursion (λ w. p w ≡ true → P w) vs) → AllByRecursion (λ w. p w ≡ true → P w) (v ∷ vs)
    by true e a' ih = ((λ t. a'.0), ih a'.1)
    by false e a' ih = ((λ t. absurd (true_not_false (p v) t e)), ih a')

-- ---- all versions that have ended, in an index
pub earlier_ended : (order : List RowVersion) (at : ℕ) (v : RowVersion) → Apart EndsSooner order → slice_get order at ≡ Some v → LacksItem v (take at order)
earlier_ended [] zero v a e = tt
earlier_ended [] (suc at) v a e = tt
earlier_ended (z ∷ zs) zero v a e = tt
earlier_ended (z ∷ zs) (suc at) v a e = ((all_got (EndsSooner z) zs at v e a.0).1, earlier_ended zs at v a.1 e)

all_taken_in : (P : RowVersion → Type 0) (i : ℕ) (vs : List RowVersion) → AllByRecursion P vs → AllByRecursion P (take i vs)
all_taken_in P zero [] a = tt
all_taken_in P (suc i) [] a = tt
all_taken_in P zero (v ∷ vs) a = tt
all_taken_in P (suc i) (v ∷ vs) a = (a.0, all_taken_in P i vs a.1)

pub ended_next : (cs ps : List ℕ) (order ended us : List RowVersion) (at : ℕ) (v : RowVersion) → Apart (Precedes ps) us → AreEnded ended us → slice_get ended at ≡ Some v → AreIndexed cs ps order (take at ended)
    → AreIndexed cs ps (placed (index_cmp cs ps) v order) (take (at + 1) ended)
ended_next cs ps order ended us at v stand a e filled =
    let more : take (at + 1) ended ≡ take at ended ++ v ∷ [] = take_more ended at v (got_within ended at v e) ∙ ap (λ x. take at ended ++ x ∷ []) (got ended at v v e) in
    subst (AreIndexed cs ps (placed (index_cmp cs ps) v order)) (sym more)
    (indexed_next cs ps order (take at ended) us v stand (all_got (λ w. IsIn w us) ended at v e a.here) (all_taken_in (λ w. IsIn w us) at ended a.here) (earlier_ended ended at v a.ends e) filled)

-- ---- chain by chain
pub taken_next : {X : Type 0} (cs : List (List X)) (i : ℕ) → i < length cs → joined (take (i + 1) cs) ≡ joined (take i cs) ++ chain_at cs i
taken_next cs i lt = ap joined (take_more cs i [] lt) ∙ joined_append (take i cs) (chain_at cs i ∷ []) ∙ ap (λ l. joined (take i cs) ++ l) (append-nil (chain_at cs i))

ended_closed : (n : ℕ) (u : Option ℕ) → EndsBy n u → is_none u ≡ false
ended_closed n None h = absurd h
ended_closed n (Some k) h = refl

-- only the newest version of a chain may be open
open_chain : (c : List RowVersion) (v : RowVersion) → Apart Succeeds c → newest_of c ≡ Some v → filter is_open c ≡ cond (is_open v) (v ∷ []) []
open_chain [] v a e = cc
open_chain (x ∷ []) v a e = ap (λ (y : RowVersion). cond (is_open y) (y ∷ []) []) (got (x ∷ []) 0 v v e)
open_chain (x ∷ y ∷ c) v a e =
    let n : length (x ∷ y ∷ c) - 1 ≡ suc (length (y ∷ c) - 1) = omega arith in
    let f : is_open x ≡ false = ended_closed y.from x.until a.0.0.1 in
    ap (λ b. cond b (x ∷ filter is_open (y ∷ c)) (filter is_open (y ∷ c))) f ∙ open_chain (y ∷ c) v a.1 (subst (λ k. slice_get (x ∷ y ∷ c) k ≡ Some v) n e)

open_next : (ps : List ℕ) (cs : List (List RowVersion)) (i : ℕ) (v : RowVersion) (b : Bool) → Apart (Precedes ps) (joined cs) → AreChains ps cs → i < length cs → newest_of (chain_at cs i) ≡ Some v → is_open v ≡ b
    → filter is_open (joined (take (i + 1) cs)) ≡ filter is_open (joined (take i cs)) ++ cond b (v ∷ []) []
open_next ps cs i v b stand chained lt e h =
    ap (filter is_open) (taken_next cs i lt)
    ∙ filter-append is_open (joined (take i cs)) (chain_at cs i)
    ∙ ap (λ l. filter is_open (joined (take i cs)) ++ l) (open_chain (chain_at cs i) v (at_chain (Apart Succeeds) cs i lt (histories ps cs stand chained)) e ∙ ap (λ t. cond t (v ∷ []) []) h)

pub open_more : (ps : List ℕ) (cs : List (List RowVersion)) (i : ℕ) (v : RowVersion) → Apart (Precedes ps) (joined cs) → AreChains ps cs → i < length cs → newest_of (chain_at cs i) ≡ Some v → is_open v ≡ true
    → filter is_open (joined (take (i + 1) cs)) ≡ filter is_open (joined (take i cs)) ++ v ∷ []
open_more ps cs i v stand chained lt e h = open_next ps cs i v true stand chained lt e h

pub ended_more : (ps : List ℕ) (cs : List (List RowVersion)) (i : ℕ) (v : RowVersion) → Apart (Precedes ps) (joined cs) → AreChains ps cs → i < length cs → newest_of (chain_at cs i) ≡ Some v → is_open v ≡ false
    → filter is_open (joined (take (i + 1) cs)) ≡ filter is_open (joined (take i cs))
ended_more ps cs i v stand chained lt e h = open_next ps cs i v false stand chained lt e h ∙ append-nil (filter is_open (joined (take i cs)))

-- a newest version is in no chain before its own
pub newest_lacks : (ps : List ℕ) (cs : List (List RowVersion)) (i : ℕ) (v : RowVersion) → Apart (Precedes ps) (joined cs) → i < length cs → newest_of (chain_at cs i) ≡ Some v → LacksItem v (joined (take i cs))
newest_lacks ps cs i v stand lt e =
    let c = chain_at cs i in
    let rest = joined (drop (suc i) cs) in
    all_weaker (λ y. AllByRecursion (Precedes ps y) (c ++ rest)) (λ y. y ≡ v → ⊥)
    (λ y r same. not_less (version_total ps) y v same (precedes_less ps y v (all_got (Precedes ps y) c (length c - 1) v e (all_parts (Precedes ps y) c rest r).0)))
    (joined (take i cs)) (apart_across (Precedes ps) (joined (take i cs)) (c ++ rest) (subst (Apart (Precedes ps)) (joined_at cs i lt) stand))

front_in : (cs : List (List RowVersion)) (i : ℕ) → i < length cs → AllByRecursion (λ v. IsIn v (joined cs)) (joined (take i cs))
front_in cs i lt = (all_parts (λ v. IsIn v (joined cs)) (joined (take i cs)) (chain_at cs i ++ joined (drop (suc i) cs)) (subst (AllByRecursion (λ v. IsIn v (joined cs))) (joined_at cs i lt) (all_themselves (joined cs)))).0

-- the index has all that have ended and the open ones of the first chains
abbrev pub filled_to : List RowVersion → List (List RowVersion) → ℕ → List RowVersion
filled_to ended cs i = ended ++ filter is_open (joined (take i cs))

pub open_lacks : (ps : List ℕ) (ended : List RowVersion) (cs : List (List RowVersion)) (i : ℕ) (v : RowVersion) → Apart (Precedes ps) (joined cs) → i < length cs → AreEnded ended (joined cs) → newest_of (chain_at cs i) ≡ Some v → is_open v ≡ true
    → LacksItem v (filled_to ended cs i)
open_lacks ps ended cs i v stand lt a e h =
    all_append (λ y. y ≡ v → ⊥) ended (filter is_open (joined (take i cs)))
    (all_weaker HasEnded (λ y. y ≡ v → ⊥) (λ y f same. true_not_false (is_open v) h (ap is_open (sym same) ∙ f)) ended a.ended)
    (all_filter (λ y. y ≡ v → ⊥) is_open (joined (take i cs)) (newest_lacks ps cs i v stand lt e))

pub filled_next : (columns ps : List ℕ) (order ended : List RowVersion) (cs : List (List RowVersion)) (i : ℕ) (v : RowVersion) → Apart (Precedes ps) (joined cs) → AreChains ps cs → i < length cs → AreEnded ended (joined cs)
    → newest_of (chain_at cs i) ≡ Some v → is_open v ≡ true → AreIndexed columns ps order (filled_to ended cs i) → AreIndexed columns ps (placed (index_cmp columns ps) v order) (filled_to ended cs (i + 1))
filled_next columns ps order ended cs i v stand chained lt a e h filled =
    let front = filter is_open (joined (take i cs)) in
    let more : filled_to ended cs i ++ v ∷ [] ≡ filled_to ended cs (i + 1) = append_assoc ended front (v ∷ []) ∙ ap (λ l. ended ++ l) (sym (open_more ps cs i v stand chained lt e h)) in
    subst (AreIndexed columns ps (placed (index_cmp columns ps) v order)) more
    (indexed_next columns ps order (filled_to ended cs i) (joined cs) v stand (in_at (joined cs) (before cs (i + 1) - 1) v (newest_flat cs i v lt e))
    (all_append (λ y. IsIn y (joined cs)) ended front a.here (all_filter (λ y. IsIn y (joined cs)) is_open (joined (take i cs)) (front_in cs i lt)))
    (open_lacks ps ended cs i v stand lt a e h) filled)

pub filled_same : (columns ps : List ℕ) (order ended : List RowVersion) (cs : List (List RowVersion)) (i : ℕ) (v : RowVersion) → Apart (Precedes ps) (joined cs) → AreChains ps cs → i < length cs
    → newest_of (chain_at cs i) ≡ Some v → is_open v ≡ false → AreIndexed columns ps order (filled_to ended cs i) → AreIndexed columns ps order (filled_to ended cs (i + 1))
filled_same columns ps order ended cs i v stand chained lt e h filled = subst (λ l. AreIndexed columns ps order (ended ++ l)) (sym (ended_more ps cs i v stand chained lt e h)) filled

-- the index has all
pub filled_all : (columns ps : List ℕ) (order ended vs : List RowVersion) → AreEnded ended vs → AreIndexed columns ps order (ended ++ filter is_open vs) → AreIndexed columns ps order vs
filled_all columns ps order ended vs a r =
    let parts = all_parts (λ v. IsIn v order) ended (filter is_open vs) r.all in
    record {
      ascends = r.ascends;
      here = all_weaker (λ w. IsIn w (ended ++ filter is_open vs)) (λ w. IsIn w vs)
          (λ w i. in_part (ended ++ filter is_open vs) vs (all_append (λ y. IsIn y vs) ended (filter is_open vs) a.here (all_filter (λ y. IsIn y vs) is_open vs (all_themselves vs))) w i) order r.here;
      all = all_both (λ v. HasEnded v → IsIn v ended) (λ v. is_open v ≡ true → IsIn v order) (λ v. IsIn v order) (λ v i j. by v i j parts.0 (is_open v) refl) vs a.all (all_passing (λ v. IsIn v order) is_open vs parts.1);
    }
  where
    by : (v : RowVersion) → (HasEnded v → IsIn v ended) → (is_open v ≡ true → IsIn v order) → AllByRecursion (λ w. IsIn w order) ended → (b : Bool) → is_open v ≡ b → IsIn v order
    by v i j all true e = j e
    by v i j all false e = in_part ended order all v (i e)

-- ---- the version that ended first
-- a version that a key alone is before
lower_only : (o : Ordering) (n : ℕ) → is_lt (ordering_then o (nat_cmp n 0)) ≡ is_lt o
lower_only Less n = refl
lower_only Equal n =
    let e : nat_lt n 0 ≡ false = grind (arith, nat_tests) in
    by (nat_eq n 0) refl e
  where
    by : (b : Bool) → nat_eq n 0 ≡ b → nat_lt n 0 ≡ false → is_lt (nat_cmp n 0) ≡ false
    by true f e = rw (e, f) refl
    by false f e = rw (e, f) refl
lower_only Greater n = refl

pub below_agrees : (ps : List ℕ) (row : List Value) (v w : RowVersion) → HaveOneKey ps v w → comes_before ps row 0 v ≡ comes_before ps row 0 w
below_agrees ps row v w e =
    lower_only (key_cmp ps v.row row) v.from
    ∙ ap (λ k. is_lt (row_cmp k (values_at ps row))) (row_exact (values_at ps v.row) (values_at ps w.row) e)
    ∙ sym (lower_only (key_cmp ps w.row row) w.from)

clash : (n : ℕ) (u t : Option ℕ) → CameBefore n u → EndsBy n t → EndsNoLater u t → ⊥
clash n None t l b r = r
clash n (Some k) None l b r = b
clash n (Some k) (Some j) l b r = absurd (omega (arith, l, b, r))

-- no older one of its key is there
no_older : (v w : RowVersion) (order : List RowVersion) → slice_get order 0 ≡ Some v → Apart EndsSooner order → Lived v → Succeeds w v → IsIn w order → ⊥
no_older v w [] e a l s i = cc
no_older v w (x ∷ rest) e a l s i =
    let is : x ≡ v = got (x ∷ rest) zero v v e in
    i (
      (λ same. let n : v.from ≡ w.from = ap (λ (y : RowVersion). y.from) (sym is ∙ same) in let lt = s.0 in absurd (omega arith)),
      all_weaker (EndsSooner x) (λ y. y ≡ w → ⊥) (λ y r same. clash v.from v.until w.until l s.1 (subst (λ z. EndsNoLater v.until z.until) same (subst (λ z. EndsNoLater z.until y.until) is r.0))) rest a.0,
    )

pub first_there : (ps : List ℕ) (v : RowVersion) (order vs : List RowVersion) (at : ℕ) → slice_get order 0 ≡ Some v → Apart (Precedes ps) vs → AllByRecursion Lived vs → AreEnded order vs → IsCut (comes_before ps v.row 0) at vs → slice_get vs at ≡ Some v
first_there ps v order vs at e stand lived a cut = by (nat_lt at there.0) refl (nat_lt there.0 at) refl
  where
    there : (j : ℕ) × (slice_get vs j ≡ Some v)
    there = place_there ps vs v stand (all_got (λ w. IsIn w vs) order 0 v e a.here)

    itself : comes_before ps v.row 0 v ≡ false
    itself = lower_only (key_cmp ps v.row v.row) v.from ∙ ap is_lt (tied_itself row_total (values_at ps v.row))

    not_later : there.0 < at → ⊥
    not_later lt = true_not_false (comes_before ps v.row 0 v) (subst (λ w. comes_before ps v.row 0 w ≡ true) (got vs there.0 v v there.1) (cut_at (comes_before ps v.row 0) at there.0 vs v cut lt)) itself

    not_earlier : at < there.0 → ⊥
    not_earlier lt = key (key_cmp ps w.0.row v.row) refl r
      where
        w : (x : RowVersion) × (slice_get vs at ≡ Some x)
        w = let long = got_within vs there.0 v there.1 in item_there vs at (omega (arith, lt, long))

        r : Precedes ps w.0 v
        r = apart_at (Precedes ps) vs at there.0 w.0 v stand lt w.1 there.1

        fails : comes_before ps v.row 0 w.0 ≡ false
        fails = subst (λ x. comes_before ps v.row 0 x ≡ false) (got vs at w.0 v w.1) (cut_fails (comes_before ps v.row 0) at at vs v cut (omega arith) (got_within vs at w.0 w.1))

        key : (o : Ordering) → key_cmp ps w.0.row v.row ≡ o → precedes_by o w.0 v → ⊥
        key Less f r' = true_not_false (comes_before ps v.row 0 w.0) (lower_only (key_cmp ps w.0.row v.row) w.0.from ∙ ap is_lt f) fails
        key Equal f r' = no_older v w.0 order e a.ends (all_got Lived vs there.0 v there.1 lived) r' (all_got (λ x. HasEnded x → IsIn x order) vs at w.0 w.1 a.all (ended_closed v.from w.0.until r'.1))
        key Greater f r' = r'

    by : (b : Bool) → nat_lt at there.0 ≡ b → (c : Bool) → nat_lt there.0 at ≡ c → slice_get vs at ≡ Some v
    by true f c g = let lt : at < there.0 = grind (arith, nat_tests) in absurd (not_earlier lt)
    by false f true g = let lt : there.0 < at = grind (arith, nat_tests) in absurd (not_later lt)
    by false f false g = let is : there.0 ≡ at = grind (arith, nat_tests) in subst (λ j. slice_get vs j ≡ Some v) is there.1

pub chain_within : {X : Type 0} (cs : List (List X)) (i : ℕ) → i ≤ length cs → before cs i < length (joined cs) → i < length cs
chain_within cs i le lt = by (nat_lt i (length cs)) refl
  where
    by : (b : Bool) → nat_lt i (length cs) ≡ b → i < length cs
    by true e = grind (arith, nat_tests)
    by false e =
        let is : i ≡ length cs = grind (arith, nat_tests) in
        let all : before cs i ≡ length (joined cs) = ap (before cs) is ∙ before_all cs in
        absurd (omega arith)

-- it is the oldest of the first chain that is not below its key
pub first_oldest : (ps : List ℕ) (v o : RowVersion) (order : List RowVersion) (cs : List (List RowVersion)) (i : ℕ) → slice_get order 0 ≡ Some v → Apart (Precedes ps) (joined cs) → AllByRecursion Lived (joined cs) → AreEnded order (joined cs)
    → IsCut (comes_before ps v.row 0) (before cs i) (joined cs) → i ≤ length cs → slice_get (chain_at cs i) 0 ≡ Some o
    → (i < length cs) × (slice_get (joined cs) (before cs i) ≡ Some v) × (slice_get (chain_at cs i) 0 ≡ Some v)
first_oldest ps v o order cs i e stand lived a cut le oldest =
    let found = first_there ps v order (joined cs) (before cs i) e stand lived a cut in
    let within = chain_within cs i le (got_within (joined cs) (before cs i) v found) in
    (within, found, subst (λ w. slice_get (chain_at cs i) 0 ≡ Some w) (same_item (joined cs) (before cs i) o v (oldest_flat cs i o within oldest) found) oldest)

-- ---- a chain without its oldest
all_rest : {X : Type 0} (P : X → Type 0) (c : List X) → AllByRecursion P c → AllByRecursion P (drop 1 c)
all_rest P [] a = tt
all_rest P (x ∷ c) a = a.1

apart_rest : {X : Type 0} (R : X → X → Type 0) (c : List X) → Apart R c → Apart R (drop 1 c)
apart_rest R [] a = tt
apart_rest R (x ∷ c) a = a.1

all_set_rest : {X : Type 0} (P : List X → Type 0) → ((c : List X) → P c → P (drop 1 c)) → (cs : List (List X)) (i : ℕ) → AllByRecursion P cs → AllByRecursion P (set cs i (drop 1 (chain_at cs i)))
all_set_rest P f [] zero a = tt
all_set_rest P f [] (suc i) a = tt
all_set_rest P f (c ∷ cs) zero a = (f c a.0, a.1)
all_set_rest P f (c ∷ cs) (suc i) a = (a.0, all_set_rest P f cs i a.1)

apart_set_rest : {X : Type 0} (R : List X → List X → Type 0) → ((c d : List X) → R c d → R (drop 1 c) d) → ((c d : List X) → R c d → R c (drop 1 d)) → (cs : List (List X)) (i : ℕ) → Apart R cs → Apart R (set cs i (drop 1 (chain_at cs i)))
apart_set_rest R f g [] zero a = tt
apart_set_rest R f g [] (suc i) a = tt
apart_set_rest R f g (c ∷ cs) zero a = (all_weaker (R c) (R (drop 1 c)) (λ d r. f c d r) cs a.0, a.1)
apart_set_rest R f g (c ∷ cs) (suc i) a = (all_set_rest (R c) (λ d r. g c d r) cs i a.0, apart_set_rest R f g cs i a.1)

below_weaker : (ps : List ℕ) (c d d' : List RowVersion) → ((P : RowVersion → Type 0) → AllByRecursion P d → AllByRecursion P d') → IsBelow ps c d → IsBelow ps c d'
below_weaker ps c d d' f b = all_weaker (λ v. AllByRecursion (λ w. key_cmp ps v.row w.row ≡ Less) d) (λ v. AllByRecursion (λ w. key_cmp ps v.row w.row ≡ Less) d') (λ v r. f (λ w. key_cmp ps v.row w.row ≡ Less) r) c b

pub chained_shortened : (ps : List ℕ) (cs : List (List RowVersion)) (i : ℕ) → AreChains ps cs → AreChains ps (shortened cs i)
chained_shortened ps cs i a = by (length (chain_at cs i) == 1)
  where
    by : (b : Bool) → AreChains ps (cond b (remove cs i) (set cs i (drop 1 (chain_at cs i))))
    by true = (all_remove (Apart (HaveOneKey ps)) cs i a.0, apart_remove (IsBelow ps) cs i a.1)
    by false = (
      all_set_rest (Apart (HaveOneKey ps)) (λ c r. apart_rest (HaveOneKey ps) c r) cs i a.0,
      apart_set_rest (IsBelow ps) (λ c d r. all_rest (λ v. AllByRecursion (λ w. key_cmp ps v.row w.row ≡ Less) d) c r) (λ c d r. below_weaker ps c d (drop 1 d) (λ P q. all_rest P d q) r) cs i a.1,
    )

-- ---- chains of those that are kept
module _ {X : Type 0} (p : X → Bool) where
  all_with : (P : List X → Type 0) (c : List X) (cs : List (List X)) → P c → AllByRecursion P cs → AllByRecursion P (with_chain c cs)
  all_with P [] cs a b = b
  all_with P (x ∷ c) cs a b = (a, b)

  apart_with : (R : List X → List X → Type 0) (c : List X) (cs : List (List X)) → AllByRecursion (R c) cs → Apart R cs → Apart R (with_chain c cs)
  apart_with R [] cs a b = b
  apart_with R (x ∷ c) cs a b = (a, b)

  all_kept_in : (P : List X → Type 0) → ((c : List X) → P c → P (filter p c)) → (cs : List (List X)) → AllByRecursion P cs → AllByRecursion P (kept_in p cs)
  all_kept_in P f [] a = tt
  all_kept_in P f (c ∷ cs) a = all_with P (filter p c) (kept_in p cs) (f c a.0) (all_kept_in P f cs a.1)

  apart_kept_in : (R : List X → List X → Type 0) → ((c d : List X) → R c d → R (filter p c) d) → ((c d : List X) → R c d → R c (filter p d)) → (cs : List (List X)) → Apart R cs → Apart R (kept_in p cs)
  apart_kept_in R f g [] a = tt
  apart_kept_in R f g (c ∷ cs) a =
      apart_with R (filter p c) (kept_in p cs) (all_kept_in (R (filter p c)) (λ d r. g (filter p c) d r) cs (all_weaker (R c) (R (filter p c)) (λ d r. f c d r) cs a.0)) (apart_kept_in R f g cs a.1)

pub chained_kept : (ps : List ℕ) (p : RowVersion → Bool) (cs : List (List RowVersion)) → AreChains ps cs → AreChains ps (kept_in p cs)
chained_kept ps p cs a = (
  all_kept_in p (Apart (HaveOneKey ps)) (λ c r. apart_filter (HaveOneKey ps) p c r) cs a.0,
  apart_kept_in p (IsBelow ps) (λ c d r. all_filter (λ v. AllByRecursion (λ w. key_cmp ps v.row w.row ≡ Less) d) p c r) (λ c d r. below_weaker ps c d (filter p d) (λ P q. all_filter P p d q) r) cs a.1,
)

-- in a chain none that goes is newer than one that stays
older_over : (floor from : ℕ) (u t : Option ℕ) → EndsBy from u → CameBefore from t → not (ends_after floor t) ≡ true → not (ends_after floor u) ≡ true
older_over floor from None t b l h = absurd b
older_over floor from (Some k) None b l h = cc
older_over floor from (Some k) (Some j) b l h = let f : nat_lt floor k ≡ false = by (nat_lt floor j) refl h in ap not f
  where
    by : (s : Bool) → nat_lt floor j ≡ s → not s ≡ true → nat_lt floor k ≡ false
    by true e t' = cc
    by false e t' = grind (arith, nat_tests)

abbrev Replaces : RowVersion → RowVersion → Type 0
Replaces v w = Succeeds v w × Lived w

chain_over : (floor : ℕ) (c : List RowVersion) → Apart Succeeds c → AllByRecursion Lived c → Falls (is_over floor) c
chain_over floor c a l = falls_from (is_over floor) Replaces (λ v w r t. older_over floor w.from v.until w.until r.0.1 r.1 t) c (apart_both Lived Succeeds Replaces (λ v w k m s. (s, m)) c l a)

pub chains_over : (ps : List ℕ) (floor : ℕ) (cs : List (List RowVersion)) → Apart (Precedes ps) (joined cs) → AreChains ps cs → AllByRecursion Lived (joined cs) → AllByRecursion (Falls (is_over floor)) cs
chains_over ps floor cs stand chained lived = all_both (Apart Succeeds) (AllByRecursion Lived) (Falls (is_over floor)) (λ c a l. chain_over floor c a l) cs (histories ps cs stand chained) (all_in Lived cs lived)
