-- Chains of versions, and all of them as one list.
use Rattle.std.proofs.Common.{◌≡◌, ℕ, zero, suc, ◌+◌, ◌-◌, ◌<◌, ◌≤◌, Bool, true, false, not, cond, List, [], ◌∷◌, ◌++◌, length, length-append, append_assoc, map, take, drop, filter, set, Option, Some, None, refl, sym, ap, ap₂, ◌∙◌, subst, arith}
use Rattle.std.specs.Prelude.{◌&&◌, slice_get, nat_le, nat_lt}
use Rattle.std.specs.List.{AllByRecursion}
use Rattle.std.specs.Ordering.{is_gt, is_lt, nat_cmp, ordering_reverse, ordering_then}
use Rattle.std.specs.declared.cmp.Ordering.{Ordering}
use Rattle.std.specs.declared.cmp.Ordering.TheVariants.{Less, Equal, Greater}
use Rattle.std.proofs.lemmas.Bool.Decides.{nat_tests}
use Rattle.std.proofs.lemmas.List.{length-map, map-append, take_all}
use Rattle.lv_values.specs.declared.value.Value.{Value}
use Rattle.lv_values.specs.Order.{row_cmp}
use Rattle.lv_values.specs.OrderLaws.{row_exact}
use Rattle.lv_values.specs.Rows.{key_cmp, values_at}
use Rattle.lv_schema.specs.declared.version.RowVersion.{RowVersion}
use Rattle.lv_schema.proofs.Apart.{all_append, all_both, all_weaker}
use Rattle.lv_schema.proofs.NetsLead.{key_total}
use Rattle.lv_shelf.specs.Cuts.{Apart, Falls, IsCut}
use Rattle.lv_shelf.specs.Shelves.{ChangesOnly}
use Rattle.lv_shelf.proofs.Cutting.{all_at}
use Rattle.lv_shelf.specs.Chains.{AgreesOn, before, chain_at, joined, later_or, newest_of, newest_that}
use Rattle.lv_versions.specs.Versions.{AreChains, AreHistories, EndsBy, HaveOneKey, IsBelow, IsOlder, Precedes, Succeeds, came_by, closed, comes_before, ends_after, is_at, precedes_by, state_at, upto}
use Rattle.lv_versions.proofs.Standing.{falls_from, less_of}

and_false : (a b : Bool) → b ≡ false → (a && b) ≡ false
and_false true b e = e
and_false false b e = refl

-- ---- any chains
pub joined_append : {X : Type 0} (ls bs : List (List X)) → joined (ls ++ bs) ≡ joined ls ++ joined bs
joined_append [] bs = refl
joined_append (c ∷ ls) bs = ap (λ l. c ++ l) (joined_append ls bs) ∙ sym (append_assoc c (joined ls) (joined bs))

pub joined_map : {X Y : Type 0} (f : X → Y) (cs : List (List X)) → joined (map (map f) cs) ≡ map f (joined cs)
joined_map f [] = refl
joined_map f (c ∷ cs) = ap (λ l. map f c ++ l) (joined_map f cs) ∙ sym (map-append f c (joined cs))

take_map : {X Y : Type 0} (f : X → Y) (i : ℕ) (xs : List X) → take i (map f xs) ≡ map f (take i xs)
take_map f zero xs = refl
take_map f (suc i) [] = refl
take_map f (suc i) (x ∷ xs) = ap (λ l. f x ∷ l) (take_map f i xs)

pub before_map : {X Y : Type 0} (f : X → Y) (cs : List (List X)) (i : ℕ) → before (map (map f) cs) i ≡ before cs i
before_map f cs i = ap (λ l. length (joined l)) (take_map (map f) i cs) ∙ ap length (joined_map f (take i cs)) ∙ length-map (joined (take i cs)) f

pub chain_at_map : {X Y : Type 0} (f : X → Y) (cs : List (List X)) (i : ℕ) → chain_at (map (map f) cs) i ≡ map f (chain_at cs i)
chain_at_map f [] i = refl
chain_at_map f (c ∷ cs) zero = refl
chain_at_map f (c ∷ cs) (suc i) = chain_at_map f cs i

pub before_next : {X : Type 0} (cs : List (List X)) (i : ℕ) → i < length cs → before cs (i + 1) ≡ before cs i + length (chain_at cs i)
before_next cs i lt = ap (before cs) (let e : i + 1 ≡ suc i = omega arith in e) ∙ go cs i lt
  where
    go : {X : Type 0} (cs : List (List X)) (i : ℕ) → i < length cs → before cs (suc i) ≡ before cs i + length (chain_at cs i)
    go [] i lt = absurd (omega arith)
    go (c ∷ cs) zero lt = length-append c [] ∙ (let e : length c + 0 ≡ 0 + length c = omega arith in e)
    go (c ∷ cs) (suc i) lt =
        let ih = go cs i (omega arith) in
        let a = length-append c (joined (take (suc i) cs)) in
        let b = length-append c (joined (take i cs)) in
        omega (arith, ih, a, b)

pub before_long : {X : Type 0} (cs : List (List X)) (i : ℕ) → before cs i ≤ length (joined cs)
before_long cs zero = omega arith
before_long [] (suc i) = omega arith
before_long (c ∷ cs) (suc i) = omega (arith, before_long cs i, length-append c (joined (take i cs)), length-append c (joined cs))

pub before_all : {X : Type 0} (cs : List (List X)) → before cs (length cs) ≡ length (joined cs)
before_all cs = ap (λ l. length (joined l)) (take_all (length cs) cs (omega arith))

-- the list is what stands before a chain, the chain, and what stands behind it
pub joined_at : {X : Type 0} (cs : List (List X)) (i : ℕ) → i < length cs → joined cs ≡ joined (take i cs) ++ (chain_at cs i ++ joined (drop (suc i) cs))
joined_at [] i lt = absurd (omega arith)
joined_at (c ∷ cs) zero lt = refl
joined_at (c ∷ cs) (suc i) lt = ap (λ l. c ++ l) (joined_at cs i (omega arith)) ∙ sym (append_assoc c (joined (take i cs)) (chain_at cs i ++ joined (drop (suc i) cs)))

pub newest_some : {X : Type 0} (c : List X) (v : X) → newest_of c ≡ Some v → 0 < length c
newest_some [] v e = cc
newest_some (x ∷ c) v e = omega arith

pub newest_there : {X : Type 0} (c : List X) → 0 < length c → (v : X) × (newest_of c ≡ Some v)
newest_there [] lt = absurd (omega arith)
newest_there (x ∷ c) lt = read_there (x ∷ c) (length (x ∷ c) - 1) (omega arith)
  where
    read_there : {X : Type 0} (xs : List X) (i : ℕ) → i < length xs → (v : X) × (slice_get xs i ≡ Some v)
    read_there [] i lt = absurd (omega arith)
    read_there (x ∷ xs) zero lt = (x, refl)
    read_there (x ∷ xs) (suc i) lt = read_there xs i (omega arith)

-- what stands at a place of a list that stands in another one
read_behind : {X : Type 0} (ls bs : List X) (k : ℕ) → slice_get (ls ++ bs) (length ls + k) ≡ slice_get bs k
read_behind [] bs k = ap (slice_get bs) (let e : 0 + k ≡ k = omega arith in e)
read_behind (a ∷ ls) bs k = ap (slice_get (a ∷ (ls ++ bs))) (let e : suc (length ls) + k ≡ suc (length ls + k) = omega arith in e) ∙ read_behind ls bs k

read_front : {X : Type 0} (ls bs : List X) (k : ℕ) (v : X) → slice_get ls k ≡ Some v → slice_get (ls ++ bs) k ≡ Some v
read_front [] bs k v e = cc
read_front (a ∷ ls) bs zero v e = e
read_front (a ∷ ls) bs (suc k) v e = read_front ls bs k v e

-- the element at a place of a chain, in the list
pub read_flat : {X : Type 0} (cs : List (List X)) (i k : ℕ) (v : X) → i < length cs → slice_get (chain_at cs i) k ≡ Some v → slice_get (joined cs) (before cs i + k) ≡ Some v
read_flat cs i k v lt e =
    ap (λ l. slice_get l (before cs i + k)) (joined_at cs i lt)
    ∙ read_behind (joined (take i cs)) (chain_at cs i ++ joined (drop (suc i) cs)) k
    ∙ read_front (chain_at cs i) (joined (drop (suc i) cs)) k v e

pub newest_flat : {X : Type 0} (cs : List (List X)) (i : ℕ) (v : X) → i < length cs → newest_of (chain_at cs i) ≡ Some v → slice_get (joined cs) (before cs (i + 1) - 1) ≡ Some v
newest_flat cs i v lt e =
    let some = newest_some (chain_at cs i) v e in
    let place : before cs (i + 1) - 1 ≡ before cs i + (length (chain_at cs i) - 1) = omega (arith, before_next cs i lt, some) in
    ap (slice_get (joined cs)) place ∙ read_flat cs i (length (chain_at cs i) - 1) v lt e

pub oldest_flat : {X : Type 0} (cs : List (List X)) (i : ℕ) (v : X) → i < length cs → slice_get (chain_at cs i) 0 ≡ Some v → slice_get (joined cs) (before cs i) ≡ Some v
oldest_flat cs i v lt e =
    let place : before cs i ≡ before cs i + 0 = omega arith in
    ap (slice_get (joined cs)) place ∙ read_flat cs i 0 v lt e

all_parts : {X : Type 0} (P : X → Type 0) (ls bs : List X) → AllByRecursion P (ls ++ bs) → AllByRecursion P ls × AllByRecursion P bs
all_parts P [] bs a = (tt, a)
all_parts P (x ∷ ls) bs a = let r = all_parts P ls bs a.1 in ((a.0, r.0), r.1)

pub all_in : {X : Type 0} (P : X → Type 0) (cs : List (List X)) → AllByRecursion P (joined cs) → AllByRecursion (AllByRecursion P) cs
all_in P [] a = tt
all_in P (c ∷ cs) a = let r = all_parts P c (joined cs) a in (r.0, all_in P cs r.1)

pub all_joined : {X : Type 0} (P : X → Type 0) (cs : List (List X)) → AllByRecursion (AllByRecursion P) cs → AllByRecursion P (joined cs)
all_joined P [] a = tt
all_joined P (c ∷ cs) a = all_append P c (joined cs) a.0 (all_joined P cs a.1)

apart_parts : {X : Type 0} (R : X → X → Type 0) (ls bs : List X) → Apart R (ls ++ bs) → Apart R ls × Apart R bs
apart_parts R [] bs a = (tt, a)
apart_parts R (x ∷ ls) bs a = let r = apart_parts R ls bs a.1 in (((all_parts (R x) ls bs a.0).0, r.0), r.1)

pub apart_in : {X : Type 0} (R : X → X → Type 0) (cs : List (List X)) → Apart R (joined cs) → AllByRecursion (Apart R) cs
apart_in R [] a = tt
apart_in R (c ∷ cs) a = let r = apart_parts R c (joined cs) a in (r.0, apart_in R cs r.1)

-- what holds of each chain holds of one of them
pub at_chain : {X : Type 0} (P : List X → Type 0) (cs : List (List X)) (i : ℕ) → i < length cs → AllByRecursion P cs → P (chain_at cs i)
at_chain P cs i lt a = all_at P cs i [] lt a

-- a change of the newest element of a chain, where it changes no other
fixed_map : {X : Type 0} (f : X → X) (xs : List X) → AllByRecursion (λ x. f x ≡ x) xs → map f xs ≡ xs
fixed_map f [] a = refl
fixed_map f (x ∷ xs) a = ap₂ (λ y l. y ∷ l) a.0 (fixed_map f xs a.1)

fixed_chains : {X : Type 0} (f : X → X) (cs : List (List X)) → AllByRecursion (λ x. f x ≡ x) (joined cs) → map (map f) cs ≡ cs
fixed_chains f [] a = refl
fixed_chains f (c ∷ cs) a = let r = all_parts (λ x. f x ≡ x) c (joined cs) a in ap₂ (λ y l. y ∷ l) (fixed_map f c r.0) (fixed_chains f cs r.1)

only_front : {X : Type 0} (f : X → X) (ls bs : List X) (k : ℕ) → ChangesOnly f (length ls + k) (ls ++ bs) → AllByRecursion (λ x. f x ≡ x) ls × ChangesOnly f k bs
only_front f [] bs k h = let e : 0 + k ≡ k = omega arith in (tt, subst (λ n. ChangesOnly f n bs) e h)
only_front f (a ∷ ls) bs k h =
    let e : suc (length ls) + k ≡ suc (length ls + k) = omega arith in
    let h' : ChangesOnly f (suc (length ls + k)) (a ∷ (ls ++ bs)) = subst (λ n. ChangesOnly f n (a ∷ (ls ++ bs))) e h in
    let r = only_front f ls bs k h'.1 in
    ((h'.0, r.0), r.1)

only_last : {X : Type 0} (f : X → X) (c rest : List X) (v : X) → newest_of c ≡ Some v → ChangesOnly f (length c - 1) (c ++ rest) → (set c (length c - 1) (f v) ≡ map f c) × AllByRecursion (λ x. f x ≡ x) rest
only_last f [] rest v e h = cc
only_last {X} f (x ∷ c) rest v e h =
    let place : length (x ∷ c) - 1 ≡ length c = omega arith in
    let r = at x c (subst (λ n. slice_get (x ∷ c) n ≡ Some v) place e) (subst (λ n. ChangesOnly f n (x ∷ (c ++ rest))) place h) in
    (ap (λ n. set (x ∷ c) n (f v)) place ∙ r.0, r.1)
  where
    at : (x : X) (c : List X) → slice_get (x ∷ c) (length c) ≡ Some v → ChangesOnly f (length c) (x ∷ (c ++ rest)) → (set (x ∷ c) (length c) (f v) ≡ map f (x ∷ c)) × AllByRecursion (λ y. f y ≡ y) rest
    at x [] e' h' = let same : x ≡ v = cc in (ap (λ y. f y ∷ []) (sym same), h')
    at x (y ∷ c) e' h' = let r = at y c e' h'.1 in (ap₂ (λ a l. a ∷ l) (sym h'.0) r.0, r.1)

pub edited_chains : {X : Type 0} (f : X → X) (cs : List (List X)) (i : ℕ) (v : X) → i < length cs → newest_of (chain_at cs i) ≡ Some v → ChangesOnly f (before cs (i + 1) - 1) (joined cs)
    → set cs i (set (chain_at cs i) (length (chain_at cs i) - 1) (f v)) ≡ map (map f) cs
edited_chains f cs i v lt e only =
    let some = newest_some (chain_at cs i) v e in
    let place : before cs (i + 1) - 1 ≡ before cs i + (length (chain_at cs i) - 1) = omega (arith, before_next cs i lt, some) in
    go f cs i v lt e (subst (λ n. ChangesOnly f n (joined cs)) place only)
  where
    go : {X : Type 0} (f : X → X) (cs : List (List X)) (i : ℕ) (v : X) → i < length cs → newest_of (chain_at cs i) ≡ Some v → ChangesOnly f (before cs i + (length (chain_at cs i) - 1)) (joined cs)
        → set cs i (set (chain_at cs i) (length (chain_at cs i) - 1) (f v)) ≡ map (map f) cs
    go f [] i v lt e only = absurd (omega arith)
    go f (c ∷ cs) zero v lt e only =
        let place : before (c ∷ cs) 0 + (length c - 1) ≡ length c - 1 = omega arith in
        let r = only_last f c (joined cs) v e (subst (λ n. ChangesOnly f n (c ++ joined cs)) place only) in
        ap₂ (λ y l. y ∷ l) r.0 (sym (fixed_chains f cs r.1))
    go f (c ∷ cs) (suc i) v lt e only =
        let place : before (c ∷ cs) (suc i) + (length (chain_at cs i) - 1) ≡ length c + (before cs i + (length (chain_at cs i) - 1)) = omega (arith, length-append c (joined (take i cs))) in
        let r = only_front f c (joined cs) (before cs i + (length (chain_at cs i) - 1)) (subst (λ n. ChangesOnly f n (c ++ joined cs)) place only) in
        ap₂ (λ y l. y ∷ l) (sym (fixed_map f c r.0)) (go f cs i v (omega arith) e r.1)

-- ---- chains of versions
apart_both : {X : Type 0} (R S T : X → X → Type 0) → ((x y : X) → R x y → S x y → T x y) → (xs : List X) → Apart R xs → Apart S xs → Apart T xs
apart_both R S T f [] a b = tt
apart_both R S T f (x ∷ xs) a b = (all_both (R x) (S x) (T x) (λ y r s. f x y r s) xs a.0 b.0, apart_both R S T f xs a.1 b.1)

apart_weaker : {X : Type 0} (R S : X → X → Type 0) → ((x y : X) → R x y → S x y) → (xs : List X) → Apart R xs → Apart S xs
apart_weaker R S f [] a = tt
apart_weaker R S f (x ∷ xs) a = (all_weaker (R x) (S x) (λ y r. f x y r) xs a.0, apart_weaker R S f xs a.1)

pub histories : (ps : List ℕ) (cs : List (List RowVersion)) → Apart (Precedes ps) (joined cs) → AreChains ps cs → AreHistories cs
histories ps cs stand chained =
    all_both (Apart (Precedes ps)) (Apart (HaveOneKey ps)) (Apart Succeeds) (λ c a b. apart_both (Precedes ps) (HaveOneKey ps) Succeeds (λ v w r e. subst (λ o. precedes_by o v w) e r) c a b) cs (apart_in (Precedes ps) cs stand) chained.0

-- a test that keys decide says the same of all versions of a chain
pub agreeing : (ps : List ℕ) (p : RowVersion → Bool) → ((v w : RowVersion) → HaveOneKey ps v w → p v ≡ p w) → (cs : List (List RowVersion)) → AreChains ps cs → AllByRecursion (AgreesOn p) cs
agreeing ps p same cs chained = all_weaker (Apart (HaveOneKey ps)) (AgreesOn p) (λ c a. apart_weaker (HaveOneKey ps) (λ v w. p v ≡ p w) same c a) cs chained.0

apart_map : {X Y : Type 0} (f : X → Y) (R : Y → Y → Type 0) (xs : List X) → Apart (λ x y. R (f x) (f y)) xs → Apart R (map f xs)
apart_map f R [] a = tt
apart_map f R (x ∷ xs) a = (all_map f (R (f x)) xs a.0, apart_map f R xs a.1)
  where
    all_map : {X Y : Type 0} (f : X → Y) (P : Y → Type 0) (xs : List X) → AllByRecursion (λ x. P (f x)) xs → AllByRecursion P (map f xs)
    all_map f P [] a = tt
    all_map f P (x ∷ xs) a = (a.0, all_map f P xs a.1)

pub chained_closed : (ps : List ℕ) (number : ℕ) (rows : List (List Value)) (cs : List (List RowVersion)) → AreChains ps cs → AreChains ps (map (map (closed ps number rows)) cs)
chained_closed ps number rows cs chained = (keys cs chained.0, apart_map (map (closed ps number rows)) (IsBelow ps) cs (apart_weaker (IsBelow ps) (λ c d. IsBelow ps (map (closed ps number rows) c) (map (closed ps number rows) d)) below cs chained.1))
  where
    f : RowVersion → RowVersion
    f = closed ps number rows

    keys : (cs : List (List RowVersion)) → AllByRecursion (Apart (HaveOneKey ps)) cs → AllByRecursion (Apart (HaveOneKey ps)) (map (map (closed ps number rows)) cs)
    keys [] a = tt
    keys (c ∷ cs) a = (apart_map (closed ps number rows) (HaveOneKey ps) c a.0, keys cs a.1)

    all_map : (P : RowVersion → Type 0) (xs : List RowVersion) → AllByRecursion (λ x. P (closed ps number rows x)) xs → AllByRecursion P (map (closed ps number rows) xs)
    all_map P [] a = tt
    all_map P (x ∷ xs) a = (a.0, all_map P xs a.1)

    row_below : (v : RowVersion) (d : List RowVersion) → AllByRecursion (λ w. key_cmp ps v.row w.row ≡ Less) d → AllByRecursion (λ w. key_cmp ps v.row w.row ≡ Less) (map (closed ps number rows) d)
    row_below v [] a = tt
    row_below v (w ∷ d) a = (a.0, row_below v d a.1)

    below : (c d : List RowVersion) → IsBelow ps c d → IsBelow ps (map (closed ps number rows) c) (map (closed ps number rows) d)
    below [] d a = tt
    below (v ∷ c) d a = (row_below v d a.0, below c d a.1)

not_above : (o : Ordering) → not (is_gt o) ≡ true → o ≡ Greater → ⊥
not_above Less h e = cc
not_above Equal h e = cc
not_above Greater h e = cc

pub upto_falls : (ps : List ℕ) (row : List Value) (vs : List RowVersion) → Apart (Precedes ps) vs → Falls (upto ps row) vs
upto_falls ps row vs stand = falls_from (upto ps row) (Precedes ps) step vs stand
  where
    le : (v w : RowVersion) → Precedes ps v w → is_gt (key_cmp ps v.row w.row) ≡ false
    le v w r = by (key_cmp ps v.row w.row) refl r
      where
        by : (o : Ordering) → key_cmp ps v.row w.row ≡ o → precedes_by o v w → is_gt (key_cmp ps v.row w.row) ≡ false
        by Less e r' = ap is_gt e
        by Equal e r' = ap is_gt e
        by Greater e r' = absurd r'

    step : (v w : RowVersion) → Precedes ps v w → upto ps row w ≡ true → upto ps row v ≡ true
    step v w r t = by (key_cmp ps v.row w.row) refl (key_cmp ps w.row row) refl r
      where
        by : (a : Ordering) → key_cmp ps v.row w.row ≡ a → (b : Ordering) → key_cmp ps w.row row ≡ b → precedes_by a v w → upto ps row v ≡ true
        by Less e Less f r' = ap (λ o. not (is_gt o)) ((key_total ps).trans v.row w.row row e f)
        by Less e Equal f r' =
            let same : values_at ps w.row ≡ values_at ps row = row_exact (values_at ps w.row) (values_at ps row) f in
            ap (λ o. not (is_gt o)) (subst (λ k. row_cmp (values_at ps v.row) k ≡ Less) same e)
        by Equal e b f r' =
            let same : values_at ps v.row ≡ values_at ps w.row = row_exact (values_at ps v.row) (values_at ps w.row) e in
            ap (λ k. not (is_gt (row_cmp k (values_at ps row)))) same ∙ t
        by Less e Greater f r' = absurd (not_above (key_cmp ps w.row row) t f)
        by Greater e b f r' = absurd r'

pub upto_agrees : (ps : List ℕ) (row : List Value) (cs : List (List RowVersion)) → AreChains ps cs → AllByRecursion (AgreesOn (upto ps row)) cs
upto_agrees ps row cs chained = agreeing ps (upto ps row) (λ v w e. ap (λ k. not (is_gt (row_cmp k (values_at ps row)))) (row_exact (values_at ps v.row) (values_at ps w.row) e)) cs chained

-- where all of a row's key came before a commit, those up to its key are those before the version that the commit brings
pub upto_same : (ps : List ℕ) (row : List Value) (number : ℕ) (v : RowVersion) → IsOlder ps number row v → comes_before ps row number v ≡ upto ps row v
upto_same ps row number v older = by (key_cmp ps v.row row) refl
  where
    by : (o : Ordering) → key_cmp ps v.row row ≡ o → is_lt (ordering_then (key_cmp ps v.row row) (nat_cmp v.from number)) ≡ not (is_gt (key_cmp ps v.row row))
    by Less e = rw e refl
    by Equal e =
        let back : key_cmp ps row v.row ≡ Equal = (key_total ps).antisymm row v.row ∙ ap ordering_reverse e in
        let less = less_of v.from number (older back) in
        rw (e, less) refl
    by Greater e = rw e refl

cut_same : {X : Type 0} (p q : X → Bool) (i : ℕ) (xs : List X) → AllByRecursion (λ x. q x ≡ p x) xs → IsCut p i xs → IsCut q i xs
cut_same p q zero xs a h = all_both (λ x. q x ≡ p x) (λ x. p x ≡ false) (λ x. q x ≡ false) (λ x e f. e ∙ f) xs a h
cut_same p q (suc i) [] a h = h
cut_same p q (suc i) (x ∷ xs) a h = (a.0 ∙ h.0, cut_same p q i xs a.1 h.1)

pub upto_before : (ps : List ℕ) (row : List Value) (number at : ℕ) (vs : List RowVersion) → AllByRecursion (IsOlder ps number row) vs → IsCut (upto ps row) at vs → IsCut (comes_before ps row number) at vs
upto_before ps row number at vs older cut = cut_same (upto ps row) (comes_before ps row number) at vs (all_weaker (IsOlder ps number row) (λ v. comes_before ps row number v ≡ upto ps row v) (λ v o. upto_same ps row number v o) vs older) cut

-- what a chain shows after a commit: its newest version that came by it, if that has not ended by then
abbrev pub shown_by : ℕ → Option RowVersion → List (List Value)
shown_by n None = []
shown_by n (Some v) = state_at n (v ∷ [])

pub shown_in : (n : ℕ) (c : List RowVersion) → Apart Succeeds c → state_at n c ≡ shown_by n (newest_that (came_by n) c)
shown_in n [] a = refl
shown_in n (v ∷ c) a = by (newest_that (came_by n) c) refl (came_by n v) refl (shown_in n c a.1)
  where
    -- the newest one that came is among them, and came
    among : (c : List RowVersion) (w : RowVersion) → newest_that (came_by n) c ≡ Some w → AllByRecursion (Succeeds v) c → (Succeeds v w) × (came_by n w ≡ true)
    among [] w e b = cc
    among (u ∷ c) w e b = at (newest_that (came_by n) c) refl (came_by n u) refl (λ f. among c w f b.1) e
      where
        at : (o : Option RowVersion) → newest_that (came_by n) c ≡ o → (t : Bool) → came_by n u ≡ t → (newest_that (came_by n) c ≡ Some w → (Succeeds v w) × (came_by n w ≡ true))
            → later_or (newest_that (came_by n) c) (came_by n u) u ≡ Some w → (Succeeds v w) × (came_by n w ≡ true)
        at (Some x) f t g more e' = let found : later_or (Some x) (came_by n u) u ≡ Some w = subst (λ o. later_or o (came_by n u) u ≡ Some w) f e' in more (f ∙ found)
        at None f true g more e' =
            let found : later_or None true u ≡ Some w = subst (λ o. later_or o true u ≡ Some w) f (subst (λ t. later_or (newest_that (came_by n) c) t u ≡ Some w) g e') in
            let same : u ≡ w = cc in
            subst (λ x. (Succeeds v x) × (came_by n x ≡ true)) same (b.0, g)
        at None f false g more e' =
            let found : later_or None false u ≡ Some w = subst (λ o. later_or o false u ≡ Some w) f (subst (λ t. later_or (newest_that (came_by n) c) t u ≡ Some w) g e') in
            cc

    gone : (w : RowVersion) → Succeeds v w → came_by n w ≡ true → is_at n v ≡ false
    gone w s t = at v.until refl
      where
        at : (u : Option ℕ) → v.until ≡ u → is_at n v ≡ false
        at None e = absurd (subst (EndsBy w.from) e s.1)
        at (Some k) e =
            let le : k ≤ w.from = subst (EndsBy w.from) e s.1 in
            let over : nat_lt n k ≡ false = grind (arith, nat_tests) in
            and_false (nat_le v.from n) (ends_after n v.until) (ap (ends_after n) e ∙ over)

    by : (o : Option RowVersion) → newest_that (came_by n) c ≡ o → (t : Bool) → came_by n v ≡ t → state_at n c ≡ shown_by n (newest_that (came_by n) c)
        → state_at n (v ∷ c) ≡ shown_by n (later_or (newest_that (came_by n) c) (came_by n v) v)
    by (Some w) e t f ih =
        let r = among c w e a.0 in
        let g = gone w r.0 r.1 in
        rw (g, e) (ih ∙ ap (shown_by n) e)
    by None e true f ih = shown_alone (is_at n v) (ih ∙ ap (shown_by n) e) ∙ sym (ap₂ (λ (o : Option RowVersion) (t : Bool). shown_by n (later_or o t v)) e f)
      where
        shown_alone : (b : Bool) → state_at n c ≡ [] → map (λ (x : RowVersion). x.row) (cond b (v ∷ filter (is_at n) c) (filter (is_at n) c)) ≡ map (λ (x : RowVersion). x.row) (cond b (v ∷ []) [])
        shown_alone true h = ap (λ l. v.row ∷ l) h
        shown_alone false h = h
    by None e false f ih =
        let g : is_at n v ≡ false = ap (λ b. b && ends_after n v.until) f in
        ap (λ b. map (λ (x : RowVersion). x.row) (cond b (v ∷ filter (is_at n) c) (filter (is_at n) c))) g ∙ ih ∙ ap (shown_by n) e ∙ sym (ap₂ (λ (o : Option RowVersion) (t : Bool). shown_by n (later_or o t v)) e f)
