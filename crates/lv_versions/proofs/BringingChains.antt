-- A version that a commit brings, among chains.
use Rattle.std.proofs.Common.{◌≡◌, ℕ, zero, suc, ◌-◌, ◌<◌, ◌≤◌, Bool, true, false, not, List, [], ◌∷◌, ◌++◌, length, length-append, map, take, drop, get_or, set, Some, refl, sym, ap, ◌∙◌, subst, arith}
use Rattle.std.specs.Prelude.{slice_get}
use Rattle.std.specs.List.{AllByRecursion, insert}
use Rattle.std.specs.Ordering.{is_gt, ordering_reverse}
use Rattle.std.specs.declared.cmp.Ordering.{Ordering}
use Rattle.std.specs.declared.cmp.Ordering.TheVariants.{Less, Equal, Greater}
use Rattle.std.proofs.lemmas.Cmp.{tied_itself}
use Rattle.std.proofs.lemmas.List.{get_or-set_same, length-map}
use Rattle.lv_values.specs.declared.value.Value.{Value}
use Rattle.lv_values.specs.Order.{row_cmp}
use Rattle.lv_values.specs.OrderLaws.{row_exact, row_total}
use Rattle.lv_values.specs.Rows.{key_cmp, values_at}
use Rattle.lv_schema.specs.declared.version.RowVersion.{RowVersion}
use Rattle.lv_schema.proofs.Apart.{all_weaker}
use Rattle.lv_schema.proofs.NetsLead.{key_total}
use Rattle.lv_shelf.specs.Cuts.{Apart, IsCut}
use Rattle.lv_shelf.specs.Shelves.{LacksItem}
use Rattle.lv_shelf.proofs.Cutting.{all_at}
use Rattle.lv_shelf.specs.Chains.{before, chain_at, joined, newest_of}
use Rattle.lv_versions.specs.Versions.{AreChains, EndsAtMost, HaveOneKey, IsBelow, IsIn, IsNewTo, IsOlder, Precedes, comes_before, upto}
use Rattle.lv_versions.proofs.Bringing.{older_new}
use Rattle.lv_versions.proofs.Chaining.{all_in, before_long, before_map, chained_closed, joined_map, newest_there, upto_before}
use Rattle.lv_versions.proofs.Ending.{Closed, all_mapped, closed_cut, closed_order}

abbrev Chains : Type 0
Chains = List (List RowVersion)

-- ---- lists by their places
all_set : {X : Type 0} (P : X → Type 0) (xs : List X) (i : ℕ) (y : X) → P y → AllByRecursion P xs → AllByRecursion P (set xs i y)
all_set P [] i y h a = tt
all_set P (x ∷ xs) zero y h a = (h, a.1)
all_set P (x ∷ xs) (suc i) y h a = (a.0, all_set P xs i y h a.1)

all_insert : {X : Type 0} (P : X → Type 0) (xs : List X) (i : ℕ) (y : X) → P y → AllByRecursion P xs → AllByRecursion P (insert xs i y)
all_insert P xs zero y h a = (h, a)
all_insert P [] (suc i) y h a = (h, tt)
all_insert P (x ∷ xs) (suc i) y h a = (a.0, all_insert P xs i y h a.1)

apart_set : {X : Type 0} (R : X → X → Type 0) (xs : List X) (i : ℕ) (y d : X) → i < length xs → ((x : X) → R x (get_or xs i d) → R x y) → ((x : X) → R (get_or xs i d) x → R y x) → Apart R xs → Apart R (set xs i y)
apart_set R [] i y d lt f g a = tt
apart_set R (x ∷ xs) zero y d lt f g a = (all_weaker (R x) (R y) g xs a.0, a.1)
apart_set R (x ∷ xs) (suc i) y d lt f g a = (all_set (R x) xs i y (f x (all_at (R x) xs i d (omega arith) a.0)) a.0, apart_set R xs i y d (omega arith) f g a.1)

apart_insert : {X : Type 0} (R : X → X → Type 0) (xs : List X) (i : ℕ) (y : X) → i ≤ length xs → AllByRecursion (λ x. R x y) (take i xs) → AllByRecursion (R y) (drop i xs) → Apart R xs → Apart R (insert xs i y)
apart_insert R xs zero y le f g a = (g, a)
apart_insert R [] (suc i) y le f g a = absurd (omega arith)
apart_insert R (x ∷ xs) (suc i) y le f g a = (all_insert (R x) xs i y f.0 a.0, apart_insert R xs i y (omega arith) f.1 g a.1)

apart_more : {X : Type 0} (R : X → X → Type 0) (xs : List X) (y : X) → AllByRecursion (λ x. R x y) xs → Apart R xs → Apart R (xs ++ y ∷ [])
apart_more {X} R [] y h a = (tt, tt)
apart_more {X} R (x ∷ xs) y h a = (more xs a.0, apart_more R xs y h.1 a.1)
  where
    more : (us : List X) → AllByRecursion (R x) us → AllByRecursion (R x) (us ++ y ∷ [])
    more [] b = (h.0, tt)
    more (u ∷ us) b = (b.0, more us b.1)

all_more : {X : Type 0} (P : X → Type 0) (xs : List X) (y : X) → P y → AllByRecursion P xs → AllByRecursion P (xs ++ y ∷ [])
all_more P [] y h a = (h, tt)
all_more P (x ∷ xs) y h a = (a.0, all_more P xs y h a.1)

last_got : {X : Type 0} (xs : List X) (y : X) (n : ℕ) → n ≡ length xs → slice_get (xs ++ y ∷ []) n ≡ Some y
last_got [] y zero e = refl
last_got [] y (suc n) e = cc
last_got (x ∷ xs) y zero e = cc
last_got (x ∷ xs) y (suc n) e = last_got xs y n (omega arith)

pub newest_more : (c : List RowVersion) (x : RowVersion) → newest_of (c ++ x ∷ []) ≡ Some x
newest_more c x = last_got c x (length (c ++ x ∷ []) - 1) (omega (arith, length-append c (x ∷ [])))

pub newest_pushed : (cs : Chains) (i : ℕ) (x : RowVersion) → i < length cs → newest_of (chain_at (set cs i (chain_at cs i ++ x ∷ [])) i) ≡ Some x
newest_pushed cs i x lt = ap newest_of (get_or-set_same cs i (chain_at cs i ++ x ∷ []) [] lt) ∙ newest_more (chain_at cs i) x

-- ---- one key
abbrev Keyed : List ℕ → List Value → RowVersion → Type 0
Keyed ps row v = values_at ps v.row ≡ values_at ps row

keyed_all : (ps : List ℕ) (row : List Value) (c : List RowVersion) (k : ℕ) (w : RowVersion) → Apart (HaveOneKey ps) c → slice_get c k ≡ Some w → Keyed ps row w → AllByRecursion (Keyed ps row) c
keyed_all ps row [] k w a e h = tt
keyed_all ps row (v ∷ c) zero w a e h =
    let same : v ≡ w = cc in
    let first : Keyed ps row v = subst (Keyed ps row) (sym same) h in
    (first, all_weaker (HaveOneKey ps v) (Keyed ps row) (λ u t. sym (row_exact (values_at ps v.row) (values_at ps u.row) t) ∙ first) c a.0)
keyed_all ps row (v ∷ c) (suc k) w a e h =
    let rest = keyed_all ps row c k w a.1 e h in
    (first c k a.0 e, rest)
  where
    first : (us : List RowVersion) (j : ℕ) → AllByRecursion (HaveOneKey ps v) us → slice_get us j ≡ Some w → Keyed ps row v
    first [] j b f = cc
    first (u ∷ us) zero b f = let same : u ≡ w = cc in row_exact (values_at ps v.row) (values_at ps u.row) b.0 ∙ subst (Keyed ps row) (sym same) h
    first (u ∷ us) (suc j) b f = first us j b.1 f

tied : (ps : List ℕ) (row : List Value) (v : RowVersion) → Keyed ps row v → key_cmp ps v.row row ≡ Equal
tied ps row v h = ap (λ k. row_cmp k (values_at ps row)) h ∙ tied_itself row_total (values_at ps row)

-- ---- a version behind the newest one of its key
pushed_one : (ps : List ℕ) (c : List RowVersion) (x : RowVersion) → Apart (HaveOneKey ps) c → AllByRecursion (Keyed ps x.row) c → Apart (HaveOneKey ps) (c ++ x ∷ [])
pushed_one ps c x a h = apart_more (HaveOneKey ps) c x (all_weaker (Keyed ps x.row) (λ v. HaveOneKey ps v x) (λ v e. tied ps x.row v e) c h) a

below_pushed : (ps : List ℕ) (c d : List RowVersion) (x : RowVersion) → 0 < length c → AllByRecursion (Keyed ps x.row) c → IsBelow ps d c → IsBelow ps d (c ++ x ∷ [])
below_pushed ps [] d x lt h b = absurd (omega arith)
below_pushed ps (v ∷ c) d x lt h b =
    all_weaker (λ u. AllByRecursion (λ w. key_cmp ps u.row w.row ≡ Less) (v ∷ c)) (λ u. AllByRecursion (λ w. key_cmp ps u.row w.row ≡ Less) ((v ∷ c) ++ x ∷ []))
    (λ u a. all_more (λ w. key_cmp ps u.row w.row ≡ Less) (v ∷ c) x (ap (row_cmp (values_at ps u.row)) (sym h.0) ∙ a.0) a) d b

above_pushed : (ps : List ℕ) (c d : List RowVersion) (x : RowVersion) → 0 < length c → AllByRecursion (Keyed ps x.row) c → IsBelow ps c d → IsBelow ps (c ++ x ∷ []) d
above_pushed ps [] d x lt h b = absurd (omega arith)
above_pushed ps (v ∷ c) d x lt h b =
    all_more (λ u. AllByRecursion (λ w. key_cmp ps u.row w.row ≡ Less) d) (v ∷ c) x
    (all_weaker (λ w. key_cmp ps v.row w.row ≡ Less) (λ w. key_cmp ps x.row w.row ≡ Less) (λ w t. ap (λ k. row_cmp k (values_at ps w.row)) (sym h.0) ∙ t) d b.0) b

pub chained_pushed : (ps : List ℕ) (cs : Chains) (i : ℕ) (x : RowVersion) → i < length cs → 0 < length (chain_at cs i) → ((v : RowVersion) → newest_of (chain_at cs i) ≡ Some v → key_cmp ps v.row x.row ≡ Equal)
    → AreChains ps cs → AreChains ps (set cs i (chain_at cs i ++ x ∷ []))
chained_pushed ps cs i x lt some key a =
    let c = chain_at cs i in
    let one = all_at (Apart (HaveOneKey ps)) cs i [] lt a.0 in
    let newest = newest_there c some in
    let keyed = keyed_all ps x.row c (length c - 1) newest.0 one newest.1 (row_exact (values_at ps newest.0.row) (values_at ps x.row) (key newest.0 newest.1)) in (
      all_set (Apart (HaveOneKey ps)) cs i (c ++ x ∷ []) (pushed_one ps c x one keyed) a.0,
      apart_set (IsBelow ps) cs i (c ++ x ∷ []) [] lt (λ d b. below_pushed ps c d x some keyed b) (λ d b. above_pushed ps c d x some keyed b) a.1,
    )

-- ---- a new chain
cut_append : {X : Type 0} (p : X → Bool) (c r xs : List X) → IsCut p (length (c ++ r)) (c ++ xs) → AllByRecursion (λ x. p x ≡ true) c × IsCut p (length r) xs
cut_append p [] r xs h = (tt, h)
cut_append p (x ∷ c) r xs h = let more = cut_append p c r xs h.1 in ((h.0, more.0), more.1)

-- where a test stops to pass at a chain, it passes in none of those from it on
cut_drop : (p : RowVersion → Bool) (cs : Chains) (i : ℕ) → IsCut p (before cs i) (joined cs) → AllByRecursion (AllByRecursion (λ v. p v ≡ false)) (drop i cs)
cut_drop p cs zero h = all_in (λ v. p v ≡ false) cs h
cut_drop p [] (suc i) h = tt
cut_drop p (c ∷ cs) (suc i) h = cut_drop p cs i (cut_append p c (joined (take i cs)) (joined cs) h).1

cut_take : (p : RowVersion → Bool) (cs : Chains) (i : ℕ) → IsCut p (before cs i) (joined cs) → AllByRecursion (AllByRecursion (λ v. p v ≡ true)) (take i cs)
cut_take p cs zero h = tt
cut_take p [] (suc i) h = tt
cut_take p (c ∷ cs) (suc i) h = let more = cut_append p c (joined (take i cs)) (joined cs) h in (more.0, cut_take p cs i more.1)

all_taken : {X : Type 0} (P : X → Type 0) (xs : List X) (i : ℕ) (d : X) → suc i ≤ length xs → AllByRecursion P (take (suc i) xs) → P (get_or xs i d)
all_taken P [] i d lt a = absurd (omega arith)
all_taken P (x ∷ xs) zero d lt a = a.0
all_taken P (x ∷ xs) (suc i) d lt a = all_taken P xs i d (omega arith) a.1

abbrev Lesser : List ℕ → RowVersion → RowVersion → Type 0
Lesser ps x v = key_cmp ps v.row x.row ≡ Less

below_below : (ps : List ℕ) (c d : List RowVersion) (x : RowVersion) → 0 < length d → AllByRecursion (Lesser ps x) d → IsBelow ps c d → IsBelow ps c (x ∷ [])
below_below ps c [] x lt h b = absurd (omega arith)
below_below ps c (w ∷ d) x lt h b =
    all_weaker (λ v. AllByRecursion (λ u. key_cmp ps v.row u.row ≡ Less) (w ∷ d)) (λ v. AllByRecursion (λ u. key_cmp ps v.row u.row ≡ Less) (x ∷ []))
    (λ v a. (row_total.trans (values_at ps v.row) (values_at ps w.row) (values_at ps x.row) a.0 h.0, tt)) c b

lesser : (ps : List ℕ) (x : RowVersion) (cs : Chains) (i : ℕ) → suc i ≤ length cs → Apart (IsBelow ps) cs → 0 < length (chain_at cs i) → AllByRecursion (Lesser ps x) (chain_at cs i) → AllByRecursion (λ c. IsBelow ps c (x ∷ [])) (take (suc i) cs)
lesser ps x [] i lt a some h = absurd (omega arith)
lesser ps x (c ∷ cs) zero lt a some h = (all_weaker (Lesser ps x) (λ v. AllByRecursion (λ u. key_cmp ps v.row u.row ≡ Less) (x ∷ [])) (λ v t. (t, tt)) c h, tt)
lesser ps x (c ∷ cs) (suc i) lt a some h = (below_below ps c (chain_at cs i) x some h (all_at (IsBelow ps c) cs i [] (omega arith) a.0), lesser ps x cs i (omega arith) a.1 some h)

upto_less : (ps : List ℕ) (row : List Value) (v : RowVersion) → upto ps row v ≡ true → (key_cmp ps v.row row ≡ Equal → ⊥) → key_cmp ps v.row row ≡ Less
upto_less ps row v t ne = by (key_cmp ps v.row row) refl
  where
    by : (o : Ordering) → key_cmp ps v.row row ≡ o → o ≡ Less
    by Less e = refl
    by Equal e = absurd (ne e)
    by Greater e = let f = ap (λ o. not (is_gt o)) e in cc

above_greater : (ps : List ℕ) (row : List Value) (v : RowVersion) → upto ps row v ≡ false → key_cmp ps row v.row ≡ Less
above_greater ps row v t = (key_total ps).antisymm row v.row ∙ ap ordering_reverse (by (key_cmp ps v.row row) refl)
  where
    by : (o : Ordering) → key_cmp ps v.row row ≡ o → key_cmp ps v.row row ≡ Greater
    by Less e = let f = ap (λ o. not (is_gt o)) e in cc
    by Equal e = let f = ap (λ o. not (is_gt o)) e in cc
    by Greater e = e

lesser_front : (ps : List ℕ) (x : RowVersion) (cs : Chains) (i : ℕ) → i ≤ length cs → AreChains ps cs → AllByRecursion (AllByRecursion (λ v. upto ps x.row v ≡ true)) (take i cs) → (0 < i → 0 < length (chain_at cs (i - 1)))
    → ((v : RowVersion) → 0 < i → newest_of (chain_at cs (i - 1)) ≡ Some v → key_cmp ps v.row x.row ≡ Equal → ⊥) → AllByRecursion (λ c. IsBelow ps c (x ∷ [])) (take i cs)
lesser_front ps x cs zero le a t some other = tt
lesser_front ps x cs (suc i) le a t some other =
    let place : suc i - 1 ≡ i = omega arith in
    let c = chain_at cs i in
    let long : 0 < length c = subst (λ k. 0 < length (chain_at cs k)) place (some (omega arith)) in
    let newest = newest_there c long in
    let ne : key_cmp ps newest.0.row x.row ≡ Equal → ⊥ = other newest.0 (omega arith) (subst (λ k. newest_of (chain_at cs k) ≡ Some newest.0) (sym place) newest.1) in
    let these = all_taken (AllByRecursion (λ v. upto ps x.row v ≡ true)) cs i [] le t in
    let one = all_at (Apart (HaveOneKey ps)) cs i [] (omega (arith, le)) a.0 in
    let keyed = keyed_all ps newest.0.row c (length c - 1) newest.0 one newest.1 refl in
    lesser ps x cs i le a.1 long (go c newest.0 ne these keyed)
  where
    go : (us : List RowVersion) (w : RowVersion) → (key_cmp ps w.row x.row ≡ Equal → ⊥) → AllByRecursion (λ v. upto ps x.row v ≡ true) us → AllByRecursion (Keyed ps w.row) us → AllByRecursion (Lesser ps x) us
    go [] w ne b k = tt
    go (u ∷ us) w ne b k = (upto_less ps x.row u b.0 (λ e. ne (ap (λ k'. row_cmp k' (values_at ps x.row)) (sym k.0) ∙ e)), go us w ne b.1 k.1)

pub chained_inserted : (ps : List ℕ) (cs : Chains) (i : ℕ) (x : RowVersion) → i ≤ length cs → IsCut (upto ps x.row) (before cs i) (joined cs) → (0 < i → 0 < length (chain_at cs (i - 1)))
    → ((v : RowVersion) → 0 < i → newest_of (chain_at cs (i - 1)) ≡ Some v → key_cmp ps v.row x.row ≡ Equal → ⊥) → AreChains ps cs → AreChains ps (insert cs i (x ∷ []))
chained_inserted ps cs i x le cut some other a = (
  all_insert (Apart (HaveOneKey ps)) cs i (x ∷ []) (tt, tt) a.0,
  apart_insert (IsBelow ps) cs i (x ∷ []) le (lesser_front ps x cs i le a (cut_take (upto ps x.row) cs i cut) some other)
      (all_weaker (AllByRecursion (λ v. upto ps x.row v ≡ false)) (λ c. IsBelow ps (x ∷ []) c) (λ c h. (all_weaker (λ v. upto ps x.row v ≡ false) (λ v. key_cmp ps x.row v.row ≡ Less) (λ v t. above_greater ps x.row v t) c h, tt)) (drop i cs) (cut_drop (upto ps x.row) cs i cut))
      a.1,
)

-- ---- after the version of its key has ended
pub record Ended (ps : List ℕ) (number : ℕ) (row : List Value) (place : ℕ) (cs ds : Chains) : Type 0 where
  pub flat : joined ds ≡ map (Closed ps number row) (joined cs)
  pub within : place ≤ length ds
  pub long : before ds place ≤ length (joined ds)
  pub stand : Apart (Precedes ps) (joined ds)
  pub chained : AreChains ps ds
  pub cut : IsCut (upto ps row) (before ds place) (joined ds)
  pub earlier : IsCut (comes_before ps row number) (before ds place) (joined ds)
  pub new : AllByRecursion (IsNewTo ps number row) (joined ds)

pub after_end : (ps : List ℕ) (number : ℕ) (row : List Value) (place : ℕ) (cs ds : Chains) → ds ≡ map (map (Closed ps number row)) cs → Apart (Precedes ps) (joined cs) → AreChains ps cs → AllByRecursion (λ v. EndsAtMost number v.until) (joined cs)
    → AllByRecursion (IsOlder ps number row) (joined cs) → place ≤ length cs → IsCut (upto ps row) (before cs place) (joined cs) → Ended ps number row place cs ds
after_end ps number row place cs ds is stand chained ends older within cut =
    let f : RowVersion → RowVersion = Closed ps number row in
    let flat : joined ds ≡ map f (joined cs) = ap joined is ∙ joined_map f cs in
    let place_is : before ds place ≡ before cs place = ap (λ (l : Chains). before l place) is ∙ before_map f cs place in
    let cut' : IsCut (upto ps row) (before ds place) (joined ds) = subst (λ n. IsCut (upto ps row) n (joined ds)) (sym place_is) (closed_cut ps number row (before cs place) (joined cs) (joined ds) flat cut) in
    let older' : AllByRecursion (IsOlder ps number row) (joined ds) = subst (AllByRecursion (IsOlder ps number row)) (sym flat) (all_mapped f (IsOlder ps number row) (joined cs) older) in
    record {
      flat = flat;
      within = omega (arith, within, ap length is, length-map cs (map f));
      long = before_long ds place;
      stand = subst (Apart (Precedes ps)) (sym flat) (closed_order ps number (row ∷ []) (joined cs) stand);
      chained = subst (AreChains ps) (sym is) (chained_closed ps number (row ∷ []) cs chained);
      cut = cut';
      earlier = upto_before ps row number (before ds place) (joined ds) older' cut';
      new = subst (AllByRecursion (IsNewTo ps number row)) (sym flat) (older_new ps number row (joined cs) older ends);
    }

pub here_inserted : (vs us : List RowVersion) (at : ℕ) (x : RowVersion) → at ≤ length vs → us ≡ insert vs at x → IsIn x us
here_inserted vs us at x le is lacks = go vs at le (subst (LacksItem x) is lacks)
  where
    go : (ws : List RowVersion) (i : ℕ) → i ≤ length ws → LacksItem x (insert ws i x) → ⊥
    go ws zero lt l = l.0 refl
    go [] (suc i) lt l = absurd (omega arith)
    go (w ∷ ws) (suc i) lt l = go ws i (omega arith) l.1
