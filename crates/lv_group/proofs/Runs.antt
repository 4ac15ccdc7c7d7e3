-- Entries that ascend by their groups fall into runs, one for each group.
use Rattle.std.proofs.Common.{◌≡◌, ℕ, zero, suc, add-one, ◌+◌, ◌<◌, Bool, true, false, cond, List, [], ◌∷◌, ◌++◌, map, take, drop, Some, slice_get, refl, sym, ap, ◌∙◌, subst, arith}
use Rattle.std.specs.List.{AllByRecursion, prefix_len}
use Rattle.std.specs.List.Sorted.{IsSorted}
use Rattle.std.specs.Ordering.{is_eq, is_gt, is_lt, ordering_reverse}
use Rattle.std.specs.declared.cmp.Ordering.{Ordering}
use Rattle.std.specs.declared.cmp.Ordering.TheVariants.{Less, Equal, Greater}
use Rattle.std.specs.FinMap.Entries.{by_order}
use Rattle.std.proofs.lemmas.Cmp.{tied_itself, upto}
use Rattle.std.proofs.lemmas.List.{take-append-drop, append-nil, append_assoc, drop-drop}
use Rattle.std.proofs.lemmas.List.Elements.{filter-append}
use Rattle.std.proofs.lemmas.Option.{same_Some}
use Rattle.lv_values.specs.declared.value.Value.{Value}
use Rattle.lv_values.specs.Order.{row_cmp, row_eq}
use Rattle.lv_values.specs.OrderLaws.{row_total, row_exact}
use Rattle.lv_schema.specs.declared.cond.Col.{Col}
use Rattle.lv_schema.specs.declared.signed.SignedRow.{SignedRow}
use Rattle.lv_schema.specs.Once.{put_once, once}
use Rattle.lv_group.specs.Entries.{AnEntry, group_of, entry_cmp, entries_of, numbers_of, gathered}

abbrev Group : Type 0
Group = List Value

-- ---- orders
less_along : (x y z : Group) → row_cmp x y ≡ Less → is_gt (row_cmp y z) ≡ false → row_cmp x z ≡ Less
less_along x y z l b = by (row_cmp y z) refl b
  where
    by : (r : Ordering) → row_cmp y z ≡ r → is_gt r ≡ false → row_cmp x z ≡ Less
    by Less e g = row_total.trans x y z l e
    by Equal e g = subst (λ (w : Group). row_cmp x w ≡ Less) (row_exact y z e) l
    by Greater e g = cc

less_from : (r : Ordering) → is_gt r ≡ false → is_eq r ≡ false → r ≡ Less
less_from Less g e = refl
less_from Equal g e = cc
less_from Greater g e = cc

equal_from : (r : Ordering) → is_eq r ≡ true → r ≡ Equal
equal_from Less h = cc
equal_from Equal h = refl
equal_from Greater h = cc

-- ---- what stands behind an entry
abbrev AtLeast : Group → List AnEntry → Type 0
AtLeast k es = AllByRecursion (λ e. is_gt (row_cmp k (group_of e)) ≡ false) es

abbrev Above : Group → List AnEntry → Type 0
Above k es = AllByRecursion (λ e. row_cmp k (group_of e) ≡ Less) es

abbrev Same : Group → List AnEntry → Type 0
Same k es = AllByRecursion (λ e. group_of e ≡ k) es

-- no entry is greater than one behind it
abbrev pub Rises : List AnEntry → Type 0
Rises [] = Unit {0}
Rises (e ∷ es) = AtLeast (group_of e) es × Rises es

pub rises_drop : (n : ℕ) (es : List AnEntry) → Rises es → Rises (drop n es)
rises_drop zero es r = r
rises_drop (suc n) [] r = tt
rises_drop (suc n) (e ∷ es) r = rises_drop n es r.1

above_all : (k g : Group) (es : List AnEntry) → row_cmp k g ≡ Less → AtLeast g es → Above k es
above_all k g [] l a = tt
above_all k g (e ∷ es) l a = (less_along k g (group_of e) l a.0, above_all k g es l a.1)

abbrev run : Group → List AnEntry → ℕ
run k es = prefix_len (λ e. row_eq k (group_of e)) es

one_more : (n : ℕ) → 1 + n ≡ suc n
one_more n = omega arith

-- behind the entries of a group come greater ones
above_run : (k : Group) (es : List AnEntry) → AtLeast k es → Rises es → Above k (drop (run k es) es)
above_run k [] a r = tt
above_run k (e ∷ es) a r = by (row_eq k (group_of e)) refl (above_run k es a.1 r.1)
  where
    by : (b : Bool) → row_eq k (group_of e) ≡ b → Above k (drop (run k es) es) → Above k (drop (cond b (1 + run k es) 0) (e ∷ es))
    by true h rest = subst (λ n. Above k (drop n (e ∷ es))) (sym (one_more (run k es))) rest
    by false h rest = let l = less_from (row_cmp k (group_of e)) a.0 h in (l, above_all k (group_of e) es l r.0)

same_run : (k : Group) (es : List AnEntry) → Same k (take (run k es) es)
same_run k [] = tt
same_run k (e ∷ es) = by (row_eq k (group_of e)) refl (same_run k es)
  where
    by : (b : Bool) → row_eq k (group_of e) ≡ b → Same k (take (run k es) es) → Same k (take (cond b (1 + run k es) 0) (e ∷ es))
    by true h rest = subst (λ n. Same k (take n (e ∷ es))) (sym (one_more (run k es))) (sym (row_exact k (group_of e) (equal_from _ h)), rest)
    by false h rest = tt

-- ---- a run in front of greater entries
abbrev Higher : Group → List Group → Type 0
Higher k ks = AllByRecursion (λ q. row_cmp k q ≡ Less) ks

higher_put : (k x : Group) (ks : List Group) → row_cmp k x ≡ Less → Higher k ks → Higher k (put_once row_cmp x ks)
higher_put k x [] l h = (l, tt)
higher_put k x (y ∷ ks) l h =
    elim (row_cmp x y) as (λ r. Higher k (by_order r (x ∷ y ∷ ks) (y ∷ ks) (y ∷ put_once row_cmp x ks))) [
      | Less ↦ (l, h)
      | Equal ↦ h
      | Greater ↦ (h.0, higher_put k x ks l h.1)
    ]

higher_once : (k : Group) (es : List AnEntry) → Above k es → Higher k (once row_cmp (map group_of es))
higher_once k [] a = tt
higher_once k (e ∷ es) a = higher_put k (group_of e) (once row_cmp (map group_of es)) a.0 (higher_once k es a.1)

put_front : (k : Group) (ks : List Group) → Higher k ks → put_once row_cmp k ks ≡ k ∷ ks
put_front k [] h = refl
put_front k (q ∷ ks) h = λ i. by_order (h.0 i) (k ∷ q ∷ ks) (q ∷ ks) (q ∷ put_once row_cmp k ks)

put_again : (k : Group) (ks : List Group) → put_once row_cmp k (k ∷ ks) ≡ k ∷ ks
put_again k ks = λ i. by_order (tied_itself row_total k i) (k ∷ k ∷ ks) (k ∷ ks) (k ∷ put_once row_cmp k ks)

once_run : (k : Group) (e : AnEntry) (es : List AnEntry) (ks : List Group) → Same k (e ∷ es) → Higher k (once row_cmp ks) → once row_cmp (map group_of (e ∷ es) ++ ks) ≡ k ∷ once row_cmp ks
once_run k e [] ks s h = ap (λ g. put_once row_cmp g (once row_cmp ks)) s.0 ∙ put_front k (once row_cmp ks) h
once_run k e (f ∷ es) ks s h = (λ i. put_once row_cmp (s.0 i) (once_run k f es ks s.1 h i)) ∙ put_again k (once row_cmp ks)

all_own : (k : Group) (es : List AnEntry) → Same k es → entries_of k es ≡ es
all_own k [] s = refl
all_own k (e ∷ es) s =
    (λ i. cond (row_eq k (s.0 i)) (e ∷ entries_of k es) (entries_of k es))
    ∙ (λ i. cond (is_eq (tied_itself row_total k i)) (e ∷ entries_of k es) (entries_of k es))
    ∙ ap (λ l. e ∷ l) (all_own k es s.1)

none_above : (k : Group) (es : List AnEntry) → Above k es → entries_of k es ≡ []
none_above k [] a = refl
none_above k (e ∷ es) a = (λ i. cond (is_eq (a.0 i)) (e ∷ entries_of k es) (entries_of k es)) ∙ none_above k es a.1

none_below : (k q : Group) (es : List AnEntry) → row_cmp k q ≡ Less → Same k es → entries_of q es ≡ []
none_below k q [] l s = refl
none_below k q (e ∷ es) l s =
    (λ i. cond (row_eq q (s.0 i)) (e ∷ entries_of q es) (entries_of q es))
    ∙ (λ i. cond (is_eq ((row_total.antisymm q k ∙ ap ordering_reverse l) i)) (e ∷ entries_of q es) (entries_of q es))
    ∙ none_below k q es l s.1

map_within : {X Y : Type 0} (P : X → Type 0) (f g : X → Y) (xs : List X) → AllByRecursion P xs → ((x : X) → P x → f x ≡ g x) → map f xs ≡ map g xs
map_within P f g [] a same = refl
map_within P f g (x ∷ xs) a same = λ i. same x a.0 i ∷ map_within P f g xs a.1 same i

map-append : (es fs : List AnEntry) → map group_of (es ++ fs) ≡ map group_of es ++ map group_of fs
map-append [] fs = refl
map-append (e ∷ es) fs = ap (λ l. group_of e ∷ l) (map-append es fs)

-- the groups of a run and of greater entries are the run's group and theirs
gathered_run : (sums : List Col) (k : Group) (e : AnEntry) (es rest : List AnEntry) → Same k (e ∷ es) → Above k rest → gathered sums ((e ∷ es) ++ rest) ≡ numbers_of sums k (e ∷ es) ∷ gathered sums rest
gathered_run sums k e es rest s a =
    let whole = (e ∷ es) ++ rest in
    let at : Group → SignedRow = λ q. numbers_of sums q (entries_of q whole) in
    let higher = higher_once k rest a in
    let own : entries_of k whole ≡ e ∷ es =
    filter-append (λ x. row_eq k (group_of x)) (e ∷ es) rest ∙ (λ i. all_own k (e ∷ es) s i ++ none_above k rest a i) ∙ append-nil (e ∷ es) in
    let theirs : (q : Group) → row_cmp k q ≡ Less → entries_of q whole ≡ entries_of q rest = λ q l.
    filter-append (λ x. row_eq q (group_of x)) (e ∷ es) rest ∙ ap (λ l. l ++ entries_of q rest) (none_below k q (e ∷ es) l s) in
    ap (map at) (ap (once row_cmp) (map-append (e ∷ es) rest) ∙ once_run k e es (map group_of rest) s higher)
    ∙ (λ i. numbers_of sums k (own i) ∷ map at (once row_cmp (map group_of rest)))
    ∙ ap (λ l. numbers_of sums k (e ∷ es) ∷ l)
    (map_within (λ q. row_cmp k q ≡ Less) at (λ q. numbers_of sums q (entries_of q rest)) (once row_cmp (map group_of rest)) higher
    (λ q l. ap (numbers_of sums q) (theirs q l)))

-- a loop's step: the run at the front, and the rest
pub record Falls (sums : List Col) (first : AnEntry) (n : ℕ) (es : List AnEntry) : Type 0 where
  pub groups : gathered sums es ≡ numbers_of sums (group_of first) (take n es) ∷ gathered sums (drop n es)
  pub rest : Rises (drop n es)
  pub some : 0 < n

self_least : (k : Group) → is_gt (row_cmp k k) ≡ false
self_least k = ap is_gt (tied_itself row_total k)

falls_at : (sums : List Col) (e : AnEntry) (es : List AnEntry) → Rises (e ∷ es) → Falls sums e (suc (run (group_of e) es)) (e ∷ es)
falls_at sums e es r =
    let k = group_of e in
    let n = run k es in record {
      groups =
          ap (gathered sums) (ap (λ l. e ∷ l) (sym (take-append-drop n es)))
          ∙ gathered_run sums k e (take n es) (drop n es) (refl, same_run k es) (above_run k es r.0 r.1);
      rest = rises_drop n es r.1;
      some = omega arith;
    }

pub falls : (sums : List Col) (first : AnEntry) (n : ℕ) (es : List AnEntry) → slice_get es 0 ≡ Some first → Rises es → n ≡ prefix_len (λ e. is_eq (entry_cmp first e)) es → Falls sums first n es
falls sums first n [] at r is = cc
falls sums first n (e ∷ es) at r is =
    let same : e ≡ first = same_Some e first at in
    let here : prefix_len (λ x. is_eq (entry_cmp e x)) (e ∷ es) ≡ suc (run (group_of e) es) =
    (λ i. cond (is_eq (tied_itself row_total (group_of e) i)) (1 + run (group_of e) es) 0) ∙ one_more (run (group_of e) es) in
    subst (λ (m : ℕ). Falls sums first m (e ∷ es)) (sym (is ∙ ap (λ f. prefix_len (λ x. is_eq (entry_cmp f x)) (e ∷ es)) (sym same) ∙ here))
    (subst (λ (f : AnEntry). Falls sums f (suc (run (group_of e) es)) (e ∷ es)) same (falls_at sums e es r))

-- what a sort leaves rises
not_gt : (x y : AnEntry) → is_lt (entry_cmp y x) ≡ false → is_gt (entry_cmp x y) ≡ false
not_gt x y g = by (row_cmp (group_of x) (group_of y)) refl
  where
    by : (r : Ordering) → row_cmp (group_of x) (group_of y) ≡ r → is_gt r ≡ false
    by Less e = refl
    by Equal e = refl
    by Greater e = let t : is_lt (row_cmp (group_of y) (group_of x)) ≡ true = ap is_lt (row_total.antisymm (group_of y) (group_of x) ∙ ap ordering_reverse e) in cc

least_along : (x : Group) (y : AnEntry) (es : List AnEntry) → is_gt (row_cmp x (group_of y)) ≡ false → AtLeast (group_of y) es → AtLeast x es
least_along x y [] h a = tt
least_along x y (e ∷ es) h a = (upto row_total x (group_of y) (group_of e) h a.0, least_along x y es h a.1)

pub rises_from_sorted : (es : List AnEntry) → IsSorted entry_cmp es → Rises es
rises_from_sorted [] s = tt
rises_from_sorted (e ∷ []) s = (tt, tt)
rises_from_sorted (e ∷ f ∷ es) s =
    let rest = rises_from_sorted (f ∷ es) (λ k d l h. simp add-one (simp add-one at (s (suc k) d (omega arith) (omega arith)))) in
    let here = not_gt e f (s 0 e (omega arith) (omega arith)) in
    ((here, least_along (group_of e) f es here rest.0), rest)

pub gather_step : (sums : List Col) (entries es : List AnEntry) (at n : ℕ) (first : AnEntry) (groups after : List SignedRow) (group : SignedRow) → es ≡ drop at entries → Falls sums first n es
    → group ≡ numbers_of sums (group_of first) (take n es) → groups ++ gathered sums (drop at entries) ≡ gathered sums entries → after ≡ groups ++ group ∷ []
    → after ++ gathered sums (drop (at + n) entries) ≡ gathered sums entries
gather_step sums entries es at n first groups after group is f made so_far push =
    let rest : drop (at + n) entries ≡ drop n es = sym (drop-drop n at entries) ∙ ap (drop n) (sym is) in
    (λ i. push i ++ gathered sums (rest i))
    ∙ append_assoc groups (group ∷ []) (gathered sums (drop n es))
    ∙ ap (λ l. groups ++ l) (ap (λ g. g ∷ gathered sums (drop n es)) made ∙ sym f.groups ∙ ap (gathered sums) is)
    ∙ so_far

pub rises_on : (entries es : List AnEntry) (at n : ℕ) → es ≡ drop at entries → Rises (drop n es) → Rises (drop (at + n) entries)
rises_on entries es at n is r = subst Rises (ap (drop n) is ∙ drop-drop n at entries) r
