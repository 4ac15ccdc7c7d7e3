-- The further orders of versions, together.
use Rattle.std.proofs.Common.{◌≡◌, ℕ, zero, suc, ◌+◌, ◌<◌, ◌≤◌, Bool, true, false, List, [], ◌∷◌, ◌++◌, length, length-append, map, filter, set, get_or, Option, Some, None, refl, sym, ap, ap₂, ◌∙◌, subst, arith}
use Rattle.std.specs.Prelude.{◌||◌, MatchOption, is_some, nat_eq, nat_lt, slice_get}
use Rattle.std.specs.Cmp.Lexicographic.{bytes_decides, pointwise}
use Rattle.std.specs.List.{AllByRecursion}
use Rattle.std.proofs.lemmas.List.{get_or-set_other, get_or-set_same, length-map, length-set}
use Rattle.std.proofs.lemmas.Bool.Decides.{nat_tests}
use Rattle.std.proofs.lemmas.Cmp.{tied_itself}
use Rattle.lv_values.specs.declared.value.Value.{Value}
use Rattle.lv_values.specs.OrderLaws.{row_total}
use Rattle.lv_values.specs.Rows.{values_at}
use Rattle.lv_schema.proofs.Apart.{all_weaker}
use Rattle.lv_schema.specs.declared.version.RowVersion.{RowVersion}
use Rattle.lv_shelf.specs.Cuts.{Apart}
use Rattle.lv_shelf.specs.Shelves.{ChangesOnly, LacksItem, other_at}
use Rattle.lv_shelf.proofs.Cutting.{all_at, got, got_within}
use Rattle.lv_shelf.proofs.Orders.{nth_map}
use Rattle.lv_versions.specs.Versions.{AreEnded, AreIndexed, AreOrders, EndsAtMost, HaveOrders, IsNewTo, Precedes, columns_at, has_index, is_current, new_by, new_version}
use Rattle.lv_versions.proofs.Cleaning.{absent, ended_more, kept_ended, stay}
use Rattle.lv_versions.proofs.Ending.{Closed}
use Rattle.lv_versions.proofs.Indexing.{indexed_closed, indexed_kept}

abbrev Lists : Type 0
Lists = List (List RowVersion)

-- ---- lists by their places
pub item_there : (vs : List RowVersion) (at : ℕ) → at < length vs → (v : RowVersion) × (slice_get vs at ≡ Some v)
item_there [] at lt = absurd (omega arith)
item_there (v ∷ vs) zero lt = (v, refl)
item_there (v ∷ vs) (suc at) lt = item_there vs at (omega arith)

pub same_item : (vs : List RowVersion) (at : ℕ) (v w : RowVersion) → slice_get vs at ≡ Some v → slice_get vs at ≡ Some w → v ≡ w
same_item vs at v w e f = sym (got vs at v v e) ∙ got vs at w v f

pub all_got : (P : RowVersion → Type 0) (vs : List RowVersion) (at : ℕ) (v : RowVersion) → slice_get vs at ≡ Some v → AllByRecursion P vs → P v
all_got P vs at v e a = subst P (got vs at v v e) (all_at P vs at v (got_within vs at v e) a)

pub all_by_place : {X : Type 0} (P : X → Type 0) (xs : List X) (d : X) → ((j : ℕ) → j < length xs → P (get_or xs j d)) → AllByRecursion P xs
all_by_place P [] d f = tt
all_by_place P (x ∷ xs) d f = (f 0 (omega arith), all_by_place P xs d (λ j lt. f (suc j) (omega arith)))

pub later_set : (others : Lists) (order : List RowVersion) (i j : ℕ) → i < 2 → other_at (set others i order) (j + 2) ≡ other_at others (j + 2)
later_set others order i j lt = get_or-set_other others i (j + 2) order [] (λ e. absurd (omega (arith, e, lt)))

pub next_set : (others : Lists) (order : List RowVersion) → other_at (set others 0 order) 1 ≡ other_at others 1
next_set others order = get_or-set_other others 0 1 order [] (λ e. absurd (omega arith))

pub first_set : (others : Lists) (order : List RowVersion) → other_at (set others 1 order) 0 ≡ other_at others 0
first_set others order = get_or-set_other others 1 0 order [] (λ e. absurd (omega arith))

pub other_new : (others : Lists) (k : ℕ) → other_at (others ++ [] ∷ []) k ≡ other_at others k
other_new [] zero = refl
other_new [] (suc k) = refl
other_new (l ∷ others) zero = refl
other_new (l ∷ others) (suc k) = other_new others k

pub other_past : (others : Lists) (k : ℕ) → length others ≤ k → other_at others k ≡ []
other_past [] k le = refl
other_past (l ∷ others) zero le = absurd (omega arith)
other_past (l ∷ others) (suc k) le = other_past others k (omega arith)

columns_kept : (cs : List (List ℕ)) (c : List ℕ) (j : ℕ) → j < length cs → columns_at (cs ++ c ∷ []) j ≡ columns_at cs j
columns_kept [] c j lt = absurd (omega arith)
columns_kept (d ∷ cs) c zero lt = refl
columns_kept (d ∷ cs) c (suc j) lt = columns_kept cs c j (omega arith)

columns_new : (cs : List (List ℕ)) (c : List ℕ) (j : ℕ) → j ≡ length cs → columns_at (cs ++ c ∷ []) j ≡ c
columns_new [] c zero e = refl
columns_new [] c (suc j) e = cc
columns_new (d ∷ cs) c zero e = cc
columns_new (d ∷ cs) c (suc j) e = columns_new cs c j (omega arith)

-- ---- whether there is an index
same_columns : (c : List ℕ) → pointwise nat_eq c c ≡ true
same_columns c = (bytes_decides c c).1 refl

other_columns : (c d : List ℕ) → (d ≡ c → ⊥) → (t : Bool) → pointwise nat_eq c d ≡ t → t ≡ false
other_columns c d ne true e = absurd (ne (sym ((bytes_decides c d).0 e)))
other_columns c d ne false e = refl

none_has : (cs : List (List ℕ)) (c : List ℕ) → AllByRecursion (λ (d : List ℕ). d ≡ c → ⊥) cs → has_index c cs ≡ false
none_has [] c a = refl
none_has (d ∷ cs) c a = ap₂ (λ s t. s || t) (other_columns c d a.0 (pointwise nat_eq c d) refl) (none_has cs c a.1)

some_has : (cs : List (List ℕ)) (c : List ℕ) (j : ℕ) → j < length cs → columns_at cs j ≡ c → has_index c cs ≡ true
some_has [] c j lt is = absurd (omega arith)
some_has (d ∷ cs) c zero lt is = ap (λ t. t || has_index c cs) (subst (λ l. pointwise nat_eq c l ≡ true) (sym is) (same_columns c))
some_has (d ∷ cs) c (suc j) lt is = later (pointwise nat_eq c d) (some_has cs c j (omega arith) is)
  where
    later : (s : Bool) → has_index c cs ≡ true → (s || has_index c cs) ≡ true
    later true e = refl
    later false e = e

pub has_told : (r : Option ℕ) (cs : List (List ℕ)) (c : List ℕ) → MatchOption r (AllByRecursion (λ (d : List ℕ). d ≡ c → ⊥) cs) (λ j. (j < length cs) × (columns_at cs j ≡ c)) → has_index c cs ≡ is_some r
has_told None cs c h = none_has cs c h
has_told (Some j) cs c h = some_has cs c j h.0 h.1

-- ---- orders or none
pub orders_have : (ps : List ℕ) (cs : List (List ℕ)) (spare : ℕ) (others : Lists) (vs : List RowVersion) → AreOrders ps cs others vs → HaveOrders ps cs spare others vs
orders_have ps cs spare [] vs a = let none : 0 ≡ length cs + 2 = a.count in absurd (omega arith)
orders_have ps cs spare (order ∷ []) vs a = let one : 1 ≡ length cs + 2 = a.count in absurd (omega arith)
orders_have ps cs spare (order ∷ next ∷ more) vs a = a

pub some_orders : (ps : List ℕ) (cs : List (List ℕ)) (spare : ℕ) (others : Lists) (vs : List RowVersion) → 1 < length others → HaveOrders ps cs spare others vs → AreOrders ps cs others vs
some_orders ps cs spare [] vs lt h = absurd (omega arith)
some_orders ps cs spare (order ∷ []) vs lt h = absurd (omega arith)
some_orders ps cs spare (order ∷ next ∷ more) vs lt h = h

none_at : (at : ℕ) (vs : List RowVersion) (v : RowVersion) → vs ≡ [] → slice_get vs at ≡ Some v → ⊥
none_at at [] v none e = cc
none_at at (w ∷ vs) v none e = cc

pub some_version : (ps : List ℕ) (cs : List (List ℕ)) (spare : ℕ) (others : Lists) (vs : List RowVersion) (at : ℕ) (v : RowVersion) → slice_get vs at ≡ Some v → HaveOrders ps cs spare others vs → AreOrders ps cs others vs
some_version ps cs spare [] vs at v e h = absurd (none_at at vs v h.1 e)
some_version ps cs spare (order ∷ []) vs at v e h = absurd (none_at at vs v h.1 e)
some_version ps cs spare (order ∷ next ∷ more) vs at v e h = h

pub some_room : (ps : List ℕ) (cs : List (List ℕ)) (spare : ℕ) (others : Lists) (vs : List RowVersion) → 0 < spare → HaveOrders ps cs spare others vs → AreOrders ps cs others vs
some_room ps cs spare [] vs lt h = let none = h.2 in absurd (omega arith)
some_room ps cs spare (order ∷ []) vs lt h = let none = h.2 in absurd (omega arith)
some_room ps cs spare (order ∷ next ∷ more) vs lt h = h

pub index_at : (ps : List ℕ) (cs : List (List ℕ)) (c : List ℕ) (spare j : ℕ) (others : Lists) (vs : List RowVersion) → j < length cs → columns_at cs j ≡ c → HaveOrders ps cs spare others vs → (j + 2 < length others) × AreIndexed c ps (other_at others (j + 2)) vs
index_at ps cs c spare j [] vs lt is h = let none = ap length h.0 in absurd (omega arith)
index_at ps cs c spare j (order ∷ []) vs lt is h = let none = ap length h.0 in absurd (omega arith)
index_at ps cs c spare j (order ∷ next ∷ more) vs lt is h = (omega (arith, lt, h.count), subst (λ d. AreIndexed d ps (other_at (order ∷ next ∷ more) (j + 2)) vs) is (h.indexed j lt))

pub no_orders : (ps : List ℕ) (cs : List (List ℕ)) (spare : ℕ) (others : Lists) (vs : List RowVersion) → length others < 2 → HaveOrders ps cs spare others vs → vs ≡ []
no_orders ps cs spare [] vs lt h = h.1
no_orders ps cs spare (order ∷ []) vs lt h = h.1
no_orders ps cs spare (order ∷ next ∷ more) vs lt h = absurd (omega arith)

pub next_order : (ps : List ℕ) (cs : List (List ℕ)) (spare : ℕ) (others : Lists) (vs : List RowVersion) → length others < 2 → HaveOrders ps cs spare others vs → HaveOrders ps cs spare (others ++ [] ∷ []) vs
next_order ps cs spare [] vs lt h = (h.0, h.1, h.2, refl)
next_order ps cs spare (order ∷ []) vs lt h = record {
  count = let none = ap length h.0 in omega arith;
  ended = subst (λ l. AreEnded l vs) (sym h.3) (subst (AreEnded []) (sym h.1) (record { ends = tt; ended = tt; here = tt; all = tt }));
  indexed = λ j lt'. let none = ap length h.0 in absurd (omega arith);
}
next_order ps cs spare (order ∷ next ∷ more) vs lt h = absurd (omega arith)

-- where the order of the current ones alone is another one
pub orders_apart : (ps : List ℕ) (cs : List (List ℕ)) (others others' : Lists) (vs : List RowVersion) → length others' ≡ length others → ((k : ℕ) → (k ≡ 1 → ⊥) → other_at others' k ≡ other_at others k) → AreOrders ps cs others vs → AreOrders ps cs others' vs
orders_apart ps cs others others' vs long same a = record {
  count = long ∙ a.count;
  ended = subst (λ l. AreEnded l vs) (sym (same 0 (λ e. absurd (omega (arith, e))))) a.ended;
  indexed = λ j lt. subst (λ l. AreIndexed (columns_at cs j) ps l vs) (sym (same (j + 2) (λ e. absurd (omega (arith, e))))) (a.indexed j lt);
}

-- ---- a version that is new
pub new_lacks : (ps : List ℕ) (number : ℕ) (row : List Value) (vs : List RowVersion) → AllByRecursion (IsNewTo ps number row) vs → LacksItem (new_version number row) vs
new_lacks ps number row vs a = all_weaker (IsNewTo ps number row) (λ y. y ≡ new_version number row → ⊥) (λ y n same. clash (subst (IsNewTo ps number row) same n)) vs a
  where
    clash : IsNewTo ps number row (new_version number row) → ⊥
    clash n = let h = subst (λ o. new_by o number (new_version number row)) (tied_itself row_total (values_at ps row)) n in let lt : number < number = h.0 in absurd (omega arith)

-- ---- a version that ends
ended_list : (ps : List ℕ) (number : ℕ) (row : List Value) (others : Lists) (vs : List RowVersion) → AreEnded (other_at others 0) vs → other_at (map (map (Closed ps number row)) others) 0 ≡ other_at others 0
ended_list ps number row others vs a = nth_map (map (Closed ps number row)) others 0 [] [] refl ∙ stay ps number row (other_at others 0) a.ended

pub absent_last : (ps : List ℕ) (number : ℕ) (row : List Value) (others : Lists) (vs : List RowVersion) (at : ℕ) (item : RowVersion) → Apart (Precedes ps) vs → slice_get vs at ≡ Some item → is_current ps row number item ≡ true
    → AreEnded (other_at others 0) vs → LacksItem (Closed ps number row item) (other_at (map (map (Closed ps number row)) others) 0)
absent_last ps number row others vs at item stand e h a = subst (LacksItem (Closed ps number row item)) (sym (ended_list ps number row others vs a)) (absent ps number row (other_at others 0) vs at item stand e h a)

pub orders_ended : (ps : List ℕ) (cs : List (List ℕ)) (number : ℕ) (row : List Value) (others others' : Lists) (vs less : List RowVersion) (at : ℕ) (item : RowVersion) → Apart (Precedes ps) vs → AllByRecursion (λ v. EndsAtMost number v.until) vs
    → slice_get vs at ≡ Some item → is_current ps row number item ≡ true → ChangesOnly (Closed ps number row) at vs → AreOrders ps cs others vs
    → others' ≡ set (map (map (Closed ps number row)) (set others 1 less)) 0 (other_at (map (map (Closed ps number row)) (set others 1 less)) 0 ++ Closed ps number row item ∷ []) → AreOrders ps cs others' (map (Closed ps number row) vs)
orders_ended ps cs number row others others' vs less at item stand ends e h only a is =
    let f : RowVersion → RowVersion = Closed ps number row in
    let left : Lists = set others 1 less in
    let mapped : Lists = map (map f) left in
    let last : List RowVersion = other_at mapped 0 ++ Closed ps number row item ∷ [] in
    let long : length mapped ≡ length others = length-map left (map f) ∙ length-set others 1 less in
    let first : other_at mapped 0 ≡ other_at others 0 =
    ended_list ps number row left vs (subst (λ l. AreEnded l vs) (sym (first_set others less)) a.ended) ∙ first_set others less in
    record {
      count = ap length is ∙ length-set mapped 0 last ∙ long ∙ a.count;
      ended = subst (λ l. AreEnded l (map f vs)) (sym (ap (λ l. other_at l 0) is ∙ get_or-set_same mapped 0 last [] (omega (arith, long, a.count)) ∙ ap (λ l. l ++ Closed ps number row item ∷ []) first))
          (ended_more ps number row (other_at others 0) vs at item stand ends e h only a.ended);
      indexed = λ j lt.
          subst (λ l. AreIndexed (columns_at cs j) ps l (map f vs))
          (sym (ap (λ l. other_at l (j + 2)) is ∙ later_set mapped last 0 j (omega arith) ∙ nth_map (map f) left (j + 2) [] [] refl ∙ ap (map f) (later_set others less 1 j (omega arith))))
          (indexed_closed (columns_at cs j) ps number (row ∷ []) (other_at others (j + 2)) vs (a.indexed j lt));
    }

-- what stays in the order of the others
pub others_ended : (f : RowVersion → RowVersion) (others others' : Lists) (less last : List RowVersion) → 1 < length others → others' ≡ set (map (map f) (set others 1 less)) 0 last → other_at others' 1 ≡ map f less
others_ended f others others' less last lt is =
    let left : Lists = set others 1 less in
    ap (λ l. other_at l 1) is ∙ next_set (map (map f) left) last ∙ nth_map (map f) left 1 [] [] refl ∙ ap (map f) (get_or-set_same others 1 less [] lt)

-- ---- versions that are kept
pub orders_kept : (ps : List ℕ) (cs : List (List ℕ)) (p : RowVersion → Bool) (others : Lists) (vs : List RowVersion) → AreOrders ps cs others vs → AreOrders ps cs (map (filter p) others) (filter p vs)
orders_kept ps cs p others vs a = record {
  count = length-map others (filter p) ∙ a.count;
  ended = subst (λ l. AreEnded l (filter p vs)) (sym (nth_map (filter p) others 0 [] [] refl)) (kept_ended p (other_at others 0) vs a.ended);
  indexed = λ j lt. subst (λ l. AreIndexed (columns_at cs j) ps l (filter p vs)) (sym (nth_map (filter p) others (j + 2) [] [] refl)) (indexed_kept (columns_at cs j) ps p (other_at others (j + 2)) vs (a.indexed j lt));
}

-- ---- an order more
pub orders_more : (ps : List ℕ) (cs : List (List ℕ)) (c : List ℕ) (others others' : Lists) (vs : List RowVersion) → AreOrders ps cs others vs → length others' ≡ length others + 1 → AreIndexed c ps (other_at others' (length others)) vs
    → ((k : ℕ) → (k ≡ length others → ⊥) → other_at others' k ≡ other_at others k) → AreOrders ps (cs ++ c ∷ []) others' vs
orders_more ps cs c others others' vs a long filled same =
    let n : length (cs ++ c ∷ []) ≡ length cs + 1 = length-append cs (c ∷ []) in
    record {
      count = omega (arith, long, n, a.count);
      ended = subst (λ l. AreEnded l vs) (sym (same 0 (λ e. absurd (omega (arith, e, a.count))))) a.ended;
      indexed = λ j lt. by j (omega (arith, lt, n)) (nat_lt j (length cs)) refl;
    }
  where
    by : (j : ℕ) → j < length cs + 1 → (t : Bool) → nat_lt j (length cs) ≡ t → AreIndexed (columns_at (cs ++ c ∷ []) j) ps (other_at others' (j + 2)) vs
    by j le true e =
        let lt : j < length cs = grind (arith, nat_tests) in
        subst (λ d. AreIndexed d ps (other_at others' (j + 2)) vs) (sym (columns_kept cs c j lt)) (subst (λ l. AreIndexed (columns_at cs j) ps l vs) (sym (same (j + 2) (λ f. absurd (omega (arith, f, lt, a.count))))) (a.indexed j lt))
    by j le false e =
        let is : j ≡ length cs = grind (arith, nat_tests) in
        let place : length others ≡ j + 2 = omega (arith, is, a.count) in
        subst (λ d. AreIndexed d ps (other_at others' (j + 2)) vs) (sym (columns_new cs c j is)) (subst (λ k. AreIndexed c ps (other_at others' k) vs) place filled)

-- ---- a version that is in no order
pub each_lacks : (v : RowVersion) (cs : List (List ℕ)) (others : Lists) → length others ≡ length cs + 2 → LacksItem v (other_at others 0) → LacksItem v (other_at others 1) → ((j : ℕ) → j < length cs → LacksItem v (other_at others (j + 2)))
    → AllByRecursion (LacksItem v) others
each_lacks v cs others count first next later = all_by_place (LacksItem v) others [] at
  where
    at : (j : ℕ) → j < length others → LacksItem v (other_at others j)
    at zero lt = first
    at (suc zero) lt = next
    at (suc (suc j)) lt = let e : j + 2 ≡ suc (suc j) = omega arith in subst (λ k. LacksItem v (other_at others k)) e (later j (omega (arith, lt, count)))
