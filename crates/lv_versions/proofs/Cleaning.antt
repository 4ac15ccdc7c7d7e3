-- The order of the ended versions.
use Rattle.std.proofs.Common.{◌≡◌, ℕ, zero, suc, ◌<◌, ◌≤◌, Bool, true, false, cond, List, [], ◌∷◌, ◌++◌, map, filter, length, Option, Some, None, refl, sym, ap, ap₂, ◌∙◌, subst, arith}
use Rattle.std.specs.Prelude.{◌&&◌, nat_lt, nat_le, not, is_none, slice_get}
use Rattle.std.specs.List.{AllByRecursion, remove}
use Rattle.std.specs.Ordering.{is_eq, is_gt, nat_cmp}
use Rattle.std.specs.declared.cmp.Ordering.{Ordering}
use Rattle.std.specs.declared.cmp.Ordering.TheVariants.{Less, Equal, Greater}
use Rattle.std.proofs.lemmas.Bool.Decides.{nat_tests}
use Rattle.std.proofs.lemmas.Cmp.{tied_itself}
use Rattle.lv_values.specs.declared.value.Value.{Value}
use Rattle.lv_values.specs.Ascending.{placed}
use Rattle.lv_values.specs.Order.{row_eq}
use Rattle.lv_values.specs.OrderLaws.{row_total}
use Rattle.lv_schema.proofs.Apart.{all_append, all_both, all_filter, all_weaker, apart_append, apart_filter}
use Rattle.lv_schema.specs.Effects.{has_key, same_key}
use Rattle.lv_schema.proofs.NetsLead.{same_row}
use Rattle.lv_schema.specs.declared.version.RowVersion.{RowVersion}
use Rattle.lv_shelf.specs.Cuts.{Apart, Falls, IsCut}
use Rattle.lv_shelf.specs.Shelves.{ChangesOnly, LacksItem}
use Rattle.lv_shelf.proofs.Among.{all_remove}
use Rattle.lv_shelf.proofs.Cutting.{all_at, all_kept, got, got_within}
use Rattle.lv_versions.specs.Versions.{AreEnded, EndsAtMost, EndsNoLater, EndsSooner, HasEnded, IsBy, IsIn, Precedes, closed, ended_at, ends_after, is_current, is_over, new_version, upto, version_cmp}
use Rattle.lv_versions.proofs.Ending.{Closed, all_mapped, closed_current, closed_other, earlier_other, ends_at_most, later_other}
use Rattle.lv_versions.proofs.Bringing.{all_last}
use Rattle.lv_versions.proofs.Standing.{all_placed, falls_from, precedes_less, true_not_false, version_total}

-- ---- versions that are kept
lacks_filter : (p : RowVersion → Bool) (y : RowVersion) (zs : List RowVersion) → p y ≡ true → LacksItem y (filter p zs) → LacksItem y zs
lacks_filter p y [] t a = tt
lacks_filter p y (z ∷ zs) t a = by (p z) refl a (λ a'. lacks_filter p y zs t a')
  where
    by : (b : Bool) → p z ≡ b → LacksItem y (cond b (z ∷ filter p zs) (filter p zs)) → (LacksItem y (filter p zs) → LacksItem y zs) → LacksItem y (z ∷ zs)
    by true e a' ih = (a'.0, ih a'.1)
    by false e a' ih = ((λ same. true_not_false (p y) t (ap p (sym same) ∙ e)), ih a')

pub kept_here : (p : RowVersion → Bool) (order vs : List RowVersion) → AllByRecursion (λ v. IsIn v vs) order → AllByRecursion (λ v. IsIn v (filter p vs)) (filter p order)
kept_here p order vs a = all_both (λ v. IsIn v vs) (λ v. p v ≡ true) (λ v. IsIn v (filter p vs)) (λ v i t l. i (lacks_filter p v vs t l)) (filter p order) (all_filter (λ v. IsIn v vs) p order a) (all_kept p order)

pub kept_ended : (p : RowVersion → Bool) (order vs : List RowVersion) → AreEnded order vs → AreEnded (filter p order) (filter p vs)
kept_ended p order vs a = record {
  ends = apart_filter EndsSooner p order a.ends;
  ended = all_filter HasEnded p order a.ended;
  here = kept_here p order vs a.here;
  all = all_both (λ v. HasEnded v → IsIn v order) (λ v. p v ≡ true) (λ v. HasEnded v → IsIn v (filter p order)) (λ v i t e l. i e (lacks_filter p v order t l)) (filter p vs)
      (all_filter (λ v. HasEnded v → IsIn v order) p vs a.all) (all_kept p vs);
}

-- ---- a version that comes
pub all_unplaced : {X : Type 0} (R : X → X → Ordering) (P : X → Type 0) (x : X) (ys : List X) → AllByRecursion P (placed R x ys) → AllByRecursion P ys
all_unplaced R P x [] a = tt
all_unplaced R P x (y ∷ ys) a = by (is_gt (R x y)) a (λ b. all_unplaced R P x ys b)
  where
    by : (t : Bool) → AllByRecursion P (cond t (y ∷ placed R x ys) (x ∷ y ∷ ys)) → (AllByRecursion P (placed R x ys) → AllByRecursion P ys) → AllByRecursion P (y ∷ ys)
    by true a' ih = (a'.0, ih a'.1)
    by false a' ih = a'.1

pub placed_here : {X : Type 0} (R : X → X → Ordering) (P : X → Type 0) (x : X) (ys : List X) → AllByRecursion P (placed R x ys) → P x
placed_here R P x [] a = a.0
placed_here R P x (y ∷ ys) a = by (is_gt (R x y)) a (λ b. placed_here R P x ys b)
  where
    by : (t : Bool) → AllByRecursion P (cond t (y ∷ placed R x ys) (x ∷ y ∷ ys)) → (AllByRecursion P (placed R x ys) → P x) → P x
    by true a' ih = ih a'.1
    by false a' ih = a'.0

pub put_ended : (ps : List ℕ) (number : ℕ) (row : List Value) (order vs : List RowVersion) → AreEnded order vs → AreEnded order (placed (version_cmp ps) (new_version number row) vs)
put_ended ps number row order vs a = record {
  ends = a.ends;
  ended = a.ended;
  here = all_weaker (λ v. IsIn v vs) (λ v. IsIn v (placed (version_cmp ps) (new_version number row) vs)) (λ v i l. i (all_unplaced (version_cmp ps) (λ y. y ≡ v → ⊥) (new_version number row) vs l)) order a.here;
  all = all_placed (version_cmp ps) (λ v. HasEnded v → IsIn v order) (new_version number row) vs (λ e. cc) a.all;
}

-- ---- versions in their order are different
less_differ : (ps : List ℕ) (z x : RowVersion) → version_cmp ps z x ≡ Less → z ≡ x → ⊥
less_differ ps z x l e =
    let same : version_cmp ps z z ≡ Less = subst (λ y. version_cmp ps z y ≡ Less) (sym e) l in
    let tied : version_cmp ps z z ≡ Equal = tied_itself (version_total ps) z in
    cc

pub rest_lacks : (ps : List ℕ) (vs : List RowVersion) (at : ℕ) (item x : RowVersion) → ((z : RowVersion) → version_cmp ps x z ≡ version_cmp ps item z) → ((z : RowVersion) → version_cmp ps z x ≡ version_cmp ps z item)
    → Apart (Precedes ps) vs → slice_get vs at ≡ Some item → LacksItem x (remove vs at)
rest_lacks ps [] zero item x left right a e = tt
rest_lacks ps [] (suc at) item x left right a e = tt
rest_lacks ps (z ∷ zs) zero item x left right a e =
    let is : z ≡ item = got (z ∷ zs) zero item item e in
    all_weaker (Precedes ps z) (λ w. w ≡ x → ⊥) (λ w r same. less_differ ps x w (left w ∙ ap (λ y. version_cmp ps y w) (sym is) ∙ precedes_less ps z w r) (sym same)) zs a.0
rest_lacks ps (z ∷ zs) (suc at) item x left right a e =
    let before : Precedes ps z item = subst (Precedes ps z) (got zs at item item e) (all_at (Precedes ps z) zs at item (got_within zs at item e) a.0) in
    ((λ same. less_differ ps z x (right z ∙ precedes_less ps z item before) same), rest_lacks ps zs at item x left right a.1 e)

pub back_lacks : (vs : List RowVersion) (at : ℕ) (item x : RowVersion) → slice_get vs at ≡ Some item → (item ≡ x → ⊥) → LacksItem x (remove vs at) → LacksItem x vs
back_lacks [] at item x e ne l = tt
back_lacks (z ∷ zs) zero item x e ne l = ((λ same. ne (sym (got (z ∷ zs) zero item item e) ∙ same)), l)
back_lacks (z ∷ zs) (suc at) item x e ne l = (l.0, back_lacks zs at item x e ne l.1)

-- ---- a version that ends
stays : (ps : List ℕ) (number : ℕ) (row : List Value) (v : RowVersion) → HasEnded v → Closed ps number row v ≡ v
stays ps number row v e = closed_other ps number row v (ap (λ b. b && (nat_lt v.from number && same_key ps v.row row)) e)

pub stay : (ps : List ℕ) (number : ℕ) (row : List Value) (order : List RowVersion) → AllByRecursion HasEnded order → map (Closed ps number row) order ≡ order
stay ps number row [] a = refl
stay ps number row (v ∷ order) a = ap₂ (λ x l. x ∷ l) (stays ps number row v a.0) (stay ps number row order a.1)

in_map : (f : RowVersion → RowVersion) (vs : List RowVersion) (at : ℕ) (item : RowVersion) → slice_get vs at ≡ Some item → IsIn (f item) (map f vs)
in_map f [] zero item e l = cc
in_map f [] (suc at) item e l = cc
in_map f (z ∷ zs) zero item e l = l.0 (ap f (got (z ∷ zs) zero item item e))
in_map f (z ∷ zs) (suc at) item e l = in_map f zs at item e l.1

lacks_map : (f : RowVersion → RowVersion) (y : RowVersion) (zs : List RowVersion) → f y ≡ y → LacksItem y (map f zs) → LacksItem y zs
lacks_map f y [] fix l = tt
lacks_map f y (z ∷ zs) fix l = ((λ same. l.0 (ap f same ∙ fix)), lacks_map f y zs fix l.1)

only_all : (R P : RowVersion → Type 0) (f : RowVersion → RowVersion) (vs : List RowVersion) (at : ℕ) (item : RowVersion) → slice_get vs at ≡ Some item → ChangesOnly f at vs
    → ((z : RowVersion) → f z ≡ z → R z → P z) → P item → AllByRecursion R vs → AllByRecursion P vs
only_all R P f [] at item e only step last a = tt
only_all R P f (z ∷ zs) zero item e only step last a = (subst P (sym (got (z ∷ zs) zero item item e)) last, all_both (λ y. f y ≡ y) R P step zs only a.1)
only_all R P f (z ∷ zs) (suc at) item e only step last a = (step z only.0 a.0, only_all R P f zs at item e only.1 step last a.1)

lacks_at : (ps : List ℕ) (number : ℕ) (row : List Value) (vs : List RowVersion) (at : ℕ) (item : RowVersion) → Apart (Precedes ps) vs → slice_get vs at ≡ Some item → is_current ps row number item ≡ true → LacksItem (Closed ps number row item) vs
lacks_at ps number row vs at item a e h =
    let none : is_none item.until ≡ true = first (is_none item.until) (nat_lt item.from number && same_key ps item.row row) h in
    subst (λ x. LacksItem x vs) (sym (closed_current ps number row item h))
    (back_lacks vs at item (ended_at number item) e (λ same. let f : is_none item.until ≡ false = ap (λ (v : RowVersion). is_none v.until) same in true_not_false (is_none item.until) none f)
    (rest_lacks ps vs at item (ended_at number item) (λ z. refl) (λ z. refl) a e))
  where
    first : (a b : Bool) → (a && b) ≡ true → a ≡ true
    first true b t = refl
    first false b t = cc

pub absent : (ps : List ℕ) (number : ℕ) (row : List Value) (order vs : List RowVersion) (at : ℕ) (item : RowVersion) → Apart (Precedes ps) vs → slice_get vs at ≡ Some item → is_current ps row number item ≡ true → AreEnded order vs
    → LacksItem (Closed ps number row item) order
absent ps number row order vs at item a e h r =
    all_weaker (λ y. IsIn y vs) (λ y. y ≡ Closed ps number row item → ⊥) (λ y i same. i (subst (λ w. LacksItem w vs) (sym same) (lacks_at ps number row vs at item a e h))) order r.here

at_most : (number : ℕ) (y : RowVersion) (vs : List RowVersion) → IsIn y vs → AllByRecursion (λ v. EndsAtMost number v.until) vs → HasEnded y → EndsNoLater y.until (Some number)
at_most number y vs i b h = by y.until refl
  where
    over : (k : ℕ) (z : RowVersion) → y.until ≡ Some k → nat_le k number ≡ false → EndsAtMost number z.until → z ≡ y → ⊥
    over k z e f m same = let le : k ≤ number = subst (EndsAtMost number) (ap (λ (v : RowVersion). v.until) same ∙ e) m in let t : nat_le k number ≡ true = grind (arith, nat_tests) in true_not_false (nat_le k number) t f

    test : (k : ℕ) → y.until ≡ Some k → (t : Bool) → nat_le k number ≡ t → k ≤ number
    test k e true f = grind (arith, nat_tests)
    test k e false f = absurd (i (all_weaker (λ v. EndsAtMost number v.until) (λ z. z ≡ y → ⊥) (λ z m same. over k z e f m same) vs b))

    by : (u : Option ℕ) → y.until ≡ u → EndsNoLater u (Some number)
    by None e = absurd (true_not_false (is_none y.until) (ap is_none e) h)
    by (Some k) e = test k e (nat_le k number) refl

pub ended_more : (ps : List ℕ) (number : ℕ) (row : List Value) (order vs : List RowVersion) (at : ℕ) (item : RowVersion) → Apart (Precedes ps) vs → AllByRecursion (λ v. EndsAtMost number v.until) vs → slice_get vs at ≡ Some item
    → is_current ps row number item ≡ true → ChangesOnly (Closed ps number row) at vs → AreEnded order vs → AreEnded (order ++ Closed ps number row item ∷ []) (map (Closed ps number row) vs)
ended_more ps number row order vs at item a b e h only r =
    let f : RowVersion → RowVersion = Closed ps number row in
    let x : RowVersion = Closed ps number row item in
    let is : x ≡ ended_at number item = closed_current ps number row item h in
    let lacks = absent ps number row order vs at item a e h r in
    record {
      ends = apart_append EndsSooner order (x ∷ []) r.ends (tt, tt)
          (all_both (λ y. EndsNoLater y.until (Some number)) (λ y. y ≡ x → ⊥) (λ y. AllByRecursion (EndsSooner y) (x ∷ []))
          (λ y m ne. ((subst (λ w. EndsNoLater y.until w.until) (sym is) m, ne), tt)) order
          (all_both (λ y. IsIn y vs) HasEnded (λ y. EndsNoLater y.until (Some number)) (λ y i g. at_most number y vs i b g) order r.here r.ended) lacks);
      ended = all_append HasEnded order (x ∷ []) r.ended (ap (λ (v : RowVersion). is_none v.until) is, tt);
      here = all_append (λ v. IsIn v (map f vs)) order (x ∷ [])
          (all_both (λ v. IsIn v vs) HasEnded (λ v. IsIn v (map f vs)) (λ v i g l. i (lacks_map f v vs (stays ps number row v g) l)) order r.here r.ended)
          (in_map f vs at item e, tt);
      all = map_all f (λ v. HasEnded v → IsIn v (order ++ x ∷ [])) vs
          (only_all (λ v. HasEnded v → IsIn v order) (λ v. HasEnded (f v) → IsIn (f v) (order ++ x ∷ [])) f vs at item e only
          (λ z fix i g l. i (subst HasEnded fix g) (subst (λ w. LacksItem w order) fix (all_last (λ y. y ≡ f z → ⊥) order x l).0))
          (λ g l. (all_last (λ y. y ≡ x → ⊥) order x l).1 refl) r.all);
    }
  where
    map_all : (g : RowVersion → RowVersion) (P : RowVersion → Type 0) (xs : List RowVersion) → AllByRecursion (λ v. P (g v)) xs → AllByRecursion P (map g xs)
    map_all g P [] q = tt
    map_all g P (y ∷ ys) q = (q.0, map_all g P ys q.1)

-- the end of the version that has the row changes that one alone
others_stay : (ps : List ℕ) (row : List Value) (number : ℕ) (vs : List RowVersion) → AllByRecursion (λ v. upto ps row v ≡ false) vs → AllByRecursion (λ v. Closed ps number row v ≡ v) vs
others_stay ps row number vs b = all_weaker (λ v. upto ps row v ≡ false) (λ v. Closed ps number row v ≡ v) (λ v f. closed_other ps number row v (later_other ps row number v f)) vs b

changes_only : (ps : List ℕ) (row : List Value) (number i : ℕ) (vs : List RowVersion) (item : RowVersion) → Apart (Precedes ps) vs → IsCut (upto ps row) (suc i) vs → slice_get vs i ≡ Some item
    → (upto ps row item ≡ true) × ChangesOnly (Closed ps number row) i vs
changes_only ps row number i [] item a cut e = absurd cut
changes_only ps row number zero (v ∷ vs) item a cut e = (subst (λ w. upto ps row w ≡ true) (got (v ∷ vs) zero item item e) cut.0, others_stay ps row number vs cut.1)
changes_only ps row number (suc i) (v ∷ vs) item a cut e =
    let more = changes_only ps row number i vs item a.1 cut.1 e in
    let before : Precedes ps v item = subst (Precedes ps v) (got vs i item item e) (all_at (Precedes ps v) vs i item (got_within vs i item e) a.0) in
    (more.0, (closed_other ps number row v (earlier_other ps row number v item before more.0), more.1))

pub changes_one : (ps : List ℕ) (row : List Value) (number i at : ℕ) (vs : List RowVersion) (item : RowVersion) → suc i ≡ at → Apart (Precedes ps) vs → IsCut (upto ps row) at vs
    → slice_get vs i ≡ Some item → ChangesOnly (Closed ps number row) i vs
changes_one ps row number i at vs item is a cut e = (changes_only ps row number i vs item a (subst (λ n. IsCut (upto ps row) n vs) (sym is) cut) e).1

-- ---- the first ones in the order
sooner_over : (floor : ℕ) (u w : Option ℕ) → EndsNoLater u w → not (ends_after floor w) ≡ true → not (ends_after floor u) ≡ true
sooner_over floor None w h t = absurd h
sooner_over floor (Some k) None h t = absurd h
sooner_over floor (Some k) (Some j) h t = let f : nat_lt floor k ≡ false = by (nat_lt floor j) refl t in ap not f
  where
    by : (b : Bool) → nat_lt floor j ≡ b → not b ≡ true → nat_lt floor k ≡ false
    by true e t' = cc
    by false e t' = grind (arith, nat_tests)

pub over_falls : (floor : ℕ) (order : List RowVersion) → Apart EndsSooner order → Falls (is_over floor) order
over_falls floor order a = falls_from (is_over floor) EndsSooner (λ v w r t. sooner_over floor v.until w.until r.0 t) order a

all_pass : (p : RowVersion → Bool) (vs : List RowVersion) → AllByRecursion (λ v. p v ≡ true) vs → filter p vs ≡ vs
all_pass p [] a = refl
all_pass p (v ∷ vs) a = ap (λ b. cond b (v ∷ filter p vs) (filter p vs)) a.0 ∙ ap (λ l. v ∷ l) (all_pass p vs a.1)

-- where none in the order ended by the floor, none did
pub none_over : (floor : ℕ) (order vs : List RowVersion) → AreEnded order vs → AllByRecursion (λ v. is_over floor v ≡ false) order → filter (λ v. ends_after floor v.until) vs ≡ vs
none_over floor order vs r b = all_pass (λ v. ends_after floor v.until) vs (all_weaker (λ v. HasEnded v → IsIn v order) (λ v. ends_after floor v.until ≡ true) (λ v i. by v i v.until refl) vs r.all)
  where
    over : (v y : RowVersion) → ends_after floor v.until ≡ false → is_over floor y ≡ false → y ≡ v → ⊥
    over v y f g same = let t : is_over floor y ≡ true = ap (is_over floor) same ∙ ap not f in true_not_false (is_over floor y) t g

    test : (v : RowVersion) → (HasEnded v → IsIn v order) → HasEnded v → (t : Bool) → ends_after floor v.until ≡ t → t ≡ true
    test v i h true f = refl
    test v i h false f = absurd (i h (all_weaker (λ y. is_over floor y ≡ false) (λ y. y ≡ v → ⊥) (λ y g same. over v y f g same) order b))

    by : (v : RowVersion) → (HasEnded v → IsIn v order) → (u : Option ℕ) → v.until ≡ u → ends_after floor v.until ≡ true
    by v i None e = ap (ends_after floor) e
    by v i (Some k) e = test v i (ap is_none e) (ends_after floor v.until) refl

-- ---- the version that ended first
same_version : (z v : RowVersion) → z.row ≡ v.row → z.from ≡ v.from → z.until ≡ v.until → z ≡ v
same_version z v a b c = ap (λ (r : List Value). record z { row = r }) a ∙ ap (λ (n : ℕ). record z { row = v.row; from = n }) b ∙ ap (λ (u : Option ℕ). record z { row = v.row; from = v.from; until = u }) c

row_itself : (r : List Value) → row_eq r r ≡ true
row_itself r = ap is_eq (tied_itself row_total r)

-- a version is another one or not
same_row_or : (x y : List Value) → ((x ≡ y → ⊥) → ⊥) → x ≡ y
same_row_or x y nn = by (row_eq x y) refl
  where
    by : (b : Bool) → row_eq x y ≡ b → x ≡ y
    by true e = same_row x y e
    by false e = absurd (nn (λ same. true_not_false (row_eq x y) (subst (λ z. row_eq x z ≡ true) same (row_itself x)) e))

same_nat_or : (x y : ℕ) → ((x ≡ y → ⊥) → ⊥) → x ≡ y
same_nat_or x y nn = by (nat_cmp x y) refl
  where
    by : (o : Ordering) → nat_cmp x y ≡ o → x ≡ y
    by Equal e = grind (arith, nat_tests)
    by Less e = absurd (nn (λ same. let f : nat_cmp x y ≡ Equal = grind (arith, nat_tests) in cc))
    by Greater e = absurd (nn (λ same. let f : nat_cmp x y ≡ Equal = grind (arith, nat_tests) in cc))

same_end_or : (x y : Option ℕ) → ((x ≡ y → ⊥) → ⊥) → x ≡ y
same_end_or None None nn = refl
same_end_or None (Some k) nn = absurd (nn (λ same. cc))
same_end_or (Some k) None nn = absurd (nn (λ same. cc))
same_end_or (Some k) (Some j) nn = ap Some (same_nat_or k j (λ ne. nn (λ same. ne cc)))

pub same_version_or : (z v : RowVersion) → ((z ≡ v → ⊥) → ⊥) → z ≡ v
same_version_or z v nn =
    same_version z v (same_row_or z.row v.row (λ ne. nn (λ same. ne (ap (λ (w : RowVersion). w.row) same)))) (same_nat_or z.from v.from (λ ne. nn (λ same. ne (ap (λ (w : RowVersion). w.from) same))))
    (same_end_or z.until v.until (λ ne. nn (λ same. ne (ap (λ (w : RowVersion). w.until) same))))

flip : (v : RowVersion) (rest : List RowVersion) → AllByRecursion (EndsSooner v) rest → LacksItem v rest
flip v rest a = all_weaker (EndsSooner v) (λ y. y ≡ v → ⊥) (λ y r same. r.1 (sym same)) rest a

-- it is no more in the order without its first
pub alone : (v : RowVersion) (order vs : List RowVersion) → slice_get order 0 ≡ Some v → AreEnded order vs → LacksItem v (remove order 0)
alone v [] vs e r = tt
alone v (w ∷ rest) vs e r = let is : w ≡ v = got (w ∷ rest) zero v v e in flip v rest (subst (λ x. AllByRecursion (EndsSooner x) rest) is r.ends.0)

pub first_gone : (ps : List ℕ) (v : RowVersion) (order vs : List RowVersion) (at : ℕ) → Apart (Precedes ps) vs → slice_get vs at ≡ Some v → slice_get order 0 ≡ Some v → AreEnded order vs → AreEnded (remove order 0) (remove vs at)
first_gone ps v [] vs at a e f r = cc
first_gone ps v (w ∷ rest) vs at a e f r =
    let is : w ≡ v = got (w ∷ rest) zero v v f in
    record {
      ends = r.ends.1;
      ended = r.ended.1;
      here = all_both (EndsSooner w) (λ y. IsIn y vs) (λ y. IsIn y (remove vs at)) (λ y s i l. i (back_lacks vs at v y e (λ same. s.1 (is ∙ same)) l)) rest r.ends.0 r.here.1;
      all = all_both (λ y. y ≡ v → ⊥) (λ y. HasEnded y → IsIn y (w ∷ rest)) (λ y. HasEnded y → IsIn y rest) (λ y ne i h l. i h ((λ same. ne (sym same ∙ is)), l)) (remove vs at)
          (rest_lacks ps vs at v v (λ z. refl) (λ z. refl) a e) (all_remove (λ y. HasEnded y → IsIn y (w ∷ rest)) vs at r.all);
    }

pub filter_gone : (p : RowVersion → Bool) (v : RowVersion) (vs : List RowVersion) (at : ℕ) → slice_get vs at ≡ Some v → p v ≡ false → filter p (remove vs at) ≡ filter p vs
filter_gone p v [] zero e f = refl
filter_gone p v [] (suc at) e f = refl
filter_gone p v (z ∷ zs) zero e f = sym (ap (λ b. cond b (z ∷ filter p zs) (filter p zs)) (ap p (got (z ∷ zs) zero v v e) ∙ f))
filter_gone p v (z ∷ zs) (suc at) e f = ap (λ l. cond (p z) (z ∷ l) l) (filter_gone p v zs at e f)

-- ---- what is there at a place after a change there
-- ---- ends by a commit
at_most_later : (u : Option ℕ) (last number : ℕ) → last < number → EndsAtMost last u → EndsAtMost number u
at_most_later None last number lt h = tt
at_most_later (Some k) last number lt h = omega (arith, h)

pub all_at_most : (last number : ℕ) (vs : List RowVersion) → last < number → AllByRecursion (IsBy last) vs → AllByRecursion (λ v. EndsAtMost number v.until) vs
all_at_most last number vs lt a = all_weaker (IsBy last) (λ v. EndsAtMost number v.until) (λ v h. at_most_later v.until last number lt h.1) vs a

pub closed_at_most : (ps : List ℕ) (number : ℕ) (rows : List (List Value)) (vs : List RowVersion) → AllByRecursion (λ v. EndsAtMost number v.until) vs → AllByRecursion (λ v. EndsAtMost number v.until) (map (closed ps number rows) vs)
closed_at_most ps number rows vs a =
    all_mapped (closed ps number rows) (λ v. EndsAtMost number v.until) vs
    (all_weaker (λ v. EndsAtMost number v.until) (λ v. EndsAtMost number (closed ps number rows v).until) (λ v h. ends_at_most v.until (not (nat_lt v.from number && has_key ps v.row rows)) number number (omega arith) h) vs a)

-- ---- the first of some that pass
pub first_passes : (p : RowVersion → Bool) (n m : ℕ) (order : List RowVersion) (v : RowVersion) → n ≡ suc m → slice_get order 0 ≡ Some v → IsCut p n order → p v ≡ true
first_passes p n m [] v is e cut = cc
first_passes p n m (w ∷ rest) v is e cut =
    let cut' : IsCut p (suc m) (w ∷ rest) = subst (λ k. IsCut p k (w ∷ rest)) is cut in
    subst (λ x. p x ≡ true) (got (w ∷ rest) zero v v e) cut'.0

pub rest_cut : (p : RowVersion → Bool) (n m : ℕ) (order : List RowVersion) → n ≡ suc m → IsCut p n order → (0 < length order) × IsCut p m (remove order 0)
rest_cut p n m [] is cut = absurd (subst (λ k. IsCut p k []) is cut)
rest_cut p n m (w ∷ rest) is cut = let cut' : IsCut p (suc m) (w ∷ rest) = subst (λ k. IsCut p k (w ∷ rest)) is cut in (omega arith, cut'.1)

pub not_after : (floor : ℕ) (v : RowVersion) → is_over floor v ≡ true → ends_after floor v.until ≡ false
not_after floor v h = by (ends_after floor v.until) h
  where
    by : (b : Bool) → not b ≡ true → b ≡ false
    by true t = cc
    by false t = refl

-- ---- a version put in at a place
