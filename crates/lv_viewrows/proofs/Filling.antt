-- What changes make of no versions at all, and versions that are not there yet.
use Rattle.std.proofs.Common.{◌≡◌, ℕ, Bool, true, false, cond, List, [], ◌∷◌, ◌++◌, length, map, filter, refl, sym, ap, ap₂, ◌∙◌, subst, arith}
use Rattle.std.specs.List.{AllByRecursion}
use Rattle.std.specs.Ordering.{is_eq, is_gt, nat_cmp, ordering_then}
use Rattle.std.specs.declared.cmp.Ordering.TheVariants.{Less, Equal}
use Rattle.std.proofs.lemmas.Cmp.{tied_itself}
use Rattle.lv_values.specs.Ascending.{placed}
use Rattle.lv_values.specs.Order.{row_cmp}
use Rattle.lv_values.specs.OrderLaws.{row_total}
use Rattle.lv_schema.specs.declared.signed.SignedRow.{SignedRow}
use Rattle.lv_schema.proofs.Apart.{all_filter, all_map, all_true, all_weaker}
use Rattle.lv_group.specs.Gathered.{has_tuples}
use Rattle.lv_shelf.specs.Cuts.{Apart}
use Rattle.lv_shelf.specs.Shelves.{LacksItem}
use Rattle.lv_viewrows.specs.declared.version.GroupVersion.{GroupVersion}
use Rattle.lv_viewrows.specs.Kept.{version_from}
use Rattle.lv_viewrows.specs.Standing.{IsBy, MeetAll, Meets, Precedes, changed_all, current, ended, is_current, joined, precedes_by, put, version_cmp}
use Rattle.lv_viewrows.proofs.Changes.{RowsAscend}
use Rattle.lv_viewrows.proofs.Ending.{came_before, ended_other}

-- ---- a version that is not there
-- one that comes from a commit on is none that came before it, whatever became of that
pub new_to_ended : (number : ℕ) (s group : SignedRow) (vs : List GroupVersion) → group.row ≡ s.row → MeetAll number vs s → LacksItem (version_from number group) (map (ended number s.row) vs)
new_to_ended number s group vs e m =
    all_map (ended number s.row) (λ v. v ≡ version_from number group → ⊥) vs (all_weaker (Meets number s) (λ v. ended number s.row v ≡ version_from number group → ⊥) one vs m)
  where
    one : (v : GroupVersion) → Meets number s v → ended number s.row v ≡ version_from number group → ⊥
    one v here same =
        let row : v.group.row ≡ s.row = ap (λ (w : GroupVersion). w.group.row) same ∙ e in
        let tied : row_cmp v.group.row s.row ≡ Equal = ap (λ r. row_cmp r s.row) row ∙ tied_itself row_total s.row in
        let from : v.from ≡ number = ap (λ (w : GroupVersion). w.from) same in
        absurd (omega (arith, came_before number s v here tied, from))

-- one that each precedes
pub precedes_differs : (v w : GroupVersion) → Precedes v w → v ≡ w → ⊥
precedes_differs v w r same =
    let own : Precedes v v = subst (Precedes v) (sym same) r in
    let here : precedes_by Equal v v = subst (λ o. precedes_by o v v) (tied_itself row_total v.group.row) own in
    absurd (omega (arith, here.0))

pub lacks_preceded : (w : GroupVersion) (vs : List GroupVersion) → AllByRecursion (λ v. Precedes v w) vs → LacksItem w vs
lacks_preceded w vs a = all_weaker (λ v. Precedes v w) (λ v. v ≡ w → ⊥) (λ v r. precedes_differs v w r) vs a

-- an element of a list with the one behind it
pub front_precedes : {X : Type 0} (R : X → X → Type 0) (xs : List X) (y : X) (ys : List X) → Apart R (xs ++ y ∷ ys) → AllByRecursion (λ x. R x y) xs
front_precedes R [] y ys a = tt
front_precedes R (x ∷ xs) y ys a = (here xs a.0, front_precedes R xs y ys a.1)
  where
    here : (zs : List _) → AllByRecursion (R x) (zs ++ y ∷ ys) → R x y
    here [] b = b.0
    here (z ∷ zs) b = here zs b.1

-- ---- groups of ascending rows, one behind the other
ascends_apart : (list : List SignedRow) → RowsAscend list → Apart (λ (x y : SignedRow). row_cmp x.row y.row ≡ Less) list
ascends_apart [] a = tt
ascends_apart (s ∷ list) a = (a.0, ascends_apart list a.1)

less_precedes : (number : ℕ) (a b : SignedRow) → row_cmp a.row b.row ≡ Less → Precedes (version_from number a) (version_from number b)
less_precedes number a b less = subst (λ o. precedes_by o (version_from number a) (version_from number b)) (sym less) tt

module _ (number : ℕ) (list : List SignedRow) (s : SignedRow) (more : List SignedRow) (a : RowsAscend (list ++ s ∷ more)) where
  less : AllByRecursion (λ (t : SignedRow). row_cmp t.row s.row ≡ Less) list
  less = front_precedes (λ (x y : SignedRow). row_cmp x.row y.row ≡ Less) list s more (ascends_apart (list ++ s ∷ more) a)

  above : AllByRecursion (λ t. Precedes (version_from number t) (version_from number s)) list
  above = all_weaker (λ (t : SignedRow). row_cmp t.row s.row ≡ Less) (λ t. Precedes (version_from number t) (version_from number s)) (λ t h. less_precedes number t s h) list less

  pub lacks_behind : LacksItem (version_from number s) (map (version_from number) list)
  lacks_behind = lacks_preceded (version_from number s) (map (version_from number) list) (all_map (version_from number) (λ v. Precedes v (version_from number s)) list above)

  pub lacks_next : (p : SignedRow → Bool) → LacksItem (version_from number s) (map (version_from number) (filter p list))
  lacks_next p = lacks_preceded (version_from number s) (map (version_from number) (filter p list))
      (all_map (version_from number) (λ v. Precedes v (version_from number s)) (filter p list) (all_filter (λ t. Precedes (version_from number t) (version_from number s)) p list above))

-- ---- changes where there is no version
module _ (number : ℕ) where
  abbrev filled : List SignedRow → List GroupVersion
  filled list = map (version_from number) (filter has_tuples list)

  -- a lower row has no version there, and comes first
  other : (s t : SignedRow) → row_cmp s.row t.row ≡ Less → is_current s.row (version_from number t) ≡ false
  other s t less = ap is_eq less

  none_current : (s : SignedRow) (vs : List GroupVersion) → AllByRecursion (λ v. is_current s.row v ≡ false) vs → filter (is_current s.row) vs ≡ []
  none_current s [] a = refl
  none_current s (v ∷ vs) a = (λ i. cond (a.0 i) (v ∷ filter (is_current s.row) vs) (filter (is_current s.row) vs)) ∙ none_current s vs a.1

  none_ended : (s : SignedRow) (vs : List GroupVersion) → AllByRecursion (λ v. is_current s.row v ≡ false) vs → map (ended number s.row) vs ≡ vs
  none_ended s [] a = refl
  none_ended s (v ∷ vs) a = ap₂ (λ x l. x ∷ l) (ended_other number s.row v a.0) (none_ended s vs a.1)

  comes_first : (s : SignedRow) (vs : List GroupVersion) → AllByRecursion (λ v. row_cmp s.row v.group.row ≡ Less) vs → placed version_cmp (version_from number s) vs ≡ version_from number s ∷ vs
  comes_first s [] a = refl
  comes_first s (v ∷ vs) a = λ i. cond (is_gt (ordering_then (a.0 i) (nat_cmp number v.from))) (v ∷ placed version_cmp (version_from number s) vs) (version_from number s ∷ v ∷ vs)

  one_more : (s : SignedRow) (list : List SignedRow) → AllByRecursion (λ (t : SignedRow). row_cmp s.row t.row ≡ Less) list → (vs : List GroupVersion) → vs ≡ filled list
      → put number (joined (current s.row vs) s) (map (ended number s.row) vs) ≡ filled (s ∷ list)
  one_more s list a vs e =
      ap (λ l. put number (joined (current s.row l) s) (map (ended number s.row) l)) e
      ∙ ap₂ (λ (groups : List SignedRow) l. put number (joined groups s) l) (ap (map (λ (v : GroupVersion). v.group)) (none_current s (filled list) others)) (none_ended s (filled list) others)
      ∙ by (has_tuples s)
    where
      below : AllByRecursion (λ v. row_cmp s.row v.group.row ≡ Less) (filled list)
      below = all_map (version_from number) (λ v. row_cmp s.row v.group.row ≡ Less) (filter has_tuples list) (all_filter (λ (t : SignedRow). row_cmp s.row t.row ≡ Less) has_tuples list a)

      others : AllByRecursion (λ v. is_current s.row v ≡ false) (filled list)
      others = all_map (version_from number) (λ v. is_current s.row v ≡ false) (filter has_tuples list)
          (all_filter (λ (t : SignedRow). is_current s.row (version_from number t) ≡ false) has_tuples list (all_weaker (λ (t : SignedRow). row_cmp s.row t.row ≡ Less) (λ (t : SignedRow). is_current s.row (version_from number t) ≡ false) (other s) list a))

      by : (b : Bool) → cond b (placed version_cmp (version_from number s) (filled list)) (filled list) ≡ map (version_from number) (cond b (s ∷ filter has_tuples list) (filter has_tuples list))
      by true = comes_first s (filled list) below
      by false = refl

  pub all_filled : (list : List SignedRow) → RowsAscend list → changed_all number list [] ≡ map (version_from number) (filter has_tuples list)
  all_filled [] a = refl
  all_filled (s ∷ list) a = one_more s list a.0 (changed_all number list []) (all_filled list a.1)

  pub filled_order : (list : List SignedRow) → RowsAscend list → Apart Precedes (map (version_from number) (filter has_tuples list))
  filled_order [] a = tt
  filled_order (s ∷ list) a = by (has_tuples s) (filled_order list a.1)
    where
      below : AllByRecursion (Precedes (version_from number s)) (filled list)
      below = all_map (version_from number) (Precedes (version_from number s)) (filter has_tuples list)
          (all_filter (λ t. Precedes (version_from number s) (version_from number t)) has_tuples list (all_weaker (λ (t : SignedRow). row_cmp s.row t.row ≡ Less) (λ t. Precedes (version_from number s) (version_from number t)) (λ t less. less_precedes number s t less) list a.0))

      by : (b : Bool) → Apart Precedes (filled list) → Apart Precedes (map (version_from number) (cond b (s ∷ filter has_tuples list) (filter has_tuples list)))
      by true ih = (below, ih)
      by false ih = ih

  pub filled_each : (list : List SignedRow) → AllByRecursion (IsBy number) (map (version_from number) list)
  filled_each list = all_map (version_from number) (IsBy number) list (all_true (λ t. IsBy number (version_from number t)) (λ t. (omega arith, tt)) list)

-- a list without an element
pub none_of : {X : Type 0} (xs : List X) → length xs ≡ 0 → xs ≡ []
none_of [] e = refl
none_of (x ∷ xs) e = absurd (omega (arith, e))
