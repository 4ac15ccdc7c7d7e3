-- A statement that is bound has no fault: each list of faults is empty, and what that says of lists.
use Rattle.std.proofs.Common.{◌≡◌, ◌≤◌, ℕ, Bool, true, false, not, List, [], ◌∷◌, ◌++◌, length, Option, Some, None, refl}
use Rattle.std.specs.Prelude.{Ok, nat_lt}
use Rattle.std.specs.List.{AllByRecursion, flat_map, list_all, list_any}
use Rattle.std.specs.Option.{option_map}
use Rattle.std.proofs.lemmas.Bool.{and_from, not-true, or_parts, ltb-false}
use Rattle.lv_schema.specs.Effects.{ok_unless}
use Rattle.lv_schema.specs.declared.fault.Fault.{Fault}
use Rattle.lv_schema.specs.declared.fault.Fault.TheVariants as fault
use Rattle.lv_schema.specs.declared.table.TableDef.{TableDef}
use Rattle.lv_schema.specs.declared.view.ViewDef.{ViewDef}
use Rattle.lv_schema.specs.declared.bound.Bound.{Bound}
use Rattle.lv_parser.specs.declared.tree.Stmt.{Stmt}
use Rattle.lv_bind.specs.declared.limits.Measure.{Measure}
use Rattle.lv_bind.specs.Assigned.{assigned}
use Rattle.lv_bind.specs.Binding.{bound_among}
use Rattle.lv_bind.specs.Faults.{lowest, faults, bound_of}
use Rattle.lv_bind.specs.InUse.{in_use}
use Rattle.lv_bind.specs.Kinds.{kinds}
use Rattle.lv_bind.specs.Limits.{measures, passed_limits, limits}
use Rattle.lv_bind.specs.Pieces.{comparisons_in}
use Rattle.lv_bind.specs.Profile.{profile}
use Rattle.lv_bind.specs.Ranges.{ranges}
use Rattle.lv_bind.specs.Rights.{outside_setup, in_transaction, no_transaction}
use Rattle.lv_bind.specs.Sources.{first, shown_unless, sources_of}
use Rattle.lv_bind.specs.Unknown.{unknown}

-- ---- empty lists

pub append_parts : {A : Type 0} (xs ys : List A) → xs ++ ys ≡ [] → (xs ≡ []) × (ys ≡ [])
append_parts [] ys e = (refl, e)
append_parts (x ∷ xs) ys e = (cc, cc)

pub shown_well : {A : Type 0} (well : Bool) (name : A) → shown_unless well name ≡ [] → well ≡ true
shown_well true name e = refl
shown_well false name e = cc

pub none_shown : {X A : Type 0} (test : X → Bool) (name : X → A) (xs : List X) → flat_map (λ x. shown_unless (test x) (name x)) xs ≡ [] → list_all test xs ≡ true
none_shown test name [] e = refl
none_shown test name (x ∷ xs) e =
    let parts : (shown_unless (test x) (name x) ≡ []) × (flat_map (λ x. shown_unless (test x) (name x)) xs ≡ []) = append_parts _ _ e in
    and_from (test x) (list_all test xs) (shown_well (test x) (name x) parts.0) (none_shown test name xs parts.1)

pub each_empty : {X A : Type 0} (f : X → List A) (xs : List X) → flat_map f xs ≡ [] → AllByRecursion (λ x. f x ≡ []) xs
each_empty f [] e = tt
each_empty f (x ∷ xs) e =
    let parts : (f x ≡ []) × (flat_map f xs ≡ []) = append_parts (f x) (flat_map f xs) e in
    (parts.0, each_empty f xs parts.1)

pub each_of : {X : Type 0} {P Q : X → Type 0} → ((x : X) → P x → Q x) → (xs : List X) → AllByRecursion P xs → AllByRecursion Q xs
each_of f [] h = tt
each_of f (x ∷ xs) h = (f x h.0, each_of f xs h.1)

pub none_over : (most : ℕ) (sizes : List ℕ) → list_any (nat_lt most) sizes ≡ false → AllByRecursion (λ n. n ≤ most) sizes
none_over most [] e = tt
none_over most (n ∷ sizes) e =
    let parts : (nat_lt most n ≡ false) × (list_any (nat_lt most) sizes ≡ false) = or_parts (nat_lt most n) (list_any (nat_lt most) sizes) e in
    (ltb-false most n parts.0, none_over most sizes parts.1)

-- ---- the faults of a statement

first_none : {A : Type 0} (xs : List A) → first xs ≡ None → xs ≡ []
first_none [] e = refl
first_none (x ∷ xs) e = cc

map_none : {A B : Type 0} (f : A → B) (o : Option A) → option_map f o ≡ None → o ≡ None
map_none f None e = refl
map_none f (Some x) e = cc

shown_none : {A : Type 0} (f : A → Fault) (xs : List A) → option_map f (first xs) ≡ None → xs ≡ []
shown_none f xs e = first_none xs (map_none f (first xs) e)

lowest_none : (found : List (Option Fault)) → lowest found ≡ None → AllByRecursion (λ f. f ≡ None) found
lowest_none [] e = tt
lowest_none (None ∷ more) e = (refl, lowest_none more e)
lowest_none (Some f ∷ more) e = (cc, lowest_none more cc)

ok_parts : {A : Type 0} (f : Option Fault) (a b : A) → ok_unless f a ≡ Ok b → (f ≡ None) × (a ≡ b)
ok_parts None a b e = (refl, cc)
ok_parts (Some f) a b e = (cc, cc)

none_passed : (ms : List Measure) → passed_limits ms ≡ [] → AllByRecursion (λ m. m.passed ≡ false) ms
none_passed [] e = tt
none_passed (m ∷ ms) e =
    let parts : (shown_unless (not m.passed) (fault.Limit m.which m.most) ≡ []) × (passed_limits ms ≡ []) = append_parts _ (passed_limits ms) e in
    (not-true m.passed (shown_well (not m.passed) (fault.Limit m.which m.most) parts.0), none_passed ms parts.1)

abbrev pub measures_of : List TableDef → List ViewDef → Stmt → List Measure
measures_of tables views s = measures (length tables) (length views) (sources_of tables views s) (comparisons_in s) s

pub record IsFaultless (tables : List TableDef) (views : List ViewDef) (s : Stmt) : Type 0 where
  pub known : unknown tables views s ≡ []
  pub free : in_use tables views s ≡ []
  pub kinds_agree : kinds tables views s ≡ []
  pub small : AllByRecursion (λ m. m.passed ≡ false) (measures_of tables views s)
  pub inside : profile tables views s ≡ []
  pub keys_kept : assigned tables views s ≡ []
  pub in_range : ranges s ≡ []

-- no fault is found in a statement that is bound
found_none : (tables : List TableDef) (views : List ViewDef) (setup live : Bool) (s : Stmt) (b : Bound) → bound_of tables views setup live s ≡ Ok b
    → AllByRecursion (λ f. f ≡ None) (faults tables views setup live s) × (bound_among tables views (sources_of tables views s) s ≡ b)
unfolding bound_of
found_none tables views setup live s b e =
    let parts = ok_parts (lowest (faults tables views setup live s)) (bound_among tables views (sources_of tables views s) s) b e in
    (lowest_none (faults tables views setup live s) parts.0, parts.1)

pub faultless : (tables : List TableDef) (views : List ViewDef) (setup live : Bool) (s : Stmt) (b : Bound) → bound_of tables views setup live s ≡ Ok b
    → IsFaultless tables views s × (bound_among tables views (sources_of tables views s) s ≡ b)
faultless tables views setup live s b e =
    let found = found_none tables views setup live s b e in
    let none = found.0 in (
      record {
        known = shown_none fault.Unknown (unknown tables views s) none.0;
        free = shown_none fault.InUse (in_use tables views s) none.1.1.0;
        kinds_agree = shown_none fault.Kinds (kinds tables views s) none.1.1.1.0;
        small = none_passed (measures_of tables views s) (first_none (limits tables views s) none.1.1.1.1.0);
        inside = shown_none fault.Profile (profile tables views s) none.1.1.1.1.1.0;
        keys_kept = shown_none fault.KeyAssigned (assigned tables views s) none.1.1.1.1.1.1.1.1.1.0;
        in_range = shown_none fault.Range (ranges s) none.1.1.1.1.1.1.1.1.1.1.0;
      },
      found.1,
    )

-- its session may have the statement
pub record HasRights (setup live : Bool) (s : Stmt) : Type 0 where
  pub in_setup : outside_setup setup s ≡ []
  pub outside : in_transaction setup live s ≡ []
  pub inside : no_transaction live s ≡ []

pub rightful : (tables : List TableDef) (views : List ViewDef) (setup live : Bool) (s : Stmt) (b : Bound) → bound_of tables views setup live s ≡ Ok b
    → HasRights setup live s × (bound_among tables views (sources_of tables views s) s ≡ b)
rightful tables views setup live s b e =
    let found = found_none tables views setup live s b e in
    let none = found.0 in (
      record {
        in_setup = first_none (outside_setup setup s) none.1.1.1.1.1.1.0;
        outside = first_none (in_transaction setup live s) none.1.1.1.1.1.1.1.0;
        inside = first_none (no_transaction live s) none.1.1.1.1.1.1.1.1.0;
      },
      found.1,
    )
