-- What a step is computed from, read by looking up what can join a changed row.
use Rattle.std.proofs.Common.{◌≡◌, ℕ, ◌+◌, ◌<◌, ◌≤◌, Bool, true, List, [], ◌∷◌, ◌++◌, map, length, drop, take, get_or, refl, sym, ap, ◌∙◌, subst, arith}
use Rattle.std.proofs.lemmas.List.{drop_more, take_more}
use Rattle.std.specs.Prelude.{nat_lt}
use Rattle.std.specs.List.{list_all, AllZip}
use Rattle.lv_schema.specs.declared.forced.Forced.{Forced}
use Rattle.lv_schema.specs.declared.part.Part.{Part}
use Rattle.lv_schema.specs.declared.table.TableDef.{TableDef}
use Rattle.lv_schema.specs.declared.view.ViewDef.{ViewDef}
use Rattle.lv_schema.specs.Differences.{difference}
use Rattle.lv_schema.specs.Jobs.{new_sides, old_sides}
use Rattle.lv_schema.specs.World.{view_at}
use Rattle.lv_stands.specs.Moves.{part_in}
use Rattle.lv_base.specs.Bases.{base_of, defs_of}
use Rattle.lv_versions.specs.Versions.{Kept}
use Rattle.lv_maint.specs.Inputs.{FitOver, Input}
use Rattle.lv_near.specs.Small.{CanRead, IsSmallInput, whole_parts}
use Rattle.lv_reach.specs.declared.rows.AliasRow.{AliasRow}
use Rattle.lv_reach.specs.Cost.{IsReach, cost}
use Rattle.lv_reach.specs.Links.{links_of}
use Rattle.lv_store.specs.declared.store.Store.{Store}
use Rattle.lv_store.specs.Inputs.{AreCosts}
use Rattle.lv_store.specs.Querying.{CanCompute, IsCostIn, IsInputIn, changes_in, parts_in}

as_many_defs : (tables : List Kept) → length (map (λ (k : Kept). k.def) tables) ≡ length tables
as_many_defs [] = refl
as_many_defs (k ∷ tables) = omega (arith, as_many_defs tables)

module _ (p : Store) (f : Forced) (can : CanCompute p f) (def : ViewDef) (is : def ≡ view_at p.schema.views f.view) where
  whole_are : whole_parts p.base def.tables f.lo f.hi ≡ parts_in p f
  whole_are = λ i. map (part_in (can.tables_are i) (base_of p.base) f.lo f.hi) (is i).tables

  pub can_read : CanRead p.base def.tables f.lo
  can_read =
      let long : length p.schema.tables ≡ length p.base.tables = ap (λ (ts : List TableDef). length ts) (sym can.tables_are) ∙ as_many_defs p.base.tables in
      record {
        in_use = subst (λ n. list_all (λ t. nat_lt t n) def.tables ≡ true) long (subst (λ (d : ViewDef). list_all (λ t. nat_lt t (length p.schema.tables)) d.tables ≡ true) (sym is) can.fit.bound.in_use);
        kept = can.kept;
      }

  pub fit_over : (views : List ViewDef) × FitOver (defs_of p.base) views def (whole_parts p.base def.tables f.lo f.hi)
  fit_over = (
    can.views,
    subst (λ (ts : List TableDef). FitOver ts can.views def (whole_parts p.base def.tables f.lo f.hi)) (sym can.tables_are)
        (subst (λ (ps : List Part). FitOver p.schema.tables can.views def ps) (sym whole_are)
        (subst (λ (d : ViewDef). FitOver p.schema.tables can.views d (parts_in p f)) (sym is) can.fit)),
  )

  pub difference_told : difference def (old_sides (whole_parts p.base def.tables f.lo f.hi)) (new_sides (whole_parts p.base def.tables f.lo f.hi)) ≡ changes_in p f
  difference_told = λ i. difference (is i) (old_sides (whole_are i)) (new_sides (whole_are i))

  pub input_is : (input : Input) → IsSmallInput def f.lo f.hi (whole_parts p.base def.tables f.lo f.hi) input
      → difference def (old_sides input.parts) (new_sides input.parts) ≡ difference def (old_sides (whole_parts p.base def.tables f.lo f.hi)) (new_sides (whole_parts p.base def.tables f.lo f.hi))
      → IsInputIn p f input
  input_is input small same = record {
    small =
        subst (λ (ps : List Part). IsSmallInput (view_at p.schema.views f.view) f.lo f.hi ps input) whole_are
        (subst (λ (d : ViewDef). IsSmallInput d f.lo f.hi (whole_parts p.base def.tables f.lo f.hi) input) is small);
    difference_is =
        ap (λ (d : ViewDef). difference d (old_sides input.parts) (new_sides input.parts)) small.def_is ∙ same
        ∙ difference_told;
  }

  module _ (n : ℕ) (c : IsCostIn p f n) where
    reach_is : IsReach (links_of def.cond) (whole_parts p.base def.tables f.lo f.hi) c.near c.far
    reach_is =
        subst (λ (ps : List Part). IsReach (links_of def.cond) ps c.near c.far) (sym whole_are)
        (subst (λ (d : ViewDef). IsReach (links_of d.cond) (parts_in p f) c.near c.far) (sym is) c.reach)

    cost_is : cost (links_of def.cond) (whole_parts p.base def.tables f.lo f.hi) c.near c.far ≡ n
    cost_is = (λ i. cost (links_of (is i).cond) (whole_are i) c.near c.far) ∙ sym c.cost_is

    pub most_is : (old new : ℕ)
        → ((near : List AliasRow) (far : ℕ → Bool) → IsReach (links_of def.cond) (whole_parts p.base def.tables f.lo f.hi) near far → new ≤ old + cost (links_of def.cond) (whole_parts p.base def.tables f.lo f.hi) near far)
        → new ≤ old + n
    most_is old new most =
        let here = most c.near c.far reach_is in
        omega (arith, here, cost_is)

-- ---- loops over steps
module _ (is_cost : Forced → ℕ → Type 0) where
  -- the costs of the steps that are left, where so much is read at most
  abbrev pub IsLeft : ℕ → ℕ → List Forced → ℕ → List Forced → Type 0
  IsLeft start here all i fs = (n : ℕ) → AreCosts is_cost all n → (m : ℕ) × AreCosts is_cost fs m × (here + m ≤ start + n)

  pub starts_left : (start : ℕ) (all : List Forced) → IsLeft start start all 0 all
  starts_left start all = λ n c. (n, c, omega arith)

  pub goes_left : (start here there : ℕ) (all : List Forced) (i : ℕ) (d : Forced) → i < length all → ((n : ℕ) → is_cost (get_or all i d) n → there ≤ here + n)
      → IsLeft start here all i (drop i all) → IsLeft start there all (i + 1) (drop (i + 1) all)
  goes_left start here there all i d lt most left = λ n c.
      let h = left n c in
      let e : AreCosts is_cost (get_or all i d ∷ drop (i + 1) all) h.0 = subst (λ fs. AreCosts is_cost fs h.0) (drop_more all i d lt) h.1 in
      (e.1, e.3, goes here there (start + n) h.0 e.0 e.1 (most e.0 e.2) h.2 e.4)
    where
      goes : (here there end m k l : ℕ) → there ≤ here + k → here + m ≤ end → m ≡ k + l → there + l ≤ end
      goes here there end m k l a b e = omega (arith, a, b, e)

  pub fails_left : (start here there : ℕ) (all : List Forced) (i : ℕ) (d : Forced) → i < length all → ((n : ℕ) → is_cost (get_or all i d) n → there ≤ here + n)
      → IsLeft start here all i (drop i all) → (n : ℕ) → AreCosts is_cost all n → there ≤ start + n
  fails_left start here there all i d lt most left n c =
      let h = goes_left start here there all i d lt most left n c in
      omega (arith, h.2)

  pub ends_left : (start here : ℕ) (all fs : List Forced) (i : ℕ) → IsLeft start here all i fs → (n : ℕ) → AreCosts is_cost all n → here ≤ start + n
  ends_left start here all fs i left n c = let h = left n c in omega (arith, h.2)

zip_last : {A B : Type 0} (P : A → B → Type 0) (xs : List A) (ys : List B) (x : A) (y : B) → AllZip P xs ys → P x y → AllZip P (xs ++ x ∷ []) (ys ++ y ∷ [])
zip_last P [] [] x y all p = (p, tt)
zip_last P [] (b ∷ ys) x y all p = absurd all
zip_last P (a ∷ xs) [] x y all p = absurd all
zip_last P (a ∷ xs) (b ∷ ys) x y all p = (all.0, zip_last P xs ys x y all.1 p)

pub one_zip : {A B : Type 0} (P : A → B → Type 0) (xs : List A) (ys new : List B) (i : ℕ) (d : A) (y : B) → i < length xs → AllZip P (take i xs) ys → P (get_or xs i d) y → new ≡ ys ++ y ∷ [] → AllZip P (take (i + 1) xs) new
one_zip P xs ys new i d y lt all p is =
    subst (AllZip P (take (i + 1) xs)) (sym is)
    (subst (λ l. AllZip P l (ys ++ y ∷ [])) (sym (take_more xs i d lt)) (zip_last P (take i xs) ys (get_or xs i d) y all p))
