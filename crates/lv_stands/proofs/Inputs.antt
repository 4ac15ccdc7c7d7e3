-- What a step is computed from is told from what is kept.
use Rattle.std.proofs.Common.{◌≡◌, ℕ, zero, suc, ◌+◌, ◌-◌, ◌<◌, ◌≤◌, Bool, true, false, cond, ◌&&◌, List, [], ◌∷◌, ◌++◌, map, length, refl, sym, ap, ap₂, ◌∙◌, arith}
use Rattle.std.specs.Prelude.{nat_lt, nat_le}
use Rattle.std.specs.List.{filter, flat_map, list_all}
use Rattle.std.proofs.lemmas.Bool.Decides.{nat_tests}
use Rattle.std.proofs.lemmas.List.{map-append, append-nil}
use Rattle.std.proofs.lemmas.List.Elements.{filter-append}
use Rattle.lv_schema.specs.declared.action.Action.{Action}
use Rattle.lv_schema.specs.declared.action.DeltaEntry.{DeltaEntry}
use Rattle.lv_schema.specs.declared.forced.Forced.{Forced}
use Rattle.lv_schema.specs.Condensed.{condensed}
use Rattle.lv_schema.specs.Databases.{rows_of}
use Rattle.lv_schema.specs.Differences.{difference, view_difference}
use Rattle.lv_schema.specs.Jobs.{part_between, parts_between, old_sides, new_sides}
use Rattle.lv_schema.specs.Keys.{actions_between}
use Rattle.lv_schema.specs.Nets.{net_of}
use Rattle.lv_schema.specs.Steady.{IsStep}
use Rattle.lv_schema.specs.Versions.{delta_entry, delta_entries, kept_entries}
use Rattle.lv_schema.specs.World.{Visible, World, last, snap, commit_at, numbers, view_at}
use Rattle.lv_schema.proofs.Condenses.{commits_condense}
use Rattle.lv_schema.proofs.JobParts.{parts_give}
use Rattle.lv_stands.specs.Kept.{EngineKept}
use Rattle.lv_stands.specs.Moves.{is_between, actions_kept, part_in, parts_in}
use Rattle.lv_stands.specs.Stands.{StandsFor}
use Rattle.lv_stands.proofs.Tasks.{filter_twice}

-- ---- the entries between two states
of_one : (lo hi k : ℕ) (actions : List Action) → map (λ (e : DeltaEntry). e.action) (filter (is_between lo hi) (map (delta_entry k) actions)) ≡ cond (nat_lt lo k && nat_le k hi) actions []
of_one lo hi k actions = by (nat_lt lo k && nat_le k hi) refl actions
  where
    by : (t : Bool) → (nat_lt lo k && nat_le k hi) ≡ t → (actions : List Action) → map (λ (e : DeltaEntry). e.action) (filter (is_between lo hi) (map (delta_entry k) actions)) ≡ cond t actions []
    by true e [] = refl
    by false e [] = refl
    by true e (a ∷ actions) = rw e (ap (λ rest. a ∷ rest) (of_one_true actions e))
      where
        of_one_true : (actions : List Action) → (nat_lt lo k && nat_le k hi) ≡ true → map (λ (e : DeltaEntry). e.action) (filter (is_between lo hi) (map (delta_entry k) actions)) ≡ actions
        of_one_true [] h = refl
        of_one_true (b ∷ rest) h = rw h (ap (λ more. b ∷ more) (of_one_true rest h))
    by false e (a ∷ actions) = rw e (of_one_false actions e)
      where
        of_one_false : (actions : List Action) → (nat_lt lo k && nat_le k hi) ≡ false → map (λ (e : DeltaEntry). e.action) (filter (is_between lo hi) (map (delta_entry k) actions)) ≡ []
        of_one_false [] h = refl
        of_one_false (b ∷ rest) h = rw h (of_one_false rest h)

of_all : (lo hi : ℕ) (commits : ℕ → List Action) (ks : List ℕ) → map (λ (e : DeltaEntry). e.action) (filter (is_between lo hi) (flat_map (λ k. map (delta_entry k) (commits k)) ks)) ≡ flat_map commits (filter (λ k. nat_lt lo k && nat_le k hi) ks)
of_all lo hi commits [] = refl
of_all lo hi commits (k ∷ ks) =
    ap (map (λ (e : DeltaEntry). e.action)) (filter-append (is_between lo hi) (map (delta_entry k) (commits k)) (flat_map (λ k. map (delta_entry k) (commits k)) ks))
    ∙ map-append (λ (e : DeltaEntry). e.action) (filter (is_between lo hi) (map (delta_entry k) (commits k))) (filter (is_between lo hi) (flat_map (λ k. map (delta_entry k) (commits k)) ks))
    ∙ ap₂ (λ xs ys. xs ++ ys) (of_one lo hi k (commits k)) (of_all lo hi commits ks)
    ∙ by (nat_lt lo k && nat_le k hi)
  where
    by : (t : Bool) → cond t (commits k) [] ++ flat_map commits (filter (λ k. nat_lt lo k && nat_le k hi) ks) ≡ flat_map commits (cond t (k ∷ filter (λ k. nat_lt lo k && nat_le k hi) ks) (filter (λ k. nat_lt lo k && nat_le k hi) ks))
    by true = refl
    by false = refl

-- numbers above hi are left out, and those up to it are all
upto_same : (lo hi n : ℕ) → n ≤ hi → filter (λ k. nat_lt lo k && nat_le k hi) (numbers n) ≡ filter (nat_lt lo) (numbers n)
upto_same lo hi zero le = refl
upto_same lo hi (suc n) le =
    let test : nat_le (suc n) hi ≡ true = grind (arith, nat_tests) in
    filter-append (λ k. nat_lt lo k && nat_le k hi) (numbers n) (suc n ∷ [])
    ∙ ap₂ (λ xs b. xs ++ cond b (suc n ∷ []) []) (upto_same lo hi n (omega arith)) (rw test (and_true (nat_lt lo (suc n))))
    ∙ sym (filter-append (nat_lt lo) (numbers n) (suc n ∷ []))
  where
    and_true : (a : Bool) → (a && true) ≡ a
    and_true true = refl
    and_true false = refl

beyond : (lo hi d : ℕ) → filter (λ k. nat_lt lo k && nat_le k hi) (numbers (hi + d)) ≡ filter (nat_lt lo) (numbers hi)
beyond lo hi zero = let e : hi + 0 ≡ hi = omega arith in ap (λ n. filter (λ k. nat_lt lo k && nat_le k hi) (numbers n)) e ∙ upto_same lo hi hi (omega arith)
beyond lo hi (suc d) =
    let e : hi + suc d ≡ suc (hi + d) = omega arith in
    let test : nat_le (suc (hi + d)) hi ≡ false = grind (arith, nat_tests) in
    let off : (nat_lt lo (suc (hi + d)) && nat_le (suc (hi + d)) hi) ≡ false = rw test (and_false (nat_lt lo (suc (hi + d)))) in
    ap (λ n. filter (λ k. nat_lt lo k && nat_le k hi) (numbers n)) e
    ∙ filter-append (λ k. nat_lt lo k && nat_le k hi) (numbers (hi + d)) (suc (hi + d) ∷ [])
    ∙ ap₂ (λ xs b. xs ++ cond b (suc (hi + d) ∷ []) []) (beyond lo hi d) off
    ∙ append-nil (filter (nat_lt lo) (numbers hi))
  where
    and_false : (a : Bool) → (a && false) ≡ false
    and_false true = refl
    and_false false = refl

entries_between : (s : Visible) (pruned lo hi : ℕ) → pruned ≤ lo → hi ≤ last s → actions_kept (kept_entries s pruned) lo hi ≡ actions_between s.commits lo hi
entries_between s pruned lo hi le within =
    let d : hi + (last s - hi) ≡ last s = omega arith in
    ap (map (λ (e : DeltaEntry). e.action)) (filter_twice (is_between lo hi) (λ (e : DeltaEntry). nat_lt pruned e.number) (is_between lo hi) (delta_entries s) (λ e. above e.number))
    ∙ of_all lo hi (commit_at s.commits) (numbers (last s))
    ∙ ap (flat_map (commit_at s.commits)) (ap (λ n. filter (λ k. nat_lt lo k && nat_le k hi) (numbers n)) (sym d) ∙ beyond lo hi (last s - hi))
  where
    and_false : (a : Bool) → (a && false) ≡ false
    and_false true = refl
    and_false false = refl

    above : (n : ℕ) → (nat_lt pruned n && (nat_lt lo n && nat_le n hi)) ≡ (nat_lt lo n && nat_le n hi)
    above n = by (nat_lt lo n) refl
      where
        by : (t : Bool) → nat_lt lo n ≡ t → (nat_lt pruned n && (nat_lt lo n && nat_le n hi)) ≡ (nat_lt lo n && nat_le n hi)
        by true e = let f : nat_lt pruned n ≡ true = grind (arith, nat_tests) in rw (e, f) refl
        by false e = rw e (and_false (nat_lt pruned n))

-- ---- the parts
module _ (w : World) (e : EngineKept) (is : StandsFor w e) (lo hi : ℕ) (from : w.upkeep.pruned ≤ lo) (rises : lo ≤ hi) (within : hi ≤ last w.visible) where
  part_is : (t : ℕ) → t < length w.visible.tables → part_in e.tables e.base lo hi t ≡ part_between w.visible lo hi t
  part_is t lt =
      let rows = (is.base_stands.each t lt).reads lo from (omega arith) in
      let actions : actions_kept e.base.entries lo hi ≡ actions_between w.visible.commits lo hi = ap (λ es. actions_kept es lo hi) is.base_stands.entries_are ∙ entries_between w.visible w.upkeep.pruned lo hi from within in
      let net : condensed e.tables (actions_kept e.base.entries lo hi) t ≡ net_of (rows_of (snap w.visible lo) t) (rows_of (snap w.visible hi) t) =
      (λ i. condensed (is.tables_are i) (actions i) t) ∙ commits_condense w.visible lo hi t is.steady.sound rises within lt in
      λ i. record { old = rows i; minus = (net i).minus; plus = (net i).plus }

  both : (a b : Bool) → (a && b) ≡ true → (a ≡ true) × (b ≡ true)
  both true true h = (refl, refl)
  both true false h = cc
  both false b h = cc

  parts_are_told : (tables : List ℕ) → list_all (λ t. nat_lt t (length w.visible.tables)) tables ≡ true → map (part_in e.tables e.base lo hi) tables ≡ map (part_between w.visible lo hi) tables
  parts_are_told [] h = refl
  parts_are_told (t ∷ tables) h =
      let hs = both (nat_lt t (length w.visible.tables)) (list_all (λ t. nat_lt t (length w.visible.tables)) tables) h in
      let test = hs.0 in
      let lt : t < length w.visible.tables = grind (arith, nat_tests) in
      ap₂ (λ p ps. p ∷ ps) (part_is t lt) (parts_are_told tables hs.1)

pub inputs_are_told : (w : World) (e : EngineKept) (f : Forced) → StandsFor w e → IsStep w.visible f → w.upkeep.pruned ≤ f.lo
    → (parts_in e f ≡ parts_between w.visible (view_at w.visible.views f.view) f.lo f.hi)
    × (difference (view_at w.visible.views f.view) (old_sides (parts_in e f)) (new_sides (parts_in e f)) ≡ view_difference (view_at w.visible.views f.view) (snap w.visible f.lo) (snap w.visible f.hi))
inputs_are_told w e f is step from =
    let s = w.visible in
    let bound = is.steady.sound.schema.each_view f.view step.in_use in
    let rises : f.lo ≤ f.hi = omega (arith, step.rises) in
    let lower : f.lo ≤ last s = omega (arith, step.rises, step.within) in
    let told : parts_in e f ≡ parts_between s (view_at s.views f.view) f.lo f.hi =
    (λ i. map (part_in e.tables e.base f.lo f.hi) (view_at (is.views_are i) f.view).tables) ∙ parts_are_told w e is f.lo f.hi from rises step.within (view_at s.views f.view).tables bound.in_use in
    (told, (λ i. difference (view_at s.views f.view) (old_sides (told i)) (new_sides (told i))) ∙ parts_give s is.steady.sound f.lo f.hi lower step.within f.view step.in_use)
