-- What the committed states tell of a step is what the world has of it.
use Rattle.std.proofs.Common.{◌≡◌, ℕ, zero, suc, ◌+◌, ◌<◌, ◌≤◌, Bool, true, false, ◌==◌, List, [], ◌∷◌, map, length, get_or, Some, slice_get, refl, sym, ap, ◌∙◌, subst, arith}
use Rattle.std.proofs.lemmas.Bool.{eqb-false, eqb-true}
use Rattle.std.specs.Prelude.{cond, ◌&&◌, ◌||◌, Option, None}
use Rattle.std.specs.List.{cons_option, filter, filter_map, list_any}
use Rattle.lv_values.specs.declared.value.Value.{Value}
use Rattle.lv_values.specs.Order.{row_eq}
use Rattle.lv_values.specs.Rows.{key_cmp}
use Rattle.lv_schema.specs.declared.action.ActionKind.{ActionKind}
use Rattle.lv_schema.specs.declared.action.ActionKind.TheVariants.{Insert, Delete}
use Rattle.lv_schema.specs.declared.action.DeltaEntry.{DeltaEntry}
use Rattle.lv_schema.specs.Commits.{written_place}
use Rattle.lv_schema.specs.declared.forced.Forced.{Forced}
use Rattle.lv_schema.specs.declared.net.Net.{Net}
use Rattle.lv_schema.specs.declared.table.TableDef.{TableDef}
use Rattle.lv_schema.specs.Condensed.{condensed, first_found, found_by, last_left, unless}
use Rattle.lv_schema.specs.Databases.{rows_of}
use Rattle.lv_schema.specs.Jobs.{part_between}
use Rattle.lv_schema.specs.Nets.{net_of}
use Rattle.lv_schema.specs.Once.{Ascends}
use Rattle.lv_schema.specs.World.{World, snap, table_at, view_at}
use Rattle.lv_delta.specs.Kept.{is_between}
use Rattle.lv_stands.specs.Moves.{actions_kept, part_in}
use Rattle.lv_stands.specs.Stands.{BaseStands}
use Rattle.lv_stands.proofs.Inputs.{inputs_are_told}
use Rattle.lv_base.specs.Bases.{BaseRoom, base_of, defs_of, table_in}
use Rattle.lv_base.proofs.Places.{def_at}
use Rattle.lv_base.proofs.Told.{told_tables}
use Rattle.lv_joining.specs.Joining.{is_delete, takes_from}
use Rattle.lv_joining.specs.Kept.{IsKeptStep}
use Rattle.lv_joining.proofs.Databases.{ascends_of}

-- what two functions give of one of some numbers, where they give the same of all
one_same : {X : Type 0} (f g : ℕ → X) (ts : List ℕ) (i t : ℕ) → map f ts ≡ map g ts → slice_get ts i ≡ Some t → f t ≡ g t
one_same f g [] i t h at = absurd (cc)
one_same f g (u ∷ ts) zero t h at = let is : u ≡ t = cc in let both : f u ≡ g u = cc in subst (λ n. f n ≡ g n) is both
one_same f g (u ∷ ts) (suc i) t h at = let rest : map f ts ≡ map g ts = cc in one_same f g ts i t rest at

-- ---- where no entry takes a row of a table away
none_found : (tables : List TableDef) (t : ℕ) (k : List Value) (entries : List DeltaEntry) → list_any (λ (e : DeltaEntry). takes_from t e.action) entries ≡ false
    → first_found tables (map (λ (e : DeltaEntry). e.action) entries) (t, k) ≡ None
none_found tables t k [] h = refl
none_found tables t k (e ∷ entries) h = by (t == e.action.table) e.action.kind (row_eq k (written_place tables e.action).1) h (none_found tables t k entries)
  where
    rest : Bool
    rest = list_any (λ (e : DeltaEntry). takes_from t e.action) entries

    later : Option (List Value)
    later = first_found tables (map (λ (e : DeltaEntry). e.action) entries) (t, k)

    by : (b : Bool) (kind : ActionKind) (same : Bool) → ((b && is_delete kind) || rest) ≡ false → (rest ≡ false → later ≡ None) → cond (b && same) (found_by kind e.action.row) later ≡ None
    by true Insert true h more = refl
    by true Insert false h more = more h
    by true Delete same h more = cc
    by false kind same h more = more h

none_kept : (f : List Value → Option (List Value)) (keys : List (List Value)) → ((k : List Value) → f k ≡ None) → filter_map f keys ≡ []
none_kept f [] none = refl
none_kept f (k ∷ keys) none = ap (λ o. cons_option o (filter_map f keys)) (none k) ∙ none_kept f keys none

none_goes : (tables : List TableDef) (t : ℕ) (entries : List DeltaEntry) → list_any (λ (e : DeltaEntry). takes_from t e.action) entries ≡ false
    → (condensed tables (map (λ (e : DeltaEntry). e.action) entries) t).minus ≡ []
none_goes tables t entries h =
    none_kept _ _ (λ k. ap (λ o. unless o (last_left tables (map (λ (e : DeltaEntry). e.action) entries) (t, k))) (none_found tables t k entries h))

-- ---- the committed states
module _ (w : World) (b : BaseRoom) (f : Forced) (k : IsKeptStep w b f) where
  defs_are : defs_of b ≡ w.visible.tables
  defs_are = told_tables w.visible w.upkeep.pruned b (subst (BaseStands w.visible w.upkeep.pruned) k.base_is k.stands.base_stands)

  pub def_is : (t : ℕ) → (table_in b.tables t).def ≡ table_at w.visible.tables t
  def_is t = sym (def_at b.tables t) ∙ ap (λ (ts : List TableDef). table_at ts t) defs_are

  module _ (alias t : ℕ) (at : slice_get (view_at w.visible.views f.view).tables alias ≡ Some t) where
    part_same : part_in (defs_of b) (base_of b) f.lo f.hi t ≡ part_between w.visible f.lo f.hi t
    part_same =
        let tables : defs_of b ≡ k.engine.tables = defs_are ∙ sym k.stands.tables_are in
        let told = (inputs_are_told w k.engine f k.stands k.step k.kept).0 in
        one_same (part_in (defs_of b) (base_of b) f.lo f.hi) (part_between w.visible f.lo f.hi) (view_at w.visible.views f.view).tables alias t
        ((λ i. map (part_in (tables i) (sym k.base_is i) f.lo f.hi) (view_at (sym k.stands.views_are i) f.view).tables) ∙ told) at

    pub net_is : condensed (defs_of b) (actions_kept (base_of b).entries f.lo f.hi) t ≡ net_of (rows_of (snap w.visible f.lo) t) (rows_of (snap w.visible f.hi) t)
    net_is = λ i. record { minus = (part_same i).minus; plus = (part_same i).plus }

    -- and so do the entries between the step's commits
    pub entries_tell : (entries : List DeltaEntry) → entries ≡ filter (is_between f.lo f.hi) (base_of b).entries → condensed (defs_of b) (map (λ (e : DeltaEntry). e.action) entries) t ≡ net_of (rows_of (snap w.visible f.lo) t) (rows_of (snap w.visible f.hi) t)
    entries_tell entries is = ap (λ (es : List DeltaEntry). condensed (defs_of b) (map (λ (e : DeltaEntry). e.action) es) t) is ∙ net_is

    pub none_lost : (entries : List DeltaEntry) → entries ≡ filter (is_between f.lo f.hi) (base_of b).entries → list_any (λ (e : DeltaEntry). takes_from t e.action) entries ≡ false → (net_of (rows_of (snap w.visible f.lo) t) (rows_of (snap w.visible f.hi) t)).minus ≡ []
    none_lost entries is none = ap (λ (n : Net). n.minus) (sym (entries_tell entries is)) ∙ none_goes (defs_of b) t entries none

  pub up_before : (t : ℕ) → Ascends (key_cmp (table_at w.visible.tables t).key) (rows_of (snap w.visible f.lo) t)
  up_before t = ascends_of w.visible.tables (snap w.visible f.lo) (k.stands.steady.sound.fits f.lo (omega (arith, k.step.rises, k.step.within))) t

  pub up_after : (t : ℕ) → Ascends (key_cmp (table_at w.visible.tables t).key) (rows_of (snap w.visible f.hi) t)
  up_after t = ascends_of w.visible.tables (snap w.visible f.hi) (k.stands.steady.sound.fits f.hi k.step.within) t

-- ---- a loop over the aliases
pub at_place : (ts : List ℕ) (n : ℕ) → n < length ts → slice_get ts n ≡ Some (get_or ts n 0)
at_place [] n lt = absurd (let none = lt in omega (arith, none))
at_place (u ∷ ts) zero lt = refl
at_place (u ∷ ts) (suc n) lt = at_place ts n (omega (arith, lt))

below : (ts : List ℕ) (i t : ℕ) → slice_get ts i ≡ Some t → i < length ts
below [] i t at = absurd (cc)
below (u ∷ ts) zero t at = omega arith
below (u ∷ ts) (suc i) t at = omega (arith, below ts i t at)

module _ (P : ℕ → ℕ → Type 0) (ts : List ℕ) where
  -- what holds of the first so many numbers, each at its place
  abbrev pub AllBelow : ℕ → Type 0
  AllBelow n = (i t : ℕ) → i < n → slice_get ts i ≡ Some t → P i t

  pub one_below : (n u : ℕ) → AllBelow n → slice_get ts n ≡ Some u → P n u → AllBelow (n + 1)
  one_below n u all there p i t lt at = by (i == n) refl
    where
      by : (b : Bool) → (i == n) ≡ b → P i t
      by true e =
          let same : i ≡ n = eqb-true i n e in
          let is : u ≡ t = let both : Some u ≡ Some t = sym there ∙ ap (slice_get ts) (sym same) ∙ at in cc in
          subst (λ j. P j t) (sym same) (subst (P n) is p)
      by false e =
          let other : i ≡ n → ⊥ = eqb-false i n e in
          all i t (grind (arith, other)) at

  pub all_below : (n : ℕ) → length ts ≤ n → AllBelow n → (i t : ℕ) → slice_get ts i ≡ Some t → P i t
  all_below n le all i t at = all i t (omega (arith, le, below ts i t at)) at
