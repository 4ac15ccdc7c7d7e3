-- A clean-up of the parts.
use Rattle.std.proofs.Common.{◌≡◌, ◌≢◌, ℕ, suc, ◌+◌, ◌<◌, ◌≤◌, Bool, true, false, cond, List, [], ◌∷◌, map, length, get_or, refl, sym, ◌∙◌, subst, arith}
use Rattle.std.specs.Prelude.{IsTrue, min, slice_set, ◌⊎◌}
use Rattle.std.specs.List.{AllByRecursion, filter}
use Rattle.std.proofs.lemmas.List.{get_or_default, get_or-set_other, get_or-set_same, length-map}
use mathlib.Core.Logic.{inl, inr}
use Rattle.lv_schema.specs.declared.view.ViewDef.{ViewDef}
use Rattle.lv_schema.specs.UpkeepCases.{cleaning}
use Rattle.lv_schema.specs.Versions.{ends_after}
use Rattle.lv_schema.specs.WholeWorld.{maintained}
use Rattle.lv_schema.specs.World.{World, least}
use Rattle.lv_schema.specs.CleanUps.{floor}
use Rattle.lv_schema.proofs.SteadyWorlds.{floor_last}
use Rattle.lv_txn.specs.Kept.{least_of}
use Rattle.lv_upkeep.specs.Kept.{least_in}
use Rattle.lv_viewrows.specs.declared.version.GroupVersion.{GroupVersion}
use Rattle.lv_viewrows.specs.Kept.{ViewKept}
use Rattle.lv_stands.specs.Kept as stands
use Rattle.lv_stands.specs.Moves.{BaseCleaned, ViewCleaned, ViewsCleaned, floor_kept, least_read, versions_counted}
use Rattle.lv_stands.proofs.Cleans.{cleaned_stands, counts_are, floor_is}
use Rattle.lv_base.specs.Bases.{BaseRoom, base_of}
use Rattle.lv_store.specs.declared.cleaned.Cleaned.{Cleaned}
use Rattle.lv_store.specs.declared.store.Store.{Store}
use Rattle.lv_store.specs.Maintaining.{GivesCleaned, KeepsNoneBelow, RowsPruned, lesser}
use Rattle.lv_store.specs.Kept.{Stands, kept, no_rows, rows_in, rows_of, store_of}
use Rattle.lv_store.proofs.Steps.{Know, rows_at}

-- ---- the least of numbers
least_first : (n k : ℕ) (ks : List ℕ) → least n (k ∷ ks) ≡ min n (least k ks)
least_first n k [] = omega arith
least_first n k (x ∷ ks) = omega (arith, least_first n k ks)

pub least_point : (n : ℕ) (ks : List ℕ) → lesser n (least_in ks) ≡ least n ks
least_point n [] = refl
least_point n (k ∷ ks) = sym (least_first n k ks)

pub least_snapshot : (n : ℕ) (ks : List ℕ) → lesser n (least_of ks) ≡ least n ks
least_snapshot n [] = refl
least_snapshot n (k ∷ ks) = sym (least_first n k ks)

-- ---- the rows of each view, one after another
pub item_is : (rows : List ViewKept) (at : ℕ) (d : ViewKept) → at < length rows → get_or rows at d ≡ rows_in rows at
item_is rows at d lt = get_or_default rows at d no_rows lt

pub later : (v at : ℕ) → at + 1 ≤ v → v ≢ at
later v at le = λ e. absurd (omega (arith, le, e))

pub set_next : (P : ℕ → ViewKept → Type 0) (rows : List ViewKept) (at : ℕ) (new : ViewKept) → at < length rows → P at new → ((v : ℕ) → v < at → P v (rows_in rows v))
    → (v : ℕ) → v < at + 1 → P v (rows_in (slice_set rows at new) v)
set_next P rows at new inside here each v below = by (grind arith)
  where
    by : (v ≡ at) ⊎ (v < at) → P v (rows_in (slice_set rows at new) v)
    by (inl e) = subst (λ u. P u (rows_in (slice_set rows at new) u)) (sym e) (subst (P at) (sym (get_or-set_same rows at new no_rows inside)) here)
    by (inr lt) = subst (P v) (sym (get_or-set_other rows at v new no_rows (λ e. absurd (omega (arith, lt, e))))) (each v lt)

-- what holds of each view's rows by its number
by_number : (P : stands.ViewKept → Type 0) (rows : List ViewKept) → ((v : ℕ) → v < length rows → P (rows_of (rows_in rows v))) → AllByRecursion P (map rows_of rows)
by_number P [] each = tt
by_number P (r ∷ rows) each = (each 0 (omega arith), by_number P rows (λ v lt. each (suc v) (omega (arith, lt))))

passed : (test : GroupVersion → Bool) (vs : List GroupVersion) → AllByRecursion (λ v. IsTrue (test v)) (filter test vs)
passed test [] = tt
passed test (v ∷ vs) = by (test v) refl (passed test vs)
  where
    by : (b : Bool) → test v ≡ b → AllByRecursion (λ v. IsTrue (test v)) (filter test vs) → AllByRecursion (λ v. IsTrue (test v)) (cond b (v ∷ filter test vs) (filter test vs))
    by true e rest = (e, rest)
    by false e rest = rest

module _ (number : ℕ) (old new : List ViewKept) (all : length new ≡ length old) (each : (v : ℕ) → v < length old → RowsPruned number (rows_in old v) (rows_in new v)) where
  pub keeps_none : KeepsNoneBelow number (map rows_of new)
  keeps_none =
      by_number (λ k. AllByRecursion (λ v. IsTrue (ends_after number v.until)) k.versions) new
      (λ v lt. subst (AllByRecursion (λ (k : GroupVersion). IsTrue (ends_after number k.until))) (sym (each v (omega (arith, lt, all))).cleaned.versions_are) (passed (λ k. ends_after number k.until) (rows_in old v).versions))

  pub pruned_know : (views : List ViewDef) → Know views old → Know views new
  pruned_know views know v lt = (each v (omega (arith, lt, all))).def_stays ∙ know v (omega (arith, lt, all))

  views_cleaned : ViewsCleaned number (map rows_of old) (map rows_of new)
  views_cleaned = record {
    all = length-map new rows_of ∙ all ∙ sym (length-map old rows_of);
    each = λ v lt.
        subst (λ (k : stands.ViewKept). ViewCleaned number (stands.view_kept (map rows_of old) v) k) (sym (rows_at new v))
        (subst (λ (k : stands.ViewKept). ViewCleaned number k (rows_of (rows_in new v))) (sym (rows_at old v)) (each v (omega (arith, lt, length-map old rows_of))).cleaned);
  }

-- ---- a clean-up
module _ (p : Store) (w : World) (is : Stands w (store_of p)) where
  floor_told : floor_kept (kept 0 (store_of p)) ≡ floor w
  floor_told = floor_is w (kept w.upkeep.journal (store_of p)) is

  pub floor_above : p.base.pruned ≤ floor_kept (kept 0 (store_of p))
  floor_above = omega (arith, floor_told, is.base_stands.pruned_is, is.steady.pruned)

  pub floor_below : floor_kept (kept 0 (store_of p)) ≤ p.base.number
  floor_below = omega (arith, floor_told, is.base_stands.number_is, floor_last w)

  pub gives_cleaned : (base : BaseRoom) (rows : List ViewKept) (c : Cleaned) → BaseCleaned (floor_kept (kept 0 (store_of p))) (base_of p.base) (base_of base) → length rows ≡ length p.rows.list
      → ((v : ℕ) → v < length p.rows.list → RowsPruned (least_read (kept 0 (store_of p))) (rows_in p.rows.list v) (rows_in rows v)) → c.floor ≡ floor_kept (kept 0 (store_of p))
      → c.versions ≡ versions_counted (base_of base) → c.deltas ≡ length base.deltas.entries → GivesCleaned (maintained (cleaning w) w) c (record (store_of p) { base = base_of base; rows = map rows_of rows })
  gives_cleaned base rows c cleaned all each at versions deltas =
      let stands = cleaned_stands w (kept w.upkeep.journal (store_of p)) (base_of base) (map rows_of rows) is cleaned (views_cleaned (least_read (kept 0 (store_of p))) p.rows.list rows all each) in
      let counts = counts_are w.visible (floor w) (base_of base) is.steady.sound (floor_last w) stands.base_stands in
      record { answer_is = λ i. record { floor = (at ∙ floor_told) i; versions = (versions ∙ counts.0) i; deltas = (deltas ∙ counts.1) i }; stands = stands }
