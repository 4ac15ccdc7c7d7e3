-- Bases that differ in their tables' indexes alone.
use Rattle.std.proofs.Common.{◌≡◌, ◌≢◌, ℕ, ◌<◌, Bool, true, false, List, [], ◌∷◌, ◌++◌, length, get_or, refl, sym, ap, ap₂, ◌∙◌, subst, arith}
use Rattle.std.specs.Prelude.{◌⊎◌, ◌||◌, OnErr, OnOk, Result, Ok, Err, cond, nat_eq, slice_set}
use Rattle.std.specs.Cmp.Lexicographic.{bytes_decides, pointwise}
use mathlib.Core.Logic.{inl, inr}
use Rattle.std.proofs.Math.ListN.{get_or-map}
use Rattle.std.proofs.Math.Path.{subst₂}
use Rattle.std.proofs.Math.Seq.{map-set_same}
use Rattle.std.proofs.lemmas.List.Folds.{list_any-append}
use Rattle.std.proofs.lemmas.List.{get_or-set_other, get_or-set_same, length-map, map-set}
use Rattle.std.proofs.lemmas.Simd.{map-map}
use Rattle.lv_schema.specs.declared.action.Action.{Action}
use Rattle.lv_schema.specs.declared.net.Net.{Net}
use Rattle.lv_schema.specs.declared.table.TableDef.{TableDef}
use Rattle.lv_schema.specs.Condensed.{condensed}
use Rattle.lv_schema.specs.Databases.{Db, IsDatabase}
use Rattle.lv_schema.specs.SoundWorld.{CanAct}
use Rattle.lv_stands.specs.Kept.{TableKept, shown}
use Rattle.lv_stands.proofs.Lists.{sum-map}
use Rattle.lv_versions.specs.Versions.{Kept, has_index, with_index}
use Rattle.lv_base.specs.Bases.{BaseRoom, CanCommit, HasIndex, IsBase, IsReady, IsReindexed, KeepsIndexes, base_of, defs_of, indexes_in, kept_of, last_state, no_versions, table_in, unindexed, versions_in, without_indexes}
use Rattle.lv_base.proofs.Places.{item_is, split}

-- ---- what does not see the indexes
same_by : {X : Type 0} (f : BaseRoom → X) → ((b : BaseRoom) → f (without_indexes b) ≡ f b) → (old new : BaseRoom) → IsReindexed old new → f new ≡ f old
same_by f bare old new e = sym (bare new) ∙ ap f e ∙ bare old

pub same_kept : (old new : BaseRoom) → IsReindexed old new → base_of new ≡ base_of old
same_kept = same_by base_of (λ b. ap (λ (ts : List TableKept). record (base_of b) { tables = ts }) (map-map kept_of unindexed b.tables))

pub same_defs : (old new : BaseRoom) → IsReindexed old new → defs_of new ≡ defs_of old
same_defs = same_by defs_of (λ b. map-map (λ (k : Kept). k.def) unindexed b.tables)

pub same_state : (old new : BaseRoom) → IsReindexed old new → last_state new ≡ last_state old
same_state = same_by last_state (λ b. map-map (λ (k : Kept). shown b.number k.versions) unindexed b.tables)

same_count : (old new : BaseRoom) → IsReindexed old new → versions_in new.tables ≡ versions_in old.tables
same_count = same_by (λ b. versions_in b.tables) (λ b. sum-map unindexed (λ (k : Kept). length k.versions) b.tables)

pub same_long : (old new : BaseRoom) → IsReindexed old new → length new.tables ≡ length old.tables
same_long = same_by (λ b. length b.tables) (λ b. length-map b.tables unindexed)

-- each table
pub same_table : (old new : BaseRoom) → IsReindexed old new → (t : ℕ) → unindexed (table_in new.tables t) ≡ unindexed (table_in old.tables t)
same_table old new e t = same_by (λ b. unindexed (table_in b.tables t)) (λ b. ap unindexed (get_or-map unindexed b.tables t no_versions)) old new e

pub same_spare : (old new : BaseRoom) → IsReindexed old new → (t : ℕ) → (table_in new.tables t).spare ≡ (table_in old.tables t).spare
same_spare old new e t = ap (λ (k : Kept). k.spare) (same_table old new e t)

pub same_base : (old new : BaseRoom) → IsReindexed old new → IsBase old → IsBase new
same_base old new e is =
    let number = ap (λ (b : BaseRoom). b.number) e in
    let pruned = ap (λ (b : BaseRoom). b.pruned) e in
    record {
      each = λ t lt.
          let k = same_table old new e t in
          let before = is.each t (omega (arith, lt, same_long old new e)) in
          record {
            no_is = ap (λ (k : Kept). k.def.no) k ∙ before.no_is;
            by = omega (arith, ap (λ (k : Kept). k.last) k, before.by, number);
            floor_by = omega (arith, ap (λ (k : Kept). k.floor) k, before.floor_by, pruned);
          };
      entries_by = omega (arith, ap (λ (b : BaseRoom). b.deltas.last) e, is.entries_by, number);
      entries_floor = ap (λ (b : BaseRoom). b.deltas.floor) e ∙ is.entries_floor ∙ sym pruned;
      pruned_by = omega (arith, number, pruned, is.pruned_by);
      counted = omega (arith, same_count old new e, is.counted);
    }

-- what a commit needs
pub same_commit : (old new : BaseRoom) → IsReindexed old new → (actions : List Action) → CanCommit old actions → CanCommit new actions
same_commit old new e actions can =
    let defs = sym (same_defs old new e) in
    let states = sym (same_state old new e) in
    record {
      fits = subst₂ IsDatabase defs states can.fits;
      acts = subst₂ (λ (ts : List TableDef) (db : Db). CanAct ts db actions) defs states can.acts;
    }

pub same_ready : (old new : BaseRoom) → IsReindexed old new → (actions : List Action) (nets : List Net) → IsReady old actions nets → IsReady new actions nets
same_ready old new e actions nets ready =
    let long = same_long old new e in
    record {
      can = same_commit old new e actions ready.can;
      all = ready.all ∙ sym long;
      each = λ t lt. ready.each t (omega (arith, lt, long)) ∙ ap (λ (ts : List TableDef). condensed ts actions t) (sym (same_defs old new e));
      room = λ t lt. omega (arith, ready.room t (omega (arith, lt, long)), same_spare old new e t);
      entries_room = omega (arith, ready.entries_room, ap (λ (b : BaseRoom). b.deltas.spare) e);
      counted = omega (arith, ready.counted, same_count old new e);
    }

-- ---- an index more
pub with_has : (c : List ℕ) (indexes : List (List ℕ)) → has_index c (with_index c indexes) ≡ true
with_has c indexes = by (has_index c indexes) refl
  where
    by : (t : Bool) → has_index c indexes ≡ t → has_index c (cond t indexes (indexes ++ c ∷ [])) ≡ true
    by true e = e
    by false e = list_any-append (pointwise nat_eq c) indexes (c ∷ []) ∙ ap₂ (λ s t. s || (t || false)) e ((bytes_decides c c).1 refl)

pub with_keeps : (c d : List ℕ) (indexes : List (List ℕ)) → has_index d indexes ≡ true → has_index d (with_index c indexes) ≡ true
with_keeps c d indexes h = by (has_index c indexes)
  where
    by : (t : Bool) → has_index d (cond t indexes (indexes ++ c ∷ [])) ≡ true
    by true = h
    by false = list_any-append (pointwise nat_eq d) indexes (c ∷ []) ∙ ap (λ s. s || (pointwise nat_eq d c || false)) h

-- the indexes of a table
indexes_at : (b : BaseRoom) (t : ℕ) → (table_in b.tables t).indexes ≡ get_or (indexes_in b.tables) t []
indexes_at b t = sym (get_or-map (λ (k : Kept). k.indexes) b.tables t no_versions)

pub same_indexes : (old new : BaseRoom) → indexes_in new.tables ≡ indexes_in old.tables → KeepsIndexes old new
same_indexes old new e t d h = subst (λ l. has_index d l ≡ true) (indexes_at old t ∙ ap (λ ls. get_or ls t []) (sym e) ∙ sym (indexes_at new t)) h

module _ (old new : BaseRoom) (table : ℕ) (c : List ℕ) (there : table < length old.tables) (added : indexes_in new.tables ≡ slice_set (indexes_in old.tables) table (with_index c (table_in old.tables table).indexes)) where
  indexes_there : (table_in new.tables table).indexes ≡ with_index c (table_in old.tables table).indexes
  indexes_there =
      indexes_at new table
      ∙ ap (λ ls. get_or ls table []) added
      ∙ get_or-set_same (indexes_in old.tables) table (with_index c (table_in old.tables table).indexes) [] (omega (arith, there, length-map old.tables (λ (k : Kept). k.indexes)))

  indexes_elsewhere : (t : ℕ) → t ≢ table → (table_in new.tables t).indexes ≡ (table_in old.tables t).indexes
  indexes_elsewhere t other =
      indexes_at new t
      ∙ ap (λ ls. get_or ls t []) added
      ∙ get_or-set_other (indexes_in old.tables) table t (with_index c (table_in old.tables table).indexes) [] other
      ∙ sym (indexes_at old t)

  pub added_has : HasIndex new table c
  added_has = subst (λ l. has_index c l ≡ true) (sym indexes_there) (with_has c (table_in old.tables table).indexes)

  pub added_keeps : KeepsIndexes old new
  added_keeps t d h = by (split t table)
    where
      elsewhere : t ≢ table → HasIndex new t d
      elsewhere other = subst (λ l. has_index d l ≡ true) (sym (indexes_elsewhere t other)) h

      by : (t ≡ table) ⊎ ((t < table) ⊎ (table < t)) → HasIndex new t d
      by (inl e) =
          subst (λ u. HasIndex new u d) (sym e)
          (subst (λ l. has_index d l ≡ true) (sym indexes_there) (with_keeps c d (table_in old.tables table).indexes (subst (λ u. HasIndex old u d) e h)))
      by (inr (inl lt)) = elsewhere (λ e. absurd (omega (arith, lt, e)))
      by (inr (inr lt)) = elsewhere (λ e. absurd (omega (arith, lt, e)))

-- whatever a call that adds it answers
pub index_added : {X E : Type 0} (r : Result X E) (old new : BaseRoom) (table : ℕ) (c : List ℕ) → table < length old.tables
    → OnOk r (indexes_in new.tables ≡ slice_set (indexes_in old.tables) table (with_index c (table_in old.tables table).indexes)) → OnErr r (indexes_in new.tables ≡ indexes_in old.tables)
    → KeepsIndexes old new × OnOk r (HasIndex new table c)
index_added (Ok x) old new table c there added refused = (added_keeps old new table c there added, added_has old new table c there added)
index_added (Err e) old new table c there added refused = (same_indexes old new refused, tt)

-- one of the tables with other indexes
module _ (b : BaseRoom) (table : ℕ) (there : table < length b.tables) (d new : Kept) (same : unindexed new ≡ unindexed (get_or b.tables table d)) where
  abbrev pub replaced : BaseRoom
  replaced = record b { tables = slice_set b.tables table new }

  pub replaced_same : IsReindexed b replaced
  replaced_same = ap (λ (ts : List Kept). record b { tables = ts }) (map-set_same unindexed b.tables table new d same)

  pub replaced_added : (c : List ℕ) → new.indexes ≡ with_index c (get_or b.tables table d).indexes → indexes_in replaced.tables ≡ slice_set (indexes_in b.tables) table (with_index c (table_in b.tables table).indexes)
  replaced_added c added = map-set (λ (k : Kept). k.indexes) b.tables table new ∙ ap (slice_set (indexes_in b.tables) table) (added ∙ ap (λ (k : Kept). with_index c k.indexes) (item_is b.tables table d there))

  pub replaced_kept : new.indexes ≡ (get_or b.tables table d).indexes → indexes_in replaced.tables ≡ indexes_in b.tables
  replaced_kept kept = map-set_same (λ (k : Kept). k.indexes) b.tables table new d kept
