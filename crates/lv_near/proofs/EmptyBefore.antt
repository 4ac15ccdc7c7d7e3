-- The reach of a change of tables that are empty before it: no old row is near, and no far alias has one.
use Rattle.std.proofs.Common.{◌≡◌, ℕ, zero, suc, ◌+◌, ◌<◌, Bool, true, false, ◌||◌, List, [], ◌∷◌, map, length, take, get_or, refl, sym, ap, ◌∙◌, subst}
use Rattle.std.specs.Prelude.{◌⊎◌}
use mathlib.Core.Logic.{inl, inr}
use Rattle.std.proofs.lemmas.List.{take_more}
use Rattle.std.specs.List.{filter, AllByRecursion, AllZip}
use Rattle.lv_schema.specs.declared.part.Part.{Part}
use Rattle.lv_schema.specs.declared.table.TableDef.{TableDef}
use Rattle.lv_schema.specs.Jobs.{IsPart}
use Rattle.lv_schema.specs.Nets.{has_row}
use Rattle.lv_schema.specs.World.{table_at}
use Rattle.lv_schema.proofs.Apart.{all_append}
use Rattle.lv_schema.proofs.ChangeLists.{ARow}
use Rattle.lv_reach.specs.declared.link.Link.{Link}
use Rattle.lv_reach.specs.declared.rows.AliasRow.{AliasRow}
use Rattle.lv_reach.specs.Reach.{AreWithin, IsFar, IsNear, IsReachOf, KeepsReach, Leads, cut_from, is_changed, of_alias, part_at, with_old_from}
use Rattle.lv_reach.proofs.NearLaws.{changed_near}
use Rattle.lv_base.specs.Bases.{BaseRoom, defs_of}
use Rattle.lv_near.specs.Small.{AreEmptyAt, old_at, table_at_commit, with_lost, with_tables}
use Rattle.lv_near.proofs.FarTold.{far_flag}
use Rattle.lv_near.proofs.Parts.{first_there, second_there}

-- ---- one more table
pub empty_more : (b : BaseRoom) (lo : ℕ) (tables : List ℕ) (i d : ℕ) → i < length tables → AreEmptyAt b lo (take i tables) → table_at_commit b lo (get_or tables i d) ≡ [] → AreEmptyAt b lo (take (i + 1) tables)
empty_more b lo tables i d lt before here = subst (AreEmptyAt b lo) (sym (take_more tables i d lt)) (all_append (λ t. table_at_commit b lo t ≡ []) (take i tables) (get_or tables i d ∷ []) before (here, tt))

-- ---- parts without old rows
no_old : (parts : List Part) (i : ℕ) → AllByRecursion (λ p. p.old ≡ []) parts → (part_at parts i).old ≡ []
no_old [] i none = refl
no_old (p ∷ parts) zero none = none.0
no_old (p ∷ parts) (suc i) none = no_old parts i none.1

no_lost : (old minus : List ARow) → old ≡ [] → AllByRecursion (λ row. has_row row old ≡ true) minus → minus ≡ []
no_lost old [] e there = refl
no_lost old (row ∷ minus) e there = let no : true ≡ false = sym there.0 ∙ ap (has_row row) e in cc

module _ (links : List Link) (parts : List Part) (within : AreWithin (length parts) links) (none : AllByRecursion (λ p. p.old ≡ []) parts) where
  -- the changed rows, and those of far aliases
  abbrev keep : AliasRow → Bool
  keep a = (far_flag links parts within a.alias).0 || is_changed (part_at parts a.alias) a.row

  near_kept : (a : AliasRow) (chain : List AliasRow) → Leads links parts chain a → keep a ≡ true
  near_kept a [] h = second_there (far_flag links parts within a.alias).0 _ h
  near_kept a (from ∷ chain) h = let no : true ≡ false = sym h.0 ∙ ap (has_row a.row) (no_old parts a.alias none) in cc

  keeps : KeepsReach links parts keep
  keeps = record {
    near = λ a h. near_kept a h.0 h.1;
    far = λ a far. first_there _ (is_changed (part_at parts a.alias) a.row) ((far_flag links parts within a.alias).1.1 far);
  }

  only : (a : AliasRow) → a.alias < length parts → keep a ≡ true → IsNear links parts a ⊎ IsFar links parts a.alias
  only a lt h = by (far_flag links parts within a.alias).0 refl h
    where
      by : (t : Bool) → (far_flag links parts within a.alias).0 ≡ t → (t || is_changed (part_at parts a.alias) a.row) ≡ true → IsNear links parts a ⊎ IsFar links parts a.alias
      by true e k = inr ((far_flag links parts within a.alias).1.0 e)
      by false e k = inl (changed_near links parts a k)

-- ---- the parts of tables that are empty
empty_at : (b : BaseRoom) (lo : ℕ) (tables : List ℕ) → AreEmptyAt b lo tables → (alias : ℕ) → old_at b tables lo alias ≡ []
empty_at b lo [] empty alias = refl
empty_at b lo (t ∷ tables) empty zero = empty.0
empty_at b lo (t ∷ tables) empty (suc alias) = empty_at b lo tables empty.1 alias

module _ (rows : ℕ → List ARow) (none : (alias : ℕ) → rows alias ≡ []) where
  empty_parts : (i : ℕ) (changes : List Part) → AllByRecursion (λ p. p.old ≡ []) (with_old_from rows i changes)
  empty_parts i [] = tt
  empty_parts i (p ∷ changes) = (none i, empty_parts (suc i) changes)

  lost_cut : (defs : List TableDef) (kept : AliasRow → Bool) (i : ℕ) (tables : List ℕ) (changes : List Part) → AllZip (λ t p. IsPart (table_at defs t) p) tables (with_old_from rows i changes)
      → map with_lost changes ≡ cut_from kept i (with_old_from rows i changes)
  lost_cut defs kept i tables [] each = refl
  lost_cut defs kept i [] (p ∷ changes) each = absurd each
  lost_cut defs kept i (t ∷ tables) (p ∷ changes) each =
      let old : p.minus ≡ filter (λ row. kept (of_alias i row)) (rows i) = no_lost (rows i) p.minus (none i) each.0.there ∙ ap (filter (λ row. kept (of_alias i row))) (sym (none i)) in
      let rest = lost_cut defs kept (suc i) tables changes each.1 in
      λ x. record { old = old x; minus = p.minus; plus = p.plus } ∷ rest x

pub empty_before : (b : BaseRoom) (lo : ℕ) (links : List Link) (tables : List ℕ) (changes small : List Part) → AreWithin (length (with_tables b tables lo changes)) links → AreEmptyAt b lo tables
    → AllZip (λ t p. IsPart (table_at (defs_of b) t) p) tables (with_tables b tables lo changes) → small ≡ map with_lost changes → IsReachOf links (with_tables b tables lo changes) small
empty_before b lo links tables changes small within empty each is =
    let whole = with_tables b tables lo changes in
    let none = empty_at b lo tables empty in
    let no_rows = empty_parts (λ alias. old_at b tables lo alias) none 0 changes in
    record {
      keep = keep links whole within no_rows;
      keeps = keeps links whole within no_rows;
      only = only links whole within no_rows;
      cut_is = is ∙ lost_cut (λ alias. old_at b tables lo alias) none (defs_of b) (keep links whole within no_rows) 0 tables changes each;
    }
