-- Told parts: what their rows are.
use Rattle.std.proofs.Common.{◌≡◌, ℕ, zero, suc, ◌+◌, Bool, Some, true, false, cond, List, [], ◌∷◌, ◌++◌, map, length, ◌≤◌, refl, sym, ap, ◌∙◌, subst, arith}
use Rattle.std.specs.Prelude.{option_map, slice_get}
use Rattle.std.specs.List.{AllZip}
use Rattle.lv_schema.specs.declared.cond.Col.{Col}
use Rattle.lv_schema.specs.declared.part.Part.{Part}
use Rattle.lv_schema.specs.declared.table.TableDef.{TableDef}
use Rattle.lv_schema.specs.declared.view.ViewDef.{ViewDef}
use Rattle.lv_schema.specs.Jobs.{IsPart, new_rows, old_sides}
use Rattle.lv_schema.specs.Nets.{has_row, lacking}
use Rattle.lv_schema.specs.World.{table_at}
use Rattle.lv_schema.proofs.ChangeLists.{ARow}
use Rattle.lv_relevance.specs.Relevance.{IsToldOf, is_untold, told, told_from, told_part, unchanged, used_columns, without_old}

nothing_lacking : (rows : List ARow) → lacking rows [] ++ [] ≡ rows
nothing_lacking [] = refl
nothing_lacking (row ∷ rows) = ap (λ l. row ∷ l) (nothing_lacking rows)

-- without changes the new rows are the old ones
pub old_again : (p : Part) → new_rows (unchanged p) ≡ p.old
old_again p = nothing_lacking p.old

-- ---- the old rows do not matter
module _ (cols : List Col) where
  pub old_part : (i : ℕ) (p : Part) → (told_part cols i p).old ≡ p.old
  old_part i p = by (is_untold cols i p)
    where
      by : (b : Bool) → (cond b (unchanged p) p).old ≡ p.old
      by true = refl
      by false = refl

  pub old_told : (i : ℕ) (parts : List Part) → old_sides (told_from cols i parts) ≡ old_sides parts
  old_told i [] = refl
  old_told i (p ∷ parts) = λ k. old_part i p k ∷ old_told (suc i) parts k

  changes_part : (i : ℕ) (p : Part) → without_old (told_part cols i p) ≡ told_part cols i (without_old p)
  changes_part i p = by (is_untold cols i p)
    where
      by : (b : Bool) → without_old (cond b (unchanged p) p) ≡ cond b (unchanged (without_old p)) (without_old p)
      by true = refl
      by false = refl

  pub changes_told : (i : ℕ) (parts : List Part) → map without_old (told_from cols i parts) ≡ told_from cols i (map without_old parts)
  changes_told i [] = refl
  changes_told i (p ∷ parts) = λ k. changes_part i p k ∷ changes_told (suc i) parts k

  -- ---- one alias
  pub part_told : (i alias : ℕ) (parts : List Part) → slice_get (told_from cols i parts) alias ≡ option_map (told_part cols (i + alias)) (slice_get parts alias)
  part_told i alias [] = refl
  part_told i zero (p ∷ parts) = let e : i ≡ i + 0 = omega arith in ap (λ n. Some (told_part cols n p)) e
  part_told i (suc alias) (p ∷ parts) = let e : suc i + alias ≡ i + suc alias = omega arith in part_told (suc i) alias parts ∙ ap (λ n. option_map (told_part cols n) (slice_get parts alias)) e

  -- ---- no other changes
  none_more : (row : ARow) → false ≡ true → (b : Bool) → b ≡ true
  none_more row e b = cc

  of_part : (i : ℕ) (p : Part) → IsToldOf (told_part cols i p) p
  of_part i p = by (is_untold cols i p)
    where
      by : (b : Bool) → IsToldOf (cond b (unchanged p) p) p
      by true = record { old = refl; minus = λ row e. none_more row e (has_row row p.minus); plus = λ row e. none_more row e (has_row row p.plus) }
      by false = record { old = refl; minus = λ row e. e; plus = λ row e. e }

  pub of_parts : (i : ℕ) (parts : List Part) → AllZip IsToldOf (told_from cols i parts) parts
  of_parts i [] = tt
  of_parts i (p ∷ parts) = (of_part i p, of_parts (suc i) parts)

  -- ---- parts of the same tables
  is_part : (def : TableDef) (i : ℕ) (p : Part) → IsPart def p → IsPart def (told_part cols i p)
  is_part def i p h = by (is_untold cols i p)
    where
      by : (b : Bool) → IsPart def (cond b (unchanged p) p)
      by true = record {
        old_fits = h.old_fits;
        plus_fits = tt;
        old_keyed = h.old_keyed;
        minus_keyed = tt;
        plus_keyed = tt;
        there = tt;
        absent = tt;
        old_few = h.old_few;
        new_few = subst (λ (rows : List ARow). length rows ≤ 65535) (sym (old_again p)) h.old_few;
      }
      by false = h

  are_parts : (defs : List TableDef) (tables : List ℕ) (i : ℕ) (parts : List Part) → AllZip (λ t p. IsPart (table_at defs t) p) tables parts → AllZip (λ t p. IsPart (table_at defs t) p) tables (told_from cols i parts)
  are_parts defs [] i [] h = tt
  are_parts defs [] i (p ∷ parts) h = absurd h
  are_parts defs (t ∷ tables) i [] h = absurd h
  are_parts defs (t ∷ tables) i (p ∷ parts) h = (is_part (table_at defs t) i p h.0, are_parts defs tables (suc i) parts h.1)

pub parts_told : (defs : List TableDef) (view : ViewDef) (parts : List Part) → AllZip (λ t p. IsPart (table_at defs t) p) view.tables parts → AllZip (λ t p. IsPart (table_at defs t) p) view.tables (told view parts)
parts_told defs view parts h = are_parts (used_columns view) defs view.tables 0 parts h
