-- The parts of steps between databases, alias by alias.
use Rattle.std.proofs.Common.{◌≡◌, ℕ, zero, suc, ◌≤◌, Bool, true, false, not, ◌&&◌, ◌||◌, ◌==◌, List, [], ◌∷◌, ◌++◌, map, length, refl, sym, ap, ◌∙◌, arith}
use Rattle.std.proofs.lemmas.Bool.{and_parts, eqb-true, eq-eqb}
use Rattle.std.proofs.lemmas.List.Folds.{list_any-append}
use Rattle.std.specs.Prelude.{◌⊎◌, Some, None, slice_get, slice_index_or}
use mathlib.Core.Logic.{inl, inr}
use Rattle.lv_values.specs.Order.{row_eq}
use Rattle.lv_values.specs.Rows.{key_cmp}
use Rattle.lv_schema.specs.declared.table.TableDef.{TableDef}
use Rattle.lv_schema.specs.Databases.{Db, IsDatabase, rows_of}
use Rattle.lv_schema.specs.Nets.{has_row}
use Rattle.lv_schema.specs.Once.{Ascends, are_apart}
use Rattle.lv_schema.specs.World.{table_at}
use Rattle.lv_schema.proofs.ChangeLists.{ARow}
use Rattle.lv_schema.proofs.NetsLead.{any_lacking, key_total, not_above, row_itself}
use Rattle.lv_reach.specs.declared.rows.AliasRow.{AliasRow}
use Rattle.lv_reach.specs.Reach.{alike, has_alias_row, is_changed, of_alias, part_at, rows_from}
use Rattle.lv_reach.proofs.Gathering.{first_there, second_there}
use Rattle.lv_joining.specs.Joining.{part_from, parts_of}

-- the rows of an alias
abbrev pub rows_at : List ℕ → Db → ℕ → List ARow
rows_at tables db i = slice_index_or (map (rows_of db) tables) i []

pub part_is : (tables : List ℕ) (before after : Db) (i : ℕ) → part_at (parts_of tables before after) i ≡ part_from (rows_at tables before i) (rows_at tables after i)
part_is [] before after i = refl
part_is (t ∷ tables) before after zero = refl
part_is (t ∷ tables) before after (suc i) = part_is tables before after i

pub as_many : (tables : List ℕ) (before after : Db) → length (parts_of tables before after) ≡ length tables
as_many [] before after = refl
as_many (t ∷ tables) before after = ap suc (as_many tables before after)

pub old_same : (i : ℕ) (tables : List ℕ) (first middle last : Db) → rows_from (λ p. p.old) i (parts_of tables first last) ≡ rows_from (λ p. p.old) i (parts_of tables first middle)
old_same i [] first middle last = refl
old_same i (t ∷ tables) first middle last = ap (λ rows. map (of_alias i) (rows_of first t) ++ rows) (old_same (suc i) tables first middle last)

-- ---- what changes
changed_is : (row : ARow) (before after : List ARow) → is_changed (part_from before after) row ≡ ((not (has_row row after) && has_row row before) || (not (has_row row before) && has_row row after))
changed_is row before after = λ i. any_lacking row before after i || any_lacking row after before i

in_one : (a b c : Bool) → ((not c && a) || (not a && c)) ≡ true → (((not b && a) || (not a && b)) ≡ true) ⊎ (((not c && b) || (not b && c)) ≡ true)
in_one true true true h = absurd (cc)
in_one true true false h = inr refl
in_one true false c h = inl refl
in_one false true c h = inl refl
in_one false false true h = inr refl
in_one false false false h = absurd (cc)

not_changed : (a b : Bool) → ((not b && a) || (not a && b)) ≡ false → a ≡ b
not_changed true true h = refl
not_changed true false h = cc
not_changed false true h = cc
not_changed false false h = refl

pub changed_in_one : (row : ARow) (first middle last : List ARow) → is_changed (part_from first last) row ≡ true → (is_changed (part_from first middle) row ≡ true) ⊎ (is_changed (part_from middle last) row ≡ true)
changed_in_one row first middle last h = by (in_one (has_row row first) (has_row row middle) (has_row row last) (sym (changed_is row first last) ∙ h))
  where
    by : (((not (has_row row middle) && has_row row first) || (not (has_row row first) && has_row row middle)) ≡ true) ⊎ (((not (has_row row last) && has_row row middle) || (not (has_row row middle) && has_row row last)) ≡ true)
        → (is_changed (part_from first middle) row ≡ true) ⊎ (is_changed (part_from middle last) row ≡ true)
    by (inl e) = inl (changed_is row first middle ∙ e)
    by (inr e) = inr (changed_is row middle last ∙ e)

pub stays_or_not : (row : ARow) (before after : List ARow) → is_changed (part_from before after) row ≡ false → has_row row before ≡ has_row row after
stays_or_not row before after h = not_changed (has_row row before) (has_row row after) (sym (changed_is row before after) ∙ h)

-- ---- rows of aliases, each once
same_tests : (i : ℕ) (row : ARow) (rows : List ARow) → has_alias_row (of_alias i row) (map (of_alias i) rows) ≡ has_row row rows
same_tests i row [] = refl
same_tests i row (r ∷ rows) = λ t. (eq-eqb i i refl t && row_eq row r) || same_tests i row rows t

pub mapped_there : (i : ℕ) (row : ARow) (rows : List ARow) → has_row row rows ≡ true → has_alias_row (of_alias i row) (map (of_alias i) rows) ≡ true
mapped_there i row rows h = same_tests i row rows ∙ h

-- one of these is of this alias, and its row is among these
pub from_alias : (i : ℕ) (a : AliasRow) (rows : List ARow) → has_alias_row a (map (of_alias i) rows) ≡ true → (a.alias ≡ i) × (has_row a.row rows ≡ true)
from_alias i a [] h = absurd (cc)
from_alias i a (r ∷ rows) h = by (alike a (of_alias i r)) refl h (from_alias i a rows)
  where
    by : (t : Bool) → alike a (of_alias i r) ≡ t → (t || has_alias_row a (map (of_alias i) rows)) ≡ true → (has_alias_row a (map (of_alias i) rows) ≡ true → (a.alias ≡ i) × (has_row a.row rows ≡ true))
        → (a.alias ≡ i) × (has_row a.row (r ∷ rows) ≡ true)
    by true e k rest = let both = and_parts (a.alias == i) (row_eq a.row r) e in (eqb-true a.alias i both.0, first_there _ _ both.1)
    by false e k rest = let more = rest k in (more.0, second_there _ _ more.1)

pub once_of_alias : (i : ℕ) (key : List ℕ) (rows : List ARow) → Ascends (key_cmp key) rows → are_apart alike (map (of_alias i) rows) ≡ true
once_of_alias i key [] up = refl
once_of_alias i key (row ∷ rows) up = (λ t. not ((same_tests i row rows ∙ not_above (key_total key) row rows up.0) t) && are_apart alike (map (of_alias i) rows)) ∙ once_of_alias i key rows up.1

-- those of the aliases from one on
from_on : (i : ℕ) (tables : List ℕ) (before after : Db) (a : AliasRow) → has_alias_row a (rows_from (λ p. p.old) i (parts_of tables before after)) ≡ true → i ≤ a.alias
from_on i [] before after a h = absurd (cc)
from_on i (t ∷ tables) before after a h =
    by (has_alias_row a (map (of_alias i) (rows_of before t))) refl (sym (list_any-append (alike a) (map (of_alias i) (rows_of before t)) (rows_from (λ p. p.old) (suc i) (parts_of tables before after))) ∙ h) (from_on (suc i) tables before after a)
  where
    by : (s : Bool) → has_alias_row a (map (of_alias i) (rows_of before t)) ≡ s → (s || has_alias_row a (rows_from (λ p. p.old) (suc i) (parts_of tables before after))) ≡ true
        → (has_alias_row a (rows_from (λ p. p.old) (suc i) (parts_of tables before after)) ≡ true → suc i ≤ a.alias) → i ≤ a.alias
    by true e k later = omega (arith, (from_alias i a (rows_of before t) e).0)
    by false e k later = omega (arith, later k)

apart_both : (xs ys : List AliasRow) → are_apart alike xs ≡ true → are_apart alike ys ≡ true → ((a : AliasRow) → has_alias_row a xs ≡ true → has_alias_row a ys ≡ false) → are_apart alike (xs ++ ys) ≡ true
apart_both [] ys h k apart = k
apart_both (x ∷ xs) ys h k apart = by (has_alias_row x xs) refl h (apart_both xs ys)
  where
    by : (t : Bool) → has_alias_row x xs ≡ t → (not t && are_apart alike xs) ≡ true
        → (are_apart alike xs ≡ true → are_apart alike ys ≡ true → ((a : AliasRow) → has_alias_row a xs ≡ true → has_alias_row a ys ≡ false) → are_apart alike (xs ++ ys) ≡ true)
        → (not (has_alias_row x (xs ++ ys)) && are_apart alike (xs ++ ys)) ≡ true
    by true e d rest = cc
    by false e d rest =
        let here : has_alias_row x ys ≡ false = apart x (first_there _ _ (alike_itself x)) in
        (λ i. not ((list_any-append (alike x) xs ys ∙ (λ j. e j || here j)) i) && are_apart alike (xs ++ ys)) ∙ rest d k (λ a p. apart a (second_there _ _ p))
      where
        alike_itself : (a : AliasRow) → alike a a ≡ true
        alike_itself a = (λ i. eq-eqb a.alias a.alias refl i && row_eq a.row a.row) ∙ row_itself a.row

module _ (defs : List TableDef) (before after : Db) (up : (t : ℕ) → Ascends (key_cmp (table_at defs t).key) (rows_of before t)) where
  pub old_once : (i : ℕ) (tables : List ℕ) → are_apart alike (rows_from (λ p. p.old) i (parts_of tables before after)) ≡ true
  old_once i [] = refl
  old_once i (t ∷ tables) =
      apart_both (map (of_alias i) (rows_of before t)) (rows_from (λ p. p.old) (suc i) (parts_of tables before after))
      (once_of_alias i (table_at defs t).key (rows_of before t) (up t)) (old_once (suc i) tables) not_later
    where
      not_later : (a : AliasRow) → has_alias_row a (map (of_alias i) (rows_of before t)) ≡ true → has_alias_row a (rows_from (λ p. p.old) (suc i) (parts_of tables before after)) ≡ false
      not_later a h = by (has_alias_row a (rows_from (λ p. p.old) (suc i) (parts_of tables before after))) refl
        where
          by : (s : Bool) → has_alias_row a (rows_from (λ p. p.old) (suc i) (parts_of tables before after)) ≡ s → has_alias_row a (rows_from (λ p. p.old) (suc i) (parts_of tables before after)) ≡ false
          by true e =
              let is : a.alias ≡ i = (from_alias i a (rows_of before t) h).0 in
              let on : suc i ≤ a.alias = from_on (suc i) tables before after a e in
              absurd (omega (arith, is, on))
          by false e = e

-- ---- tables of a database
pub ascends_of : (defs : List TableDef) (db : Db) → IsDatabase defs db → (t : ℕ) → Ascends (key_cmp (table_at defs t).key) (rows_of db t)
ascends_of [] [] is t = tt
ascends_of [] (rows ∷ db) is t = absurd is
ascends_of (def ∷ defs) [] is t = absurd is
ascends_of (def ∷ defs) (rows ∷ db) is zero = is.0.keyed
ascends_of (def ∷ defs) (rows ∷ db) is (suc t) = ascends_of defs db is.1 t

pub rows_some : (tables : List ℕ) (db : Db) (i t : ℕ) → slice_get tables i ≡ Some t → rows_at tables db i ≡ rows_of db t
rows_some [] db i t h = cc
rows_some (u ∷ tables) db zero t h = ap (rows_of db) (let e : u ≡ t = cc in e)
rows_some (u ∷ tables) db (suc i) t h = rows_some tables db i t h

pub rows_none : (tables : List ℕ) (db : Db) (i : ℕ) → slice_get tables i ≡ None → rows_at tables db i ≡ []
rows_none [] db i h = refl
rows_none (u ∷ tables) db zero h = cc
rows_none (u ∷ tables) db (suc i) h = rows_none tables db i h
