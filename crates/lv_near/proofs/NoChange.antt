-- The reach of a step in which no row changes: no row is near, and no alias is far.
use Rattle.std.proofs.Common.{◌≡◌, ℕ, suc, Bool, true, false, ◌||◌, List, [], ◌∷◌, map, refl, sym, ◌∙◌}
use Rattle.std.specs.List.{filter, AllByRecursion}
use Rattle.lv_schema.specs.declared.part.Part.{Part}
use Rattle.lv_schema.specs.Nets.{has_row}
use Rattle.lv_schema.proofs.ChangeLists.{ARow}
use Rattle.lv_base.specs.Bases.{BaseRoom}
use Rattle.lv_reach.specs.declared.link.Link.{Link}
use Rattle.lv_reach.specs.declared.rows.AliasRow.{AliasRow}
use Rattle.lv_reach.specs.Reach.{IsFar, IsReachOf, KeepsReach, Leads, cut_from, is_changed, part_at, with_old_from}
use Rattle.lv_near.specs.Small.{StaysSame, old_at, with_lost, with_tables}
use Rattle.lv_near.proofs.OnlyOne.{all_stay}
use Rattle.lv_near.proofs.Parts.{minus_there, plus_there}

none_kept : (rows : List ARow) → filter (λ row. false) rows ≡ []
none_kept [] = refl
none_kept (row ∷ rows) = none_kept rows

abbrev keep_none : AliasRow → Bool
keep_none a = false

lost_none : (rows : ℕ → List ARow) (i : ℕ) (changes : List Part) → AllByRecursion StaysSame changes → map with_lost changes ≡ cut_from keep_none i (with_old_from rows i changes)
lost_none rows i [] all = refl
lost_none rows i (p ∷ changes) all =
    let old : p.minus ≡ filter (λ row. false) (rows i) = all.0.0 ∙ sym (none_kept (rows i)) in
    let rest = lost_none rows (suc i) changes all.1 in
    λ x. record { old = old x; minus = p.minus; plus = p.plus } ∷ rest x

module _ (b : BaseRoom) (lo : ℕ) (tables : List ℕ) (changes : List Part) (all : AllByRecursion StaysSame changes) (links : List Link) where
  abbrev whole : List Part
  whole = with_tables b tables lo changes

  abbrev rows : ℕ → List ARow
  rows alias = old_at b tables lo alias

  not_changed : (j : ℕ) (row : ARow) → is_changed (part_at whole j) row ≡ true → ⊥
  not_changed j row h =
      let none = all_stay changes all j in
      let no : true ≡ false = sym h ∙ (λ x. has_row row ((minus_there rows 0 changes j ∙ none.0) x) || has_row row ((plus_there rows 0 changes j ∙ none.1) x)) in
      cc

  none_near : (chain : List AliasRow) (a : AliasRow) → Leads links whole chain a → ⊥
  none_near [] a h = not_changed a.alias a.row h
  none_near (from ∷ chain) a h = none_near chain from h.2

  none_far : (j : ℕ) → IsFar links whole j → ⊥
  none_far j far = not_changed far.from.alias far.from.row far.changed

  keeps : KeepsReach links whole keep_none
  keeps = record { near = λ a h. absurd (none_near h.0 a h.1); far = λ a far. absurd (none_far a.alias far) }

  pub none_changes : (small : List Part) → small ≡ map with_lost changes → IsReachOf links whole small
  none_changes small is = record { keep = keep_none; keeps = keeps; only = λ a lt h. let no : false ≡ true = h in cc; cut_is = is ∙ lost_none rows 0 changes all }
