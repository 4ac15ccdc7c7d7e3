-- The changes that a view can tell, with whole tables before them: the difference over them is that over all changes, and
-- they cost no more.
use Rattle.std.proofs.Common.{◌≡◌, ℕ, suc, ◌+◌, ◌≤◌, Bool, true, false, cond, ◌||◌, List, [], ◌∷◌, map, refl, sym, ap, ◌∙◌}
use Rattle.std.specs.List.{filter, AllZip}
use Rattle.lv_schema.specs.declared.cond.Col.{Col}
use Rattle.lv_schema.specs.declared.part.Part.{Part}
use Rattle.lv_schema.specs.declared.view.ViewDef.{ViewDef}
use Rattle.lv_schema.specs.Nets.{has_row}
use Rattle.lv_schema.proofs.ChangeLists.{ARow}
use Rattle.lv_base.specs.Bases.{BaseRoom, defs_of}
use Rattle.lv_maint.specs.Inputs.{FitOver}
use Rattle.lv_reach.specs.declared.link.Link.{Link}
use Rattle.lv_reach.specs.declared.rows.AliasRow.{AliasRow}
use Rattle.lv_reach.specs.Cost.{IsReach, cost}
use Rattle.lv_reach.specs.Reach.{is_changed, part_at, with_old_from}
use Rattle.lv_reach.specs.Within.{ChangesNoMore, IsNoMore, OnlyChanges, without_old}
use Rattle.lv_relevance.specs.Relevance.{IsToldOf, is_untold, told, told_from, unchanged, used_columns}
use Rattle.lv_relevance.proofs.ToldParts.{of_parts, parts_told}
use Rattle.lv_near.specs.Small.{change_in, old_at, whole_parts, with_tables}
use Rattle.lv_near.proofs.Inputs.{most_over, whole_told}
use Rattle.lv_near.proofs.Parts.{first_there, minus_there, plus_there, second_there}

-- ---- what is told does not depend on the rows before the step
told_with_old : (cols : List Col) (rows : ℕ → List ARow) (i : ℕ) (changes : List Part) → with_old_from rows i (told_from cols i changes) ≡ told_from cols i (with_old_from rows i changes)
told_with_old cols rows i [] = refl
told_with_old cols rows i (p ∷ changes) = λ x. by (is_untold cols i p) x ∷ told_with_old cols rows (suc i) changes x
  where
    by : (t : Bool) → record { old = rows i; minus = (cond t (unchanged p) p).minus; plus = (cond t (unchanged p) p).plus }
        ≡ cond t (unchanged (record { old = rows i; minus = p.minus; plus = p.plus })) (record { old = rows i; minus = p.minus; plus = p.plus })
    by true = refl
    by false = refl

pub left_is : (b : BaseRoom) (lo hi : ℕ) (tables : List ℕ) (view : ViewDef) (changes left : List Part) → tables ≡ view.tables → changes ≡ map (change_in b lo hi) tables → left ≡ told view changes
    → with_tables b tables lo left ≡ told view (whole_parts b view.tables lo hi)
left_is b lo hi tables view changes left t_is c_is l_is =
    ap (with_tables b tables lo) l_is
    ∙ told_with_old (used_columns view) (λ alias. old_at b tables lo alias) 0 changes
    ∙ ap (told view) (whole_told b lo hi tables view.tables changes t_is c_is)

-- ---- what is told is no more
all_kept : (rows : List ARow) → filter (λ row. true) rows ≡ rows
all_kept [] = refl
all_kept (row ∷ rows) = ap (λ l. row ∷ l) (all_kept rows)

no_more : (left p : Part) → IsToldOf left p → IsNoMore left p
no_more left p is = record { keep = λ row. true; kept = is.old ∙ sym (all_kept p.old); only = λ row h. by row (has_row row left.minus) refl h }
  where
    by : (row : ARow) (t : Bool) → has_row row left.minus ≡ t → (has_row row left.minus || has_row row left.plus) ≡ true → is_changed p row ≡ true
    by row true e h = first_there _ _ (is.minus row e)
    by row false e h = second_there (has_row row p.minus) _ (is.plus row (sym (ap (λ t. t || has_row row left.plus) e) ∙ h))

each_no_more : (left parts : List Part) → AllZip IsToldOf left parts → ChangesNoMore left parts
each_no_more [] [] all = tt
each_no_more [] (p ∷ parts) all = absurd all
each_no_more (q ∷ left) [] all = absurd all
each_no_more (q ∷ left) (p ∷ parts) all = (no_more q p all.0, each_no_more left parts all.1)

pub told_no_more : (view : ViewDef) (parts : List Part) → ChangesNoMore (told view parts) parts
told_no_more view parts = each_no_more (told view parts) parts (of_parts (used_columns view) 0 parts)

-- ---- what is told fits the tables
pub told_fits : (b : BaseRoom) (views : List ViewDef) (view : ViewDef) (parts : List Part) → FitOver (defs_of b) views view parts → FitOver (defs_of b) views view (told view parts)
told_fits b views view parts fit = record { bound = fit.bound; each = parts_told (defs_of b) view parts fit.each }

-- ---- where one alias alone has a change that is told
pub less_told : (b : BaseRoom) (tables : List ℕ) (lo : ℕ) (left parts : List Part) → with_tables b tables lo left ≡ parts → (links : List Link) (start end : ℕ)
    → ((i : ℕ) (near : List AliasRow) (far : ℕ → Bool) → OnlyChanges i left → IsReach links (without_old i (with_tables b tables lo left)) near far → end ≤ start + cost links (without_old i (with_tables b tables lo left)) near far)
    → (i : ℕ) (near : List AliasRow) (far : ℕ → Bool) → OnlyChanges i parts → IsReach links (without_old i parts) near far → end ≤ start + cost links (without_old i parts) near far
less_told b tables lo left parts is links start end less i near far only r =
    most_over links start end (without_old i (with_tables b tables lo left)) (without_old i parts) (ap (λ (ps : List Part). without_old i ps) is) (λ near far. less i near far only_left) near far r
  where
    only_left : OnlyChanges i left
    only_left = λ k apart.
        let stays = only k apart in
        (sym (minus_there (λ alias. old_at b tables lo alias) 0 left k) ∙ ap (λ (ps : List Part). (part_at ps k).minus) is ∙ stays.0, sym (plus_there (λ alias. old_at b tables lo alias) 0 left k) ∙ ap (λ (ps : List Part). (part_at ps k).plus) is ∙ stays.1)
