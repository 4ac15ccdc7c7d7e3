-- What a step is computed from, from its changes, its reach and its small parts.
use Rattle.std.proofs.Common.{◌≡◌, ℕ, ◌+◌, ◌<◌, ◌≤◌, Bool, true, List, [], ◌∷◌, map, length, take, drop, slice_get, Option, Some, None, get_or, refl, sym, ap, ◌∙◌, subst, arith}
use Rattle.std.specs.Prelude.{Result, Ok, Err, OnOk, OnErr}
use Rattle.std.specs.List.{AllZip}
use Rattle.lv_schema.specs.declared.part.Part.{Part}
use Rattle.lv_schema.specs.declared.view.ViewDef.{ViewDef}
use Rattle.lv_schema.specs.Bound.{alias_columns}
use Rattle.lv_schema.specs.Differences.{difference}
use Rattle.lv_schema.specs.Jobs.{IsPart, new_sides, old_sides}
use Rattle.lv_schema.specs.World.{table_at}
use Rattle.lv_base.specs.Bases.{BaseRoom, defs_of, table_in}
use Rattle.lv_maint.specs.Inputs.{AreOfTables, Fit, FitOver, Input}
use Rattle.lv_maint.proofs.Balance.{of_tables}
use Rattle.lv_reach.specs.declared.link.Link.{Link}
use Rattle.lv_reach.specs.declared.rows.AliasRow.{AliasRow}
use Rattle.lv_reach.specs.Cost.{AreFound, IsReach, cost, looked_up, whole_from}
use Rattle.lv_reach.specs.Links.{links_of}
use Rattle.lv_reach.specs.Reach.{AreWithin, cut, IsReachOf, KeepsReach, kept_by, part_at, with_old}
use Rattle.lv_reach.specs.Walk.{HasNear}
use Rattle.lv_reach.specs.Within.{OnlyChanges}
use Rattle.lv_reach.proofs.Costing.{one_cost}
use Rattle.lv_reach.proofs.LinksWithin.{links_within}
use Rattle.lv_reach.proofs.NearLaws.{changed_near}
use Rattle.lv_reach.proofs.Reached.{reach_gives}
use Rattle.lv_near.specs.Small.{IsSmallInput, IsSplit, change_in, looked_at, needed_of, table_at_commit, whole_parts, with_tables}
use Rattle.lv_near.proofs.OnlyOne.{as_many_tables, changed_needed, needed_fits, needed_gives, needs_looked, needs_whole, splits}
use Rattle.lv_near.proofs.Parts.{as_long, as_many_parts, changes_with_old, fit_cut, keeps_reach, reach_is_cut}

as_many_columns : (b : BaseRoom) (ts : List ℕ) → length (alias_columns (defs_of b) ts) ≡ length ts
as_many_columns b [] = refl
as_many_columns b (t ∷ ts) = omega (arith, as_many_columns b ts)

-- the changes of the tables with whole tables before them
pub whole_told : (b : BaseRoom) (lo hi : ℕ) (tables ts : List ℕ) (changes : List Part) → tables ≡ ts → changes ≡ map (change_in b lo hi) tables → with_tables b tables lo changes ≡ whole_parts b ts lo hi
whole_told b lo hi tables ts changes t_is c_is = ap (with_tables b tables lo) c_is ∙ changes_with_old b lo hi tables ∙ ap (λ ns. whole_parts b ns lo hi) t_is

module _ (b : BaseRoom) (views : List ViewDef) (view : ViewDef) (whole : List Part) (fit : FitOver (defs_of b) views view whole) where
  abbrev own_links : List Link
  own_links = links_of view.cond

  pub within_parts : AreWithin (length whole) own_links
  within_parts = subst (λ n. AreWithin n own_links) (as_many_columns b view.tables ∙ sym (as_many_parts (defs_of b) view.tables whole fit.each)) (links_within (alias_columns (defs_of b) view.tables) view.cond fit.bound.bound_cond)

  -- ---- the input over parts that keep the reach and no more
  module _ (small : List Part) (reach : IsReachOf own_links whole small) where
    pub fit_told : (def : ViewDef) → def ≡ view → Fit def small
    fit_told def is =
        subst (λ d. Fit d small) (sym is)
        (fit_cut (defs_of b) views view whole small reach.keep fit (λ a h. reach.keeps.near a (changed_near own_links whole a h)) reach.cut_is)

    pub of_told : AreOfTables small
    of_told = of_tables view small (fit_told view refl)

    pub input_told : (lo hi : ℕ) (input : Input) (def : ViewDef) → def ≡ view → input ≡ record { def = def; lo = lo; hi = hi; parts = small } → IsSmallInput view lo hi whole input
    input_told lo hi input def d is = record {
      def_is = ap (λ (x : Input). x.def) is ∙ d;
      lo_is = ap (λ (x : Input). x.lo) is;
      hi_is = ap (λ (x : Input). x.hi) is;
      reach = subst (IsReachOf own_links whole) (sym (ap (λ (x : Input). x.parts) is)) reach;
    }

    pub parts_told : difference view (old_sides small) (new_sides small) ≡ difference view (old_sides whole) (new_sides whole)
    parts_told = ap (λ (ps : List Part). difference view (old_sides ps) (new_sides ps)) reach.cut_is ∙ reach_gives view whole reach.keep within_parts reach.keeps

    pub same_told : (lo hi : ℕ) (input : Input) (def : ViewDef) → input ≡ record { def = def; lo = lo; hi = hi; parts = small } → difference view (old_sides input.parts) (new_sides input.parts) ≡ difference view (old_sides whole) (new_sides whole)
    same_told lo hi input def is = ap (λ (x : Input). difference view (old_sides x.parts) (new_sides x.parts)) is ∙ parts_told

-- ---- what was found of the tables and links
module _ (b : BaseRoom) (view : ViewDef) (tables : List ℕ) (lo : ℕ) (changes : List Part) (changing : Option ℕ)
    (t_is : tables ≡ view.tables) (alone : (i : ℕ) → changing ≡ Some i → OnlyChanges i changes × (i < length changes))
    (views : List ViewDef) (fit : FitOver (defs_of b) views view (with_tables b tables lo changes)) where
  abbrev whole : List Part
  whole = with_tables b tables lo changes

  abbrev own : List Link
  own = links_of view.cond

  abbrev looked : List Part
  looked = with_old (looked_at b tables lo changing) changes

  abbrev needed : List Part
  needed = with_old (needed_of b tables lo changing changes) changes

  pub each_told : AllZip (λ t p. IsPart (table_at (defs_of b) t) p) tables whole
  each_told = subst (λ ts. AllZip (λ t p. IsPart (table_at (defs_of b) t) p) ts whole) (sym t_is) fit.each

  pub few_tables : length tables ≤ 255
  few_tables = let long = ap (λ (ts : List ℕ). length ts) t_is in omega (arith, long, fit.bound.few_aliases)

  pub each_table : length changes ≡ length tables
  each_table = as_many_tables b tables lo changes each_told

  module _ (links : List Link) (parts : List Part) (l_is : links ≡ own) (p_is : parts ≡ changes) where
    abbrev made : List Part
    made = with_old (looked_at b tables lo changing) parts

    made_is : made ≡ looked
    made_is = ap (with_old (looked_at b tables lo changing)) p_is

    pub few_parts : length parts ≤ 255
    few_parts = let long = ap (λ (l : List Part). length l) p_is in omega (arith, long, each_table, few_tables)

    pub within_found : AreWithin (length parts) links
    within_found =
        let long : length whole ≡ length parts = as_long (looked_at b tables lo None) 0 changes ∙ sym (ap (λ (l : List Part). length l) p_is) in
        subst (AreWithin (length parts)) (sym l_is) (subst (λ n. AreWithin n own) long (within_parts b views view whole fit))

    -- where a look-up fails
    pub look_up_fails : (start end : ℕ) → ((all : List AliasRow) → HasNear links made all → end ≤ start + looked_up links made all) → (all : List AliasRow) (flag : ℕ → Bool) → IsReach own looked all flag → end ≤ start + cost own looked all flag
    look_up_fails start end most all flag r =
        let told = subst (λ l. (rows : List AliasRow) → HasNear l looked rows → end ≤ start + looked_up l looked rows) l_is (subst (λ (w : List Part). (rows : List AliasRow) → HasNear links w rows → end ≤ start + looked_up links w rows) made_is most) in
        let here = told all (λ a h. (r.near_rows a).1 h) in
        omega (arith, here)

    -- ---- the reach that was found
    module _ (near : List AliasRow) (flags : List Bool) (changed : ℕ)
        (found_reach : IsReach links made near (λ j. get_or flags j true)) (found : AreFound made (take changed near) (drop changed near)) (as_many : length flags ≡ length parts) where
      abbrev far : ℕ → Bool
      far j = get_or flags j true

      abbrev keep : AliasRow → Bool
      keep = kept_by near flags

      reach_told : IsReach own looked near far
      reach_told = subst (λ l. IsReach l looked near far) l_is (subst (λ (w : List Part). IsReach links w near far) made_is found_reach)

      flags_long : length flags ≡ length looked
      flags_long = as_many ∙ ap (λ (l : List Part). length l) p_is ∙ sym (as_long (looked_at b tables lo changing) 0 changes)

      keeps : KeepsReach own looked keep
      keeps = keeps_reach own looked near flags reach_told flags_long

      pub splits_told : (alias t : ℕ) → slice_get tables alias ≡ Some t → IsSplit (table_in b.tables t).def.key near changed alias (part_at changes alias).minus (needed_of b tables lo changing changes alias)
      splits_told = splits b tables lo changes changing alone each_told near changed (subst (λ (w : List Part). AreFound w (take changed near) (drop changed near)) made_is found)

      pub whole_needed : (alias t : ℕ) → slice_get tables alias ≡ Some t → get_or flags alias true ≡ true → needed_of b tables lo changing changes alias ≡ table_at_commit b lo t
      whole_needed = needs_whole b tables lo changes changing alone own near flags reach_told

      -- ---- the small parts
      module _ (small : List Part) (is : small ≡ cut keep needed) where
        pub same_of_small : difference view (old_sides small) (new_sides small) ≡ difference view (old_sides whole) (new_sides whole)
        same_of_small =
            ap (λ (ps : List Part). difference view (old_sides ps) (new_sides ps)) is
            ∙ needed_gives b tables lo changes each_told changing alone view keep (within_parts b views view whole fit) keeps

        pub tables_of_small : AreOfTables small
        tables_of_small =
            let needed_fit : FitOver (defs_of b) views view needed = record {
              bound = fit.bound;
              each = subst (λ ts. AllZip (λ t p. IsPart (table_at (defs_of b) t) p) ts needed) t_is (needed_fits b tables lo changes each_told changing);
            } in
            of_tables view small
            (fit_cut (defs_of b) views view needed small keep needed_fit
            (λ a h. keeps.near a (changed_near own looked a (sym (changed_needed b tables lo changes changing alone a.alias a.row) ∙ h))) is)

        pub reach_of_small : changing ≡ None → IsReachOf own whole small
        reach_of_small none = by changing none is reach_told flags_long
          where
            by : (c : Option ℕ) → c ≡ None → small ≡ cut keep (with_old (needed_of b tables lo c changes) changes) → IsReach own (with_old (looked_at b tables lo c) changes) near far
                → length flags ≡ length (with_old (looked_at b tables lo c) changes) → IsReachOf own whole small
            by None e is r long = subst (IsReachOf own whole) (sym is) (reach_is_cut own whole near flags r long)
            by (Some i) e is r long = cc

      -- ---- the cost
      module _ (start middle : ℕ) (found_cost : middle ≤ start + looked_up links made near) where
        looked_told : middle ≤ start + looked_up own looked near
        looked_told = let same : looked_up links made near ≡ looked_up own looked near = λ i. looked_up (l_is i) (made_is i) near in omega (arith, found_cost, same)

        pub most_told : (end : ℕ) → end ≤ middle + whole_from far 0 needed → (all : List AliasRow) (flag : ℕ → Bool) → IsReach own looked all flag → end ≤ start + cost own looked all flag
        most_told end e all flag r =
            let same = needs_looked b tables lo changes changing alone own near flags reach_told in
            omega (arith, e, same, looked_told, one_cost own looked near all far flag reach_told r)

-- a bound that holds where a call goes well and where it fails
pub either_way : {T E : Type 0} (r : Result T E) (m n : ℕ) → OnOk r (m ≡ n) → OnErr r (m ≤ n) → m ≤ n
either_way (Ok a) m n e le = omega (arith, e)
either_way (Err x) m n e le = le

-- ---- from the changes with whole tables to the whole parts
pub most_over : (links : List Link) (start end : ℕ) (one other : List Part) → one ≡ other → ((near : List AliasRow) (far : ℕ → Bool) → IsReach links one near far → end ≤ start + cost links one near far)
    → (near : List AliasRow) (far : ℕ → Bool) → IsReach links other near far → end ≤ start + cost links other near far
most_over links start end one other is most = subst (λ (w : List Part). (near : List AliasRow) (far : ℕ → Bool) → IsReach links w near far → end ≤ start + cost links w near far) is most
