-- The parts of a step: with whole tables, as they are made from the changes and the reach.
use Rattle.std.proofs.Common.{◌≡◌, ℕ, zero, suc, ◌+◌, ◌<◌, ◌≤◌, Bool, true, false, cond, not, ◌&&◌, ◌||◌, List, [], ◌∷◌, ◌++◌, map, length, take, drop, slice_get, Some, get_or, refl, sym, ap, ◌∙◌, subst, append_assoc, arith}
use Rattle.std.specs.Prelude.{◌⊎◌}
use mathlib.Core.Logic.{inl, inr}
use Rattle.std.proofs.Math.ListN.{get_or-map}
use Rattle.std.proofs.lemmas.List.{take-append-drop}
use Rattle.std.proofs.lemmas.Bool.{and_parts}
use Rattle.std.proofs.lemmas.List.Folds.{list_any-append}
use Rattle.std.specs.List.{filter, AllByRecursion, AllZip}
use Rattle.lv_values.specs.Order.{row_eq}
use Rattle.lv_values.specs.Rows.{key_cmp}
use Rattle.lv_schema.specs.declared.part.Part.{Part}
use Rattle.lv_schema.specs.declared.table.TableDef.{TableDef}
use Rattle.lv_schema.specs.declared.view.ViewDef.{ViewDef}
use Rattle.lv_schema.specs.Jobs.{IsPart}
use Rattle.lv_schema.specs.Nets.{has_row, lacking}
use Rattle.lv_schema.specs.Once.{Ascends}
use Rattle.lv_schema.specs.World.{table_at}
use Rattle.lv_schema.proofs.Apart.{all_weaker, all_filter}
use Rattle.lv_schema.proofs.ChangeLists.{ARow}
use Rattle.lv_schema.proofs.NetsLead.{elements, same_row}
use Rattle.lv_schema.proofs.Replay.{ascends_filter}
use Rattle.lv_schema.specs.Versions.{is_at}
use Rattle.lv_stands.specs.Moves.{part_in}
use Rattle.lv_base.specs.Bases.{BaseRoom, base_of, defs_of, kept_of, no_versions, table_in}
use Rattle.lv_versions.specs.Versions.{Kept}
use Rattle.lv_maint.specs.Inputs.{Fit, FitOver}
use Rattle.lv_reach.specs.declared.link.Link.{Link}
use Rattle.lv_reach.specs.declared.rows.AliasRow.{AliasRow}
use Rattle.lv_reach.specs.Cost.{AreFound, IsReach, whole_from}
use Rattle.lv_reach.specs.Reach.{alike, cut, cut_from, cut_part, has_alias_row, is_changed, IsFar, IsNear, IsReachOf, kept_by, KeepsReach, of_alias, part_at, with_old, with_old_from}
use Rattle.lv_reach.proofs.Gathering.{among as alias_among}
use Rattle.lv_reach.specs.Found.{rows_of_alias, with_found, with_more}
use Rattle.lv_near.specs.Small.{IsSplit, change_in, old_at, table_at_commit, whole_parts, with_lost, with_tables}
use Rattle.lv_near.proofs.Picked.{any_filter}

pub first_there : (a b : Bool) → a ≡ true → (a || b) ≡ true
first_there true b h = refl
first_there false b h = cc

pub second_there : (a b : Bool) → b ≡ true → (a || b) ≡ true
second_there true b h = refl
second_there false b h = h

both_there : (a b : Bool) → a ≡ true → b ≡ true → (a && b) ≡ true
both_there true b h k = k
both_there false b h k = h

other_there : (a b : Bool) → b ≡ false → (a || b) ≡ true → a ≡ true
other_there true b e h = refl
other_there false b e h = let no : true ≡ false = sym h ∙ e in cc

same_flag : (a b : Bool) → (a ≡ true → b ≡ true) → (b ≡ true → a ≡ true) → a ≡ b
same_flag true b h k = sym (h refl)
same_flag false true h k = k refl
same_flag false false h k = refl

pub among : (P : ARow → Type 0) (rows : List ARow) (q : ARow) → AllByRecursion P rows → has_row q rows ≡ true → P q
among P [] q a h = cc
among P (r ∷ rows) q a h = by (row_eq q r) refl h (among P rows q a.1)
  where
    by : (t : Bool) → row_eq q r ≡ t → (t || has_row q rows) ≡ true → (has_row q rows ≡ true → P q) → P q
    by true e k rest = subst P (sym (same_row q r e)) a.0
    by false e k rest = rest k

-- a flag that counts rows, by what they are where it is set
pub flagged : (flag : Bool) (xs ys : List ARow) → (flag ≡ true → xs ≡ ys) → cond flag (length xs) 0 ≡ cond flag (length ys) 0
flagged true xs ys same = ap (λ (l : List ARow). length l) (same refl)
flagged false xs ys same = refl

-- ---- what is kept of a table
pub key_is : (b : BaseRoom) (t : ℕ) → (table_at (defs_of b) t).key ≡ (table_in b.tables t).def.key
key_is b t = ap (λ (d : TableDef). d.key) (get_or-map (λ (k : Kept). k.def) b.tables t no_versions)

module _ (b : BaseRoom) (lo hi : ℕ) where
  abbrev pub part : ℕ → Part
  part t = part_in (defs_of b) (base_of b) lo hi t

  pub old_is : (t : ℕ) → (part t).old ≡ table_at_commit b lo t
  old_is t = ap (λ versions. map (λ v. v.row) (filter (is_at lo) versions)) (ap (λ k. k.versions) (get_or-map kept_of b.tables t no_versions))

  -- ---- the whole parts are the changes with the old rows
  whole_from_changes : (rows : ℕ → List ARow) (i : ℕ) (tables : List ℕ) → ((k : ℕ) → k < length tables → rows (i + k) ≡ get_or (map (table_at_commit b lo) tables) k [])
      → with_old_from rows i (map (change_in b lo hi) tables) ≡ map part tables
  whole_from_changes rows i [] h = refl
  whole_from_changes rows i (t ∷ tables) h =
      let here : i + 0 ≡ i = omega arith in
      let old : rows i ≡ (part t).old = subst (λ n. rows n ≡ table_at_commit b lo t) here (h 0 (omega arith)) ∙ sym (old_is t) in
      let rest = whole_from_changes rows (suc i) tables (λ k lt. let next : i + suc k ≡ suc i + k = omega arith in subst (λ n. rows n ≡ get_or (map (table_at_commit b lo) tables) k []) next (h (suc k) (omega arith))) in
      λ x. record { old = old x; minus = (part t).minus; plus = (part t).plus } ∷ rest x

  pub changes_with_old : (tables : List ℕ) → with_tables b tables lo (map (change_in b lo hi) tables) ≡ whole_parts b tables lo hi
  changes_with_old tables = whole_from_changes (λ alias. old_at b tables lo alias) 0 tables (λ k lt. let same : 0 + k ≡ k = omega arith in ap (λ n. get_or (map (table_at_commit b lo) tables) n []) same)

-- ---- changes with other rows before them
module _ (rows : ℕ → List ARow) where
  part_there : (i : ℕ) (changes : List Part) (j : ℕ) → j < length changes → part_at (with_old_from rows i changes) j ≡ record { old = rows (i + j); minus = (part_at changes j).minus; plus = (part_at changes j).plus }
  part_there i [] j lt = absurd (let none = lt in omega (arith, none))
  part_there i (p ∷ changes) zero lt = let e : i ≡ i + 0 = omega arith in λ x. record { old = rows (e x); minus = p.minus; plus = p.plus }
  part_there i (p ∷ changes) (suc j) lt =
      let e : suc i + j ≡ i + suc j = omega arith in
      part_there (suc i) changes j (omega (arith, lt)) ∙ (λ x. record { old = rows (e x); minus = (part_at changes j).minus; plus = (part_at changes j).plus })

  pub part_first : (changes : List Part) (j : ℕ) → j < length changes → part_at (with_old rows changes) j ≡ record { old = rows j; minus = (part_at changes j).minus; plus = (part_at changes j).plus }
  part_first changes j lt =
      let e : 0 + j ≡ j = omega arith in
      part_there 0 changes j lt ∙ (λ x. record { old = rows (e x); minus = (part_at changes j).minus; plus = (part_at changes j).plus })

  pub minus_there : (i : ℕ) (changes : List Part) (j : ℕ) → (part_at (with_old_from rows i changes) j).minus ≡ (part_at changes j).minus
  minus_there i [] j = refl
  minus_there i (p ∷ changes) zero = refl
  minus_there i (p ∷ changes) (suc j) = minus_there (suc i) changes j

  pub plus_there : (i : ℕ) (changes : List Part) (j : ℕ) → (part_at (with_old_from rows i changes) j).plus ≡ (part_at changes j).plus
  plus_there i [] j = refl
  plus_there i (p ∷ changes) zero = refl
  plus_there i (p ∷ changes) (suc j) = plus_there (suc i) changes j

  pub as_long : (i : ℕ) (changes : List Part) → length (with_old_from rows i changes) ≡ length changes
  as_long i [] = refl
  as_long i (p ∷ changes) = ap suc (as_long (suc i) changes)

-- ---- parts of the tables of the aliases
pub table_here : (tables : List ℕ) (alias : ℕ) → alias < length tables → (t : ℕ) × (slice_get tables alias ≡ Some t)
table_here [] alias lt = absurd (let none = lt in omega (arith, none))
table_here (t ∷ tables) zero lt = (t, refl)
table_here (t ∷ tables) (suc alias) lt = table_here tables alias (omega (arith, lt))

pub part_here : (defs : List TableDef) (tables : List ℕ) (parts : List Part) (alias t : ℕ) → AllZip (λ t p. IsPart (table_at defs t) p) tables parts → slice_get tables alias ≡ Some t → IsPart (table_at defs t) (part_at parts alias)
part_here defs [] parts alias t all h = cc
part_here defs (u ∷ tables) [] alias t all h = absurd all
part_here defs (u ∷ tables) (p ∷ parts) zero t all h = by h
  where
    by : Some u ≡ Some t → IsPart (table_at defs t) p
    by e = let same : u ≡ t = cc in subst (λ x. IsPart (table_at defs x) p) same all.0
part_here defs (u ∷ tables) (p ∷ parts) (suc alias) t all h = part_here defs tables parts alias t all.1 h

pub as_many_parts : (defs : List TableDef) (tables : List ℕ) (parts : List Part) → AllZip (λ t p. IsPart (table_at defs t) p) tables parts → length parts ≡ length tables
as_many_parts defs [] [] all = refl
as_many_parts defs [] (p ∷ parts) all = absurd all
as_many_parts defs (t ∷ tables) [] all = absurd all
as_many_parts defs (t ∷ tables) (p ∷ parts) all = ap suc (as_many_parts defs tables parts all.1)

pub old_of_table : (b : BaseRoom) (lo : ℕ) (tables : List ℕ) (alias t : ℕ) → slice_get tables alias ≡ Some t → old_at b tables lo alias ≡ table_at_commit b lo t
old_of_table b lo [] alias t h = cc
old_of_table b lo (u ∷ tables) zero t h = by h
  where
    by : Some u ≡ Some t → table_at_commit b lo u ≡ table_at_commit b lo t
    by e = let same : u ≡ t = cc in ap (table_at_commit b lo) same
old_of_table b lo (u ∷ tables) (suc alias) t h = old_of_table b lo tables alias t h

-- ---- the near rows of an alias that are old
module _ (parts : List Part) (near : List AliasRow) (changed : ℕ) (found : AreFound parts (take changed near) (drop changed near)) where
  near_split : (q : AliasRow) → has_alias_row q near ≡ (has_alias_row q (take changed near) || has_alias_row q (drop changed near))
  near_split q = ap (has_alias_row q) (sym (take-append-drop changed near)) ∙ list_any-append (alike q) (take changed near) (drop changed near)

  -- the rows that were looked up are among these old ones, and so are those that go
  pub is_split : (key : List ℕ) (n : ℕ) (p : Part) (old : List ARow) → part_at parts n ≡ p → Ascends (key_cmp key) old → AllByRecursion (λ row. has_row row old ≡ true) p.minus
      → AllByRecursion (λ row. has_row row old ≡ false) p.plus → ((q : ARow) → has_row q p.old ≡ true → has_row q old ≡ true) → IsSplit key near changed n p.minus old
  is_split key n p old here up there absent within = record { up = up; old_near = λ q. same_flag _ _ (forth q (has_row q p.minus) refl) (back q) }
    where
      forth : (q : ARow) (s : Bool) → has_row q p.minus ≡ s → (s || has_alias_row (of_alias n q) (drop changed near)) ≡ true → (has_row q old && has_alias_row (of_alias n q) near) ≡ true
      forth q true e h =
          both_there _ _ (among (λ r. has_row r old ≡ true) p.minus q there e)
          (near_split (of_alias n q) ∙ first_there _ _ (found.all (of_alias n q) (ap (λ x. is_changed x q) here ∙ first_there _ (has_row q p.plus) e)))
      forth q false e h =
          both_there _ _ (within q (ap (λ x. has_row q x.old) (sym here) ∙ alias_among (λ a. has_row a.row (part_at parts a.alias).old ≡ true) (drop changed near) (of_alias n q) found.old h))
          (near_split (of_alias n q) ∙ second_there _ _ h)

      back : (q : ARow) → (has_row q old && has_alias_row (of_alias n q) near) ≡ true → (has_row q p.minus || has_alias_row (of_alias n q) (drop changed near)) ≡ true
      back q h =
          let both = and_parts (has_row q old) (has_alias_row (of_alias n q) near) h in
          by (has_alias_row (of_alias n q) (drop changed near)) refl (has_row q p.minus) (has_row q p.plus) refl refl both.0
          (λ e. ap (λ x. is_changed x q) (sym here) ∙ found.changed (of_alias n q) (other_there (has_alias_row (of_alias n q) (take changed near)) _ e (sym (near_split (of_alias n q)) ∙ both.1)))
        where
          by : (t : Bool) → has_alias_row (of_alias n q) (drop changed near) ≡ t → (u v : Bool) → has_row q p.minus ≡ u → has_row q p.plus ≡ v → has_row q old ≡ true
              → (has_alias_row (of_alias n q) (drop changed near) ≡ false → is_changed p q ≡ true) → (has_row q p.minus || has_alias_row (of_alias n q) (drop changed near)) ≡ true
          by true e u v f g o k = second_there _ _ e
          by false e true v f g o k = first_there _ _ f
          by false e false true f g o k = let no : true ≡ false = sym o ∙ among (λ r. has_row r old ≡ false) p.plus q absent g in cc
          by false e false false f g o k = let no : true ≡ false = sym (k e) ∙ (λ x. f x || g x) in cc

-- ---- the reach is kept
past_end : (flags : List Bool) (j : ℕ) → length flags ≤ j → get_or flags j true ≡ true
past_end [] j le = refl
past_end (f ∷ flags) zero le = absurd (let none = le in omega (arith, none))
past_end (f ∷ flags) (suc j) le = past_end flags j (omega arith)

high_or_low : (i n : ℕ) → (i < n) ⊎ (n ≤ i)
high_or_low i n = grind arith

module _ (links : List Link) (parts : List Part) (near : List AliasRow) (far : List Bool) (reach : IsReach links parts near (λ j. get_or far j true)) (flags : length far ≡ length parts) where
  far_kept : (a : AliasRow) → IsFar links parts a.alias → kept_by near far a ≡ true
  far_kept a h = by (high_or_low a.alias (length parts))
    where
      by : (a.alias < length parts) ⊎ (length parts ≤ a.alias) → kept_by near far a ≡ true
      by (inl lt) = first_there _ _ ((reach.far_aliases a.alias lt).1 h)
      by (inr le) = first_there _ _ (past_end far a.alias (omega (arith, flags, le)))

  pub keeps_reach : KeepsReach links parts (kept_by near far)
  keeps_reach = record { near = λ a h. second_there (get_or far a.alias true) _ ((reach.near_rows a).1 h); far = far_kept }

  only_reach : (a : AliasRow) → a.alias < length parts → kept_by near far a ≡ true → IsNear links parts a ⊎ IsFar links parts a.alias
  only_reach a lt h = by (get_or far a.alias true) refl h
    where
      by : (t : Bool) → get_or far a.alias true ≡ t → (t || has_alias_row a near) ≡ true → IsNear links parts a ⊎ IsFar links parts a.alias
      by true e k = inr ((reach.far_aliases a.alias lt).0 e)
      by false e k = inl ((reach.near_rows a).0 k)

  pub reach_is_cut : IsReachOf links parts (cut (kept_by near far) parts)
  reach_is_cut = record { keep = kept_by near far; keeps = keeps_reach; only = only_reach; cut_is = refl }

-- ---- the small parts fit the tables
fewer : (f : ARow → Bool) (rows : List ARow) → length (filter f rows) ≤ length rows
fewer f [] = omega arith
fewer f (r ∷ rows) = by (f r) (fewer f rows)
  where
    by : (t : Bool) → length (filter f rows) ≤ length rows → length (cond t (r ∷ filter f rows) (filter f rows)) ≤ suc (length rows)
    by true h = omega (arith, h)
    by false h = omega (arith, h)

fewer_both : (f g : ARow → Bool) (rows : List ARow) → length (filter g (filter f rows)) ≤ length (filter g rows)
fewer_both f g [] = omega arith
fewer_both f g (r ∷ rows) = by (f r) (g r) refl (fewer_both f g rows)
  where
    by : (s t : Bool) → g r ≡ t → length (filter g (filter f rows)) ≤ length (filter g rows) → length (filter g (cond s (r ∷ filter f rows) (filter f rows))) ≤ length (cond t (r ∷ filter g rows) (filter g rows))
    by true true e h = let l = ap (λ x. length (cond x (r ∷ filter g (filter f rows)) (filter g (filter f rows)))) e in omega (arith, h, l)
    by true false e h = let l = ap (λ x. length (cond x (r ∷ filter g (filter f rows)) (filter g (filter f rows)))) e in omega (arith, h, l)
    by false true e h = omega (arith, h)
    by false false e h = h

long_both : (xs ys : List ARow) → length (xs ++ ys) ≡ length xs + length ys
long_both [] ys = omega arith
long_both (x ∷ xs) ys = omega (arith, long_both xs ys)

pub part_cut : (def : TableDef) (p : Part) (keep : AliasRow → Bool) (i : ℕ) → IsPart def p → ((row : ARow) → has_row row p.minus ≡ true → keep (of_alias i row) ≡ true) → IsPart def (cut_part keep i p)
part_cut def p keep i is minus_kept =
    let f : ARow → Bool = λ row. keep (of_alias i row) in
    record {
      old_fits = all_filter _ f p.old is.old_fits;
      plus_fits = is.plus_fits;
      old_keyed = ascends_filter (key_cmp def.key) f p.old is.old_keyed;
      minus_keyed = is.minus_keyed;
      plus_keyed = is.plus_keyed;
      there = all_weaker (λ row. has_row row p.minus ≡ true) (λ row. has_row row (filter f p.old) ≡ true) (λ row h. any_filter f row p.old ∙ both_there _ _ (among (λ r. has_row r p.old ≡ true) p.minus row is.there h) (minus_kept row h)) p.minus (elements p.minus);
      absent = all_weaker (λ row. has_row row p.old ≡ false) (λ row. has_row row (filter f p.old) ≡ false) (λ row h. any_filter f row p.old ∙ ap (λ b. b && f row) h) p.plus is.absent;
      old_few = let few = fewer f p.old in let most = is.old_few in omega (arith, few, most);
      new_few =
          let few = fewer_both f (λ row. not (has_row row p.minus)) p.old in
          let most = is.new_few in
          omega (arith, few, most, long_both (lacking (filter f p.old) p.minus) p.plus, long_both (lacking p.old p.minus) p.plus);
    }

pub zip_cut : (defs : List TableDef) (keep : AliasRow → Bool) (i : ℕ) (ts : List ℕ) (ps : List Part) → AllZip (λ t p. IsPart (table_at defs t) p) ts ps
    → ((j : ℕ) (row : ARow) → has_row row (part_at ps j).minus ≡ true → keep (of_alias (i + j) row) ≡ true) → AllZip (λ t p. IsPart (table_at defs t) p) ts (cut_from keep i ps)
zip_cut defs keep i [] [] all h = tt
zip_cut defs keep i [] (p ∷ ps) all h = absurd all
zip_cut defs keep i (t ∷ ts) [] all h = absurd all
zip_cut defs keep i (t ∷ ts) (p ∷ ps) all h =
    let here : i + 0 ≡ i = omega arith in (
      part_cut (table_at defs t) p keep i all.0 (λ row e. subst (λ n. keep (of_alias n row) ≡ true) here (h 0 row e)),
      zip_cut defs keep (suc i) ts ps all.1 (λ j row e. let next : i + suc j ≡ suc i + j = omega arith in subst (λ n. keep (of_alias n row) ≡ true) next (h (suc j) row e)),
    )

pub fit_cut : (tables : List TableDef) (views : List ViewDef) (def : ViewDef) (parts small : List Part) (keep : AliasRow → Bool) → FitOver tables views def parts
    → ((a : AliasRow) → is_changed (part_at parts a.alias) a.row ≡ true → keep a ≡ true) → small ≡ cut keep parts → Fit def small
fit_cut tables views def parts small keep fit changed is = (
  tables,
  (
    views,
    record {
      bound = fit.bound;
      each = subst (AllZip (λ t p. IsPart (table_at tables t) p) def.tables) (sym is)
          (zip_cut tables keep 0 def.tables parts fit.each (λ j row e.
          let same : j ≡ 0 + j = omega arith in
          subst (λ n. keep (of_alias n row) ≡ true) same (changed (of_alias j row) (first_there _ (has_row row (part_at parts j).plus) e))));
    },
  ),
)

-- ---- a loop over the changes with the near rows
pub near_at : (i : ℕ) (found : List AliasRow) (seen : List Part) (one : Part) (rest : List Part) (changes : List Part) (at alias : ℕ) → at ≡ length seen → alias ≡ i + at
    → seen ++ one ∷ rest ≡ with_found i (map with_lost changes) found → one ≡ with_more (with_lost (part_at changes at)) (rows_of_alias alias found)
near_at i found [] one rest [] at alias e n h = cc
near_at i found [] one rest (p ∷ changes) zero alias e n h = first h ∙ ap (λ k. with_more (with_lost p) (rows_of_alias k found)) (omega (arith, n))
  where
    first : one ∷ rest ≡ with_more (with_lost p) (rows_of_alias i found) ∷ with_found (suc i) (map with_lost changes) found → one ≡ with_more (with_lost p) (rows_of_alias i found)
    first h = cc
near_at i found [] one rest (p ∷ changes) (suc at) alias e n h = absurd (let none = e in omega (arith, none))
near_at i found (q ∷ seen) one rest [] at alias e n h = cc
near_at i found (q ∷ seen) one rest (p ∷ changes) zero alias e n h = absurd (let none = e in omega (arith, none))
near_at i found (q ∷ seen) one rest (p ∷ changes) (suc at) alias e n h = near_at (suc i) found seen one rest changes at alias (omega (arith, e)) (omega (arith, n)) (others h)
  where
    others : q ∷ (seen ++ one ∷ rest) ≡ with_more (with_lost p) (rows_of_alias i found) ∷ with_found (suc i) (map with_lost changes) found
        → seen ++ one ∷ rest ≡ with_found (suc i) (map with_lost changes) found
    others h = cc

pub as_many_near : (i : ℕ) (found : List AliasRow) (changes : List Part) → length (with_found i (map with_lost changes) found) ≡ length changes
as_many_near i found [] = refl
as_many_near i found (p ∷ changes) = omega (arith, as_many_near (suc i) found changes)

pub at_of : (tables : List ℕ) (alias t d : ℕ) → slice_get tables alias ≡ Some t → get_or tables alias d ≡ t
at_of [] alias t d h = cc
at_of (u ∷ tables) zero t d h = cc
at_of (u ∷ tables) (suc alias) t d h = at_of tables alias t d h

pub below_of : (tables : List ℕ) (alias t : ℕ) → slice_get tables alias ≡ Some t → alias < length tables
below_of [] alias t h = cc
below_of (u ∷ tables) zero t h = omega arith
below_of (u ∷ tables) (suc alias) t h = let rest = below_of tables alias t h in omega (arith, rest)

drop_part : (changes : List Part) (alias : ℕ) → alias < length changes → drop alias changes ≡ part_at changes alias ∷ drop (suc alias) changes
drop_part [] alias lt = absurd (let none = lt in omega (arith, none))
drop_part (p ∷ changes) zero lt = refl
drop_part (p ∷ changes) (suc alias) lt = drop_part changes alias (omega (arith, lt))

module _ (rows : ℕ → List ARow) (changes : List Part) (near : List AliasRow) (flags : List Bool) where
  -- the parts from an alias on
  abbrev from_on : ℕ → List Part
  from_on alias = with_old_from rows alias (drop alias changes)

  next_on : (alias : ℕ) → alias < length changes → from_on alias ≡ record { old = rows alias; minus = (part_at changes alias).minus; plus = (part_at changes alias).plus } ∷ from_on (suc alias)
  next_on alias lt = ap (with_old_from rows alias) (drop_part changes alias lt) ∙ next alias (drop (suc alias) changes)
    where
      next : (alias : ℕ) (rest : List Part)
          → with_old_from rows alias (part_at changes alias ∷ rest) ≡ record { old = rows alias; minus = (part_at changes alias).minus; plus = (part_at changes alias).plus } ∷ with_old_from rows (suc alias) rest
      next alias rest = refl

  pub small_step : (out all new : List Part) (alias : ℕ) (old : List ARow) → alias < length changes → out ++ cut_from (kept_by near flags) alias (with_old_from rows alias (drop alias changes)) ≡ all
      → old ≡ filter (λ row. kept_by near flags (of_alias alias row)) (rows alias)
      → new ≡ out ++ record { old = old; minus = (part_at changes alias).minus; plus = (part_at changes alias).plus } ∷ []
      → new ++ cut_from (kept_by near flags) (alias + 1) (with_old_from rows (alias + 1) (drop (alias + 1) changes)) ≡ all
  small_step out all new alias old lt h old_is_kept is =
      let keep = kept_by near flags in
      let p = part_at changes alias in
      let rest = cut_from keep (alias + 1) (from_on (alias + 1)) in
      let next : alias + 1 ≡ suc alias = omega arith in
      let one : record { old = old; minus = p.minus; plus = p.plus } ≡ cut_part keep alias (record { old = rows alias; minus = p.minus; plus = p.plus }) =
      λ i. record { old = old_is_kept i; minus = p.minus; plus = p.plus } in
      ap (λ l. l ++ rest) is
      ∙ append_assoc out (record { old = old; minus = p.minus; plus = p.plus } ∷ []) rest
      ∙ ap (λ q. out ++ q ∷ rest) one
      ∙ ap (λ n. out ++ cut_part keep alias (record { old = rows alias; minus = p.minus; plus = p.plus }) ∷ cut_from keep n (from_on n)) next
      ∙ ap (λ l. out ++ cut_from keep alias l) (sym (next_on alias lt))
      ∙ h

  abbrev far : ℕ → Bool
  far j = get_or flags j true

  pub whole_step : (alias : ℕ) → alias < length changes
      → whole_from far alias (with_old_from rows alias (drop alias changes)) ≡ cond (far alias) (length (rows alias)) 0 + whole_from far (alias + 1) (with_old_from rows (alias + 1) (drop (alias + 1) changes))
  whole_step alias lt =
      let next : suc alias ≡ alias + 1 = omega arith in
      ap (whole_from far alias) (next_on alias lt)
      ∙ ap (λ n. cond (far alias) (length (rows alias)) 0 + whole_from far n (from_on n)) next
