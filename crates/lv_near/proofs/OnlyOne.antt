-- Where one alias alone changes: it is told, none of its rows is looked up, and of its old rows those that go stand for all.
use Rattle.std.proofs.Common.{◌≡◌, ℕ, zero, suc, ◌+◌, ◌<◌, Bool, true, false, cond, ◌&&◌, ◌||◌, ◌==◌, List, [], ◌∷◌, length, take, drop, slice_get, Option, Some, None, get_or, refl, sym, ap, ◌∙◌, subst, arith}
use Rattle.std.proofs.lemmas.Bool.{eqb-false, eqb-true, eq-eqb}
use Rattle.std.proofs.lemmas.List.{take_more}
use Rattle.std.specs.List.{filter, AllByRecursion, AllZip}
use Rattle.lv_values.specs.Rows.{key_cmp}
use Rattle.lv_schema.specs.declared.part.Part.{Part}
use Rattle.lv_schema.specs.declared.table.TableDef.{TableDef}
use Rattle.lv_schema.specs.declared.view.ViewDef.{ViewDef}
use Rattle.lv_schema.specs.Differences.{difference}
use Rattle.lv_schema.specs.Jobs.{IsPart, new_sides, old_sides}
use Rattle.lv_schema.specs.Nets.{has_row}
use Rattle.lv_schema.specs.Once.{Ascends}
use Rattle.lv_schema.specs.World.{table_at}
use Rattle.lv_schema.proofs.Apart.{all_append, all_weaker}
use Rattle.lv_schema.proofs.ChangeLists.{ARow}
use Rattle.lv_schema.proofs.NetsLead.{elements, key_total, only_rows}
use Rattle.lv_schema.proofs.Replay.{ascends_filter}
use Rattle.lv_base.specs.Bases.{BaseRoom, defs_of, table_in}
use Rattle.lv_reach.specs.declared.link.Link.{Link}
use Rattle.lv_reach.specs.declared.rows.AliasRow.{AliasRow}
use Rattle.lv_reach.specs.Cost.{AreFound, IsReach, whole_from}
use Rattle.lv_reach.specs.Links.{links_of}
use Rattle.lv_reach.specs.Reach.{AreWithin, IsFar, KeepsReach, cut, is_changed, part_at, with_old, with_old_from}
use Rattle.lv_reach.specs.Within.{OnlyChanges, with_lost_at, with_old_at, without_old}
use Rattle.lv_reach.proofs.OneAlias.{one_alias_gives}
use Rattle.lv_reach.proofs.Reached.{reach_gives}
use Rattle.lv_near.specs.Small.{IsSplit, StaysSame, is_alone, looked_at, needed_of, old_at, table_at_commit, with_tables}
use Rattle.lv_near.proofs.Parts.{among, as_long, as_many_parts, below_of, flagged, is_split, key_is, minus_there, old_of_table, part_cut, part_first, part_here, plus_there, table_here}
use Rattle.lv_near.proofs.Picked.{any_filter}

-- ---- whether one alias alone changes is told
pub all_stay : (parts : List Part) → AllByRecursion StaysSame parts → (j : ℕ) → StaysSame (part_at parts j)
all_stay [] all j = (refl, refl)
all_stay (p ∷ parts) all zero = all.0
all_stay (p ∷ parts) all (suc j) = all_stay parts all.1 j

others_stay : (parts : List Part) (i : ℕ) → AllByRecursion StaysSame (take i parts) → AllByRecursion StaysSame (drop (suc i) parts) → OnlyChanges i parts
others_stay [] i before behind = λ j other. (refl, refl)
others_stay (p ∷ parts) zero before behind = λ j other. by j other
  where
    by : (j : ℕ) → (j ≡ zero → ⊥) → StaysSame (part_at (p ∷ parts) j)
    by zero other = absurd (other refl)
    by (suc j) other = all_stay parts behind j
others_stay (p ∷ parts) (suc i) before behind = λ j other. by (others_stay parts i before.1 behind) j other
  where
    by : OnlyChanges i parts → (j : ℕ) → (j ≡ suc i → ⊥) → StaysSame (part_at (p ∷ parts) j)
    by rest zero other = before.0
    by rest (suc j) other = rest j (λ same. other (ap suc same))

pub one_changes : (parts : List Part) (i : ℕ) → AllByRecursion StaysSame (take i parts) → AllByRecursion StaysSame (drop (i + 1) parts) → OnlyChanges i parts
one_changes parts i before behind =
    let next : i + 1 ≡ suc i = omega arith in
    others_stay parts i before (subst (λ n. AllByRecursion StaysSame (drop n parts)) next behind)

pub stay_at : (parts : List Part) (i : ℕ) (d : Part) → i < length parts → AllByRecursion StaysSame parts → StaysSame (get_or parts i d)
stay_at [] i d lt all = absurd (let none = lt in omega (arith, none))
stay_at (p ∷ parts) zero d lt all = all.0
stay_at (p ∷ parts) (suc i) d lt all = stay_at parts i d (omega (arith, lt)) all.1

stays_there : (parts : List Part) (i : ℕ) (d : Part) → i < length parts → StaysSame (part_at parts i) → StaysSame (get_or parts i d)
stays_there [] i d lt same = absurd (let none = lt in omega (arith, none))
stays_there (p ∷ parts) zero d lt same = same
stays_there (p ∷ parts) (suc i) d lt same = stays_there parts i d (omega (arith, lt)) same

-- one that changes is the one that alone changes, if there is one
pub same_one : (parts : List Part) (at j : ℕ) (d : Part) → at < length parts → (StaysSame (get_or parts at d) → ⊥) → OnlyChanges j parts → at ≡ j
same_one parts at j d lt not only = by (at == j) refl
  where
    by : (t : Bool) → (at == j) ≡ t → at ≡ j
    by true e = eqb-true at j e
    by false e = absurd (not (stays_there parts at d lt (only at (eqb-false at j e))))

each_stays : (parts : List Part) → ((j : ℕ) → StaysSame (part_at parts j)) → AllByRecursion StaysSame parts
each_stays [] each = tt
each_stays (p ∷ parts) each = (each zero, each_stays parts (λ j. each (suc j)))

behind_stay : (parts : List Part) (i : ℕ) → OnlyChanges i parts → AllByRecursion StaysSame (drop (suc i) parts)
behind_stay [] i only = tt
behind_stay (p ∷ parts) zero only = each_stays parts (λ j. only (suc j) (λ e. absurd (omega (arith, e))))
behind_stay (p ∷ parts) (suc i) only = behind_stay parts i (λ j apart. only (suc j) (λ e. apart (omega (arith, e))))

pub rest_stays : (parts : List Part) (i : ℕ) → OnlyChanges i parts → AllByRecursion StaysSame (drop (i + 1) parts)
rest_stays parts i only = let next : suc i ≡ i + 1 = omega arith in subst (λ n. AllByRecursion StaysSame (drop n parts)) next (behind_stay parts i only)

pub stay_more : (parts : List Part) (i : ℕ) (d : Part) → i < length parts → AllByRecursion StaysSame (take i parts) → StaysSame (get_or parts i d) → AllByRecursion StaysSame (take (i + 1) parts)
stay_more parts i d lt before here = subst (AllByRecursion StaysSame) (sym (take_more parts i d lt)) (all_append StaysSame (take i parts) (get_or parts i d ∷ []) before (here, tt))

-- ---- changes with other rows before them at one alias
module _ (old here : ℕ → List ARow) (pick : Part → List ARow) (i : ℕ) where
  abbrev mixed : ℕ → List ARow
  mixed alias = cond (alias == i) (here alias) (old alias)

  other : (n : ℕ) → (n ≡ i → ⊥) → mixed n ≡ old n
  other n apart = by (n == i) refl
    where
      by : (t : Bool) → (n == i) ≡ t → cond (n == i) (here n) (old n) ≡ old n
      by true e = absurd (apart (eqb-true n i e))
      by false e = ap (λ t. cond t (here n) (old n)) e

  none_behind : (n : ℕ) (changes : List Part) → i < n → with_old_from mixed n changes ≡ with_old_from old n changes
  none_behind n [] lt = refl
  none_behind n (p ∷ changes) lt =
      let first = other n (λ same. absurd (omega (arith, lt, same))) in
      let rest = none_behind (suc n) changes (omega (arith, lt)) in
      λ x. record { old = first x; minus = p.minus; plus = p.plus } ∷ rest x

  pub at_one : (n k : ℕ) (changes : List Part) → n + k ≡ i → ((q : Part) → q.minus ≡ (part_at changes k).minus → pick q ≡ here i) → with_old_from mixed n changes ≡ with_old_at pick k (with_old_from old n changes)
  at_one n k [] is h = refl
  at_one n zero (p ∷ changes) is h =
      let same : n ≡ i = omega (arith, is) in
      let first : mixed n ≡ pick (record { old = old n; minus = p.minus; plus = p.plus }) =
      ap (λ t. cond t (here n) (old n)) (eq-eqb n i same) ∙ ap here same ∙ sym (h (record { old = old n; minus = p.minus; plus = p.plus }) refl) in
      let rest = none_behind (suc n) changes (omega (arith, is)) in
      λ x. record { old = first x; minus = p.minus; plus = p.plus } ∷ rest x
  at_one n (suc k) (p ∷ changes) is h =
      let first = other n (λ same. absurd (omega (arith, is, same))) in
      let rest = at_one (suc n) k changes (omega (arith, is)) h in
      λ x. record { old = first x; minus = p.minus; plus = p.plus } ∷ rest x

-- ---- the old rows that go stand for all
pub lost_go : (def : TableDef) (p : Part) → IsPart def p → filter (λ row. has_row row p.minus) p.old ≡ p.minus
lost_go def p is =
    only_rows (key_total def.key) (filter (λ row. has_row row p.minus) p.old) p.minus (ascends_filter (key_cmp def.key) (λ row. has_row row p.minus) p.old is.old_keyed) is.minus_keyed
    (λ q. any_filter (λ row. has_row row p.minus) q p.old ∙ by q (has_row q p.old) (has_row q p.minus) refl refl)
  where
    by : (q : ARow) (s t : Bool) → has_row q p.old ≡ s → has_row q p.minus ≡ t → (s && t) ≡ t
    by q true t d e = refl
    by q false false d e = refl
    by q false true d e = let no : true ≡ false = sym (among (λ r. has_row r p.old ≡ true) p.minus q is.there e) ∙ d in cc

part_lost : (def : TableDef) (p : Part) → IsPart def p → IsPart def (record { old = p.minus; minus = p.minus; plus = p.plus })
part_lost def p is =
    subst (λ rows. IsPart def (record { old = rows; minus = p.minus; plus = p.plus })) (lost_go def p is) (part_cut def p (λ a. has_row a.row p.minus) 0 is (λ row h. h))

zip_lost : (defs : List TableDef) (i : ℕ) (tables : List ℕ) (parts : List Part) → AllZip (λ t p. IsPart (table_at defs t) p) tables parts → AllZip (λ t p. IsPart (table_at defs t) p) tables (with_lost_at i parts)
zip_lost defs i [] [] all = tt
zip_lost defs i [] (p ∷ parts) all = absurd all
zip_lost defs i (t ∷ tables) [] all = absurd all
zip_lost defs zero (t ∷ tables) (p ∷ parts) all = (part_lost (table_at defs t) p all.0, all.1)
zip_lost defs (suc i) (t ∷ tables) (p ∷ parts) all = (all.0, zip_lost defs i tables parts all.1)

-- no row that comes is one that goes
new_alone : (def : TableDef) (p : Part) → IsPart def p → AllByRecursion (λ row. has_row row p.minus ≡ false) p.plus
new_alone def p is = all_weaker (λ row. has_row row p.old ≡ false) (λ row. has_row row p.minus ≡ false) (λ row h. by row h (has_row row p.minus) refl) p.plus is.absent
  where
    by : (row : ARow) → has_row row p.old ≡ false → (t : Bool) → has_row row p.minus ≡ t → has_row row p.minus ≡ false
    by row h true e = let no : true ≡ false = sym (among (λ r. has_row r p.old ≡ true) p.minus row is.there e) ∙ h in cc
    by row h false e = e

either : (P : List ARow → Type 0) (t : Bool) (xs ys : List ARow) → P xs → P ys → P (cond t xs ys)
either P true xs ys a b = a
either P false xs ys a b = b

some_within : (t : Bool) (xs ys : List ARow) (q : ARow) → has_row q (cond t [] ys) ≡ true → has_row q (cond t xs ys) ≡ true
some_within true xs ys q h = cc
some_within false xs ys q h = h

is_that : (changing : Option ℕ) (j : ℕ) → is_alone changing j ≡ true → changing ≡ Some j
is_that None j e = cc
is_that (Some i) j e = ap (λ n. Some n) (sym (eqb-true j i e))

same_whole : (far : ℕ → Bool) (rows others : ℕ → List ARow) → ((j : ℕ) → far j ≡ true → rows j ≡ others j) → (n : ℕ) (changes : List Part) → whole_from far n (with_old_from rows n changes) ≡ whole_from far n (with_old_from others n changes)
same_whole far rows others h n [] = refl
same_whole far rows others h n (p ∷ changes) =
    let first = flagged (far n) (rows n) (others n) (h n) in
    let rest = same_whole far rows others h (suc n) changes in
    λ x. first x + rest x

-- ---- what a step looks up, and what it needs
module _ (b : BaseRoom) (tables : List ℕ) (lo : ℕ) (changes : List Part) where
  abbrev whole : List Part
  whole = with_tables b tables lo changes

  pub looked_is : (i : ℕ) → with_old (looked_at b tables lo (Some i)) changes ≡ without_old i whole
  looked_is i = at_one (λ alias. old_at b tables lo alias) (λ alias. []) (λ p. []) i 0 i changes (omega arith) (λ q h. refl)

  needed_is : (i : ℕ) → with_old (needed_of b tables lo (Some i) changes) changes ≡ with_lost_at i whole
  needed_is i = at_one (λ alias. old_at b tables lo alias) (λ alias. (part_at changes alias).minus) (λ p. p.minus) i 0 i changes (omega arith) (λ q h. h)

  only_whole : (i : ℕ) → OnlyChanges i changes → OnlyChanges i whole
  only_whole i only = λ j apart.
      let none = only j apart in
      (minus_there (λ alias. old_at b tables lo alias) 0 changes j ∙ none.0, plus_there (λ alias. old_at b tables lo alias) 0 changes j ∙ none.1)

  module _ (each : AllZip (λ t p. IsPart (table_at (defs_of b) t) p) tables whole) where
    pub as_many_tables : length changes ≡ length tables
    as_many_tables = sym (as_long (λ alias. old_at b tables lo alias) 0 changes) ∙ as_many_parts (defs_of b) tables whole each

    pub needed_fits : (changing : Option ℕ) → AllZip (λ t p. IsPart (table_at (defs_of b) t) p) tables (with_old (needed_of b tables lo changing changes) changes)
    needed_fits None = each
    needed_fits (Some i) = subst (AllZip (λ t p. IsPart (table_at (defs_of b) t) p) tables) (sym (needed_is i)) (zip_lost (defs_of b) i tables whole each)

    pub needed_gives : (changing : Option ℕ) → ((i : ℕ) → changing ≡ Some i → OnlyChanges i changes × (i < length changes)) → (view : ViewDef) (keep : AliasRow → Bool) → AreWithin (length whole) (links_of view.cond)
        → KeepsReach (links_of view.cond) (with_old (looked_at b tables lo changing) changes) keep
        → difference view (old_sides (cut keep (with_old (needed_of b tables lo changing changes) changes))) (new_sides (cut keep (with_old (needed_of b tables lo changing changes) changes))) ≡ difference view (old_sides whole) (new_sides whole)
    needed_gives None alone view keep within keeps = reach_gives view whole keep within keeps
    needed_gives (Some i) alone view keep within keeps =
        let one = alone i refl in
        let t = table_here tables i (subst (λ n. i < n) as_many_tables one.1) in
        let is = part_here (defs_of b) tables whole i t.0 each t.1 in
        ap (λ (ps : List Part). difference view (old_sides (cut keep ps)) (new_sides (cut keep ps))) (needed_is i)
        ∙ one_alias_gives view whole i keep within (only_whole i one.0) (lost_go (table_at (defs_of b) t.0) (part_at whole i) is) is.absent
        (subst (λ ps. KeepsReach (links_of view.cond) ps keep) (looked_is i) keeps)

  -- ---- the reach that was found
  module _ (changing : Option ℕ) (alone : (i : ℕ) → changing ≡ Some i → OnlyChanges i changes × (i < length changes)) where
    abbrev looked : List Part
    looked = with_old (looked_at b tables lo changing) changes

    changed_same : (j : ℕ) (row : ARow) → is_changed (part_at looked j) row ≡ is_changed (part_at changes j) row
    changed_same j row = λ x. has_row row (minus_there (looked_at b tables lo changing) 0 changes j x) || has_row row (plus_there (looked_at b tables lo changing) 0 changes j x)

    pub changed_needed : (j : ℕ) (row : ARow) → is_changed (part_at (with_old (needed_of b tables lo changing changes) changes) j) row ≡ is_changed (part_at looked j) row
    changed_needed j row =
        (λ x. has_row row (minus_there (needed_of b tables lo changing changes) 0 changes j x) || has_row row (plus_there (needed_of b tables lo changing changes) 0 changes j x))
        ∙ sym (changed_same j row)

    -- no chain of links is needed from an alias to itself
    none_far : (links : List Link) (j : ℕ) → OnlyChanges j changes → IsFar links looked j → ⊥
    none_far links j only far = by (far.from.alias == j) refl
      where
        by : (t : Bool) → (far.from.alias == j) ≡ t → ⊥
        by true e = far.apart [] (eqb-true far.from.alias j e)
        by false e =
            let none = only far.from.alias (eqb-false far.from.alias j e) in
            let no : true ≡ false = sym far.changed ∙ changed_same far.from.alias far.from.row ∙ (λ x. has_row far.from.row (none.0 x) || has_row far.from.row (none.1 x)) in
            cc

    module _ (links : List Link) (near : List AliasRow) (flags : List Bool) (reach : IsReach links looked near (λ j. get_or flags j true)) where
      not_far : (j : ℕ) → is_alone changing j ≡ true → get_or flags j true ≡ false
      not_far j e = by (get_or flags j true) refl (alone j (is_that changing j e))
        where
          by : (t : Bool) → get_or flags j true ≡ t → OnlyChanges j changes × (j < length changes) → get_or flags j true ≡ false
          by true f one =
              absurd (none_far links j one.0 ((reach.far_aliases j (subst (λ n. j < n) (sym (as_long (looked_at b tables lo changing) 0 changes)) one.1)).0 f))
          by false f one = f

      pub needs_whole : (alias t : ℕ) → slice_get tables alias ≡ Some t → get_or flags alias true ≡ true → needed_of b tables lo changing changes alias ≡ table_at_commit b lo t
      needs_whole alias t at f = by (is_alone changing alias) refl
        where
          by : (s : Bool) → is_alone changing alias ≡ s → needed_of b tables lo changing changes alias ≡ table_at_commit b lo t
          by true e = let no : true ≡ false = sym f ∙ not_far alias e in cc
          by false e = ap (λ s. cond s (part_at changes alias).minus (old_at b tables lo alias)) e ∙ old_of_table b lo tables alias t at

      pub needs_looked : whole_from (λ j. get_or flags j true) 0 (with_old (needed_of b tables lo changing changes) changes) ≡ whole_from (λ j. get_or flags j true) 0 looked
      needs_looked = same_whole (λ j. get_or flags j true) (needed_of b tables lo changing changes) (looked_at b tables lo changing) (λ j f. by j f (is_alone changing j) refl) 0 changes
        where
          by : (j : ℕ) → get_or flags j true ≡ true → (s : Bool) → is_alone changing j ≡ s → needed_of b tables lo changing changes j ≡ looked_at b tables lo changing j
          by j f true e = let no : true ≡ false = sym f ∙ not_far j e in cc
          by j f false e = ap (λ s. cond s (part_at changes j).minus (old_at b tables lo j)) e ∙ sym (ap (λ s. cond s [] (old_at b tables lo j)) e)

    pub splits : AllZip (λ t p. IsPart (table_at (defs_of b) t) p) tables whole → (near : List AliasRow) (changed : ℕ) → AreFound looked (take changed near) (drop changed near)
        → (alias t : ℕ) → slice_get tables alias ≡ Some t → IsSplit (table_in b.tables t).def.key near changed alias (part_at changes alias).minus (needed_of b tables lo changing changes alias)
    splits each near changed found alias t at =
        let minus = (part_at changes alias).minus in
        let plus = (part_at changes alias).plus in
        let old = old_at b tables lo alias in
        let lt : alias < length changes = subst (λ n. alias < n) (sym (as_many_tables each)) (below_of tables alias t at) in
        let p : Part = record { old = old; minus = minus; plus = plus } in
        let is : IsPart (table_at (defs_of b) t) p = subst (IsPart (table_at (defs_of b) t)) (part_first (λ a. old_at b tables lo a) changes alias lt) (part_here (defs_of b) tables whole alias t each at) in
        let s = is_alone changing alias in
        is_split looked near changed found (table_in b.tables t).def.key alias (record { old = cond s [] old; minus = minus; plus = plus }) (cond s minus old)
        (part_first (looked_at b tables lo changing) changes alias lt)
        (subst (λ key. Ascends (key_cmp key) (cond s minus old)) (key_is b t) (either (Ascends (key_cmp (table_at (defs_of b) t).key)) s minus old is.minus_keyed is.old_keyed))
        (either (λ rows. AllByRecursion (λ row. has_row row rows ≡ true) minus) s minus old (elements minus) is.there)
        (either (λ rows. AllByRecursion (λ row. has_row row rows ≡ false) plus) s minus old (new_alone (table_at (defs_of b) t) p is) is.absent)
        (some_within s minus old)
