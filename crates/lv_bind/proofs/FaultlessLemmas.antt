-- A statement whose parts show no fault has none of the faults 2 to 6.
use Rattle.std.proofs.Common.{◌≡◌, ◌≤◌, ◌++◌, ◌&&◌, ◌||◌, ℕ, suc, Bool, true, false, not, cond, List, [], ◌∷◌, map, length, Option, Some, None, refl, sym, ap, subst, ◌∙◌}
use Rattle.std.specs.Prelude.{is_some, nat_lt, unwrap_or}
use Rattle.std.specs.List.{cons_option, flat_map, list_all, list_any}
use Rattle.std.specs.Option.{option_map}
use Rattle.std.specs.Str.{bytes_eq}
use Rattle.std.proofs.lemmas.Bool.{and_from, and_parts, not-true, or_from, or_parts, le-ltb}
use Rattle.std.proofs.lemmas.List.Folds.{list_all-append, list_all-map}
use Rattle.lv_parser.specs.declared.tree.Assign.{Assign}
use Rattle.lv_parser.specs.declared.tree.AssignValue.{AssignValue}
use Rattle.lv_parser.specs.declared.tree.AssignValue.TheVariants as value
use Rattle.lv_parser.specs.declared.tree.ColName.{ColName}
use Rattle.lv_parser.specs.declared.tree.CondTree.{CondTree}
use Rattle.lv_parser.specs.declared.tree.Named.{Named}
use Rattle.lv_parser.specs.declared.tree.OperandTree.{OperandTree}
use Rattle.lv_parser.specs.declared.tree.OperandTree.TheVariants as side
use Rattle.lv_parser.specs.declared.tree.RefTree.{RefTree}
use Rattle.lv_parser.specs.declared.tree.Stmt.{Stmt}
use Rattle.lv_parser.specs.declared.tree.Stmt.TheVariants.{Insert, Update, Delete, Select}
use Rattle.lv_parser.specs.declared.tree.Tuple.{Tuple}
use Rattle.lv_schema.specs.declared.fault.Fault.{Fault}
use Rattle.lv_schema.specs.declared.fault.Fault.TheVariants as fault
use Rattle.lv_schema.specs.declared.fault.LimitKind.{LimitKind}
use Rattle.lv_schema.specs.declared.fault.LimitKind.TheVariants as limit
use Rattle.lv_schema.specs.declared.query.Rel.{Rel}
use Rattle.lv_schema.specs.declared.table.TableDef.{TableDef}
use Rattle.lv_schema.specs.declared.view.ViewDef.{ViewDef}
use Rattle.lv_schema.specs.Catalog.{rel_named}
use Rattle.lv_bind.specs.declared.limits.Measure.{Measure}
use Rattle.lv_bind.specs.declared.sources.Fit.TheVariants.{One}
use Rattle.lv_bind.specs.declared.sources.Place.{Place}
use Rattle.lv_bind.specs.Ambiguous.{ambiguous, ambiguous_columns, is_several}
use Rattle.lv_bind.specs.Faultless.{is_one, is_known, side_is_sound, sides_are_sound, IsSoundCond, value_is_sound, assign_is_sound, AreSoundSets, AreSoundTuples, AreSoundRefs, IsSoundList, IsSoundOrder}
use Rattle.lv_bind.specs.Faults.{lowest, reading_faults}
use Rattle.lv_bind.specs.InUse.{in_use}
use Rattle.lv_bind.specs.Kinds.{assign_byte, assign_fits, assign_kinds, both_or_none, compared_kinds, insert_columns, kind_of, kinds, side_byte, side_is_text}
use Rattle.lv_bind.specs.Limits.{alias_names, assign_texts, compared_texts, lengths, limits, list_length, measured, passed_limits, side_texts, tuple_texts, value_texts}
use Rattle.lv_bind.specs.Pieces.{Sides, assign_columns, compared_columns, listed_columns, side_columns, sides_of, source_columns, unqualified}
use Rattle.lv_bind.specs.Rels.{rels_of}
use Rattle.lv_bind.specs.Sources.{Alias, column_named, first, fit_of, place_at, place_of, places, places_from, shown_unless, source_of, sources_of, target_of}
use Rattle.lv_bind.specs.Unknown.{is_nil, is_table, unknown, unknown_columns, unknown_in, unknown_qualifier, unknown_refs}

-- ---- lists

shown_none : {A : Type 0} (well : Bool) (name : A) → well ≡ true → shown_unless well name ≡ []
shown_none true name e = refl
shown_none false name e = absurd (cc)

both_empty : {A : Type 0} (xs ys : List A) → xs ≡ [] → ys ≡ [] → xs ++ ys ≡ []
both_empty [] ys e f = f
both_empty (x ∷ xs) ys e f = absurd (cc)

-- ---- places

one_fit : (ps : List Place) → is_one (fit_of ps) ≡ true → (is_nil ps ≡ false) × (is_several (fit_of ps) ≡ false)
one_fit [] e = absurd (cc)
one_fit (p ∷ []) e = (refl, refl)
one_fit (p ∷ q ∷ ps) e = absurd (cc)

first_of_one : (ps : List Place) (p d : Place) → fit_of ps ≡ One p → unwrap_or (first ps) d ≡ p
first_of_one [] p d e = absurd (cc)
first_of_one (q ∷ []) p d e = cc
first_of_one (q ∷ r ∷ ps) p d e = absurd (cc)

-- a column that fits one place is there
pub one_place : (sources : List Alias) (col : ColName) (p : Place) → fit_of (places sources col) ≡ One p → place_of sources col ≡ p
one_place sources col p e = first_of_one (places sources col) p (place_at 0 0) e

-- ---- columns

left_true : (a b : Bool) → a ≡ true → (a || b) ≡ true
left_true true b e = refl
left_true false b e = absurd (cc)

right_true : (a b : Bool) → b ≡ true → (a || b) ≡ true
right_true true b e = refl
right_true false b e = e

-- a column that is not in the first alias is in one of the others
in_others : (b : Bool) (o : Option Place) (ps : List Place) → b ≡ false → is_nil (cons_option (cond b o None) ps) ≡ false → is_nil ps ≡ false
in_others true o ps e h = absurd (cc)
in_others false o ps e h = h

-- a qualifier of a column that is somewhere is an alias
qualified : (n : ℕ) (sources : List Alias) (q name : Named) → is_nil (places_from n sources (record { qualifier = Some q; name = name })) ≡ false
    → list_any (λ s. bytes_eq q.name s.name) sources ≡ true
qualified n [] q name e = absurd (cc)
qualified n (s ∷ more) q name e = by (bytes_eq q.name s.name) refl (qualified (suc n) more q name)
  where
    by : (b : Bool) → bytes_eq q.name s.name ≡ b
        → (is_nil (places_from (suc n) more (record { qualifier = Some q; name = name })) ≡ false → list_any (λ x. bytes_eq q.name x.name) more ≡ true)
        → list_any (λ x. bytes_eq q.name x.name) (s ∷ more) ≡ true
    by true same rest = left_true (bytes_eq q.name s.name) (list_any (λ x. bytes_eq q.name x.name) more) same
    by false other rest =
        right_true (bytes_eq q.name s.name) (list_any (λ x. bytes_eq q.name x.name) more)
        (rest
        (in_others (bytes_eq q.name s.name) (option_map (place_at n) (column_named name.name s.columns)) (places_from (suc n) more (record { qualifier = Some q; name = name })) other e))

no_qualifier : (sources : List Alias) (q : Option Named) (name : Named) → is_nil (places sources (record { qualifier = q; name = name })) ≡ false → unknown_qualifier sources q ≡ []
no_qualifier sources None name e = refl
no_qualifier sources (Some q) name e = shown_none _ q.name (qualified 0 sources q name e)

no_unknown : (sources : List Alias) (col : ColName) → is_known sources col ≡ true → unknown_in sources col ≡ []
no_unknown sources col e =
    let fits = one_fit (places sources col) e in
    both_empty (unknown_qualifier sources col.qualifier) (shown_unless (not (is_nil (places sources col))) col.name.name)
    (no_qualifier sources col.qualifier col.name fits.0) (shown_none _ col.name.name (ap not fits.0))

not_several : (sources : List Alias) (col : ColName) → is_known sources col ≡ true → shown_unless (not (is_several (fit_of (places sources col)))) col.name.name ≡ []
not_several sources col e = shown_none _ col.name.name (ap not (one_fit (places sources col) e).1)

none_unknown : (sources : List Alias) (cols : List ColName) → list_all (is_known sources) cols ≡ true → unknown_columns sources cols ≡ []
none_unknown sources [] e = refl
none_unknown sources (col ∷ cols) e =
    let parts = and_parts (is_known sources col) (list_all (is_known sources) cols) e in
    both_empty (unknown_in sources col) (unknown_columns sources cols) (no_unknown sources col parts.0) (none_unknown sources cols parts.1)

none_ambiguous : (sources : List Alias) (cols : List ColName) → list_all (is_known sources) cols ≡ true → ambiguous_columns sources cols ≡ []
none_ambiguous sources [] e = refl
none_ambiguous sources (col ∷ cols) e =
    let parts = and_parts (is_known sources col) (list_all (is_known sources) cols) e in
    both_empty (shown_unless (not (is_several (fit_of (places sources col)))) col.name.name) (ambiguous_columns sources cols)
    (not_several sources col parts.0) (none_ambiguous sources cols parts.1)

all_known : (sources : List Alias) (xs ys : List ColName) → list_all (is_known sources) xs ≡ true → list_all (is_known sources) ys ≡ true → list_all (is_known sources) (xs ++ ys) ≡ true
all_known sources xs ys e f = list_all-append (is_known sources) xs ys ∙ and_from (list_all (is_known sources) xs) (list_all (is_known sources) ys) e f

-- ---- comparisons

side_known : (sources : List Alias) (s : OperandTree) → side_is_sound sources s ≡ true → list_all (is_known sources) (side_columns s) ≡ true
side_known sources (side.Column col) e = and_from (is_known sources col) true e refl
side_known sources (side.Literal l) e = refl

none_long : (texts : List (List ℕ)) → not (list_any (nat_lt 256) (lengths texts)) ≡ true → list_any (nat_lt 256) (lengths texts) ≡ false
none_long texts e = not-true (list_any (nat_lt 256) (lengths texts)) e

side_short : (sources : List Alias) (s : OperandTree) → side_is_sound sources s ≡ true → list_any (nat_lt 256) (lengths (side_texts s)) ≡ false
side_short sources (side.Column col) e = refl
side_short sources (side.Literal l) e = none_long (value_texts l.value) e

any_joined : (xs ys : List (List ℕ)) → list_any (nat_lt 256) (lengths xs) ≡ false → list_any (nat_lt 256) (lengths ys) ≡ false → list_any (nat_lt 256) (lengths (xs ++ ys)) ≡ false
any_joined [] ys e f = f
any_joined (x ∷ xs) ys e f =
    let parts = or_parts (nat_lt 256 (length x)) (list_any (nat_lt 256) (lengths xs)) e in
    or_from (nat_lt 256 (length x)) (list_any (nat_lt 256) (lengths (xs ++ ys))) parts.0 (any_joined xs ys parts.1 f)

-- what is said of comparisons without a fault
record AreFine (sources : List Alias) (sides : List Sides) : Type 0 where
  known : list_all (is_known sources) (compared_columns sides) ≡ true
  alike : compared_kinds sources sides ≡ []
  short : list_any (nat_lt 256) (lengths (compared_texts sides)) ≡ false

fine_sides : (sources : List Alias) (sides : List Sides) → list_all (sides_are_sound sources) sides ≡ true → AreFine sources sides
fine_sides sources [] e = record { known = refl; alike = refl; short = refl }
fine_sides sources (s ∷ sides) e =
    let parts = and_parts (sides_are_sound sources s) (list_all (sides_are_sound sources) sides) e in
    let left = and_parts (side_is_sound sources s.0) (side_is_sound sources s.1 && both_or_none (side_is_text sources s.0) (side_is_text sources s.1)) parts.0 in
    let right = and_parts (side_is_sound sources s.1) (both_or_none (side_is_text sources s.0) (side_is_text sources s.1)) left.1 in
    let rest = fine_sides sources sides parts.1 in record {
      known = all_known sources (side_columns s.0 ++ side_columns s.1) (compared_columns sides)
          (all_known sources (side_columns s.0) (side_columns s.1) (side_known sources s.0 left.0) (side_known sources s.1 right.0)) rest.known;
      alike = both_empty _ (compared_kinds sources sides) (shown_none _ (side_byte s.1) right.1) rest.alike;
      short = any_joined (side_texts s.0 ++ side_texts s.1) (compared_texts sides)
          (any_joined (side_texts s.0) (side_texts s.1) (side_short sources s.0 left.0) (side_short sources s.1 right.0)) rest.short;
    }

-- ---- what UPDATE sets

value_known : (sources : List Alias) (v : AssignValue) → value_is_sound sources v ≡ true → list_all (is_known sources) (source_columns v) ≡ true
value_known sources (value.Literal l) e = refl
value_known sources (value.Column col) e = and_from (is_known sources (unqualified col)) true e refl
value_known sources (value.Plus col amount) e = and_from (is_known sources (unqualified col)) true e refl

value_short : (sources : List Alias) (v : AssignValue) → value_is_sound sources v ≡ true → list_any (nat_lt 256) (lengths (assign_texts v)) ≡ false
value_short sources (value.Literal l) e = none_long (value_texts l.value) e
value_short sources (value.Column col) e = refl
value_short sources (value.Plus col amount) e = refl

record AreFineSets (sources : List Alias) (sets : List Assign) : Type 0 where
  known : list_all (is_known sources) (flat_map assign_columns sets) ≡ true
  alike : flat_map (assign_kinds sources) sets ≡ []
  short : list_any (nat_lt 256) (lengths (flat_map (λ a. assign_texts a.value) sets)) ≡ false

fine_sets : (sources : List Alias) (sets : List Assign) → list_all (assign_is_sound sources) sets ≡ true → AreFineSets sources sets
fine_sets sources [] e = record { known = refl; alike = refl; short = refl }
fine_sets sources (a ∷ sets) e =
    let parts = and_parts (assign_is_sound sources a) (list_all (assign_is_sound sources) sets) e in
    let column = and_parts (is_known sources (unqualified a.column)) (value_is_sound sources a.value && assign_fits sources (kind_of sources (unqualified a.column)) a.value) parts.0 in
    let given = and_parts (value_is_sound sources a.value) (assign_fits sources (kind_of sources (unqualified a.column)) a.value) column.1 in
    let rest = fine_sets sources sets parts.1 in record {
      known = all_known sources (assign_columns a) (flat_map assign_columns sets)
          (and_from (is_known sources (unqualified a.column)) (list_all (is_known sources) (source_columns a.value)) column.0 (value_known sources a.value given.0)) rest.known;
      alike = both_empty (assign_kinds sources a) (flat_map (assign_kinds sources) sets) (shown_none _ (assign_byte a.value) given.1) rest.alike;
      short = any_joined (assign_texts a.value) (flat_map (λ b. assign_texts b.value) sets) (value_short sources a.value given.0) rest.short;
    }

-- ---- FROM

none_missing : (tables : List TableDef) (views : List ViewDef) (refs : List RefTree)
    → list_all is_some (map (λ r. rel_named tables views r.name.name) refs) ≡ true → unknown_refs tables views refs ≡ []
none_missing tables views [] e = refl
none_missing tables views (r ∷ refs) e =
    let parts = and_parts (is_some (rel_named tables views r.name.name)) (list_all is_some (map (λ x. rel_named tables views x.name.name) refs)) e in
    both_empty _ (unknown_refs tables views refs) (shown_none _ r.name.name parts.0) (none_missing tables views refs parts.1)

-- ---- limits

within : (which : LimitKind) (most : ℕ) (sizes : List ℕ) (ms : List Measure) → list_any (nat_lt most) sizes ≡ false → passed_limits ms ≡ [] → passed_limits (measured which most sizes ∷ ms) ≡ []
within which most sizes ms e f =
    both_empty (shown_unless (not (list_any (nat_lt most) sizes)) (fault.Limit which most)) (passed_limits ms) (shown_none _ (fault.Limit which most) (ap not e)) f

few : (which : LimitKind) (most size : ℕ) (ms : List Measure) → size ≤ most → passed_limits ms ≡ [] → passed_limits (measured which most (size ∷ []) ∷ ms) ≡ []
few which most size ms h f = within which most (size ∷ []) ms (or_from (nat_lt most size) false (le-ltb most size h) refl) f

-- ---- statements

-- no list of faults has a first
none_lowest : (u a : List (List ℕ)) (i : Option (List ℕ)) (k : Option ℕ) (l : List Fault) → u ≡ [] → a ≡ [] → i ≡ None → k ≡ None → l ≡ []
    → lowest (option_map fault.Unknown (first u) ∷ option_map fault.Ambiguous (first a) ∷ option_map fault.InUse i ∷ option_map fault.Kinds k ∷ first l ∷ []) ≡ None
none_lowest u a i k l eu ea ei ek el = rw (eu, ea, ei, ek, el) refl

module _ (tables : List TableDef) (views : List ViewDef) where
  pub insert_faultless : (table : Named) (tuples : List Tuple) → is_table (rel_named tables views table.name) ≡ true
      → AreSoundTuples (insert_columns tables (rel_named tables views table.name)) tuples → lowest (reading_faults tables views (Insert table tuples)) ≡ None
  insert_faultless table tuples known fine =
      let s : Stmt = Insert table tuples in
      none_lowest (unknown tables views s) (ambiguous tables views s) (first (in_use tables views s)) (first (kinds tables views s)) (limits tables views s)
      (both_empty _ [] (shown_none _ table.name known) refl) refl refl fine.kinds
      (within limit.Text 256 (lengths (flat_map tuple_texts tuples)) (measured limit.Tuples 1000 (length tuples ∷ []) ∷ []) fine.short
      (few limit.Tuples 1000 (length tuples) [] fine.few refl))

  pub update_faultless : (table : Named) (sets : List Assign) (c : CondTree) → is_table (rel_named tables views table.name) ≡ true
      → AreSoundSets (sources_of tables views (Update table sets c)) sets → IsSoundCond (sources_of tables views (Update table sets c)) c
      → lowest (reading_faults tables views (Update table sets c)) ≡ None
  update_faultless table sets c known fine where_fine =
      let s : Stmt = Update table sets c in
      let sources : List Alias = sources_of tables views (Update table sets c) in
      let set = fine_sets sources sets fine.sound in
      let compared = fine_sides sources (sides_of c) where_fine.sound in
      let columns = all_known sources (flat_map assign_columns sets) (compared_columns (sides_of c)) set.known compared.known in
      none_lowest (unknown tables views s) (ambiguous tables views s) (first (in_use tables views s)) (first (kinds tables views s)) (limits tables views s)
      (both_empty _ _ (shown_none _ table.name known) (both_empty _ [] (none_unknown sources _ columns) refl)) (none_ambiguous sources _ columns) fine.apart
      (ap first (both_empty (flat_map (assign_kinds sources) sets) (compared_kinds sources (sides_of c)) set.alike compared.alike))
      (few limit.Comparisons 16 (length (sides_of c)) (measured limit.Text 256 (lengths (flat_map (λ a. assign_texts a.value) sets ++ compared_texts (sides_of c))) ∷ []) where_fine.few
      (within limit.Text 256 (lengths (flat_map (λ a. assign_texts a.value) sets ++ compared_texts (sides_of c))) []
      (any_joined (flat_map (λ a. assign_texts a.value) sets) (compared_texts (sides_of c)) set.short compared.short) refl))

  pub delete_faultless : (table : Named) (c : CondTree) → is_table (rel_named tables views table.name) ≡ true
      → IsSoundCond (sources_of tables views (Delete table c)) c → lowest (reading_faults tables views (Delete table c)) ≡ None
  delete_faultless table c known where_fine =
      let s : Stmt = Delete table c in
      let sources : List Alias = sources_of tables views (Delete table c) in
      let compared = fine_sides sources (sides_of c) where_fine.sound in
      none_lowest (unknown tables views s) (ambiguous tables views s) (first (in_use tables views s)) (first (kinds tables views s)) (limits tables views s)
      (both_empty _ _ (shown_none _ table.name known) (both_empty _ [] (none_unknown sources _ compared.known) refl)) (none_ambiguous sources _ compared.known) refl
      (ap first compared.alike)
      (few limit.Comparisons 16 (length (sides_of c)) (measured limit.Text 256 (lengths (compared_texts (sides_of c))) ∷ []) where_fine.few
      (within limit.Text 256 (lengths (compared_texts (sides_of c))) [] compared.short refl))

  pub select_faultless : (list : Option (List ColName)) (refs : List RefTree) (c : CondTree) (order : List (ColName × Bool))
      → AreSoundRefs (map (λ r. rel_named tables views r.name.name) refs) refs
      → IsSoundList (map (source_of tables views) refs) list → IsSoundCond (map (source_of tables views) refs) c → IsSoundOrder (map (source_of tables views) refs) order
      → lowest (reading_faults tables views (Select list refs c order)) ≡ None
  select_faultless list refs c order from listed where_fine ordered =
      let s : Stmt = Select list refs c order in
      let sources : List Alias = map (source_of tables views) refs in
      let compared = fine_sides sources (sides_of c) where_fine.sound in
      let by_order : list_all (is_known sources) (map (λ by. by.0) order) ≡ true = list_all-map (is_known sources) (λ by. by.0) order ∙ ordered.known in
      let columns = all_known sources (listed_columns list) (compared_columns (sides_of c) ++ map (λ by. by.0) order) listed.known
      (all_known sources (compared_columns (sides_of c)) (map (λ by. by.0) order) compared.known by_order) in
      let from_order : List Measure = measured limit.Order 16 (length order ∷ []) ∷ [] in
      let from_list : List Measure = measured limit.List 64 (list_length sources list ∷ []) ∷ from_order in
      let from_text : List Measure = measured limit.Text 256 (lengths (compared_texts (sides_of c))) ∷ from_list in
      let from_comparisons : List Measure = measured limit.Comparisons 16 (length (sides_of c) ∷ []) ∷ from_text in
      let from_aliases : List Measure = measured limit.Aliases 4 (length refs ∷ []) ∷ from_comparisons in
      none_lowest (unknown tables views s) (ambiguous tables views s) (first (in_use tables views s)) (first (kinds tables views s)) (limits tables views s)
      (both_empty _ _ (none_missing tables views refs from.found) (both_empty _ [] (none_unknown sources _ columns) refl)) (none_ambiguous sources _ columns) from.apart
      (ap first compared.alike)
      (within limit.Name 32 (lengths (alias_names refs)) from_aliases from.short
      (few limit.Aliases 4 (length refs) from_comparisons from.few
      (few limit.Comparisons 16 (length (sides_of c)) from_text where_fine.few
      (within limit.Text 256 (lengths (compared_texts (sides_of c))) from_list compared.short
      (few limit.List 64 (list_length sources list) from_order listed.few
      (few limit.Order 16 (length order) [] ordered.few refl))))))

  -- a statement that is seen through its aliases, and what these stand for
  pub update_has_none : (s : Stmt) (xs : List Alias) (target : Option Rel) (table : Named) (sets : List Assign) (c : CondTree) → s ≡ Update table sets c
      → xs ≡ sources_of tables views s → target ≡ target_of tables views s → (is_table target ≡ true) × (AreSoundSets xs sets × IsSoundCond xs c)
      → lowest (reading_faults tables views s) ≡ None
  update_has_none s xs target table sets c is are stands h =
      let e : xs ≡ sources_of tables views (Update table sets c) = are ∙ ap (sources_of tables views) is in
      let known : is_table (rel_named tables views table.name) ≡ true = ap is_table (sym (stands ∙ ap (target_of tables views) is)) ∙ h.0 in
      rw is (update_faultless table sets c known (subst (λ ys. AreSoundSets ys sets) e h.1.0) (subst (λ ys. IsSoundCond ys c) e h.1.1))

  pub delete_has_none : (s : Stmt) (xs : List Alias) (target : Option Rel) (table : Named) (c : CondTree) → s ≡ Delete table c
      → xs ≡ sources_of tables views s → target ≡ target_of tables views s → (is_table target ≡ true) × IsSoundCond xs c
      → lowest (reading_faults tables views s) ≡ None
  delete_has_none s xs target table c is are stands h =
      let e : xs ≡ sources_of tables views (Delete table c) = are ∙ ap (sources_of tables views) is in
      let known : is_table (rel_named tables views table.name) ≡ true = ap is_table (sym (stands ∙ ap (target_of tables views) is)) ∙ h.0 in
      rw is (delete_faultless table c known (subst (λ ys. IsSoundCond ys c) e h.1))

  pub select_has_none : (s : Stmt) (xs : List Alias) (rels : List (Option Rel)) (list : Option (List ColName)) (refs : List RefTree) (c : CondTree) (order : List (ColName × Bool))
      → s ≡ Select list refs c order → xs ≡ sources_of tables views s → rels ≡ rels_of tables views s
      → AreSoundRefs rels refs × (IsSoundList xs list × (IsSoundCond xs c × IsSoundOrder xs order)) → lowest (reading_faults tables views s) ≡ None
  select_has_none s xs rels list refs c order is are stand h =
      let e : xs ≡ sources_of tables views (Select list refs c order) = are ∙ ap (sources_of tables views) is in
      let f : rels ≡ rels_of tables views (Select list refs c order) = stand ∙ ap (rels_of tables views) is in
      rw is (select_faultless list refs c order (subst (λ zs. AreSoundRefs zs refs) f h.0) (subst (λ ys. IsSoundList ys list) e h.1.0)
      (subst (λ ys. IsSoundCond ys c) e h.1.1.0) (subst (λ ys. IsSoundOrder ys order) e h.1.1.1))
