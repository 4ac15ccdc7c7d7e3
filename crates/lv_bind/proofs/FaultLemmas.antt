-- The lowest fault of a statement, and that a statement which no limit refuses has few aliases and few columns.
use Rattle.std.proofs.Common.{◌≡◌, ◌≤◌, ◌++◌, ℕ, Bool, true, false, not, List, [], ◌∷◌, map, length, Option, Some, None, Ok, Err, refl, sym, ap, ◌∙◌, arith}
use Rattle.std.specs.List.{AllByRecursion}
use Rattle.std.specs.Option.{option_or}
use Rattle.std.specs.Prelude.{nat_lt, Result}
use Rattle.std.proofs.lemmas.Bool.{ltb-false}
use Rattle.std.proofs.lemmas.List.{length-map}
use Rattle.lv_parser.specs.declared.tree.RefTree.{RefTree}
use Rattle.lv_parser.specs.declared.tree.Stmt.{Stmt}
use Rattle.lv_parser.specs.declared.tree.Stmt.TheVariants.{CreateTable, CreateView, Insert, Update, Delete, Select, Begin, Commit, Rollback, ShowTasks}
use Rattle.lv_schema.specs.declared.bound.Bound.{Bound}
use Rattle.lv_schema.specs.declared.fault.Fault.{Fault}
use Rattle.lv_schema.specs.declared.fault.Fault.TheVariants.{Limit}
use Rattle.lv_schema.specs.declared.fault.LimitKind.{LimitKind}
use Rattle.lv_schema.specs.declared.fault.LimitKind.TheVariants as limit
use Rattle.lv_schema.specs.declared.table.TableDef.{TableDef}
use Rattle.lv_schema.specs.declared.view.ViewDef.{ViewDef}
use Rattle.lv_schema.specs.Catalog.{rel_named}
use Rattle.lv_schema.specs.Effects.{ok_unless}
use Rattle.lv_bind.specs.declared.limits.Measure.{Measure}
use Rattle.lv_bind.specs.declared.statement.BindFault.{BindFault}
use Rattle.lv_bind.specs.declared.statement.BindFault.TheVariants as refusal
use Rattle.lv_bind.specs.declared.sources.Source.{Source}
use Rattle.lv_bind.specs.Binding.{IsNarrow, IsSmallTable, IsSmallView, bound_among, table_number}
use Rattle.lv_bind.specs.Faults.{lowest, reading_faults, profile_fault, later_faults, bound_of}
use Rattle.lv_bind.specs.Limits.{measured, measures, passed_limits}
use Rattle.lv_bind.specs.Pieces.{comparisons_in}
use Rattle.lv_bind.specs.Seen.{alias_seen}
use Rattle.lv_bind.specs.Sources.{Alias, AreNarrow, first, shown_unless, source_of, sources_of}

-- the lowest of two lists, one behind the other
lowest_append : (xs ys : List (Option Fault)) → lowest (xs ++ ys) ≡ option_or (lowest xs) (lowest ys)
lowest_append [] ys = refl
lowest_append (None ∷ xs) ys = lowest_append xs ys
lowest_append (Some f ∷ xs) ys = refl

-- where the first list has none, it is that of the second
lowest_behind : (xs ys : List (Option Fault)) → lowest xs ≡ None → lowest (xs ++ ys) ≡ lowest ys
lowest_behind xs ys h = lowest_append xs ys ∙ ap (λ found. option_or found (lowest ys)) h

-- the answer that refuses a statement with this fault, and the fault of an answer
abbrev Refused : Fault → Result Bound BindFault
Refused f = Err (refusal.Stmt f)

abbrev fault_of : BindFault → Fault → Fault
fault_of (refusal.Stmt f) d = f
fault_of refusal.NoMemory d = d

abbrev answered_fault : Result Bound BindFault → Fault → Fault
answered_fault (Ok b) d = d
answered_fault (Err e) d = fault_of e d

same_fault : (g f : Fault) → Refused g ≡ Refused f → g ≡ f
same_fault g f e = ap (λ r. answered_fault r g) e

module _ (tables : List TableDef) (views : List ViewDef) (setup live : Bool) (s : Stmt) where
  -- a fault that is seen before anything is bound is the lowest
  pub refused_reading : (found : Option Fault) (g f : Fault) → found ≡ lowest (reading_faults tables views s) → found ≡ Some g → Refused g ≡ Refused f
      → bound_of tables views setup live s ≡ Err f
  unfolding bound_of
  refused_reading found g f is at same =
      let early : List (Option Fault) = reading_faults tables views s in
      let late : List (Option Fault) = profile_fault tables views s ∷ later_faults tables views setup live s in
      let b : Bound = bound_among tables views (sources_of tables views s) s in
      ap (λ o. ok_unless o b) (lowest_append early late ∙ ap (λ o. option_or o (lowest late)) (sym is ∙ at)) ∙ ap (λ x. Err x) (same_fault g f same)

  -- where there is none of those, a later one is
  pub refused_later : (found : Option Fault) (g f : Fault) → lowest (reading_faults tables views s) ≡ None
      → found ≡ lowest (profile_fault tables views s ∷ later_faults tables views setup live s) → found ≡ Some g → Refused g ≡ Refused f
      → bound_of tables views setup live s ≡ Err f
  unfolding bound_of
  refused_later found g f none is at same =
      let early : List (Option Fault) = reading_faults tables views s in
      let late : List (Option Fault) = profile_fault tables views s ∷ later_faults tables views setup live s in
      let b : Bound = bound_among tables views (sources_of tables views s) s in
      ap (λ o. ok_unless o b) (lowest_behind early late none ∙ sym is ∙ at) ∙ ap (λ x. Err x) (same_fault g f same)

  -- a statement without faults is bound
  pub bound_unrefused : (xs : List Alias) (b : Bound) (found : Option Fault) → xs ≡ sources_of tables views s → b ≡ bound_among tables views xs s
      → lowest (reading_faults tables views s) ≡ None → found ≡ lowest (profile_fault tables views s ∷ later_faults tables views setup live s) → found ≡ None
      → bound_of tables views setup live s ≡ Ok b
  unfolding bound_of
  bound_unrefused xs b found are is none no_later at =
      let early : List (Option Fault) = reading_faults tables views s in
      let late : List (Option Fault) = profile_fault tables views s ∷ later_faults tables views setup live s in
      let whole : Bound = bound_among tables views (sources_of tables views s) s in
      ap (λ o. ok_unless o whole) (lowest_behind early late none ∙ sym no_later ∙ at)
      ∙ ap (λ x. Ok x) (sym (is ∙ ap (λ ys. bound_among tables views ys s) are))

-- a size within its limit
within : (which : LimitKind) (most size : ℕ) → (measured which most (size ∷ [])).passed ≡ false → size ≤ most
within which most size h = by (nat_lt most size) refl h
  where
    by : (b : Bool) → nat_lt most size ≡ b → (measured which most (size ∷ [])).passed ≡ false → size ≤ most
    by true e h = absurd (cc)
    by false e h = ltb-false most size e

-- no limit of the list is passed
abbrev AreKept : List Measure → Type 0
AreKept = AllByRecursion (λ m. m.passed ≡ false)

none_passed : (all : List Measure) → first (passed_limits all) ≡ None → AreKept all
none_passed [] h = tt
none_passed (m ∷ all) h = by m.passed refl h (none_passed all)
  where
    by : (b : Bool) → m.passed ≡ b → first (shown_unless (not b) (Limit m.which m.most) ++ passed_limits all) ≡ None
        → (first (passed_limits all) ≡ None → AreKept all) → AreKept (m ∷ all)
    by true e h rest = absurd (cc)
    by false e h rest = (e, rest h)

-- there is none of a list whose lowest is none
each_none : (xs : List (Option Fault)) → lowest xs ≡ None → AllByRecursion (λ found. found ≡ None) xs
each_none [] h = tt
each_none (None ∷ xs) h = (refl, each_none xs h)
each_none (Some f ∷ xs) h = absurd (cc)

module _ (tables : List TableDef) (views : List ViewDef) where
  no_limit : (s : Stmt) → lowest (reading_faults tables views s) ≡ None → AreKept (measures (length tables) (length views) (sources_of tables views s) (comparisons_in s) s)
  no_limit s h =
      none_passed (measures (length tables) (length views) (sources_of tables views s) (comparisons_in s) s) (each_none (reading_faults tables views s) h).1.1.1.1.0

  few_refs : (refs : List RefTree) → (measured limit.Aliases 4 (length refs ∷ [])).passed ≡ false → length (map (source_of tables views) refs) ≤ 4
  few_refs refs h = rw (length-map refs (source_of tables views)) (within limit.Aliases 4 (length refs) h)

  few_aliases : (s : Stmt) → AreKept (measures (length tables) (length views) (sources_of tables views s) (comparisons_in s) s) → length (sources_of tables views s) ≤ 4
  few_aliases (CreateTable name cols key) h = omega arith
  few_aliases (CreateView name items refs c groups) h = few_refs refs h.1.1.1.0
  few_aliases (Insert table tuples) h = omega arith
  few_aliases (Update table sets c) h = omega arith
  few_aliases (Delete table c) h = omega arith
  few_aliases (Select list refs c order) h = few_refs refs h.1.0
  few_aliases Begin h = omega arith
  few_aliases Commit h = omega arith
  few_aliases Rollback h = omega arith
  few_aliases ShowTasks h = omega arith

  few_columns : (s : Stmt) → AreKept (measures (length tables) (length views) (sources_of tables views s) (comparisons_in s) s) → IsSmallTable s
  few_columns (CreateTable name cols key) h = within limit.Columns 16 (length cols) h.1.1.0
  few_columns (CreateView name items refs c groups) h = tt
  few_columns (Insert table tuples) h = tt
  few_columns (Update table sets c) h = tt
  few_columns (Delete table c) h = tt
  few_columns (Select list refs c order) h = tt
  few_columns Begin h = tt
  few_columns Commit h = tt
  few_columns Rollback h = tt
  few_columns ShowTasks h = tt

  few_tables : (sources : List Alias) (s : Stmt) → length (sources_of tables views s) ≤ 4 → IsSmallView (bound_among tables views sources s)
  few_tables sources (CreateTable name cols key) h = tt
  few_tables sources (CreateView name items refs c groups) h =
      rw (length-map refs (λ r. table_number (rel_named tables views r.name.name)), ← length-map refs (source_of tables views)) h
  few_tables sources (Insert table tuples) h = tt
  few_tables sources (Update table sets c) h = tt
  few_tables sources (Delete table c) h = tt
  few_tables sources (Select list refs c order) h = tt
  few_tables sources Begin h = tt
  few_tables sources Commit h = tt
  few_tables sources Rollback h = tt
  few_tables sources ShowTasks h = tt

  -- the aliases of a statement without an early fault
  pub narrow_sources : (s : Stmt) (xs : List Source) → map (alias_seen tables views) xs ≡ sources_of tables views s → AreNarrow (map (alias_seen tables views) xs)
      → lowest (reading_faults tables views s) ≡ None → IsNarrow (map (alias_seen tables views) xs)
  narrow_sources s xs are narrow none = record { few = rw are (few_aliases s (no_limit s none)); narrow = narrow }

  pub small_table : (s : Stmt) → lowest (reading_faults tables views s) ≡ None → IsSmallTable s
  small_table s none = few_columns s (no_limit s none)

  pub small_view : (s : Stmt) (sources : List Alias) (b : Bound) → b ≡ bound_among tables views sources s → lowest (reading_faults tables views s) ≡ None → IsSmallView b
  small_view s sources b is none = rw is (few_tables sources s (few_aliases s (no_limit s none)))
