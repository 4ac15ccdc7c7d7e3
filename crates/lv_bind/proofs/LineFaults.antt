-- The faults of binding are those that a line and the schema show.
use Rattle.std.proofs.Common.{◌≡◌, Bool, true, false, List, [], ◌∷◌, ◌++◌, length, Option, Some, None, refl, subst}
use Rattle.std.specs.Prelude.{not, Result, Err}
use Rattle.std.specs.Option.{option_map}
use Rattle.std.specs.List.{AllByRecursion}
use Rattle.lv_parser.specs.declared.tree.Stmt.{Stmt}
use Rattle.lv_parser.specs.declared.tree.Stmt.TheVariants as stmt
use Rattle.lv_schema.specs.Effects.{ok_unless}
use Rattle.lv_schema.specs.declared.bound.Bound.{Bound}
use Rattle.lv_schema.specs.declared.fault.Fault.{Fault}
use Rattle.lv_schema.specs.declared.fault.Fault.TheVariants as fault
use Rattle.lv_schema.specs.declared.table.TableDef.{TableDef}
use Rattle.lv_schema.specs.declared.view.ViewDef.{ViewDef}
use Rattle.lv_bind.specs.declared.limits.Measure.{Measure}
use Rattle.lv_bind.specs.Ambiguous.{ambiguous}
use Rattle.lv_bind.specs.Assigned.{assigned}
use Rattle.lv_bind.specs.Binding.{bound_among}
use Rattle.lv_bind.specs.Faults.{bound_of, faults, lowest}
use Rattle.lv_bind.specs.InUse.{in_use}
use Rattle.lv_bind.specs.Kinds.{kinds}
use Rattle.lv_bind.specs.Limits.{measures, passed_limits}
use Rattle.lv_bind.specs.Pieces.{comparisons_in}
use Rattle.lv_bind.specs.Profile.{profile}
use Rattle.lv_bind.specs.Ranges.{ranges}
use Rattle.lv_bind.specs.Reads.{is_shown_by_line}
use Rattle.lv_bind.specs.Rights.{outside_setup, in_transaction, no_transaction}
use Rattle.lv_bind.specs.Sources.{first, shown_unless, sources_of}
use Rattle.lv_bind.specs.Unknown.{unknown}

-- a fault, if there is one, is such a one
abbrev IsShown : Option Fault → Type 0
IsShown None = Unit {0}
IsShown (Some f) = is_shown_by_line f ≡ true

made_shown : {A : Type 0} (make : A → Fault) → ((a : A) → is_shown_by_line (make a) ≡ true) → (o : Option A) → IsShown (option_map make o)
made_shown make all None = tt
made_shown make all (Some a) = all a

shown_is : (well : Bool) (f : Fault) → is_shown_by_line f ≡ true → IsShown (first (shown_unless well f))
shown_is true f e = tt
shown_is false f e = e

limits_shown : (ms : List Measure) → IsShown (first (passed_limits ms))
limits_shown [] = tt
limits_shown (m ∷ ms) = by (not m.passed) (limits_shown ms)
  where
    by : (well : Bool) → IsShown (first (passed_limits ms)) → IsShown (first (shown_unless well (fault.Limit m.which m.most) ++ passed_limits ms))
    by true h = h
    by false h = refl

outside_shown : (setup : Bool) (s : Stmt) → IsShown (first (outside_setup setup s))
outside_shown setup (stmt.CreateTable name cols key) = shown_is setup fault.NotSetup refl
outside_shown setup (stmt.CreateView name items refs c groups) = shown_is setup fault.NotSetup refl
outside_shown setup (stmt.Insert table tuples) = tt
outside_shown setup (stmt.Update table sets c) = tt
outside_shown setup (stmt.Delete table c) = tt
outside_shown setup (stmt.Select list refs c order) = tt
outside_shown setup stmt.Begin = tt
outside_shown setup stmt.Commit = tt
outside_shown setup stmt.Rollback = tt
outside_shown setup stmt.ShowTasks = tt

inside_shown : (setup live : Bool) (s : Stmt) → IsShown (first (in_transaction setup live s))
inside_shown true true (stmt.CreateTable name cols key) = refl
inside_shown true false (stmt.CreateTable name cols key) = tt
inside_shown false live (stmt.CreateTable name cols key) = tt
inside_shown true true (stmt.CreateView name items refs c groups) = refl
inside_shown true false (stmt.CreateView name items refs c groups) = tt
inside_shown false live (stmt.CreateView name items refs c groups) = tt
inside_shown setup live (stmt.Insert table tuples) = tt
inside_shown setup live (stmt.Update table sets c) = tt
inside_shown setup live (stmt.Delete table c) = tt
inside_shown setup live (stmt.Select list refs c order) = tt
inside_shown setup true stmt.Begin = refl
inside_shown setup false stmt.Begin = tt
inside_shown setup live stmt.Commit = tt
inside_shown setup live stmt.Rollback = tt
inside_shown setup live stmt.ShowTasks = tt

none_shown : (live : Bool) (s : Stmt) → IsShown (first (no_transaction live s))
none_shown live (stmt.CreateTable name cols key) = tt
none_shown live (stmt.CreateView name items refs c groups) = tt
none_shown live (stmt.Insert table tuples) = tt
none_shown live (stmt.Update table sets c) = tt
none_shown live (stmt.Delete table c) = tt
none_shown live (stmt.Select list refs c order) = tt
none_shown live stmt.Begin = tt
none_shown live stmt.Commit = shown_is live fault.NoTransaction refl
none_shown live stmt.Rollback = shown_is live fault.NoTransaction refl
none_shown live stmt.ShowTasks = tt

lowest_shown : (fs : List (Option Fault)) → AllByRecursion IsShown fs → (f : Fault) → lowest fs ≡ Some f → is_shown_by_line f ≡ true
lowest_shown [] all f e = cc
lowest_shown (None ∷ fs) all f e = lowest_shown fs all.1 f e
lowest_shown (Some g ∷ fs) all f e = subst IsShown e all.0

all_shown : (tables : List TableDef) (views : List ViewDef) (setup live : Bool) (s : Stmt) → AllByRecursion IsShown (faults tables views setup live s)
all_shown tables views setup live s = (
  made_shown fault.Unknown (λ a. refl) (first (unknown tables views s)),
  (
    made_shown fault.Ambiguous (λ a. refl) (first (ambiguous tables views s)),
    (
      made_shown fault.InUse (λ a. refl) (first (in_use tables views s)),
      (
        made_shown fault.Kinds (λ a. refl) (first (kinds tables views s)),
        (
          limits_shown (measures (length tables) (length views) (sources_of tables views s) (comparisons_in s) s),
          (
            made_shown fault.Profile (λ a. refl) (first (profile tables views s)),
            (
              outside_shown setup s,
              (
                inside_shown setup live s,
                (
                  none_shown live s,
                  (
                    made_shown fault.KeyAssigned (λ a. refl) (first (assigned tables views s)),
                    (
                      made_shown fault.Range (λ a. refl) (first (ranges s)),
                      tt,
                    ),
                  ),
                ),
              ),
            ),
          ),
        ),
      ),
    ),
  ),
)

pub refused_by_line : (tables : List TableDef) (views : List ViewDef) (setup live : Bool) (s : Stmt) (f : Fault) → bound_of tables views setup live s ≡ Err f → is_shown_by_line f ≡ true
unfolding bound_of
refused_by_line tables views setup live s f e =
    by (lowest (faults tables views setup live s)) refl e
  where
    by : (o : Option Fault) → lowest (faults tables views setup live s) ≡ o → ok_unless o (bound_among tables views (sources_of tables views s) s) ≡ Err f → is_shown_by_line f ≡ true
    by None is e = cc
    by (Some g) is e = subst (λ h. is_shown_by_line h ≡ true) (same g e) (lowest_shown (faults tables views setup live s) (all_shown tables views setup live s) g is)
      where
        same : (g : Fault) → ◌≡◌ {A = Result Bound Fault} (Err g) (Err f) → g ≡ f
        same g e = cc
