-- What a bound statement tells of the session that it is bound for.
use Rattle.std.specs.Prelude.{◌≡◌, Bool, true, false}
use Rattle.lv_schema.specs.declared.bound.Bound.{Bound}
use Rattle.lv_schema.specs.declared.bound.Bound.TheVariants as bound

-- CREATE stands in the setup and in no transaction, BEGIN in no transaction, and COMMIT and ROLLBACK in one
abbrev pub IsAllowed : Bool → Bool → Bound → Type 0
IsAllowed setup live (bound.Table def) = (setup ≡ true) × (live ≡ false)
IsAllowed setup live (bound.View view) = (setup ≡ true) × (live ≡ false)
IsAllowed setup live (bound.Change change) = Unit {0}
IsAllowed setup live (bound.Query query) = Unit {0}
IsAllowed setup live bound.Begin = live ≡ false
IsAllowed setup live bound.Commit = live ≡ true
IsAllowed setup live bound.Rollback = live ≡ true
IsAllowed setup live bound.Tasks = Unit {0}
