-- The numbers of the statements that actions come from: they count from 1, and do not fall.
use Rattle.std.specs.Prelude.{◌≡◌, ℕ, Bool, true, ◌&&◌, nat_le, List, [], ◌∷◌, Option, Some, None}
use Rattle.std.specs.List.{list_all, AllByRecursion}
use Rattle.lv_schema.specs.declared.action.Action.{Action}
use Rattle.lv_schema.specs.declared.open.Open.{Open}
use Rattle.lv_schema.specs.World.{Visible}

-- whether the numbers are at least this one, and do not fall
abbrev pub number_rises : ℕ → List Action → Bool
number_rises least [] = true
number_rises least (a ∷ actions) = nat_le least a.statement && number_rises a.statement actions

-- the actions of a transaction are numbered by its changes
pub record IsNumbered (o : Open) : Type 0 where
  pub rises : number_rises 1 o.actions ≡ true
  pub within : list_all (λ a. nat_le a.statement o.changes) o.actions ≡ true

abbrev pub IsNumberedOrNone : Option Open → Type 0
IsNumberedOrNone None = Unit {0}
IsNumberedOrNone (Some o) = IsNumbered o

-- so are those of each live transaction
abbrev pub AreNumbered : Visible → Type 0
AreNumbered s = AllByRecursion IsNumberedOrNone s.sessions
