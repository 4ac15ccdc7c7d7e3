-- What a script that is read gives, and why one gives nothing.
use Rattle.std.specs.Prelude.{◌≡◌, ℕ, List, Ok}
use Rattle.lv_lines.specs.Script.{script_of}
use Rattle.lv_plain.specs.Events.{schedule}
use Rattle.lv_plain.specs.Following.{IsFollowable}
use Rattle.lv_plain.specs.Limits.{IsWithinLimits}
use Rattle.lv_runner.specs.declared.reading.Plan.{Plan}
use Rattle.lv_runner.specs.declared.reading.Unread.{Unread}
use Rattle.lv_runner.specs.declared.reading.Unread.TheVariants as why
use Rattle.lv_runner.specs.Output.{IsBad}

-- a program that can be followed, and its schedule
pub record IsPlan (plan : Plan) : Type 0 where
  pub within : IsWithinLimits plan.program
  pub followable : IsFollowable plan.program
  pub events : plan.events ≡ schedule plan.program

-- the one that the bytes say
abbrev pub IsPlanOf : List ℕ → Plan → Type 0
IsPlanOf bytes plan = (script_of bytes ≡ Ok plan.program) × IsPlan plan

-- why bytes that were read give none; want of memory has no cause
abbrev pub IsCause : List ℕ → Unread → Type 0
IsCause bytes (why.Script line kind) = IsBad bytes line kind
IsCause bytes why.Source = ⊥
IsCause bytes why.NoMemory = Unit {0}
