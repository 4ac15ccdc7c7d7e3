-- Which orders can be followed.
use Rattle.std.specs.Prelude.{◌≡◌, ℕ, ◌≤◌, true, length}
use Rattle.std.specs.List.{All, count_by}
use Rattle.lv_values.specs.Names.{is_lower_name}
use Rattle.lv_plain.specs.declared.program.OrderItem.{OrderItem}
use Rattle.lv_plain.specs.declared.program.OrderItem.TheVariants.{Turn, Fetch, Install, Work, Mark, Clean}
use Rattle.lv_plain.specs.declared.program.Program.{Program}
use Rattle.lv_plain.specs.Events.{is_turn_of}
use Rattle.lv_plain.specs.Legal.{IsWorker}
use Rattle.lv_plain.specs.Programs.{lines_of}

-- a session's turn, but none of the setup; what a worker does; a mark of a name
abbrev pub IsItem : OrderItem → Type 0
IsItem (Turn session) = 1 ≤ session
IsItem (Fetch worker) = IsWorker worker
IsItem (Install worker) = IsWorker worker
IsItem (Work worker) = IsWorker worker
IsItem (Mark view) = is_lower_name view ≡ true
IsItem Clean = Unit {0}

-- The order gives each session at most as many turns as it has statements, and none to a session that is not there.
pub record IsFollowable (program : Program) : Type 0 where
  pub items : All IsItem program.order
  pub turns : (session : ℕ) → 1 ≤ session → count_by (is_turn_of session) program.order ≤ length (lines_of program session)
