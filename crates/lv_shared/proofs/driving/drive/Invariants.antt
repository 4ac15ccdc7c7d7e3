use Rattle.std.specs.Prelude.{Some}
use Rattle.lv_shared.proofs.driving.drive.Given as goal

-- the machine that is handed in is the first one
abbrev pub ghosts-drive_from : goal.ghosts-drive_from
ghosts-drive_from g a = record { first = Some a.machine }
