-- What an object that hands out disks was asked.
use Rattle.std.specs.Prelude.{◌+◌, ℕ, List, Option, Some, None}
use Rattle.lv_outside.specs.declared.disks.Openings.{Openings}

-- nothing was asked
abbrev pub none_asked : Openings
none_asked = record { asked = 0; handed = 0; path = None; count = 0 }

-- an opening of this path was asked, and a disk with this count of failures was handed out
abbrev pub handed_out : Openings → Option (List ℕ) → ℕ → Openings
handed_out o path count = record { asked = o.asked + 1; handed = o.handed + 1; path = path; count = count }

-- an opening of this path was asked, and no disk was handed out
abbrev pub turned_away : Openings → Option (List ℕ) → Openings
turned_away o path = record { asked = o.asked + 1; handed = o.handed; path = path; count = o.count }

-- what a disk tells, where there is one
abbrev pub told_by : {D : Type 0} → (D → Option (List ℕ)) → Option D → Option (List ℕ)
told_by seen None = None
told_by seen (Some disk) = seen disk
