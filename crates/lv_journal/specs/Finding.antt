-- What stands at a gate, in the bytes that are left.
use Rattle.std.specs.Prelude.{◌<◌, ◌≤◌, ◌+◌, ◌^◌, ℕ}
use Rattle.lv_journal.specs.declared.found.Found.{Found}
use Rattle.lv_journal.specs.declared.found.Found.TheVariants.{Missing, Shut, Broken, Open}

-- so many bytes have room for it; a frame has one byte or more
abbrev pub FitsIn : ℕ → Found → Type 0
FitsIn left Missing = Unit {0}
FitsIn left Shut = 0 < left
FitsIn left Broken = 0 < left
FitsIn left (Open count) = (0 < count) × (count < 2 ^ 32) × (count + 5 ≤ left)
