use Rattle.std.proofs.Common.{◌≡◌, ℕ, [], length, take, drop}
use Rattle.lv_outside.specs.Crashes.{images, picked, LeadsTo}
use Rattle.lv_outside.proofs.crash_disk.image_of.Given as goal

abbrev pub invariant-loop-call : goal.invariant-loop-call
invariant-loop-call l =
    images (take l.call-index l.calls) l.image.items
    × (l.image.items ≡ picked l.pick [] (take l.call-index l.calls))
    × ((m : ℕ) → LeadsTo 0 l.calls m → LeadsTo (length l.image.items) (drop l.call-index l.calls) m)
