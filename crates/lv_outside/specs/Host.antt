-- What the disks of the system tell: those of files nothing, and the one in memory what it holds.
use Rattle.std.specs.Prelude.{◌≤◌, ℕ, List, [], Option, Some, None}
use Rattle.std.specs.Vec.{vec_capacity}
use Rattle.lv_outside.specs.declared.host_disks.HostDisk.{HostDisk}
use Rattle.lv_outside.specs.declared.host_disks.HostDisk.TheVariants.{Memory, OfFile}

abbrev pub host_seen : HostDisk → Option (List ℕ)
host_seen (Memory disk) = Some disk.bytes.items
host_seen (OfFile disk) = None

abbrev pub host_failures : HostDisk → ℕ
host_failures (Memory disk) = disk.faults
host_failures (OfFile disk) = disk.faults

abbrev pub host_ready : HostDisk → ℕ → ℕ → ℕ → Type 0
host_ready (Memory disk) calls bytes end = end ≤ vec_capacity disk.bytes
host_ready (OfFile disk) calls bytes end = Unit {0}

-- without a path there is an empty disk
abbrev pub host_holds : Option (List ℕ) → Option (List ℕ)
host_holds None = Some []
host_holds (Some path) = None
