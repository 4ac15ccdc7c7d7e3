use Rattle.std.proofs.Common.{◌≤◌, length}
use Rattle.lv_outside.proofs.file_disk.read_from.Given as goal

abbrev pub invariant-loop : goal.invariant-loop
invariant-loop l = l.count ≤ length l.buf
