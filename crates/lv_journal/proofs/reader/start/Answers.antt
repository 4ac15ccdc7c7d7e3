use Rattle.std.proofs.Common.{refl, arith}
use Rattle.lv_journal.proofs.Steps.{room_from}
use Rattle.lv_journal.proofs.reader.start.Goals as goal

pub write_through-requires-clause-room : goal.write_through-requires-clause-room
write_through-requires-clause-room g c = room_from _ 6 9 9 1 9 9 5 0 c.in_ok-reserve.ensures.room refl refl (omega arith)
