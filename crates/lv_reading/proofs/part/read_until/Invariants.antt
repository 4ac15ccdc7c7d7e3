use Rattle.std.proofs.Common.{◌≡◌, ◌-◌, length}
use Rattle.lv_reading.specs.Reading.{until_from, until}
use Rattle.lv_reading.proofs.part.read_until.Given as goal

abbrev pub invariant-each : goal.invariant-each
invariant-each g l = until_from (g.P.Part.reader l.part) (length l.fn.cursor - l.counter) l.found l.cursor ≡ until (g.P.Part.reader l.part) l.fn.cursor
