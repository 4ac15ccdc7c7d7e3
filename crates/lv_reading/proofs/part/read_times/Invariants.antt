use Rattle.std.proofs.Common.{◌≡◌, ◌-◌, []}
use Rattle.lv_reading.specs.Reading.{times_from}
use Rattle.lv_reading.proofs.part.read_times.Given as goal

abbrev pub invariant-each : goal.invariant-each
invariant-each g l = times_from (g.P.Part.reader l.part) (l.count - l.counter) l.found l.cursor ≡ times_from (g.P.Part.reader l.part) l.count [] l.fn.cursor
