use Rattle.std.proofs.Common.{◌≡◌, ◌-◌, length}
use Rattle.lv_reading.specs.Reading.{many_from, many_onto}
use Rattle.lv_reading.proofs.part.read_onto.Given as goal

abbrev pub invariant-each : goal.invariant-each
invariant-each g l =
    many_from (g.P.Repeated.comes l.part) (g.P.Part.reader l.part) (length l.fn.cursor - l.counter) l.found l.cursor
    ≡ many_onto (g.P.Repeated.comes l.part) (g.P.Part.reader l.part) l.fn.found l.fn.cursor
