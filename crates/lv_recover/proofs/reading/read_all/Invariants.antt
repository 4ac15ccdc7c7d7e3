use Rattle.std.proofs.Common.{◌≡◌, ◌≤◌, List}
use Rattle.lv_outside.specs.Images.{NoMore}
use Rattle.lv_schema.specs.declared.rec.Rec.{Rec}
use Rattle.lv_recover.specs.Reading.{HasRead}
use Rattle.lv_recover.proofs.reading.read_all.Given as goal

abbrev pub invariant-loop : goal.invariant-loop
invariant-loop g l = record {
  read : (recs : List Rec) × HasRead g.D.Disk.seen g.D.Disk.may_leave recs l.reader l.loading;
  bytes : g.D.Disk.seen l.reader.disk ≡ g.D.Disk.seen l.fn.reader.disk;
  crash : NoMore (g.D.Disk.may_leave l.fn.reader.disk) (g.D.Disk.may_leave l.reader.disk);
  later : g.D.Disk.failures l.fn.reader.disk ≤ g.D.Disk.failures l.reader.disk;
}
