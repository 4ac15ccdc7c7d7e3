use Rattle.std.proofs.Common.{arith}
use Rattle.lv_store.specs.Querying.{RowsInstall}
use Rattle.lv_store.proofs.PendingRows.{first_can, rest_can, rest_rows, rest_takes}
use Rattle.lv_store.proofs.pending.install_all.Goals as goal

pub install-requires-clause-change : goal.install-requires-clause-change
install-requires-clause-change c =
    first_can c.args.floor c.loop-difference.difference-iterator.rest.items c.next.new.self.rest.items c.in-Some.difference c.in-Some.ensures.steps.0 c.loop-difference.rows c.loop-difference.invariant.can

pub install-requires-clause-room : goal.install-requires-clause-room
install-requires-clause-room c =
    omega (arith, rest_rows c.args.floor c.loop-difference.difference-iterator.rest.items c.next.new.self.rest.items c.in-Some.difference c.in-Some.ensures.steps.0, c.loop-difference.invariant.room)

pub loop-difference-preserved : goal.loop-difference-preserved
loop-difference-preserved c =
    let all = c.loop-difference.difference-iterator.rest.items in
    let rest = c.next.new.self.rest.items in
    let d = c.in-Some.difference in
    let is = c.in-Some.ensures.steps.0 in
    let old = c.loop-difference.rows in
    let new = c.install.new.self in
    let told = c.install.ensures in
    let installed : RowsInstall c.args.floor d.hi d.changes old new = record { def_stays = told.def; at_is = told.at; before = told.before; from = told.from; rows = told.shown } in
    record {
      can = rest_can c.args.floor all rest d is old new c.loop-difference.invariant.can installed;
      room = omega (arith, rest_rows c.args.floor all rest d is, c.loop-difference.invariant.room, told.room);
      done = rest_takes c.args.floor all rest d is c.args.differences c.args.rows.now old new c.loop-difference.invariant.done installed;
    }
