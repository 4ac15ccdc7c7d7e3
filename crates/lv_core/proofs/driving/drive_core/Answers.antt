use Rattle.std.proofs.Common.{refl}
use denote.Exit.{yes}
use denote.Param.Send.{arg_send, param_send, sendable}
use denote.Param.Object.{Vt, ghosts_of}
use Rattle.lv_core.specs.contracts.driving.drive_core.dyn-1 as dyn
use Rattle.lv_core.proofs.Grown.{grown_same, none_claimed, none_lies}
use Rattle.lv_core.proofs.Sent.{core_row, results_row, work_row}
use Rattle.lv_core.proofs.driving.drive_core.Lts as lts
use Rattle.lv_core.proofs.driving.drive_core.Goals as goal

pub drive-requires-send-M : goal.drive-requires-send-M
drive-requires-send-M g c κs within = param_send 1 (lts.arg-1-1 g.row.R g.row.D g.row.G g.R.laws g.D.laws g.G.laws g.R.Threads g.R.Threads-dict g.R.Wait g.R.Wait-dict g.D.Disk g.D.Disk-dict g.G.Gate g.G.Gate-dict g.dyn-1 g.dyn-1-has κs) (arg_send _ yes _ (core_row _ (Vt (dyn.slots g.row.R g.row.D g.row.G) g.dyn-1.0) g.D.Disk (ghosts_of (dyn.slots g.row.R g.row.D g.row.G) g.dyn-1.0 g.dyn-1.1) _ c.type_bounds.send-D g.dyn-1.2 (search sendable)))

pub drive-requires-send-M-Work : goal.drive-requires-send-M-Work
drive-requires-send-M-Work g c κs within = search (param_send, arg_send, work_row)

pub drive-requires-send-M-Done : goal.drive-requires-send-M-Done
drive-requires-send-M-Done g c κs within = search (param_send, arg_send, results_row)

pub drive-requires-clause-begun : goal.drive-requires-clause-begun
drive-requires-clause-begun g c κs within = grown_same c.args.core.run c.args.core.run refl

pub returns-clause-free : goal.returns-clause-free
returns-clause-free g c = none_claimed c.drive.result.machine.run c.drive.result.machine.slots c.drive.ensures.free

pub returns-clause-slots : goal.returns-clause-slots
returns-clause-slots g c = none_lies c.drive.result.machine.run c.drive.result.machine.slots c.drive.ensures.free
