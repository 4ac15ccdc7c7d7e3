use Rattle.std.proofs.Common.{false, sym, ap}
use Rattle.lv_plain.specs.Machine.{install_entry}
use Rattle.lv_store.specs.Maintaining.{told}
use Rattle.lv_core.proofs.maintaining.installed.Goals as goal

pub returns-in-Done : goal.returns-in-Done
returns-in-Done c = λ rules. sym (ap (λ a. install_entry rules false c.args.worker (told a)) c.in-Done.is)

pub returns-in-Moved : goal.returns-in-Moved
returns-in-Moved c = λ rules. sym (ap (λ a. install_entry rules false c.args.worker (told a)) c.in-Moved.is)
