use Rattle.lv_lines.proofs.fault_forms.AnyFaultForm.print.Goals as goal

pub returns-in-Conflict-clause-appended : goal.returns-in-Conflict-clause-appended
returns-in-Conflict-clause-appended c = rw c.in-Conflict.is c.print_three.ensures.appended
