use Rattle.lv_lines.proofs.FirstFaults.{faults_are_first, programs_are_clear}
use Rattle.lv_lines.proofs.script_laws.first_faults.Goals as goal

pub returns-clause-first : goal.returns-clause-first
returns-clause-first c = faults_are_first

pub returns-clause-programs : goal.returns-clause-programs
returns-clause-programs c = programs_are_clear
