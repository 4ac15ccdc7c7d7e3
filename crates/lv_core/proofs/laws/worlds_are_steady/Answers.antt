use Rattle.lv_core.specs.Run.{rules_of}
use Rattle.lv_core.proofs.Binds.{reads_binds}
use Rattle.lv_core.proofs.laws.worlds_are_steady.Goals as goal

pub returns-clause-event : goal.returns-clause-event
returns-clause-event c = λ settings p fails event s limits steady. c.runs_keep_worlds_steady.ensures.event (rules_of settings p) fails event s reads_binds limits steady

pub returns-clause-entries : goal.returns-clause-entries
returns-clause-entries c = λ settings p w es limits steady. c.runs_keep_worlds_steady.ensures.entries (rules_of settings p) w es reads_binds limits steady

pub returns-clause-first : goal.returns-clause-first
returns-clause-first c = λ settings p es limits. c.runs_keep_worlds_steady.ensures.first (rules_of settings p) es reads_binds limits
