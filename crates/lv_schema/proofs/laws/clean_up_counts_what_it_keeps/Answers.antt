use Rattle.lv_schema.specs.Databases.{rows_of}
use Rattle.lv_schema.specs.World.{snap, table_at}
use Rattle.lv_schema.proofs.KeptCounts.{versions_are_counted, entries_are_counted, distinct_rows}
use Rattle.lv_schema.proofs.laws.clean_up_counts_what_it_keeps.Goals as goal

pub returns-clause-versions : goal.returns-clause-versions
returns-clause-versions c = λ s floor table le keyed. versions_are_counted s floor table le (λ k below. distinct_rows (table_at s.tables table).key (rows_of (snap s k) table) (keyed k below))

pub returns-clause-deltas : goal.returns-clause-deltas
returns-clause-deltas c = entries_are_counted
