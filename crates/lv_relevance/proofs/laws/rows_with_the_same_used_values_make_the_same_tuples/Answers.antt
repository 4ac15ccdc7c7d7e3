use Rattle.lv_relevance.specs.Relevance.{used_columns}
use Rattle.lv_relevance.proofs.AmongColumns.{same_among, same_key, same_numbers, same_truth}
use Rattle.lv_relevance.proofs.laws.rows_with_the_same_used_values_make_the_same_tuples.Goals as goal

pub returns-clause-same : goal.returns-clause-same
returns-clause-same c = λ view alias columns a b only same. same_among alias columns a b same (used_columns view) only

pub returns-clause-tested : goal.returns-clause-tested
returns-clause-tested c = same_truth

pub returns-clause-listed : goal.returns-clause-listed
returns-clause-listed c = same_key

pub returns-clause-summed : goal.returns-clause-summed
returns-clause-summed c = same_numbers
