use Rattle.lv_schema.proofs.TruthLaws.{truth-True, truth-Cmp, truth-And, truth-Or, truth-Not}
use Rattle.lv_schema.proofs.laws.truth_goes_by_kind.Goals as goal

pub returns-clause-no_condition : goal.returns-clause-no_condition
returns-clause-no_condition c = truth-True

pub returns-clause-comparison : goal.returns-clause-comparison
returns-clause-comparison c = truth-Cmp

pub returns-clause-all_parts : goal.returns-clause-all_parts
returns-clause-all_parts c = truth-And

pub returns-clause-some_part : goal.returns-clause-some_part
returns-clause-some_part c = truth-Or

pub returns-clause-negated : goal.returns-clause-negated
returns-clause-negated c = truth-Not
