use Rattle.std.proofs.Common.{rules}
use Rattle.std.proofs.lemmas.Fn.{filter_same}
use Rattle.lv_group.specs.Gathered.{has_tuples}
use Rattle.lv_group.proofs.applying.drop_empty.Goals as goal

pub returns-clause-groups : goal.returns-clause-groups
returns-clause-groups c = filter_same _ has_tuples _ (λ x b f k. search rules) _ _ c.retain.ensures.filtered
