use Rattle.std.proofs.Common.{rules}
use Rattle.std.proofs.lemmas.Fn.{filter_same}
use Rattle.lv_schema.specs.Differences.{is_change}
use Rattle.lv_bags.proofs.netting.keep_changes.Goals as goal

pub returns : goal.returns
returns c = filter_same _ is_change _ (λ x b f k. search rules) _ _ c.retain.ensures.filtered
