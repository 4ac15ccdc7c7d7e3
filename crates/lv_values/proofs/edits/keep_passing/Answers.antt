use Rattle.std.proofs.Common.{rules}
use Rattle.std.proofs.lemmas.Fn.{filter_same}
use Rattle.lv_values.proofs.edits.keep_passing.Goals as goal

pub returns-clause-kept : goal.returns-clause-kept
returns-clause-kept g c =
    filter_same _ (g.P.Test.passed c.args.test.now) _ (λ x b f k. search rules) _ _ c.retain.ensures.filtered
