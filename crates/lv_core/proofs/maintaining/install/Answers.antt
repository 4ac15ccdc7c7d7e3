use Rattle.std.proofs.Common.{◌≡◌, None, sym, ◌∙◌}
use Rattle.lv_upkeep.specs.Kept.{claim_kept}
use Rattle.lv_core.proofs.Standing.{none_is}
use Rattle.lv_core.proofs.WorkerAnswers.{empty_gives, installed_gives}
use Rattle.lv_core.proofs.maintaining.install.Goals as goal

pub returns-then-is_none-clause-entry : goal.returns-then-is_none-clause-entry
returns-then-is_none-clause-entry g c = λ rules s stands.
    let none : claim_kept c.args.engine.now.store.upkeep c.args.worker ≡ None = sym c.claim.ensures ∙ none_is c.claim.result c.if-is_none.ensures in
    empty_gives rules s c.args.engine.now c.args.worker stands none

pub returns-clause-entry : goal.returns-clause-entry
returns-clause-entry g c = λ rules s stands.
    installed_gives rules s c.install.new.self c.args.worker c.in_ok-answer.answer c.installed.result (c.installed.ensures rules) (c.in_ok-answer.ensures.done s.world stands)
