use Rattle.std.proofs.Common.{not, ap, ◌∙◌}
use Rattle.lv_reach.specs.Questions.{ask, has_question}
use Rattle.lv_reach.proofs.Questioning.{ask_is, eq_same, new_is}
use Rattle.lv_reach.proofs.questions.Questions.ask.Goals as goal

pub returns-clause-asked : goal.returns-clause-asked
returns-clause-asked c = c.in_ok-at.ensures.keys ∙ ask_is _ eq_same c.args.question c.self.inside.asked.keys ∙ ap (ask c.args.question) c.self.view_is

pub returns-clause-is_new : goal.returns-clause-is_new
returns-clause-is_new c = c.in_ok-at.ensures.added ∙ new_is _ eq_same c.args.question c.self.inside.asked.keys ∙ ap (λ l. not (has_question c.args.question l)) c.self.view_is
