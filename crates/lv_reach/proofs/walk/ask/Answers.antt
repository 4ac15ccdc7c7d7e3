use Rattle.std.proofs.Common.{◌≡◌, ◌++◌, ◌∷◌, [], sym, ◌∙◌, subst}
use Rattle.std.proofs.lemmas.Result.{on_ok_weaker}
use Rattle.lv_reach.specs.Questions.{AreAnswered}
use Rattle.lv_reach.proofs.Questioning.{answered_now, ask_again, ask_new, asked_finds_none}
use Rattle.lv_reach.proofs.walk.ask.Goals as goal

pub returns-then-branch-clause-answered : goal.returns-then-branch-clause-answered
returns-then-branch-clause-answered g c =
    let links = c.args.links.now in
    let rows = g.S.OldRows.rows c.args.source.now in
    let q = c.args.question in
    let asked = c.args.asked.now in
    let new : c.ask.new.self ≡ asked ++ q ∷ [] = c.in_ok-ask.ensures.asked ∙ ask_new q asked _ c.in_ok-ask.ensures.is_new c.if-branch.true in
    on_ok_weaker c.answer_last.result
    (λ e. subst (λ l. AreAnswered links rows l c.answer_last.new.near) (sym new) (answered_now links rows q asked c.args.near.now c.answer_last.new.near c.requires.answered e))
    (c.answer_last.ensures.near asked q new)

pub returns-clause-near : goal.returns-clause-near
returns-clause-near g c =
    asked_finds_none c.args.links.now (g.S.OldRows.rows c.args.source.now) c.args.question c.args.asked.now c.args.near.now c.requires.answered
    (ask_again c.args.question c.args.asked.now _ c.in_ok-ask.ensures.is_new c.if-branch.false).0
