use Rattle.std.proofs.Common.{◌∷◌, [], true, false, cond, refl, sym, ap, ◌∙◌, arith}
use Rattle.std.proofs.lemmas.Result.{on_ok_weaker}
use Rattle.lv_reach.specs.Questions.{ask_all, question_of}
use Rattle.lv_reach.specs.Walk.{put_all}
use Rattle.lv_reach.proofs.Asking.{none_linked}
use Rattle.lv_reach.proofs.Questioning.{asked_finds_none, asked_stays, asked_there, linked_there, question_counts, question_finds, question_there, read_there}
use Rattle.lv_reach.proofs.walk.ask_alias.Goals as goal

pub returns-then-not-are_linked-clause-asked : goal.returns-then-not-are_linked-clause-asked
returns-then-not-are_linked-clause-asked g c = λ a at.
    let links = c.args.links.now in
    let alias = c.args.alias in
    let row = read_there c.as_slice.result.now c.args.near.now c.args.at a c.index-as_slice-at.result c.as_slice.ensures.rows c.index-as_slice-at.is at in
    let linked = linked_there links alias a c.index-as_slice-at.result row c.are_linked.result false c.are_linked.ensures c.if-not-are_linked.true in
    sym (ap (λ b. ask_all (cond b (question_of links a alias ∷ []) []) c.args.asked.now) linked)

pub returns-then-not-are_linked-clause-near : goal.returns-then-not-are_linked-clause-near
returns-then-not-are_linked-clause-near g c = λ a at.
    let links = c.args.links.now in
    let alias = c.args.alias in
    let row = read_there c.as_slice.result.now c.args.near.now c.args.at a c.index-as_slice-at.result c.as_slice.ensures.rows c.index-as_slice-at.is at in
    let linked = linked_there links alias a c.index-as_slice-at.result row c.are_linked.result false c.are_linked.ensures c.if-not-are_linked.true in
    sym (ap (λ l. put_all l c.args.near.now) (none_linked links a alias (g.S.OldRows.rows c.args.source.now alias) linked))

pub returns-then-was_asked_last-clause-asked : goal.returns-then-was_asked_last-clause-asked
returns-then-was_asked_last-clause-asked g c = λ a at.
    let links = c.args.links.now in
    let alias = c.args.alias in
    let row = read_there c.as_slice.result.now c.args.near.now c.args.at a c.index-as_slice-at.result c.as_slice.ensures.rows c.index-as_slice-at.is at in
    let linked = linked_there links alias a c.index-as_slice-at.result row c.are_linked.result true c.are_linked.ensures c.if-not-are_linked.false in
    let has = asked_there links alias a c.index-as_slice-at.result row c.args.asked.now (c.was_asked_last.ensures c.if-was_asked_last.true) in
    sym (ap (λ b. ask_all (cond b (question_of links a alias ∷ []) []) c.args.asked.now) linked ∙ asked_stays (question_of links a alias) c.args.asked.now has)

pub returns-then-was_asked_last-clause-near : goal.returns-then-was_asked_last-clause-near
returns-then-was_asked_last-clause-near g c = λ a at.
    let links = c.args.links.now in
    let alias = c.args.alias in
    let row = read_there c.as_slice.result.now c.args.near.now c.args.at a c.index-as_slice-at.result c.as_slice.ensures.rows c.index-as_slice-at.is at in
    let linked = linked_there links alias a c.index-as_slice-at.result row c.are_linked.result true c.are_linked.ensures c.if-not-are_linked.false in
    let has = asked_there links alias a c.index-as_slice-at.result row c.args.asked.now (c.was_asked_last.ensures c.if-was_asked_last.true) in
    let rows = g.S.OldRows.rows c.args.source.now in
    asked_finds_none links rows (question_of links a alias) c.args.asked.now c.args.near.now c.requires.answered has
    ∙ ap (λ l. put_all l c.args.near.now) (question_finds links rows a alias (question_of links a alias) linked refl)

pub returns-clause-near : goal.returns-clause-near
returns-clause-near g c = λ a at.
    let links = c.args.links.now in
    let alias = c.args.alias in
    let row = read_there c.as_slice.result.now c.args.near.now c.args.at a c.index-as_slice-at.result c.as_slice.ensures.rows c.index-as_slice-at.is at in
    let linked = linked_there links alias a c.index-as_slice-at.result row c.are_linked.result true c.are_linked.ensures c.if-not-are_linked.false in
    let q = question_there links alias a c.index-as_slice-at.result row c.in_ok-question.question c.in_ok-question.ensures in
    let finds = question_finds links (g.S.OldRows.rows c.args.source.now) a alias c.in_ok-question.question linked q in
    on_ok_weaker c.ask.result (λ e. e ∙ ap (λ l. put_all l c.args.near.now) finds) c.ask.ensures.near

pub returns-clause-most : goal.returns-clause-most
returns-clause-most g c = λ a at.
    let links = c.args.links.now in
    let alias = c.args.alias in
    let row = read_there c.as_slice.result.now c.args.near.now c.args.at a c.index-as_slice-at.result c.as_slice.ensures.rows c.index-as_slice-at.is at in
    let linked = linked_there links alias a c.index-as_slice-at.result row c.are_linked.result true c.are_linked.ensures c.if-not-are_linked.false in
    let q = question_there links alias a c.index-as_slice-at.result row c.in_ok-question.question c.in_ok-question.ensures in
    omega (arith, c.ask.ensures.most, question_counts links (g.S.OldRows.rows c.args.source.now) a alias c.in_ok-question.question linked q)
