use Rattle.std.proofs.Common.{◌≡◌, ◌+◌, ◌<◌, List, length, Some, sym, ap, ◌∙◌, subst}
use Rattle.lv_schema.specs.declared.action.Action.{Action}
use Rattle.lv_schema.specs.declared.fault.Fault.TheVariants.{MergedFull}
use Rattle.lv_schema.specs.Cases.{if_written}
use Rattle.lv_schema.specs.Cases as cases
use Rattle.lv_schema.specs.World.{transaction}
use Rattle.lv_txn.specs.Kept.{transaction_of}
use Rattle.lv_txn.specs.Written.{conflict_fault}
use Rattle.lv_store.specs.declared.committing.Next.{Next}
use Rattle.lv_store.specs.Committing.{IsNext, next_record}
use Rattle.lv_store.specs.Kept.{Stands, store_of}
use Rattle.lv_store.proofs.Commits.{commit_of_none, commit_refused, commit_written, is_more, is_none}
use Rattle.lv_store.proofs.store.Store.prepare_commit.Goals as goal

pub returns-then-is_empty-clause-case : goal.returns-then-is_empty-clause-case
returns-then-is_empty-clause-case c = λ w outcome is.
    let p = c.args.self.now in
    let none : length (transaction_of p.txns c.args.session).actions ≡ 0 = ap (λ (list : List Action). length list) (sym c.actions.ensures) ∙ is_none (length c.actions.result.now) (sym c.is_empty.ensures ∙ c.if-is_empty.true) in
    (commit_of_none p c.args.session c.requires.whole c.requires.live w is outcome none, c.rollback.ensures.case w is)

pub returns-in-Conflict-clause-case : goal.returns-in-Conflict-clause-case
returns-in-Conflict-clause-case c = λ w outcome is.
    let p = c.args.self.now in
    let some : 0 < length (transaction_of p.txns c.args.session).actions =
    subst (λ (list : List Action). 0 < length list) c.actions.ensures (is_more (length c.actions.result.now) (sym c.is_empty.ensures ∙ c.if-is_empty.false)) in
    let next = subst (λ (n : Next). IsNext (store_of p) (transaction_of p.txns c.args.session) c.next_commit.new.self n) c.in-Conflict.is c.in_ok-conflict.ensures.next in
    (commit_refused p c.args.session c.requires.whole c.requires.live w is outcome (conflict_fault c.in-Conflict.conflict) some next, c.rollback-in-Conflict.ensures.case w (subst (Stands w) (sym c.in_ok-conflict.ensures.kept) is))

pub returns-in-TableFull-clause-case : goal.returns-in-TableFull-clause-case
returns-in-TableFull-clause-case c = λ w outcome is.
    let p = c.args.self.now in
    let some : 0 < length (transaction_of p.txns c.args.session).actions =
    subst (λ (list : List Action). 0 < length list) c.actions.ensures (is_more (length c.actions.result.now) (sym c.is_empty.ensures ∙ c.if-is_empty.false)) in
    let next = subst (λ (n : Next). IsNext (store_of p) (transaction_of p.txns c.args.session) c.next_commit.new.self n) c.in-TableFull.is c.in_ok-conflict.ensures.next in
    (commit_refused p c.args.session c.requires.whole c.requires.live w is outcome (MergedFull c.in-TableFull.table) some next, c.rollback-in-TableFull.ensures.case w (subst (Stands w) (sym c.in_ok-conflict.ensures.kept) is))

pub returns-in-Ready-clause-case : goal.returns-in-Ready-clause-case
returns-in-Ready-clause-case c = λ w outcome is.
    let p = c.args.self.now in
    let some : 0 < length (transaction_of p.txns c.args.session).actions =
    subst (λ (list : List Action). 0 < length list) c.actions.ensures (is_more (length c.actions.result.now) (sym c.is_empty.ensures ∙ c.if-is_empty.false)) in
    let next = subst (λ (n : Next). IsNext (store_of p) (transaction_of p.txns c.args.session) c.next_commit.new.self n) c.in-Ready.is c.in_ok-conflict.ensures.next in
    let kept = c.in_ok-conflict.ensures.kept in
    commit_written p c.args.session c.requires.whole c.requires.live w is outcome some next.free
    ∙ λ i. if_written (outcome (next_record (sym kept i) (sym next.actions_are i))) (next_record (sym kept i) (sym next.actions_are i)) (Some ((sym kept i).base.number + 1))
    (cases.with_commit c.args.session (transaction c.args.session w.visible) w.visible) w.visible
