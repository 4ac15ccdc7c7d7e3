use Rattle.std.proofs.Common.{None, refl}
use Rattle.lv_store.proofs.Standing.{ended_stands, with_transactions}
use Rattle.lv_store.proofs.store.Store.rollback.Goals as goal

pub returns-clause-case : goal.returns-clause-case
returns-clause-case c = λ w is. ended_stands c.transactions_come_and_go.ensures.rollback c.args.self.now c.end.new.self c.args.session c.end.ensures w is

pub returns-clause-whole : goal.returns-clause-whole
returns-clause-whole c =
    let whole = c.requires.whole in
    with_transactions c.args.self.now c.end.new.self c.args.session None whole c.end.ensures (λ n. refl) _
    (ended_stands c.transactions_come_and_go.ensures.rollback c.args.self.now c.end.new.self c.args.session c.end.ensures whole.world whole.stands)
