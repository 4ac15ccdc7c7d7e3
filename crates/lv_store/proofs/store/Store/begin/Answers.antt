use Rattle.std.proofs.Common.{refl, Some}
use Rattle.lv_txn.specs.Kept.{begun}
use Rattle.lv_store.specs.Kept.{kept, store_of}
use Rattle.lv_store.proofs.Standing.{begun_live, begun_stands, with_transactions}
use Rattle.lv_store.proofs.store.Store.begin.Goals as goal

pub returns-clause-case : goal.returns-clause-case
returns-clause-case c = λ w is. begun_stands c.transactions_come_and_go.ensures.begin c.args.self.now c.begin.new.self c.args.session c.last-snapshot.result c.begin.ensures c.last-snapshot.ensures w is

pub returns-clause-live : goal.returns-clause-live
returns-clause-live c =
    let whole = c.requires.whole in
    begun_live c.args.self.now c.begin.new.self c.args.session c.last-snapshot.result c.begin.ensures c.last-snapshot.ensures
    (c.what_stands_is_whole.ensures.lengths whole.world (kept whole.world.upkeep.journal (store_of c.args.self.now)) whole.stands).1 c.requires.session

pub returns-clause-whole : goal.returns-clause-whole
returns-clause-whole c =
    let whole = c.requires.whole in
    with_transactions c.args.self.now c.begin.new.self c.args.session (Some (begun c.last-snapshot.result)) whole c.begin.ensures (λ n. refl) _
    (begun_stands c.transactions_come_and_go.ensures.begin c.args.self.now c.begin.new.self c.args.session c.last-snapshot.result c.begin.ensures c.last-snapshot.ensures whole.world whole.stands).1
