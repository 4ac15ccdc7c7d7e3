use Rattle.std.proofs.Common.{sym, subst}
use Rattle.lv_replay.specs.Replayed.{state_of}
use Rattle.lv_store.specs.declared.store.Store.{Store}
use Rattle.lv_store.specs.Kept.{StoreKept, Stands, store_of}
use Rattle.lv_recover.specs.Reopened.{IsFreshAt}
use Rattle.lv_recover.proofs.Told.{ok_is}
use Rattle.lv_recover.proofs.opening.finish.Goals as goal

pub returns-in-Ok-clause-made : goal.returns-in-Ok-clause-made
returns-in-Ok-clause-made g c =
    let read = c.requires.read in
    let stands = ok_is (λ (s : Store). Stands (state_of read.0) (store_of s)) c.make_store.result c.in-Ok.store c.in-Ok.is (c.make_store.ensures.stands read.0 read.1.loads) in (
      read.0,
      record {
        ends = read.2;
        apply = read.1.loads.apply;
        stands = c.make_engine.ensures.stands read.0 c.args.loading read.1 stands;
        records = c.make_engine.ensures.records read.0 c.args.loading read.1;
      },
    )

pub returns-in-Ok-clause-fresh : goal.returns-in-Ok-clause-fresh
returns-in-Ok-clause-fresh g c =
    let read = c.requires.read in
    let fresh = ok_is (λ (s : Store). IsFreshAt (store_of s)) c.make_store.result c.in-Ok.store c.in-Ok.is (c.make_store.ensures.fresh read.0 read.1.loads) in
    subst (λ (s : StoreKept). IsFreshAt s) (sym c.make_engine.ensures.store) fresh
