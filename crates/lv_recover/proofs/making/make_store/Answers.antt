use Rattle.lv_loading.specs.Loads.{KnowViews, loaded_kept}
use Rattle.lv_loading.specs.declared.loaded.Loaded.{Loaded}
use Rattle.lv_replay.specs.Replayed.{state_of}
use Rattle.lv_stands.specs.Stands.{StandsFor}
use Rattle.lv_store.specs.declared.store.Store.{Store}
use Rattle.lv_recover.proofs.FreshStores.{fresh_with, stands_with, whole_with}
use Rattle.lv_recover.proofs.Told.{ok_is}
use Rattle.lv_recover.proofs.making.make_store.Goals as goal

pub returns-clause-whole : goal.returns-clause-whole
returns-clause-whole g c = λ recs h.
    let l = c.in_ok-schema.field-0 in
    let p : Store = record { settings = c.args.settings; schema = l.schema; base = l.base; upkeep = l.upkeep; rows = l.rows; txns = c.in_ok-txns.txns } in
    let stands = ok_is (λ (x : Loaded). StandsFor (state_of recs) (loaded_kept (state_of recs).upkeep.journal x)) c.finish.result l c.in_ok-schema.was (c.finish.ensures.stands recs h) in
    let defs = ok_is KnowViews c.finish.result l c.in_ok-schema.was c.finish.ensures.defs in
    whole_with (state_of recs) p c.in_ok-txns.ensures c.requires (stands_with (state_of recs) p c.in_ok-txns.ensures stands) defs

pub returns-clause-stands : goal.returns-clause-stands
returns-clause-stands g c = λ recs h.
    let l = c.in_ok-schema.field-0 in
    let p : Store = record { settings = c.args.settings; schema = l.schema; base = l.base; upkeep = l.upkeep; rows = l.rows; txns = c.in_ok-txns.txns } in
    stands_with (state_of recs) p c.in_ok-txns.ensures (ok_is (λ (x : Loaded). StandsFor (state_of recs) (loaded_kept (state_of recs).upkeep.journal x)) c.finish.result l c.in_ok-schema.was (c.finish.ensures.stands recs h))

pub returns-clause-fresh : goal.returns-clause-fresh
returns-clause-fresh g c = λ recs h.
    let l = c.in_ok-schema.field-0 in
    let p : Store = record { settings = c.args.settings; schema = l.schema; base = l.base; upkeep = l.upkeep; rows = l.rows; txns = c.in_ok-txns.txns } in
    let stands = ok_is (λ (x : Loaded). StandsFor (state_of recs) (loaded_kept (state_of recs).upkeep.journal x)) c.finish.result l c.in_ok-schema.was (c.finish.ensures.stands recs h) in
    fresh_with (state_of recs) p c.in_ok-txns.ensures (stands_with (state_of recs) p c.in_ok-txns.ensures stands) h.stands.stopped
