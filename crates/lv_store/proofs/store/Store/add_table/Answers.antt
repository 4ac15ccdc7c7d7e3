use Rattle.std.proofs.Common.{refl, ap}
use Rattle.lv_store.proofs.MadeTables.{table_stands, table_whole}
use Rattle.lv_store.proofs.store.Store.add_table.Goals as goal

pub returns-clause-case : goal.returns-clause-case
returns-clause-case c = λ w is.
    let p = c.args.self.now in
    table_stands p c.args.ready.def c.args.ready.copied p.schema c.add_table-2.new.self p.base c.add_table.new.self c.requires.ready.copied_is refl (ap (λ r. record p.schema { reserved = r }) c.requires.ready.named) c.add_table.ensures.kept c.add_table-2.ensures
    c.what_is_made_stands.ensures.table c.requires.whole c.requires.bound w is

pub returns-clause-whole : goal.returns-clause-whole
returns-clause-whole c =
    let p = c.args.self.now in
    table_whole p c.args.ready.def c.args.ready.copied p.schema c.add_table-2.new.self p.base c.add_table.new.self c.requires.ready.copied_is refl (ap (λ r. record p.schema { reserved = r }) c.requires.ready.named) c.add_table.ensures.kept c.add_table-2.ensures
    c.what_is_made_stands.ensures.table c.requires.whole c.requires.bound
