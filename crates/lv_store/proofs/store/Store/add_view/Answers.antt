use Rattle.lv_store.proofs.MadeViews.{added_stands, added_whole}
use Rattle.lv_store.proofs.store.Store.add_view.Goals as goal

pub returns-clause-case : goal.returns-clause-case
returns-clause-case c = λ w is.
    added_stands c.args.self.now c.push_view.new.self c.args.ready.def c.requires.bound c.requires.ready.created c.args.ready.rows c.requires.ready.made c.push_view.ensures.store c.push_view.ensures.rows c.requires.nobody c.what_is_made_stands.ensures.view w is

pub returns-clause-whole : goal.returns-clause-whole
returns-clause-whole c =
    added_whole c.args.self.now c.push_view.new.self c.args.ready.def c.requires.bound c.requires.ready.created c.args.ready.rows c.requires.ready.made c.push_view.ensures.store c.push_view.ensures.rows c.requires.nobody c.what_is_made_stands.ensures.view c.requires.whole
