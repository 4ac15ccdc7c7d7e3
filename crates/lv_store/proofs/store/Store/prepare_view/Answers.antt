use Rattle.std.proofs.Common.{◌∙◌}
use Rattle.lv_store.proofs.MadeViews.{bound_now, same_indexed, same_store, same_whole}
use Rattle.lv_store.proofs.store.Store.prepare_view.Goals as goal

pub evaluated-requires-clause-whole : goal.evaluated-requires-clause-whole
evaluated-requires-clause-whole g c =
    same_whole c.args.self.now c.reserve_view.new.self (c.reserve_view.ensures.store ∙ same_store c.args.self.now c.index_links.new.base c.index_links.ensures.same) c.reserve_view.ensures.rows c.requires.whole

pub evaluated-requires-clause-bound : goal.evaluated-requires-clause-bound
evaluated-requires-clause-bound g c =
    bound_now c.args.self.now c.reserve_view.new.self c.requires.whole (c.reserve_view.ensures.store ∙ same_store c.args.self.now c.index_links.new.base c.index_links.ensures.same) c.args.def c.created_at-def.result c.requires.bound c.last.result c.last.ensures c.created_at-def.ensures

pub returns-clause-bound : goal.returns-clause-bound
returns-clause-bound g c =
    bound_now c.args.self.now c.reserve_view.new.self c.requires.whole (c.reserve_view.ensures.store ∙ same_store c.args.self.now c.index_links.new.base c.index_links.ensures.same) c.args.def c.created_at-def.result c.requires.bound c.last.result c.last.ensures c.created_at-def.ensures

pub returns-in_err-index_links-clause-kept : goal.returns-in_err-index_links-clause-kept
returns-in_err-index_links-clause-kept g c = same_store c.args.self.now c.index_links.new.base c.index_links.ensures.same

pub returns-in_err-index_links-clause-whole : goal.returns-in_err-index_links-clause-whole
returns-in_err-index_links-clause-whole g c = same_indexed c.args.self.now c.index_links.new.base c.index_links.ensures.same c.requires.whole

pub returns-in_err-reserve_view-clause-kept : goal.returns-in_err-reserve_view-clause-kept
returns-in_err-reserve_view-clause-kept g c = c.reserve_view.ensures.store ∙ same_store c.args.self.now c.index_links.new.base c.index_links.ensures.same

pub returns-in_err-reserve_view-clause-whole : goal.returns-in_err-reserve_view-clause-whole
returns-in_err-reserve_view-clause-whole g c =
    same_whole c.args.self.now c.reserve_view.new.self (c.reserve_view.ensures.store ∙ same_store c.args.self.now c.index_links.new.base c.index_links.ensures.same) c.reserve_view.ensures.rows c.requires.whole

pub returns-in_err-rows-clause-kept : goal.returns-in_err-rows-clause-kept
returns-in_err-rows-clause-kept g c = c.reserve_view.ensures.store ∙ same_store c.args.self.now c.index_links.new.base c.index_links.ensures.same

pub returns-in_err-rows-clause-whole : goal.returns-in_err-rows-clause-whole
returns-in_err-rows-clause-whole g c =
    same_whole c.args.self.now c.reserve_view.new.self (c.reserve_view.ensures.store ∙ same_store c.args.self.now c.index_links.new.base c.index_links.ensures.same) c.reserve_view.ensures.rows c.requires.whole

pub returns-clause-kept : goal.returns-clause-kept
returns-clause-kept g c = c.reserve_view.ensures.store ∙ same_store c.args.self.now c.index_links.new.base c.index_links.ensures.same

pub returns-clause-whole : goal.returns-clause-whole
returns-clause-whole g c =
    same_whole c.args.self.now c.reserve_view.new.self (c.reserve_view.ensures.store ∙ same_store c.args.self.now c.index_links.new.base c.index_links.ensures.same) c.reserve_view.ensures.rows c.requires.whole
