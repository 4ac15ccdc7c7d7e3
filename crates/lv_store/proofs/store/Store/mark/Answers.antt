use Rattle.lv_store.proofs.Marks.{marked_stands}
use Rattle.lv_store.proofs.WorkerSteps.{still_whole}
use Rattle.lv_store.proofs.store.Store.mark.Goals as goal

pub returns-clause-case : goal.returns-clause-case
returns-clause-case c = λ w is. marked_stands c.args.self.now c.args.view c.mark.new.self.kept c.mark.ensures.marked c.requires.moved c.workers_keep_what_stands.ensures.mark w is

pub returns-clause-whole : goal.returns-clause-whole
returns-clause-whole c =
    let p = c.args.self.now in
    let whole = c.requires.whole in
    still_whole p p.base c.mark.new.self p.rows whole whole.defs _ (marked_stands p c.args.view c.mark.new.self.kept c.mark.ensures.marked c.requires.moved c.workers_keep_what_stands.ensures.mark whole.world whole.stands)
