use Rattle.lv_store.proofs.WorkerSteps.{claim_is_free, released_stands, still_whole}
use Rattle.lv_store.proofs.store.Store.release.Goals as goal

pub returns-clause-case : goal.returns-clause-case
returns-clause-case c = λ w is. released_stands c.args.self.now c.args.worker c.end_claim.new.self.kept c.end_claim.ensures.claimed w is

pub returns-clause-free : goal.returns-clause-free
returns-clause-free c =
    let whole = c.requires.whole in
    claim_is_free c.args.self.now c.args.worker c.end_claim.new.self.kept c.end_claim.ensures.claimed whole.world whole.stands c.requires.worker

pub returns-clause-whole : goal.returns-clause-whole
returns-clause-whole c =
    let p = c.args.self.now in
    let whole = c.requires.whole in
    still_whole p p.base c.end_claim.new.self p.rows whole whole.defs _ (released_stands p c.args.worker c.end_claim.new.self.kept c.end_claim.ensures.claimed whole.world whole.stands)
