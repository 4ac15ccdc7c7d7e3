use Rattle.lv_store.proofs.SmallInputs.{can_read}
use Rattle.lv_store.proofs.store.Store.keeps_links.Goals as goal

pub step_keeps_links-requires-clause-in_use : goal.step_keeps_links-requires-clause-in_use
step_keeps_links-requires-clause-in_use c = (can_read c.args.self.now c.args.step c.requires.can c.view.result.now c.view.ensures).in_use
