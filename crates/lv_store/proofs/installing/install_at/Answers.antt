use Rattle.lv_store.proofs.WorkerSteps.{placed_installs}
use Rattle.lv_store.proofs.installing.install_at.Goals as goal

pub returns-clause-done : goal.returns-clause-done
returns-clause-done c = placed_installs c.install.result c.args.floor c.args.hi c.args.changes c.args.view c.args.views.now c.index-views-view.result c.install.new.rows c.requires.view c.install.ensures.done
