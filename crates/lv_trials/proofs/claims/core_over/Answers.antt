use Rattle.lv_core.proofs.FromRecords.{opened_from}
use Rattle.lv_trials.proofs.claims.core_over.Goals as goal

pub new-requires-clause-records : goal.new-requires-clause-records
new-requires-clause-records g c =
    let opened = c.in-Ok.ensures.opened in
    (opened.0, opened_from _ _ opened.0 c.in-Ok.engine c.in-Ok.ensures.fresh opened.1.apply opened.1.stands opened.1.records)
