use Rattle.std.proofs.Common.{ap, ◌∙◌}
use Rattle.lv_loading.specs.Taking.{allows}
use Rattle.lv_loading.proofs.Acting.{read_seen}
use Rattle.lv_loading.proofs.actions.may_stand.Goals as goal

pub returns-in-None : goal.returns-in-None
returns-in-None g c =
    let action = c.args.action.now in
    c.allows-in-None.ensures
    ∙ ap (allows action.kind action.row)
    (read_seen c.args.base.now c.args.earlier.now.list action.table c.args.key.now c.read.result c.versions-versions.result.now c.last.result c.versions-versions.ensures.versions c.last.ensures c.in-None.ensures c.read.ensures.found)
