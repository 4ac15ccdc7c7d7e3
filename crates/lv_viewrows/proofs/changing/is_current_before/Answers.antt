use Rattle.std.proofs.Common.{◌≡◌, ◌-◌, ap, sym, ◌∙◌}
use Rattle.lv_shelf.proofs.Cutting.{got}
use Rattle.lv_viewrows.specs.Standing.{is_current}
use Rattle.lv_viewrows.proofs.changing.is_current_before.Goals as goal

pub returns-clause-last : goal.returns-clause-last
returns-clause-last c = λ v lt e.
    let vs = c.args.versions.now.list in
    let at = c.args.at - 1 in
    let item = c.get.result.now in
    let same : item ≡ v = sym (got vs at item item c.get.ensures) ∙ got vs at v item e in
    c.is_current.ensures ∙ ap (is_current c.args.row.now) same
