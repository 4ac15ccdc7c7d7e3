use Rattle.std.proofs.Common.{option_copied, drop, sym, subst}
use Rattle.lv_viewrows.specs.Beginning.{AllAbove}
use Rattle.lv_viewrows.proofs.FirstValue.{all_behind_of, up_to_falls}
use Rattle.lv_viewrows.proofs.beginning.place_behind.Goals as goal

pub cut-requires : goal.cut-requires
cut-requires c = up_to_falls c.in-Some.high.now c.args.versions.now c.requires

pub returns-in-Some-clause-behind : goal.returns-in-Some-clause-behind
returns-in-Some-clause-behind c =
    let list = c.args.versions.now in
    subst (λ o. AllAbove (option_copied o) (drop c.cut.result list)) (sym c.in-Some.is) (all_behind_of c.in-Some.high.now c.cut.result list c.cut.ensures.cut)
