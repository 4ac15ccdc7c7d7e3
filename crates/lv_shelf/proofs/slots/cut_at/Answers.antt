use Rattle.std.proofs.Common.{◌≡◌, ◌-◌, ◌≤◌, length, take, subst, arith}
use Rattle.std.proofs.lemmas.List.{take_all}
use Rattle.lv_shelf.specs.Cuts.{IsCut}
use Rattle.lv_shelf.specs.Shelves.{items_at}
use Rattle.lv_shelf.proofs.Shelved.{length_items}
use Rattle.lv_shelf.proofs.slots.cut_at.Goals as goal

pub returns-clause-cut : goal.returns-clause-cut
returns-clause-cut g c =
    let p = g.P.Test.passed c.args.test.now in
    let list = items_at c.args.slots.now c.args.places.now.list in
    let len = c.len-len.result in
    let cut = c.cut_between.result in
    let from : cut - 0 ≡ cut = omega arith in
    let all : length list ≤ len - 0 = omega (arith, length_items c.args.slots.now c.args.places.now.list c.requires.held, c.len-len.ensures) in
    subst (IsCut p cut) (take_all (len - 0) list all) (subst (λ n. IsCut p n (take (len - 0) list)) from c.cut_between.ensures.cut)
