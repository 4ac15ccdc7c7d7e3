use Rattle.std.proofs.Common.{◌≡◌, ◌-◌, ◌≤◌, ◌*◌, ◌/◌, ◌∙◌, ap, refl, length, arith}
use Rattle.std.proofs.lemmas.List.{length-set}
use Rattle.std.specs.List.{concat}
use Rattle.lv_places.proofs.Packed.{in_block, packed_back, taken_in}
use Rattle.lv_places.proofs.passing.remove_number.Goals as goal

pub returns-clause-rest : goal.returns-clause-rest
returns-clause-rest g c = c.pull_all.ensures.same ∙ ap concat c.remove_in.ensures ∙ taken_in g.row.SIZE c.args.len c.args.blocks.now.items c.args.at c.requires.size c.requires.packed c.requires.place

pub returns-clause-packed : goal.returns-clause-packed
returns-clause-packed g c =
    let n = c.args.len in
    let m = n - 1 in
    let bs = c.args.blocks.now.items in
    let j = m / g.row.SIZE in
    let new = c.pull_all.new.blocks.items in
    let within = in_block g.row.SIZE m j c.requires.size refl in
    let long : length new ≡ length bs = c.pull_all.ensures.count ∙ ap length c.remove_in.ensures ∙ length-set bs (c.args.at / g.row.SIZE) _ in
    let fit : n ≤ g.row.SIZE * length new = omega (arith, c.requires.packed.fits, ap (λ k. g.row.SIZE * k) long) in
    packed_back g.row.SIZE n m j new (omega (arith, c.requires.place)) within.0 within.1 fit c.pull_all.ensures.lacks
