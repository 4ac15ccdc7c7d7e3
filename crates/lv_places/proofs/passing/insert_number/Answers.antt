use Rattle.std.proofs.Common.{◌≡◌, ◌/◌, ◌∙◌, ap, refl, length, arith}
use Rattle.std.proofs.lemmas.List.{length-set}
use Rattle.std.specs.List.{concat}
use Rattle.lv_places.proofs.Packed.{below_end, in_block, packed_on, put_in}
use Rattle.lv_places.proofs.passing.insert_number.Goals as goal

pub returns-clause-added : goal.returns-clause-added
returns-clause-added g c = c.pass_all.ensures.same ∙ ap concat c.insert_in.ensures ∙ put_in g.row.SIZE c.args.len c.args.blocks.now.items c.args.at c.args.number c.requires.size c.requires.packed c.requires.place c.requires.room

pub returns-clause-packed : goal.returns-clause-packed
returns-clause-packed g c =
    let n = c.args.len in
    let bs = c.args.blocks.now.items in
    let j = n / g.row.SIZE in
    let new = c.pass_all.new.blocks.items in
    let within = in_block g.row.SIZE n j c.requires.size refl in
    let long : length new ≡ length bs = c.pass_all.ensures.count ∙ ap length c.insert_in.ensures ∙ length-set bs (c.args.at / g.row.SIZE) _ in
    packed_on g.row.SIZE n j new within.0 within.1 (omega (arith, long, below_end g.row.SIZE n (length bs) c.requires.size c.requires.room)) c.pass_all.ensures.over
