use Rattle.std.proofs.Common.{◌%◌, ◌∙◌, ap, get_or}
use Rattle.lv_places.proofs.Packed.{got_in}
use Rattle.lv_places.proofs.passing.number_at.Goals as goal

pub returns : goal.returns
returns g c =
    let at = c.args.at in
    let d = c.at.result in
    c.at.ensures ∙ ap (λ b. get_or b (at % g.row.SIZE) d) c.block_in.ensures ∙ got_in g.row.SIZE c.args.len c.args.blocks.now at d c.requires.size c.requires.packed c.requires.place
