use Rattle.std.proofs.Common.{◌%◌, ◌∙◌, ap, length, drop, take}
use Rattle.lv_places.proofs.Packed.{run_in}
use Rattle.lv_places.proofs.passing.run_at.Goals as goal

pub returns-clause-run : goal.returns-clause-run
returns-clause-run g c =
    let at = c.args.at in
    let r = c.run.result.now in
    run_in g.row.SIZE c.args.len c.args.blocks.now at r c.requires.size c.requires.packed c.requires.place (c.run.ensures.run ∙ ap (λ b. take (length r) (drop (at % g.row.SIZE) b)) c.block_in.ensures)
