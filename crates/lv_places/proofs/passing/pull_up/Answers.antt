use Rattle.std.proofs.Common.{◌+◌, arith}
use Rattle.lv_places.proofs.Packed.{pulled_up}
use Rattle.lv_places.proofs.passing.pull_up.Goals as goal

pub returns : goal.returns
returns g c =
    let j = c.args.block in
    let bs = c.args.blocks.now.items in
    let moved = pulled_up g.row.SIZE c.args.len (j + 1) j c.pop_front-number.result bs c.pop_front-number.new.blocks.items c.push_back.new.blocks.items (omega arith) c.requires.last c.requires.lacks c.pop_front-number.ensures.rest c.pop_front-number.ensures.set c.push_back.ensures in
    record { same = moved.same; lacks = moved.but; count = moved.count }
