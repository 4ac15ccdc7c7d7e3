use Rattle.std.proofs.Common.{◌+◌, arith}
use Rattle.lv_places.proofs.Packed.{passed_on}
use Rattle.lv_places.proofs.passing.pass_on.Goals as goal

pub returns : goal.returns
returns g c =
    let j = c.args.block in
    let bs = c.args.blocks.now.items in
    let moved = passed_on g.row.SIZE c.args.len (j + 1) j c.pop_back-number.result bs c.pop_back-number.new.blocks.items c.push_front.new.blocks.items (omega arith) c.requires.before c.requires.last c.requires.over c.pop_back-number.ensures.rest c.pop_back-number.ensures.set c.push_front.ensures in
    record { same = moved.same; over = moved.but; count = moved.count }
