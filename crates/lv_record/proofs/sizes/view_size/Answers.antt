use Rattle.std.proofs.Common.{arith}
use Rattle.lv_record.proofs.Sums.{sum_of_equal}
use Rattle.lv_record.proofs.sizes.view_size.Goals as goal

pub returns-clause-size : goal.returns-clause-size
returns-clause-size c =
    let items = rw c.as_slice.ensures at c.sizes-items.ensures.size in
    let groups = rw c.as_slice-2.ensures at c.sizes-groups.ensures.size in
    omega (arith, c.text_size-name.ensures.size, c.len-tables.ensures, c.cond_size-cond.ensures.size, items, groups, sum_of_equal 2 c.args.def.now.groups, c.saturating_add.ensures, c.saturating_add-2.ensures, c.saturating_add-3.ensures)
