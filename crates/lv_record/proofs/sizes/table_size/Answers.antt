use Rattle.std.proofs.Common.{arith}
use Rattle.lv_record.proofs.Sums.{sum_of_equal}
use Rattle.lv_record.proofs.sizes.table_size.Goals as goal

pub returns-clause-size : goal.returns-clause-size
returns-clause-size c =
    let columns = rw c.as_slice.ensures at c.sizes-columns.ensures.size in
    let key = rw c.as_slice-2.ensures at c.sizes-key.ensures.size in
    omega (arith, c.text_size-name.ensures.size, columns, key, sum_of_equal 1 c.args.def.now.key, c.saturating_add.ensures, c.saturating_add-2.ensures)
