use Rattle.lv_make.proofs.MadeSales.{sales_are_in_order}
use Rattle.lv_make.proofs.laws.sales_are_in_order.Goals as goal

pub returns : goal.returns
returns c = sales_are_in_order
