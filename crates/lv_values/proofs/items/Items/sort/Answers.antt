use Rattle.lv_values.proofs.Ascending.{ascending_from_sort}
use Rattle.lv_values.proofs.items.Items.sort.Goals as goal

pub returns : goal.returns
returns g c =
    ascending_from_sort g.T.Ord.cmp g.met.T.Ord.total g.met.T.Exact.exact _ _ c.sort_unstable.ensures.moved c.sort_unstable.ensures.sorted
