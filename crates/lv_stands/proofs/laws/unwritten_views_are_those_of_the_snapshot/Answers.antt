use Rattle.lv_stands.proofs.OwnViews.{own_view_is}
use Rattle.lv_stands.proofs.laws.unwritten_views_are_those_of_the_snapshot.Goals as goal

pub returns : goal.returns
returns c = own_view_is
