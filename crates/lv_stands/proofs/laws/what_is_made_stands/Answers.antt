use Rattle.lv_stands.proofs.Creates.{empty_stands, table_stands}
use Rattle.lv_stands.proofs.MadeViews.{view_stands}
use Rattle.lv_stands.proofs.laws.what_is_made_stands.Goals as goal

pub returns-clause-nothing : goal.returns-clause-nothing
returns-clause-nothing c = empty_stands

pub returns-clause-table : goal.returns-clause-table
returns-clause-table c = table_stands

pub returns-clause-view : goal.returns-clause-view
returns-clause-view c = view_stands
