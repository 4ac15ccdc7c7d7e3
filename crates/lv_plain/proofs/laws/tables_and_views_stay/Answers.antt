use Rattle.lv_plain.proofs.Fronts.{after_grows, given_grows}
use Rattle.lv_plain.proofs.laws.tables_and_views_stay.Goals as goal

pub returns-clause-event : goal.returns-clause-event
returns-clause-event c = given_grows

pub returns-clause-entries : goal.returns-clause-entries
returns-clause-entries c = after_grows
