use Rattle.lv_stands.proofs.Fetches.{fetch_stands}
use Rattle.lv_stands.proofs.MadeViews.{marked_stands}
use Rattle.lv_stands.proofs.Workers.{claimed_stands, released_stands, installed_stands, unclaimed_is_told}
use Rattle.lv_stands.proofs.laws.workers_keep_what_stands.Goals as goal

pub returns-clause-claim : goal.returns-clause-claim
returns-clause-claim c = claimed_stands

pub returns-clause-release : goal.returns-clause-release
returns-clause-release c = released_stands

pub returns-clause-install : goal.returns-clause-install
returns-clause-install c = installed_stands

pub returns-clause-unclaimed : goal.returns-clause-unclaimed
returns-clause-unclaimed c = unclaimed_is_told

pub returns-clause-mark : goal.returns-clause-mark
returns-clause-mark c = marked_stands

pub returns-clause-fetch : goal.returns-clause-fetch
returns-clause-fetch c = fetch_stands
