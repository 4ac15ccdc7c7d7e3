use Rattle.lv_stands.proofs.CommitCases.{commit_stands}
use Rattle.lv_stands.proofs.laws.commits_keep_what_stands.Goals as goal

pub returns : goal.returns
returns c = commit_stands
