use Rattle.std.proofs.Common.{refl}
use Rattle.lv_replay.proofs.Maintained.{fetched_keeps, installed_keeps, marked_keeps}
use Rattle.lv_replay.proofs.laws.maintenance_leaves_what_its_records_make.Goals as goal

pub returns-clause-query : goal.returns-clause-query
returns-clause-query c = λ fs w. refl

pub returns-clause-fetch : goal.returns-clause-fetch
returns-clause-fetch c = λ settings worker w. fetched_keeps w settings worker

pub returns-clause-install : goal.returns-clause-install
returns-clause-install c = λ worker w. installed_keeps w worker

pub returns-clause-release : goal.returns-clause-release
returns-clause-release c = λ worker w. refl

pub returns-clause-mark : goal.returns-clause-mark
returns-clause-mark c = λ outcome v w steady lt. marked_keeps w outcome v steady lt

pub returns-clause-clean : goal.returns-clause-clean
returns-clause-clean c = λ w. refl
