use Rattle.std.proofs.Common.{ap}
use Rattle.lv_base.specs.Bases.{BaseRoom}
use Rattle.lv_base.proofs.Reindexed.{same_commit, same_defs, same_kept, same_long, same_ready, same_spare, same_state}
use Rattle.lv_base.proofs.laws.indexes_are_not_kept.Goals as goal

pub returns : goal.returns
returns c = record {
  kept = same_kept;
  tables = same_defs;
  state = same_state;
  long = same_long;
  deltas = λ old new e. ap (λ (b : BaseRoom). b.deltas) e;
  free = λ old new e. ap (λ (b : BaseRoom). b.free) e;
  room = λ old new t e. same_spare old new e t;
  commit = λ old new actions e can. same_commit old new e actions can;
  ready = λ old new actions nets e is. same_ready old new e actions nets is;
}
