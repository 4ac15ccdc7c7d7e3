use Rattle.std.proofs.Common.{◌≡◌, ◌+◌, ◌-◌, ◌≤◌, ◌^◌, length, take}
use Rattle.lv_reach.specs.Cost.{looked_up}
use Rattle.lv_reach.specs.Questions.{AreAnswered, found_by, questions_of}
use Rattle.lv_reach.specs.Reach.{with_old}
use Rattle.lv_reach.specs.Walk.{IsWalk}
use Rattle.lv_reach.proofs.walk.walk.Given as goal

abbrev pub invariant-loop-at : goal.invariant-loop-at
invariant-loop-at g l = record {
  walk : IsWalk l.links (with_old (g.S.OldRows.rows l.source) l.parts) l.initial.near l.near l.at;
  asked : l.asked ≡ questions_of l.links (length l.parts) (take l.at l.near);
  answered : AreAnswered l.links (g.S.OldRows.rows l.source) l.asked l.near;
  once : l.steps ≡ l.initial.steps + found_by l.links (g.S.OldRows.rows l.source) l.asked;
  cost : l.steps ≤ l.initial.steps + looked_up l.links (with_old (g.S.OldRows.rows l.source) l.parts) (take l.at l.near);
}

abbrev pub decreases-loop-at : goal.decreases-loop-at
decreases-loop-at g l = 2 ^ 64 - l.at
