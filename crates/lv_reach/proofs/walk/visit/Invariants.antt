use Rattle.std.proofs.Common.{◌≡◌, ◌+◌, ◌≤◌, Some, filter, length, slice_get}
use Rattle.lv_reach.specs.declared.rows.AliasRow.{AliasRow}
use Rattle.lv_reach.specs.Questions.{AreAnswered, ask_all, found_by, questions_below}
use Rattle.lv_reach.specs.Reach.{agree}
use Rattle.lv_reach.specs.Walk.{put_all, rows_below}
use Rattle.lv_reach.proofs.walk.visit.Given as goal

abbrev pub invariant-loop-alias : goal.invariant-loop-alias
invariant-loop-alias g l = record {
  asked : (a : AliasRow) → slice_get l.initial.near l.at ≡ Some a → l.asked ≡ ask_all (questions_below l.links a l.alias) l.initial.asked;
  near : (a : AliasRow) → slice_get l.initial.near l.at ≡ Some a → l.near ≡ put_all (filter (agree l.links a) (rows_below (g.S.OldRows.rows l.source) l.alias)) l.initial.near;
  answered : AreAnswered l.links (g.S.OldRows.rows l.source) l.asked l.near;
  cost : l.steps + found_by l.links (g.S.OldRows.rows l.source) l.initial.asked ≡ l.initial.steps + found_by l.links (g.S.OldRows.rows l.source) l.asked;
  most : (a : AliasRow) → slice_get l.initial.near l.at ≡ Some a → l.steps ≤ l.initial.steps + length (filter (agree l.links a) (rows_below (g.S.OldRows.rows l.source) l.alias));
}
