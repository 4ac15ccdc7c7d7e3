use Rattle.std.proofs.Common.{sym, ◌∙◌}
use Rattle.lv_schema.specs.World.{table_at}
use Rattle.lv_bind.specs.Seen.{aliases, tables_of}
use Rattle.lv_bind.proofs.AssignedLemmas.{key_passed}
use Rattle.lv_bind.proofs.assigned.assigned_key.Goals as goal

pub loop-at-preserved : goal.loop-at-preserved
loop-at-preserved c =
    key_passed (aliases c.args.scope.now) (table_at (tables_of c.args.scope.now) c.args.table).key c.args.sets.now c.args.bound.now c.loop-at.at c.index-bound-at.result _
    c.requires c.loop-at-test.true c.index-bound-at.is (rw (← c.key-key.ensures) (sym c.is_key.ensures ∙ c.if-is_key.false)) c.loop-at.invariant
