use Rattle.lv_made.proofs.AddedTasks.{AreAdded}
use Rattle.lv_made.proofs.tasks.add_tasks.Given as goal

abbrev pub invariant-loop-view : goal.invariant-loop-view
invariant-loop-view l = AreAdded l.number l.actions l.schema.views l.view l.fn.upkeep l.upkeep
