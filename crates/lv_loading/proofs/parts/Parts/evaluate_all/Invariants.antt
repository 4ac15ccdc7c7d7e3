use Rattle.lv_loading.specs.Making.{AreMade}
use Rattle.lv_loading.proofs.parts.Parts.evaluate_all.Given as goal

abbrev pub invariant-loop-view : goal.invariant-loop-view
invariant-loop-view g l = AreMade l.self l.view l.rows.list
