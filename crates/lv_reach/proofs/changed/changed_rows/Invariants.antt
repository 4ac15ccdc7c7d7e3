use Rattle.std.proofs.Common.{◌≡◌, ◌++◌, drop}
use Rattle.lv_schema.specs.declared.part.Part.{Part}
use Rattle.lv_reach.specs.Reach.{rows_from, changed_rows}
use Rattle.lv_reach.proofs.changed.changed_rows.Given as goal

abbrev pub invariant-loop-part : goal.invariant-loop-part
invariant-loop-part l = (l.alias ≡ l.part-index) × (l.rows ++ rows_from (λ (p : Part). p.minus ++ p.plus) l.part-index (drop l.part-index l.parts) ≡ changed_rows l.parts)
