use Rattle.std.proofs.Common.{◌≡◌, drop}
use Rattle.lv_effect.specs.Bounds.{bound_in}
use Rattle.lv_effect.proofs.bounding.+bounded.Given as goal

abbrev pub invariant-bounded_by_parts-loop-part : goal.invariant-bounded_by_parts-loop-part
invariant-bounded_by_parts-loop-part l = bound_in l.side l.parts l.column ≡ bound_in l.side (drop l.part-index l.parts) l.column
