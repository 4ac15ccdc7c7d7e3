use Rattle.std.proofs.Common.{◌≡◌, ◌≤◌, drop, length, map}
use Rattle.lv_joining.specs.Joining.{are_met}
use Rattle.lv_joining.proofs.stand_ins.are_met.Given as goal

abbrev pub invariant-loop-new : goal.invariant-loop-new
invariant-loop-new l = (l.met ≤ length l.rows) × (are_met l.key l.columns (map (λ row. row.now) (drop l.met l.rows)) (map (λ row. row.now) (drop l.new-index l.others)) ≡ are_met l.key l.columns (map (λ row. row.now) l.rows) (map (λ row. row.now) l.others))
