use Rattle.std.proofs.Common.{◌≡◌, map, drop}
use Rattle.lv_lines.specs.OrderLine.{items_from, items_of}
use Rattle.lv_lines.proofs.order_line.items_of.Given as goal

abbrev pub invariant-loop-word : goal.invariant-loop-word
invariant-loop-word l = items_from l.sessions l.wanted l.items (map (λ w. w.now) (drop l.word-index l.words)) ≡ items_of l.sessions (map (λ w. w.now) l.words)
