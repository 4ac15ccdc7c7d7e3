use Rattle.std.proofs.Common.{◌≡◌, ◌+◌, ◌-◌, ◌^◌, ◌≤◌, drop, min}
use Rattle.std.specs.List.{list_all, sum_by}
use Rattle.lv_record.proofs.sizes.sizes.Given as goal

abbrev pub invariant-loop-piece : goal.invariant-loop-piece
invariant-loop-piece g l =
    (min (l.sum + sum_by g.T.Piece.bytes (drop l.piece-index l.pieces)) (2 ^ 64 - 1) ≡ min (sum_by g.T.Piece.bytes l.initial.pieces) (2 ^ 64 - 1))
    × (l.sum ≤ 2 ^ 64 - 1) × (list_all g.T.Piece.typed (drop l.piece-index l.pieces) ≡ list_all g.T.Piece.typed l.initial.pieces)
