use Rattle.std.proofs.Common.{◌≡◌, ◌++◌, map, drop}
use Rattle.std.specs.List.{flat_map}
use Rattle.lv_bind.specs.Pieces.{item_columns}
use Rattle.lv_bind.specs.Seen.{column_seen}
use Rattle.lv_bind.proofs.pieces.push_items.Given as goal

abbrev pub invariant-loop-item : goal.invariant-loop-item
invariant-loop-item l =
    map column_seen l.out ++ flat_map item_columns (drop l.item-index l.items) ≡ map column_seen l.initial.out ++ flat_map item_columns l.items
