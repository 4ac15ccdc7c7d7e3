use Rattle.std.proofs.Common.{◌≡◌, drop}
use Rattle.std.specs.List.{flat_map, enumerate_from}
use Rattle.lv_schema.specs.Bound.{key_cols, all_key_cols}
use Rattle.lv_schema.specs.JoinViews.{plain_columns}
use Rattle.lv_schema.specs.Bound.{are_among}
use Rattle.lv_schema.proofs.profile.keys_listed.Given as goal

abbrev pub invariant-loop-alias : goal.invariant-loop-alias
invariant-loop-alias l =
    are_among (flat_map (key_cols l.schema.tables) (enumerate_from l.alias (drop l.alias l.numbers))) (plain_columns l.items) ≡ are_among (all_key_cols l.schema.tables l.numbers) (plain_columns l.items)
