use Rattle.std.proofs.Common.{◌≡◌, drop, map}
use Rattle.lv_schema.specs.JoinViews.{plain_columns}
use Rattle.lv_schema.specs.Bound.{are_among}
use Rattle.lv_schema.proofs.profile.key_listed.Given as goal

abbrev pub invariant-loop-column : goal.invariant-loop-column
invariant-loop-column l =
    are_among (map (λ k. record { alias = l.alias; column = k }) (drop l.column-index l.key)) (plain_columns l.items) ≡ are_among (map (λ k. record { alias = l.alias; column = k }) l.key) (plain_columns l.items)
