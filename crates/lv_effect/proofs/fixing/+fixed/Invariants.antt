use Rattle.std.proofs.Common.{◌≡◌, drop}
use Rattle.std.specs.List.{list_any}
use Rattle.lv_effect.specs.FixedKeys.{says_column}
use Rattle.lv_effect.proofs.fixing.+fixed.Given as goal

abbrev pub invariant-fixed_by_parts-loop-part : goal.invariant-fixed_by_parts-loop-part
invariant-fixed_by_parts-loop-part l =
    list_any (λ part. says_column part l.column) l.parts ≡ list_any (λ part. says_column part l.column) (drop l.part-index l.parts)
