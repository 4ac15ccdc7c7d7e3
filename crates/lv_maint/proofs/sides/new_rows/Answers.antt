use Rattle.std.proofs.Common.{◌++◌, ◌∙◌}
use Rattle.lv_maint.specs.Terms.{without}
use Rattle.lv_maint.proofs.Balance.{kept_is}
use Rattle.lv_maint.proofs.sides.new_rows.Goals as goal

pub returns : goal.returns
returns c =
    c.in_ok-add_references.ensures
    ∙ (λ i. (c.in_ok-rows.ensures ∙ λ k. without (c.as_slice.ensures k) (c.as_slice-2.ensures k)) i ++ c.as_slice-3.ensures i)
    ∙ kept_is c.args.part.now c.requires
