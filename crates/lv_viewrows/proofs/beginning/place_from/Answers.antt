use Rattle.std.proofs.Common.{◌≡◌, ◌<◌, length, option_copied, Some, take, arith, sym, ◌∙◌, subst}
use Rattle.std.specs.Prelude.{slice_get}
use Rattle.lv_shelf.proofs.Cutting.{got, got_within}
use Rattle.lv_viewrows.specs.declared.version.GroupVersion.{GroupVersion}
use Rattle.lv_viewrows.specs.Beginning.{AllBelow}
use Rattle.lv_viewrows.proofs.FirstValue.{all_before, all_have_values, below_falls_first, lt_of}
use Rattle.lv_viewrows.proofs.beginning.place_from.Goals as goal
use Rattle.lv_viewrows.proofs.beginning.place_from.Goals.{else-len-gt0-via-then-len-gt0+else-not-has_value, else-len-gt0-via-else-len-gt0}

pub cut-requires : goal.cut-requires
cut-requires c = below_falls_first c.in-Some.low.now c.args.versions.now c.requires

pub returns : goal.returns
returns c =
    let list = c.args.versions.now in
    let has : (v : GroupVersion) → slice_get list 0 ≡ Some v → 0 < length v.group.row = elim c.else-len-gt0.branch [
      | else-len-gt0-via-then-len-gt0+else-not-has_value w ↦ λ v e.
          let same : w.get.result.now ≡ v = sym (got list 0 w.get.result.now v w.get.ensures) ∙ got list 0 v v e in
          subst (λ (x : GroupVersion). 0 < length x.group.row) same (lt_of 0 (length w.get.result.now.group.row) (sym w.has_value.ensures ∙ w.if-not-has_value.false))
      | else-len-gt0-via-else-len-gt0 w ↦ λ v e. absurd (omega (arith, w.if-len-gt0.false, c.len.ensures, got_within list 0 v e))
    ] in
    subst (λ o. AllBelow (option_copied o) (take c.cut.result list)) (sym c.in-Some.is) (all_before c.in-Some.low.now c.cut.result list (all_have_values list c.requires has) c.cut.ensures.cut)
