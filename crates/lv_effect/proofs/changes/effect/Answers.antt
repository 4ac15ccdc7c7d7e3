use Rattle.std.proofs.Common.{List, subst}
use Rattle.std.specs.Prelude.{IfOk}
use Rattle.lv_values.specs.declared.value.Value.{Value}
use Rattle.lv_overlay.specs.Puts.{rows_over}
use Rattle.lv_versions.specs.Versions.{state_at}
use Rattle.lv_effect.specs.Sums.{ChangeSumsFit, SumsFit}
use Rattle.lv_effect.proofs.TriedRows.{delete_tried, update_tried}
use Rattle.lv_effect.proofs.changes.effect.Goals as goal

pub update_effect-requires : goal.update_effect-requires
update_effect-requires g c =
    let merged = rows_over c.args.table.now.key c.args.own.now.list c.args.table.now.no (state_at c.args.n c.args.base.now.versions) in
    let all : SumsFit c.in-Update.sets merged = subst (λ ch. ChangeSumsFit ch merged) c.in-Update.is c.requires.sums in
    let tried : SumsFit c.in-Update.sets c.in_ok-tried-in-Update.tried =
    subst (λ r. IfOk r (λ (rows : List (List Value)). SumsFit c.in-Update.sets rows)) c.in_ok-tried-in-Update.was (c.rows_to_try.ensures.sums c.in-Update.sets all)
    in
    rw c.as_slice-in-Update.ensures tried

pub returns-in_ok-tried-in-Update-clause-given : goal.returns-in_ok-tried-in-Update-clause-given
returns-in_ok-tried-in-Update-clause-given g c =
    let merged = rows_over c.args.table.now.key c.args.own.now.list c.args.table.now.no (state_at c.args.n c.args.base.now.versions) in
    update_tried c.args.table.now c.args.change.now c.in-Update.no c.in-Update.sets c.as_slice-in-Update.result.now c.in-Update.cond c.in_ok-tried-in-Update.tried merged c.update_effect.result
    c.in-Update.is c.as_slice-in-Update.ensures c.in_ok-tried-in-Update.ensures.all (c.update_effect.ensures c.args.table.now)

pub returns-in_ok-tried-in-Delete-clause-given : goal.returns-in_ok-tried-in-Delete-clause-given
returns-in_ok-tried-in-Delete-clause-given g c =
    let merged = rows_over c.args.table.now.key c.args.own.now.list c.args.table.now.no (state_at c.args.n c.args.base.now.versions) in
    delete_tried c.args.table.now c.args.change.now c.in-Delete.no c.in-Delete.cond c.in_ok-tried-in-Delete.tried merged c.delete_effect.result
    c.in-Delete.is c.in_ok-tried-in-Delete.ensures.all (c.delete_effect.ensures c.args.table.now)
