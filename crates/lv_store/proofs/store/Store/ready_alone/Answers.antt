use Rattle.std.proofs.Common.{◌≡◌, ◌<◌, List, Some, None, length, filter, sym, ap, ◌∙◌, subst, arith}
use Rattle.std.specs.Prelude.{slice_get}
use Rattle.std.specs.List.{range_with_len}
use Rattle.lv_schema.specs.declared.action.Action.{Action}
use Rattle.lv_schema.specs.declared.net.Net.{Net}
use Rattle.lv_schema.specs.Cases.{numbered}
use Rattle.lv_base.specs.Bases.{CanCommit, IsReady}
use Rattle.lv_made.specs.Limits.{is_full}
use Rattle.lv_store.proofs.AloneParts.{alone_can, alone_full, may_alone}
use Rattle.lv_store.specs.Kept.{store_of}
use Rattle.lv_schema.specs.declared.fault.Fault.{Fault}
use Rattle.lv_schema.specs.declared.fault.Fault.TheVariants.{MergedFull}
use Rattle.lv_store.proofs.store.Store.ready_alone.Goals as goal

pub prepare_moved-requires : goal.prepare_moved-requires
prepare_moved-requires c =
    let p = c.args.self.now in
    let e = c.requires.effect in
    let inside : 0 < 17 = omega arith in
    subst (λ (actions : List Action). CanCommit p.base actions) (sym c.edit_each.ensures) (alone_can p c.requires.whole 0 inside c.written_rows_stand_under_their_keys.ensures e.0 e.1 c.args.actions e.2)

pub returns-in-Some-clause-full : goal.returns-in-Some-clause-full
returns-in-Some-clause-full c = λ fault same.
    let p = c.args.self.now in
    let e = c.requires.effect in
    let inside : 0 < 17 = omega arith in
    let base = c.prepare_moved.new.self in
    let nets = c.in_ok-ready.ready.nets in
    let actions = c.in_ok-ready.ensures.actions ∙ c.edit_each.ensures in
    let ready : IsReady base (numbered 1 c.args.actions) nets = subst (λ (list : List Action). IsReady base list nets) actions c.in_ok-ready.ensures.ready in
    let here : MergedFull c.in-Some.table ≡ fault = cc in
    alone_full p c.requires.whole 0 inside c.written_rows_stand_under_their_keys.ensures e.0 e.1 c.args.actions e.2 base nets c.prepare_moved.ensures.kept ready (Some c.in-Some.table)
    (sym c.in-Some.is ∙ c.first_full.ensures ∙ ap (λ (list : List Net). slice_get (filter (is_full base list) (range_with_len 0 (length list))) 0) c.as_slice.ensures)
    ∙ ap (λ (f : Fault). Some f) here

pub returns-clause-may : goal.returns-clause-may
returns-clause-may c = λ session inside.
    let p = c.args.self.now in
    let e = c.requires.effect in
    let base = c.prepare_moved.new.self in
    let upkeep = c.reserve.new.self in
    let nets = c.in_ok-ready.ready.nets in
    let actions = c.in_ok-ready.ensures.actions ∙ c.edit_each.ensures in
    let ready : IsReady base (numbered 1 c.args.actions) nets = subst (λ (list : List Action). IsReady base list nets) actions c.in_ok-ready.ensures.ready in
    let same : store_of (record p { base = base; upkeep = upkeep }) ≡ store_of p = λ i. record (store_of p) { base = c.prepare_moved.ensures.kept i; upkeep = c.reserve.ensures.same i } in
    may_alone p c.requires.whole base upkeep same c.written_rows_stand_under_their_keys.ensures session inside e.0 e.1 c.args.actions e.2 c.in_ok-ready.ready actions
    (alone_full p c.requires.whole session inside c.written_rows_stand_under_their_keys.ensures e.0 e.1 c.args.actions e.2 base nets c.prepare_moved.ensures.kept ready None
    (sym c.in_default.is ∙ c.first_full.ensures ∙ ap (λ (list : List Net). slice_get (filter (is_full base list) (range_with_len 0 (length list))) 0) c.as_slice.ensures))
    c.in_ok-ready.ensures.ready (omega (arith, c.in_ok-reserve.ensures.room, c.views.ensures.count)) c.in_ok-check_numbers.ensures.number c.in_ok-check_numbers.ensures.entries
