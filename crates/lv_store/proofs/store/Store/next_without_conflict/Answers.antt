use Rattle.std.proofs.Common.{List, Some, None, length, filter, sym, ap, ap₂, ◌∙◌, subst, arith}
use Rattle.std.specs.Prelude.{slice_get}
use Rattle.std.specs.List.{range_with_len}
use Rattle.lv_schema.specs.declared.action.Action.{Action}
use Rattle.lv_schema.specs.Effects.{first_fault}
use Rattle.lv_schema.specs.declared.net.Net.{Net}
use Rattle.lv_txn.specs.Kept.{transaction_of}
use Rattle.lv_base.specs.Bases.{CanCommit, IsReady}
use Rattle.lv_made.specs.Limits.{is_full}
use Rattle.lv_store.proofs.Commits.{can_commit, full_told}
use Rattle.lv_store.proofs.store.Store.next_without_conflict.Goals as goal

pub prepare-requires : goal.prepare-requires
prepare-requires c =
    let p = c.args.self.now in
    subst (λ (actions : List Action). CanCommit p.base actions) (sym c.actions.ensures) (can_commit p c.args.session c.requires.whole c.requires.live c.requires.free)

pub returns-in-Some-clause-next : goal.returns-in-Some-clause-next
returns-in-Some-clause-next c =
    let p = c.args.self.now in
    let k = transaction_of p.txns c.args.session in
    let base = c.prepare.new.self in
    let nets = c.in_ok-ready.ready.nets in
    let actions = c.in_ok-ready.ensures.actions ∙ c.actions.ensures in
    let ready : IsReady base k.actions nets = subst (λ (list : List Action). IsReady base list nets) actions c.in_ok-ready.ensures.ready in
    ap₂ (λ conflict full. first_fault conflict full) c.requires.free
    (full_told p c.args.session c.requires.whole c.requires.live base nets c.prepare.ensures.kept ready (Some c.in-Some.table) (sym c.in-Some.is ∙ c.first_full.ensures ∙ ap (λ (list : List Net). slice_get (filter (is_full base list) (range_with_len 0 (length list))) 0) c.as_slice.ensures))

pub returns-clause-next : goal.returns-clause-next
returns-clause-next c =
    let p = c.args.self.now in
    let k = transaction_of p.txns c.args.session in
    let base = c.prepare.new.self in
    let nets = c.in_ok-ready.ready.nets in
    let actions = c.in_ok-ready.ensures.actions ∙ c.actions.ensures in
    let ready : IsReady base k.actions nets = subst (λ (list : List Action). IsReady base list nets) actions c.in_ok-ready.ensures.ready in
    record {
      free = ap₂ (λ conflict full. first_fault conflict full) c.requires.free
          (full_told p c.args.session c.requires.whole c.requires.live base nets c.prepare.ensures.kept ready None (sym c.in_default.is ∙ c.first_full.ensures ∙ ap (λ (list : List Net). slice_get (filter (is_full base list) (range_with_len 0 (length list))) 0) c.as_slice.ensures));
      actions_are = actions;
      ready = c.in_ok-ready.ensures.ready;
      room = omega (arith, c.in_ok-reserve.ensures.room, c.views.ensures.count);
      number = c.in_ok-check_numbers.ensures.number;
      entries = c.in_ok-check_numbers.ensures.entries;
    }
