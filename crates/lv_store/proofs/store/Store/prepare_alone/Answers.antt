use Rattle.std.proofs.Common.{◌≡◌, ◌+◌, None, Some, Err, List, length, sym, ap, ◌∙◌, subst}
use Rattle.std.specs.Prelude.{slice_set}
use Rattle.std.proofs.lemmas.Result.{err_from_is_err_and}
use Rattle.lv_schema.specs.declared.action.Action.{Action}
use Rattle.lv_schema.specs.Cases.{if_written, numbered, with_commit}
use Rattle.lv_schema.specs.World.{transaction}
use Rattle.lv_base.specs.Bases.{base_of}
use Rattle.lv_base.specs.declared.ready.Ready.{Ready}
use Rattle.lv_stands.specs.Moves.{full_in}
use Rattle.lv_store.specs.Alone.{IsEffectAlone, alone_kept, made_alone}
use Rattle.lv_store.specs.Answering.{with_visible}
use Rattle.lv_store.specs.Committing.{next_record}
use Rattle.lv_store.specs.Kept.{Stands, StoreKept, store_of}
use Rattle.lv_store.proofs.AloneParts.{alone_of_none, alone_unready, alone_written, made_stands, same_ready, second_none, some_there}
use Rattle.lv_store.proofs.store.Store.prepare_alone.Goals as goal

pub returns-then-is_empty-clause-case : goal.returns-then-is_empty-clause-case
returns-then-is_empty-clause-case g c = λ session w outcome inside free is.
    let p = c.args.self.now in
    let effect : IsEffectAlone (store_of p) c.args.change.now c.in_ok-count.count c.in_ok-count.actions = record { bound = c.requires.bound; effect = c.in_ok-count.ensures.given } in
    alone_of_none p c.requires.whole session inside c.written_rows_stand_under_their_keys.ensures c.args.change.now c.in_ok-count.count c.in_ok-count.actions effect w is outcome free
    (ap (λ (list : List Action). length list) (c.is_empty.ensures.0 c.if-is_empty.true))

pub returns-in_err-ready-clause-case : goal.returns-in_err-ready-clause-case
returns-in_err-ready-clause-case g c = λ session w outcome inside free is.
    let p = c.args.self.now in
    let effect : IsEffectAlone (store_of p) c.args.change.now c.in_ok-count.count c.in_ok-count.actions = record { bound = c.requires.bound; effect = c.in_ok-count.ensures.given } in
    let some = some_there c.in_ok-count.actions c.is_empty.result c.is_empty.ensures.1 c.if-is_empty.false in
    let e = err_from_is_err_and c.from_residual-in_err-ready.result c.from_residual-in_err-ready.ensures.1 in
    rw (e.1, e.2) (alone_unready p c.requires.whole session inside c.written_rows_stand_under_their_keys.ensures c.args.change.now c.in_ok-count.count c.in_ok-count.actions effect w is outcome c.in_err-ready.field-0.0 some (λ f same. c.in_err-ready.ensures.full f (λ i. Err (same i))))

pub returns-clause-case : goal.returns-clause-case
returns-clause-case g c = λ session w outcome inside free is.
    let p = c.args.self.now in
    let actions = c.in_ok-count.actions in
    let effect : IsEffectAlone (store_of p) c.args.change.now c.in_ok-count.count actions = record { bound = c.requires.bound; effect = c.in_ok-count.ensures.given } in
    let some = some_there actions c.is_empty.result c.is_empty.ensures.1 c.if-is_empty.false in
    let made = made_alone session c.args.change.now w.visible in
    let not_full : full_in p.schema.tables (base_of p.base) (numbered 1 actions) ≡ None =
    subst (λ (list : List Action). full_in p.schema.tables (base_of p.base) list ≡ None) c.in_ok-ready.ensures.actions
    (subst (λ (e : StoreKept). full_in e.tables e.base c.in_ok-ready.ready.actions ≡ None) c.in_ok-ready.ensures.kept (second_none _ _ (c.in_ok-ready.ensures.may session inside).may.free)) in
    alone_written p c.requires.whole session inside c.written_rows_stand_under_their_keys.ensures c.args.change.now c.in_ok-count.count actions effect w is outcome some not_full
    ∙ λ i. if_written (outcome (next_record (store_of p) (sym c.in_ok-ready.ensures.actions i))) (next_record (store_of p) (sym c.in_ok-ready.ensures.actions i)) (c.in_ok-count.count, Some (p.base.number + 1)) (with_commit session (transaction session made) made) w.visible

pub returns-clause-made : goal.returns-clause-made
returns-clause-made g c = λ count ready same session w inside is.
    let p = c.args.self.now in
    let actions = c.in_ok-count.actions in
    let effect : IsEffectAlone (store_of p) c.args.change.now c.in_ok-count.count actions = record { bound = c.requires.bound; effect = c.in_ok-count.ensures.given } in
    let here : c.in_ok-ready.ready ≡ ready = same_ready c.in_ok-count.count count c.in_ok-ready.ready ready same in
    let kept = sym c.in_ok-ready.ensures.kept in
    let acts = sym c.in_ok-ready.ensures.actions ∙ ap (λ (r : Ready). r.actions) here in
    subst (λ (e : StoreKept). Stands (with_visible (made_alone session c.args.change.now w.visible) w) e)
    (λ i. record (kept i) { sessions = slice_set (kept i).sessions session (Some (alone_kept (kept i) (acts i))) })
    (made_stands p c.requires.whole session inside c.written_rows_stand_under_their_keys.ensures c.args.change.now c.in_ok-count.count actions effect w is)
