use Rattle.std.proofs.Common.{◌≡◌, ◌∷◌, ◌∙◌, List, Ok, drop, length, sym, ap, ◌+◌, arith}
use Rattle.lv_schema.specs.declared.action.Action.{Action}
use Rattle.lv_schema.proofs.Replay.{keyed_database}
use Rattle.lv_overlay.specs.declared.put.Put.{Put}
use Rattle.lv_base.specs.Bases.{defs_of, last_state}
use Rattle.lv_loading.specs.Taking.{may_act, seen}
use Rattle.lv_loading.proofs.Acting.{act_step, act_told, drop_item}
use Rattle.lv_loading.proofs.actions.take_each.Goals as goal

pub loop-action-init : goal.loop-action-init
loop-action-init g c =
    let b = c.args.base.now in
    let actions = c.args.actions.now in (
      ap (λ (puts : List Put). may_act (defs_of b) (seen b puts) actions) (c.reserve.ensures.same ∙ c.requires.none) ∙ act_told (defs_of b) actions (last_state b) (keyed_database (defs_of b) (last_state b) c.requires.fits),
      c.in_ok-reserve.ensures.room,
    )

pub loop-action-preserved : goal.loop-action-preserved
loop-action-preserved g c =
    let b = c.args.base.now in
    let actions = c.args.actions.now in
    let i = c.loop-action.action-index in
    let split : drop i actions ≡ c.action-item.result ∷ drop (i + 1) actions = drop_item actions i c.action-item.result c.loop-action-test.true c.action-item.is in (
      act_step b c.action-item.result (drop (i + 1) actions) actions c.loop-action.earlier.list c.take_action.new.earlier.list
          (ap (may_act (defs_of b) (seen b c.loop-action.earlier.list)) (sym split) ∙ c.loop-action.invariant.0)
          (sym c.in_ok-take_action.ensures.taken ∙ c.if-not-branch.false)
          (c.take_action.ensures.left (c.in_ok-take_action.was ∙ ap Ok c.if-not-branch.false)),
      omega (arith, c.loop-action.invariant.1, ap (λ (xs : List Action). length xs) split, c.take_action.ensures.room),
    )
