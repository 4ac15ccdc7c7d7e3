use Rattle.std.proofs.Common.{ℕ, List, Option, length, not, sym, ap, ◌∙◌, subst, arith}
use Rattle.std.specs.Prelude.{is_some, slice_get}
use Rattle.std.specs.List.{filter, range_with_len}
use Rattle.lv_schema.specs.declared.action.Action.{Action}
use Rattle.lv_schema.specs.declared.net.Net.{Net}
use Rattle.lv_base.specs.Bases.{IsReady}
use Rattle.lv_made.specs.Limits.{is_full}
use Rattle.lv_loading.proofs.TakenCommits.{few_is}
use Rattle.lv_loading.proofs.parts.Parts.prepare.Goals as goal

pub returns-then-is_some-clause-prepared : goal.returns-then-is_some-clause-prepared
returns-then-is_some-clause-prepared c =
    let b = c.prepare.new.self in
    let nets = c.in_ok-ready.ready.nets in
    let ready : IsReady b c.args.actions.now nets = subst (λ (list : List Action). IsReady b list nets) c.in_ok-ready.ensures.actions c.in_ok-ready.ensures.ready in
    let found = c.first_full.ensures ∙ ap (λ (list : List Net). slice_get (filter (is_full b list) (range_with_len 0 (length list))) 0) c.as_slice.ensures in
    sym (few_is b c.args.actions.now nets ready) ∙ ap (λ (o : Option ℕ). not (is_some o)) (sym found) ∙ ap not (sym c.is_some.ensures ∙ c.if-is_some.true)

pub returns-clause-prepared : goal.returns-clause-prepared
returns-clause-prepared c =
    let b = c.prepare.new.self in
    let nets = c.in_ok-ready.ready.nets in
    let ready : IsReady b c.args.actions.now nets = subst (λ (list : List Action). IsReady b list nets) c.in_ok-ready.ensures.actions c.in_ok-ready.ensures.ready in
    let found = c.first_full.ensures ∙ ap (λ (list : List Net). slice_get (filter (is_full b list) (range_with_len 0 (length list))) 0) c.as_slice.ensures in (
      sym (few_is b c.args.actions.now nets ready) ∙ ap (λ (o : Option ℕ). not (is_some o)) (sym found) ∙ ap not (sym c.is_some.ensures ∙ c.if-is_some.false),
      c.in_ok-ready.ensures.actions,
      record { ready = c.in_ok-ready.ensures.ready; room = omega (arith, c.in_ok-reserve.ensures.room, c.views.ensures.count); entries = c.in_ok-check_entries.ensures.fits },
    )
