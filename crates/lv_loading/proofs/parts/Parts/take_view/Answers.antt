use Rattle.std.proofs.Common.{ℕ, refl, sym, ap, ◌∙◌, subst}
use Rattle.lv_schema.specs.declared.rec.Rec.TheVariants.{View}
use Rattle.lv_schema.specs.declared.view.ViewDef.{ViewDef}
use Rattle.lv_schema.specs.Bound.{IsBoundView}
use Rattle.lv_replay.specs.Replayed.{replayed}
use Rattle.lv_loading.specs.Loads.{LoadingKept, LoadingStands}
use Rattle.lv_loading.specs.Taking.{kept_in, with_view}
use Rattle.lv_loading.proofs.TakenViews.{bound_there, points_few, view_taken, view_told}
use Rattle.lv_loading.proofs.parts.Parts.take_view.Goals as goal

pub returns-then-not-can_be_next : goal.returns-then-not-can_be_next
returns-then-not-can_be_next c = (
  λ w is. sym (view_told (kept_in c.args.self.now) c.args.def w is c.last.result c.last.ensures) ∙ sym c.can_be_next.ensures ∙ c.if-not-can_be_next.true,
  refl,
)

pub add_view-requires-clause-bound : goal.add_view-requires-clause-bound
add_view-requires-clause-bound c =
    let k = kept_in c.args.self.now in
    let def = c.args.def in
    let w = c.requires.whole.0 in
    let is = c.requires.whole.1 in
    let applied = sym (view_told k def w is c.last.result c.last.ensures) ∙ sym c.can_be_next.ensures ∙ c.if-not-can_be_next.false in
    subst (λ (d : ViewDef). IsBoundView k.tables k.views d) (sym (c.numbered-def.ensures ∙ ap (λ (n : ℕ). record def { no = n }) c.views.ensures.count)) (bound_there k def w is c.requires.kept applied)

pub returns : goal.returns
returns c = λ w is.
    let k = kept_in c.args.self.now in
    let def = c.args.def in
    let applied = sym (view_told k def w is c.last.result c.last.ensures) ∙ sym c.can_be_next.ensures ∙ c.if-not-can_be_next.false in
    let made = c.in_ok-add_view.ensures.added ∙ ap (λ (d : ViewDef). with_view d k) (c.numbered-def.ensures ∙ ap (λ (n : ℕ). record def { no = n }) c.views.ensures.count) in (
      applied,
      subst (λ (x : LoadingKept). LoadingStands (replayed (View def) w) x) (sym made) (view_taken k def w is c.requires.kept applied),
    )

pub add_view-requires-clause-few : goal.add_view-requires-clause-few
add_view-requires-clause-few c =
    let k = kept_in c.args.self.now in
    let w = c.requires.whole.0 in
    let is = c.requires.whole.1 in
    let applied = sym (view_told k c.args.def w is c.last.result c.last.ensures) ∙ sym c.can_be_next.ensures ∙ c.if-not-can_be_next.false in
    points_few k w is (bound_there k c.args.def w is c.requires.kept applied).room
