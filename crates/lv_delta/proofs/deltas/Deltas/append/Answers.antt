use Rattle.std.proofs.Common.{◌≡◌, ◌≤◌, ◌<◌, ◌++◌, drop, length, length-append, map, ap, sym, subst, ◌∙◌, arith}
use Rattle.std.proofs.lemmas.List.{drop-append-le}
use Rattle.lv_schema.specs.Versions.{delta_entry}
use Rattle.lv_delta.specs.Kept.{AreInOrder, DeltasKept}
use Rattle.lv_delta.proofs.Searched.{ordered_append}
use Rattle.lv_delta.proofs.deltas.Deltas.append.Goals as goal

pub invariant_of-self : goal.invariant_of-self
invariant_of-self c =
    let items = c.self.inside.items.items in
    let first = c.self.inside.first in
    let new = map (delta_entry c.args.number) c.args.actions in
    let before : first ≤ length items = omega (arith, c.self.invariant.0) in
    let last : c.self.inside.last ≡ c.args.self.now.last = ap (λ (k : DeltasKept). k.last) c.self.view_is in
    let above : c.self.inside.last < c.args.number = omega (arith, last, c.requires.above) in
    let ordered : AreInOrder c.args.number (drop first items ++ new) = ordered_append c.args.number c.self.inside.last (drop first items) c.args.actions above c.self.invariant.1 in (
      omega (arith, c.self.invariant.0, ap length c.push_actions.ensures.added, length-append items new),
      subst (AreInOrder c.args.number) (sym (ap (drop first) c.push_actions.ensures.added ∙ drop-append-le first items new before)) ordered,
    )
