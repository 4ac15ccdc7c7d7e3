use Rattle.std.proofs.Common.{ℕ, rules, ◌≡◌, ◌+◌, List, drop, sym, subst, arith}
use Rattle.std.proofs.lemmas.List.{drop-drop}
use Rattle.lv_schema.specs.declared.action.DeltaEntry.{DeltaEntry}
use Rattle.lv_delta.specs.Kept.{AreInOrder}
use Rattle.lv_delta.proofs.Searched.{ordered_drop}
use Rattle.lv_delta.proofs.deltas.Deltas.leave.Goals as goal

-- what is left behind with what lay there, of entries in their order
ordered_behind : (last first gone : ℕ) (items : List DeltaEntry) → AreInOrder last (drop first items) → AreInOrder last (drop (first + gone) items)
ordered_behind last first gone items o = subst (AreInOrder last) (drop-drop gone first items) (ordered_drop last gone (drop first items) o)

pub invariant_of-self : goal.invariant_of-self
invariant_of-self c =
    let items = c.self.inside.items.items in
    let behind = c.self.inside.first + c.args.gone in
    let kept : c.drop.new.self.0.items ≡ drop behind items = search rules in
    (omega arith, subst (AreInOrder c.self.inside.last) (sym kept) (ordered_behind c.self.inside.last c.self.inside.first c.args.gone items c.self.invariant.1))

pub invariant_of-self-else-self-len : goal.invariant_of-self-else-self-len
invariant_of-self-else-self-len c =
    (omega (arith, c.if-self-len.false, c.len.ensures), ordered_behind c.self.inside.last c.self.inside.first c.args.gone c.self.inside.items.items c.self.invariant.1)
