use Rattle.std.proofs.Common.{◌≡◌, ◌++◌, Bool, true, false, cond, [], ◌∷◌, List, None, Some, Option, refl, sym, ap, ◌∙◌, subst}
use Rattle.std.specs.Prelude.{OnOk}
use Rattle.std.specs.List.{cons_option}
use Rattle.std.specs.Ordering.{is_eq, ordering_reverse}
use Rattle.std.specs.declared.cmp.Ordering.{Ordering}
use Rattle.std.specs.declared.cmp.Ordering.TheVariants.{Less, Equal, Greater}
use Rattle.std.proofs.lemmas.List.{append-nil}
use Rattle.lv_values.specs.declared.value.Value.{Value}
use Rattle.lv_values.specs.Order.{row_cmp, row_eq}
use Rattle.lv_values.specs.OrderLaws.{row_total}
use Rattle.lv_schema.specs.declared.action.Action.{Action}
use Rattle.lv_schema.specs.declared.action.ActionKind.TheVariants.{Delete, Insert}
use Rattle.lv_schema.specs.Condensed.{found_by, unless}
use Rattle.lv_schema.specs.Keys.{left_by}
use Rattle.lv_condense.proofs.condensing.push_ends.Goals as goal

-- rows are the same in either order
either_way : (a b : List Value) → row_eq b a ≡ row_eq a b
either_way a b = ap is_eq (row_total.antisymm b a) ∙ turned (row_cmp a b)
  where
    turned : (r : Ordering) → is_eq (ordering_reverse r) ≡ is_eq r
    turned Less = refl
    turned Equal = refl
    turned Greater = refl

-- what is gained where the first action finds a row and the last one leaves one
gained : (first last : Action) (same : Bool) → first.kind ≡ Delete → last.kind ≡ Insert → row_eq first.row last.row ≡ same → unless (left_by last.kind last.row) (found_by first.kind first.row) ≡ cond same None (Some last.row)
gained first last same delete insert is =
    (λ i. unless (left_by (insert i) last.row) (found_by (delete i) first.row))
    ∙ ap (λ (b : Bool). cond b None (Some last.row)) (either_way first.row last.row ∙ is)

pub returns-then-is_eq-clause-gained : goal.returns-then-is_eq-clause-gained
returns-then-is_eq-clause-gained g c =
    let plus = (g.G.Gathers.net c.args.net.now).plus in
    sym (append-nil plus)
    ∙ ap (λ (o : Option (List Value)). plus ++ cons_option o [])
    (sym (gained c.args.first.now c.args.last.now true c.in-Delete-Insert.is-0 c.in-Delete-Insert.is-1 (sym (ap is_eq c.cmp.ensures) ∙ sym c.is_eq.ensures ∙ c.if-is_eq.true)))

pub returns-in_ok-lose-in-Delete-Insert-clause-gained : goal.returns-in_ok-lose-in-Delete-Insert-clause-gained
returns-in_ok-lose-in-Delete-Insert-clause-gained g c =
    let last = c.args.last.now in
    let gain = c.gain-in-Delete-Insert in
    subst (λ (o : Option (List Value)). OnOk gain.result ((g.G.Gathers.net gain.new.self).plus ≡ (g.G.Gathers.net c.args.net.now).plus ++ cons_option o []))
    (sym (gained c.args.first.now last false c.in-Delete-Insert.is-0 c.in-Delete-Insert.is-1 (sym (ap is_eq c.cmp.ensures) ∙ sym c.is_eq.ensures ∙ c.if-is_eq.false)))
    (subst (λ (l : List (List Value)). OnOk gain.result ((g.G.Gathers.net gain.new.self).plus ≡ l ++ last.row ∷ [])) c.lose-in-Delete-Insert.ensures.gained gain.ensures.gained)
