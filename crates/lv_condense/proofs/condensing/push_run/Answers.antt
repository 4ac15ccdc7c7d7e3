use Rattle.std.proofs.Common.{◌≡◌, ◌-◌, ◌++◌, suc, [], length, sym, ap, ap₂, ◌∙◌, subst, arith}
use Rattle.std.specs.Prelude.{None, Option, List, OnOk}
use Rattle.std.specs.List.{cons_option}
use Rattle.lv_values.specs.declared.value.Value.{Value}
use Rattle.lv_schema.specs.Condensed.{found_by, unless}
use Rattle.lv_schema.specs.Keys.{left_by}
use Rattle.lv_condense.specs.Touches.{ATouch, found_in, left_in}
use Rattle.lv_condense.proofs.Runs.{found_first, left_last}
use Rattle.lv_condense.proofs.condensing.push_run.Given as given
use Rattle.lv_condense.proofs.condensing.push_run.Goals as goal

found : (g : given.Over) (c : goal.After-push_ends g) → found_by c.first.inside.first.now.kind c.first.inside.first.now.row ≡ found_in c.args.run.now
found g c = ap (λ (x : ATouch). found_by x.first.kind x.first.row) c.first.view_is ∙ sym (found_first c.args.run.now c.index-run-0.result c.requires c.index-run-0.is)

left : (g : given.Over) (c : goal.After-push_ends g) → left_by c.last.inside.last.now.kind c.last.inside.last.now.row ≡ left_in None c.args.run.now
left g c =
    let last : suc (length c.args.run.now - 1) ≡ length c.args.run.now = omega (arith, c.requires) in
    ap (λ (x : ATouch). left_by x.last.kind x.last.row) c.last.view_is ∙ sym (left_last None c.args.run.now (length c.args.run.now - 1) c.index-run-run.result last c.index-run-run.is)

pub returns-clause-lost : goal.returns-clause-lost
returns-clause-lost g c =
    subst (λ (o : Option (List Value)). OnOk c.push_ends.result ((g.G.Gathers.net c.push_ends.new.net).minus ≡ (g.G.Gathers.net c.args.net.now).minus ++ cons_option o [])) (ap₂ unless (found g c) (left g c)) c.push_ends.ensures.lost

pub returns-clause-gained : goal.returns-clause-gained
returns-clause-gained g c =
    subst (λ (o : Option (List Value)). OnOk c.push_ends.result ((g.G.Gathers.net c.push_ends.new.net).plus ≡ (g.G.Gathers.net c.args.net.now).plus ++ cons_option o [])) (ap₂ unless (left g c) (found g c)) c.push_ends.ensures.gained
