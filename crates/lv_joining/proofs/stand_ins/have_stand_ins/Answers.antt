use Rattle.std.proofs.Common.{sym, ap, ◌∙◌}
use Rattle.lv_schema.specs.declared.net.Net.{Net}
use Rattle.lv_joining.specs.Joining.{are_met, linked_columns}
use Rattle.lv_joining.proofs.Meeting.{net_tells}
use Rattle.lv_joining.proofs.stand_ins.have_stand_ins.Goals as goal

pub returns : goal.returns
returns c = λ before after up on net.
    let key = c.args.key.now in
    let columns = linked_columns c.args.links.now c.args.alias in
    let told = net_tells key columns before after up on in
    let named = c.as_slice.ensures ∙ c.in_ok-columns.ensures in
    let minus = c.minus.ensures ∙ ap (λ (n : Net). n.minus) net in
    let plus = c.plus.ensures ∙ ap (λ (n : Net). n.plus) net in
    let is = c.are_met.ensures ∙ (λ i. are_met key (named i) (minus i) (plus i)) in
    (λ h. told.0 (sym is ∙ h), λ all. is ∙ told.1 all)
