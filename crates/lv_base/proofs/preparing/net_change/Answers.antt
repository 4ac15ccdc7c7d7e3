use Rattle.std.proofs.Common.{List, sym, ap₂, ◌∙◌}
use Rattle.lv_values.specs.declared.value.Value.{Value}
use Rattle.lv_schema.specs.declared.net.Net.{Net}
use Rattle.lv_base.proofs.Spared.{none_condensed}
use Rattle.lv_base.proofs.preparing.net_change.Goals as goal

pub returns-else-has_action : goal.returns-else-has_action
returns-else-has_action c = λ tables is.
    ap₂ {C = Net} (λ (minus plus : List (List Value)). record { minus = minus; plus = plus }) c.new.ensures c.new-else-has_action.ensures
    ∙ none_condensed tables c.args.actions.now c.args.table.now.no (sym c.has_action.ensures ∙ c.if-has_action.false)
