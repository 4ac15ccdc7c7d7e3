use Rattle.std.proofs.Common.{◌≡◌, sym, ap, ◌∙◌, List}
use Rattle.std.specs.Prelude.{None}
use Rattle.lv_values.specs.declared.value.Value.{Value}
use Rattle.lv_schema.specs.Effects.{first_wide, matching}
use Rattle.lv_effect.proofs.Matching.{update_done}
use Rattle.lv_effect.proofs.effects.update_effect.Goals as goal

pub returns : goal.returns
returns c = λ def.
    let none : c.first_wide.result ≡ None = search in
    update_done def c.args.table c.args.sets.now c.args.cond.now c.args.rows c.len.result c.in_ok-actions.actions
    (ap (λ (rows : List (List Value)). first_wide c.args.sets.now (matching c.args.cond.now rows)) (sym c.as_slice.ensures) ∙ sym c.first_wide.ensures ∙ none)
    c.len.ensures c.in_ok-actions.ensures
