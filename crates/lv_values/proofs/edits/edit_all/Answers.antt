use Rattle.std.proofs.Common.{◌≡◌, ap, sym, ◌∙◌}
use Rattle.std.proofs.lemmas.List.Edits.{map_over_more}
use Rattle.lv_values.proofs.edits.edit_all.Goals as goal

pub loop-item-preserved : goal.loop-item-preserved
loop-item-preserved g c =
    let edited = g.E.Edit.edited c.args.edit.now in
    let e : c.edit.new.item ≡ edited c.item-item.result = c.edit.ensures ∙ ap edited (sym c.item-item.is) in
    rw e (map_over_more edited _ c.loop-item.item-items c.loop-item.item-index c.item-item.result c.loop-item-test.true c.loop-item.invariant c.item-item.is)
