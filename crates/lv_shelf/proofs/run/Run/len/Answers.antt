use Rattle.std.proofs.Common.{◌∙◌, sym, ap, length}
use Rattle.lv_shelf.proofs.Shelved.{length_items}
use Rattle.lv_shelf.proofs.run.Run.len.Goals as goal

pub returns : goal.returns
returns g c =
    let s = c.self.inside in
    sym (length_items s.slots.now s.numbers.now c.self.invariant) ∙ ap length c.self.view_is
