use Rattle.std.proofs.Common.{sym, subst}
use Rattle.std.specs.List.{insert}
use Rattle.lv_values.specs.Room.{Roomy}
use Rattle.lv_schema.specs.Once.{Ascends}
use Rattle.lv_overlay.specs.declared.put.Put.{Put}
use Rattle.lv_overlay.specs.Ordered.{put_cmp}
use Rattle.lv_overlay.proofs.overlay.Overlay.insert.Goals as goal

pub invariant_of-self : goal.invariant_of-self
invariant_of-self c =
    subst (Ascends put_cmp) (sym c.insert.ensures.added) (subst (λ (r : Roomy Put). Ascends put_cmp (insert r.list c.args.at c.args.put)) (sym c.self.view_is) c.requires.order)
