use Rattle.std.proofs.Common.{set, sym, subst}
use Rattle.lv_values.specs.Room.{Roomy}
use Rattle.lv_schema.specs.Once.{Ascends}
use Rattle.lv_overlay.specs.declared.put.Put.{Put}
use Rattle.lv_overlay.specs.Ordered.{put_cmp}
use Rattle.lv_overlay.proofs.overlay.Overlay.replace.Goals as goal

pub invariant_of-self : goal.invariant_of-self
invariant_of-self c =
    subst (Ascends put_cmp) (sym c.set.ensures.replaced) (subst (λ (r : Roomy Put). Ascends put_cmp (set r.list c.args.at c.args.put)) (sym c.self.view_is) c.requires.order)
