use Rattle.std.proofs.Common.{◌∷◌, [], filter, map, sym, ap, ◌∙◌}
use Rattle.lv_viewrows.specs.Standing.{has_no_end, not_ended}
use Rattle.lv_viewrows.proofs.Entries.{filters_swap}
use Rattle.lv_viewrows.proofs.versions.Versions.keep.Goals as goal

pub invariant_of-self : goal.invariant_of-self
invariant_of-self g c =
    let p = g.P.Test.passed c.args.test.now in
    c.keep.ensures.others
    ∙ ap (map (filter p)) c.self.invariant
    ∙ ap (λ l. l ∷ []) (filters_swap p has_no_end c.self.inside.shelf.list)
    ∙ ap (λ l. not_ended l ∷ []) (sym c.keep.ensures.kept)
