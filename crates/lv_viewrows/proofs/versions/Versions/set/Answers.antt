use Rattle.std.proofs.Common.{◌≡◌, ◌∷◌, [], map, set, sym, ap, subst, ◌∙◌}
use Rattle.lv_shelf.specs.Cuts.{Apart}
use Rattle.lv_shelf.specs.Shelves.{ChangesOnly}
use Rattle.lv_viewrows.specs.Kept.{VersionsKept}
use Rattle.lv_viewrows.specs.Standing.{AreOpen, Precedes, has_no_end, not_ended}
use Rattle.lv_viewrows.proofs.NotEnded.{filter_replaced}
use Rattle.lv_viewrows.proofs.Open.{open_at}
use Rattle.lv_viewrows.proofs.Replacing.{swapped, swapped_itself, swaps_only}
use Rattle.lv_viewrows.proofs.versions.Versions.set.Goals as goal

pub invariant_of-self : goal.invariant_of-self
invariant_of-self c =
    let vs = c.self.inside.shelf.list in
    let at = c.args.at in
    let order = subst (λ (k : VersionsKept). Apart Precedes k.list) (sym c.self.view_is) c.requires.order in
    let open_now = subst (λ (k : VersionsKept). AreOpen k.list) (sym c.self.view_is) c.requires.open in
    let item = c.exchange-old.result in
    let get = c.exchange-old.ensures.taken in
    let w = c.from_commit.result in
    let f = swapped item w in
    let itself : f item ≡ w = swapped_itself item w in
    let only : ChangesOnly f at vs = swaps_only item w at vs get order in
    c.exchange-old.ensures.others f itself only
    ∙ ap (map (map f)) c.self.invariant
    ∙ ap (λ l. l ∷ []) (filter_replaced has_no_end f at vs item get (open_at vs at item open_now get) (ap has_no_end (itself ∙ c.from_commit.ensures)) only)
    ∙ ap (λ x. not_ended (set vs at x) ∷ []) itself
    ∙ ap (λ l. not_ended l ∷ []) (sym c.exchange-old.ensures.replaced)
