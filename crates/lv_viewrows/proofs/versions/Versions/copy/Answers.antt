use Rattle.std.proofs.Common.{◌++◌, ◌∷◌, [], ◌+◌, drop, ap, sym, subst, refl, ◌∙◌}
use Rattle.std.proofs.lemmas.List.{drop_more}
use Rattle.lv_shelf.specs.Cuts.{Apart}
use Rattle.lv_shelf.specs.Shelves.{LacksItem}
use Rattle.lv_shelf.proofs.Cutting.{got, got_within}
use Rattle.lv_viewrows.specs.Standing.{Precedes}
use Rattle.lv_viewrows.proofs.Filling.{front_precedes, lacks_preceded}
use Rattle.lv_viewrows.proofs.Walking.{walk_step}
use Rattle.lv_viewrows.proofs.versions.Versions.copy.Goals as goal

pub push_last-requires : goal.push_last-requires
push_last-requires c =
    let list = c.args.self.now.list in
    let at = c.loop-at.at in
    let v = c.get.result.now in
    let rest = drop (at + 1) list in
    let parts = ap (λ x. c.loop-at.made.list ++ x ∷ rest) (sym (got list at v v c.get.ensures)) ∙ ap (λ l. c.loop-at.made.list ++ l) (sym (drop_more list at v (got_within list at v c.get.ensures))) ∙ c.loop-at.invariant in
    subst (λ w. LacksItem w c.loop-at.made.list) (sym c.in_ok-copy.ensures)
    (lacks_preceded v c.loop-at.made.list (front_precedes Precedes c.loop-at.made.list v rest (subst (Apart Precedes) (sym parts) c.requires)))

pub loop-at-preserved : goal.loop-at-preserved
loop-at-preserved c =
    let list = c.args.self.now.list in
    ap (λ l. l ++ drop (c.loop-at.at + 1) list) (c.in_ok-push_last.ensures ∙ ap (λ v. c.loop-at.made.list ++ v ∷ []) c.in_ok-copy.ensures)
    ∙ walk_step (λ l. l) (λ _ _. refl) c.loop-at.at c.loop-at.made.list c.get.result.now list c.get.ensures
    ∙ c.loop-at.invariant
