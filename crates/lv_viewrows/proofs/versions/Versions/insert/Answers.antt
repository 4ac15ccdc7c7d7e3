use Rattle.std.proofs.Common.{◌≡◌, ◌≤◌, ◌∷◌, [], length, sym, ap, subst, ◌∙◌}
use Rattle.std.specs.Prelude.{slice_get, slice_set}
use Rattle.std.specs.List.{insert}
use Rattle.lv_schema.proofs.Apart.{all_filter}
use Rattle.lv_shelf.specs.Shelves.{LacksItem, other_at}
use Rattle.lv_shelf.proofs.Cutting.{got}
use Rattle.lv_viewrows.specs.Kept.{VersionsKept}
use Rattle.lv_viewrows.specs.Standing.{has_no_end, not_ended, not_ended_before}
use Rattle.lv_viewrows.proofs.NotEnded.{filter_inserted, got_inserted}
use Rattle.lv_viewrows.proofs.versions.Versions.insert.Goals as goal

pub enter-requires-clause-absent : goal.enter-requires-clause-absent
enter-requires-clause-absent c = λ item e.
    let vs = c.self.inside.shelf.list in
    let v = c.args.version in
    let within : c.args.at ≤ length vs = subst (λ (k : VersionsKept). c.args.at ≤ length k.list) (sym c.self.view_is) c.requires.within in
    let same : v ≡ item = sym (got (insert vs c.args.at v) c.args.at v v (got_inserted vs c.args.at v within)) ∙ got (insert vs c.args.at v) c.args.at item v (ap (λ l. slice_get l c.args.at) (sym c.insert.ensures.added) ∙ e) in
    subst (λ o. LacksItem item (other_at o 0)) (sym (c.insert.ensures.others ∙ c.self.invariant))
    (subst (λ w. LacksItem w (not_ended vs)) same (all_filter (λ y. y ≡ v → ⊥) has_no_end vs (subst (λ (k : VersionsKept). LacksItem v k.list) (sym c.self.view_is) c.requires.absent)))

pub invariant_of-self : goal.invariant_of-self
invariant_of-self c =
    let vs = c.self.inside.shelf.list in
    let v = c.args.version in
    let within : c.args.at ≤ length vs = subst (λ (k : VersionsKept). c.args.at ≤ length k.list) (sym c.self.view_is) c.requires.within in
    let at = c.args.at in
    c.enter.ensures.entered v (ap (λ l. slice_get l at) c.insert.ensures.added ∙ got_inserted vs at v within)
    ∙ ap (λ o. slice_set o 0 (insert (other_at o 0) c.args.not_ended v)) (c.insert.ensures.others ∙ c.self.invariant)
    ∙ ap (λ n. insert (not_ended vs) n v ∷ []) (subst (λ (k : VersionsKept). c.args.not_ended ≡ not_ended_before at k.list) (sym c.self.view_is) c.requires.place)
    ∙ ap (λ l. l ∷ []) (sym (filter_inserted has_no_end at vs v (sym c.has_no_end-stays.ensures ∙ c.if-stays.true)))
    ∙ ap (λ l. not_ended l ∷ []) (sym (c.enter.ensures.same ∙ c.insert.ensures.added))
