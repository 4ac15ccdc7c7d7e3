use Rattle.std.proofs.Common.{◌≡◌, true, ◌∷◌, [], ◌<◌, length, map, set, Some, sym, ap, subst, ◌∙◌, arith}
use Rattle.std.specs.Prelude.{slice_get, slice_set}
use Rattle.std.specs.List.{remove}
use Rattle.lv_shelf.specs.Cuts.{Apart}
use Rattle.lv_shelf.specs.Shelves.{ChangesOnly, other_at}
use Rattle.lv_viewrows.specs.declared.version.GroupVersion.{GroupVersion}
use Rattle.lv_viewrows.specs.Kept.{VersionsKept}
use Rattle.lv_viewrows.specs.Standing.{Precedes, ended_at, has_no_end, not_ended, not_ended_before}
use Rattle.lv_viewrows.proofs.NotEnded.{before_within, filter_changed, with_item}
use Rattle.lv_viewrows.proofs.Replacing.{swapped, swapped_itself, swapped_once, swaps_only}
use Rattle.lv_viewrows.proofs.versions.Versions.end.Goals as goal

pub leave-requires-clause-place : goal.leave-requires-clause-place
leave-requires-clause-place c =
    let vs = c.self.inside.shelf.list in
    let here = subst (λ (k : VersionsKept). c.args.at < length k.list) (sym c.self.view_is) c.requires.at in
    let place = subst (λ (k : VersionsKept). c.args.not_ended ≡ not_ended_before c.args.at k.list) (sym c.self.view_is) c.requires.place in
    let lives = subst (λ (k : VersionsKept). (v : GroupVersion) → slice_get k.list c.args.at ≡ Some v → has_no_end v ≡ true) (sym c.self.view_is) c.requires.current in
    with_item vs c.args.at here (λ item get.
    let within = before_within has_no_end c.args.at vs item get (lives item get) in
    subst (λ o. c.args.not_ended < length (other_at o 0)) (sym c.self.invariant) (omega (arith, place, within)))

pub invariant_of-self : goal.invariant_of-self
invariant_of-self c =
    let vs = c.self.inside.shelf.list in
    let at = c.args.at in
    let here = subst (λ (k : VersionsKept). at < length k.list) (sym c.self.view_is) c.requires.at in
    let place = subst (λ (k : VersionsKept). c.args.not_ended ≡ not_ended_before at k.list) (sym c.self.view_is) c.requires.place in
    let order = subst (λ (k : VersionsKept). Apart Precedes k.list) (sym c.self.view_is) c.requires.order in
    let lives = subst (λ (k : VersionsKept). (v : GroupVersion) → slice_get k.list at ≡ Some v → has_no_end v ≡ true) (sym c.self.view_is) c.requires.current in
    with_item vs at here (λ item get.
    let y = ended_at c.args.number item in
    let f = swapped item y in
    let itself : f item ≡ y = swapped_itself item y in
    let twice = ap f itself ∙ swapped_once item y ∙ sym itself in
    let only : ChangesOnly f at vs = swaps_only item y at vs get order in
    let there = ap (λ l. slice_get l at) c.leave.ensures.same ∙ get in
    c.edit.ensures.others_by f item there itself (subst (ChangesOnly f at) (sym c.leave.ensures.same) only)
    ∙ ap (map (map f)) (c.leave.ensures.left ∙ ap (λ o. slice_set o 0 (remove (other_at o 0) c.args.not_ended)) c.self.invariant)
    ∙ ap (λ n. map f (remove (not_ended vs) n) ∷ []) place
    ∙ ap (λ l. l ∷ []) (filter_changed has_no_end f at vs item get (lives item get) (ap has_no_end itself) twice only)
    ∙ ap (λ x. not_ended (set vs at x) ∷ []) itself
    ∙ ap (λ l. not_ended l ∷ []) (sym (c.edit.ensures.edited item there ∙ ap (λ l. slice_set l at y) c.leave.ensures.same)))
