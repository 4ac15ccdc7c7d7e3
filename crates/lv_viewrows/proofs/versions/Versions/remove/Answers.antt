use Rattle.std.proofs.Common.{◌<◌, ◌∷◌, [], length, sym, ap, subst, ◌∙◌}
use Rattle.std.specs.Prelude.{slice_get, slice_set}
use Rattle.std.specs.List.{AllByRecursion, remove}
use Rattle.lv_shelf.specs.Cuts.{Apart}
use Rattle.lv_shelf.specs.Shelves.{LacksItem, other_at}
use Rattle.lv_viewrows.specs.Kept.{VersionsKept}
use Rattle.lv_viewrows.specs.Standing.{AreOpen, Precedes, not_ended}
use Rattle.lv_viewrows.proofs.Open.{lacks_removed, open_not_ended, open_removed}
use Rattle.lv_viewrows.proofs.versions.Versions.remove.Goals as goal

pub leave-requires-clause-place : goal.leave-requires-clause-place
leave-requires-clause-place c =
    let vs = c.self.inside.shelf.list in
    let here = subst (λ (k : VersionsKept). c.args.at < length k.list) (sym c.self.view_is) c.requires.at in
    let open_now = subst (λ (k : VersionsKept). AreOpen k.list) (sym c.self.view_is) c.requires.open in
    subst (λ o. c.args.at < length (other_at o 0)) (sym (c.self.invariant ∙ ap (λ l. l ∷ []) (open_not_ended vs open_now))) here

pub remove-requires-clause-alone : goal.remove-requires-clause-alone
remove-requires-clause-alone c = λ item get.
    let vs = c.self.inside.shelf.list in
    let at = c.args.at in
    let order = subst (λ (k : VersionsKept). Apart Precedes k.list) (sym c.self.view_is) c.requires.order in
    let open_now = subst (λ (k : VersionsKept). AreOpen k.list) (sym c.self.view_is) c.requires.open in
    let left = c.leave.ensures.left ∙ ap (λ o. slice_set o 0 (remove (other_at o 0) at)) (c.self.invariant ∙ ap (λ l. l ∷ []) (open_not_ended vs open_now)) in
    subst (AllByRecursion (LacksItem item)) (sym left) (lacks_removed at vs item order (ap (λ l. slice_get l at) (sym c.leave.ensures.same) ∙ get), tt)

pub invariant_of-self : goal.invariant_of-self
invariant_of-self c =
    let vs = c.self.inside.shelf.list in
    let at = c.args.at in
    let open_now = subst (λ (k : VersionsKept). AreOpen k.list) (sym c.self.view_is) c.requires.open in
    c.remove.ensures.others
    ∙ c.leave.ensures.left
    ∙ ap (λ o. slice_set o 0 (remove (other_at o 0) at)) (c.self.invariant ∙ ap (λ l. l ∷ []) (open_not_ended vs open_now))
    ∙ ap (λ l. l ∷ []) (sym (open_not_ended (remove vs at) (open_removed at vs open_now)))
    ∙ ap (λ l. not_ended l ∷ []) (sym (c.remove.ensures.removed ∙ ap (λ l. remove l at) c.leave.ensures.same))
