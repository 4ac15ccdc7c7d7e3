use Rattle.std.proofs.Common.{◌≡◌, true, ◌∷◌, [], ◌+◌, ◌<◌, length, map, set, Some, refl, sym, ap, subst, ◌∙◌, arith}
use Rattle.std.specs.Prelude.{slice_get}
use Rattle.std.specs.List.{insert}
use Rattle.std.proofs.lemmas.List.{length-set}
use Rattle.lv_shelf.specs.Cuts.{Apart}
use Rattle.lv_shelf.specs.Shelves.{ChangesOnly}
use Rattle.lv_shelf.proofs.Cutting.{got, got_within}
use Rattle.lv_viewrows.specs.declared.version.GroupVersion.{GroupVersion}
use Rattle.lv_viewrows.specs.Kept.{VersionsKept}
use Rattle.lv_viewrows.specs.Standing.{Precedes, ended_at, has_no_end, not_ended}
use Rattle.lv_viewrows.proofs.NotEnded.{filter_passed_over, filter_replaced, insert_behind}
use Rattle.lv_viewrows.proofs.Replacing.{swapped, swapped_itself, swaps_only}
use Rattle.lv_viewrows.proofs.versions.Versions.replace.Goals as goal

pub insert-requires-clause-place : goal.insert-requires-clause-place
insert-requires-clause-place c =
    let vs = c.self.inside.shelf.list in
    let here = subst (λ (k : VersionsKept). c.args.at < length k.list) (sym c.self.view_is) c.requires.at in
    let long = ap length c.exchange-version.ensures.replaced ∙ length-set vs c.args.at c.from_commit.result in
    omega (arith, here, long)

pub invariant_of-self : goal.invariant_of-self
invariant_of-self c =
    let vs = c.self.inside.shelf.list in
    let at = c.args.at in
    let order = subst (λ (k : VersionsKept). Apart Precedes k.list) (sym c.self.view_is) c.requires.order in
    let lives = subst (λ (k : VersionsKept). (v : GroupVersion) → slice_get k.list at ≡ Some v → has_no_end v ≡ true) (sym c.self.view_is) c.requires.current in
    let item = c.exchange-version.result in
    let get = c.exchange-version.ensures.taken in
    let w = c.from_commit.result in
    let y = ended_at c.args.number item in
    let f = swapped item w in
    let itself : f item ≡ w = swapped_itself item w in
    let only : ChangesOnly f at vs = swaps_only item w at vs get order in
    c.insert.ensures.others
    ∙ c.exchange-version.ensures.others f itself only
    ∙ ap (map (map f)) c.self.invariant
    ∙ ap (λ l. l ∷ []) (filter_replaced has_no_end f at vs item get (lives item get) (ap has_no_end (itself ∙ c.from_commit.ensures)) only)
    ∙ ap (λ x. not_ended (set vs at x) ∷ []) itself
    ∙ ap (λ l. l ∷ []) (sym (filter_passed_over has_no_end at (set vs at w) y refl))
    ∙ ap (λ l. not_ended l ∷ []) (sym (c.insert.ensures.added ∙ ap (λ l. insert l at y) c.exchange-version.ensures.replaced))

pub returns-clause-replaced : goal.returns-clause-replaced
returns-clause-replaced c = λ v e.
    let vs = c.self.inside.shelf.list in
    let at = c.args.at in
    let n = c.args.number in
    let is = ap (λ (k : VersionsKept). k.list) c.self.view_is in
    let item = c.exchange-version.result in
    let get = c.exchange-version.ensures.taken in
    let w = c.from_commit.result in
    let same : item ≡ v = sym (got vs at item item get) ∙ got vs at v item (ap (λ l. slice_get l at) is ∙ e) in
    c.insert.ensures.added
    ∙ ap (λ l. insert l at (ended_at n item)) c.exchange-version.ensures.replaced
    ∙ insert_behind vs at (ended_at n item) w (got_within vs at item get)
    ∙ ap (λ x. insert (set vs at (ended_at n x)) (at + 1) w) same
    ∙ ap (λ l. insert (set l at (ended_at n v)) (at + 1) w) is
    ∙ ap (insert (set c.args.self.now.list at (ended_at n v)) (at + 1)) c.from_commit.ensures
