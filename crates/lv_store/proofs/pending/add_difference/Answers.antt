use Rattle.std.proofs.Common.{◌++◌, ◌∷◌, [], List, ap, ◌∙◌}
use Rattle.std.specs.Prelude.{slice_set}
use Rattle.std.proofs.lemmas.List.{set-set}
use Rattle.lv_store.specs.declared.pending.Difference.{Difference}
use Rattle.lv_store.proofs.Steps.{at_any}
use Rattle.lv_store.proofs.pending.add_difference.Goals as goal

pub returns : goal.returns
returns c =
    let pending = c.args.pending.now in
    let view = c.args.view in
    let difference = c.args.difference in
    let old = c.replace-differences.result in
    c.set.ensures
    ∙ ap (λ (l : List (List Difference)). slice_set l view c.push.new.self) c.replace-differences.ensures.replaced
    ∙ set-set pending view c.new.result c.push.new.self
    ∙ ap (slice_set pending view) (c.in_ok-push.ensures.added ∙ ap (λ (l : List Difference). l ++ difference ∷ []) (c.replace-differences.ensures.taken ∙ at_any pending view old [] c.requires))
