use Rattle.std.proofs.Common.{◌∷◌, [], ◌++◌, ◌∙◌, sym, ap}
use Rattle.std.proofs.lemmas.List.{map-append}
use Rattle.lv_parser.specs.Trees.{with_on}
use Rattle.lv_parser.proofs.Apart.{part_behind}
use Rattle.lv_parser.proofs.sources.split.Goals as goal

pub each-preserved : goal.each-preserved
each-preserved c = (
  c.in_ok-push.ensures.added
      ∙ (ap (λ x. x ++ c.in-Some.item.table ∷ []) c.each.invariant.0 ∙ ap (λ x. c.args.first ∷ x) (sym (map-append (λ j. j.table) c.each.yielded (c.in-Some.item ∷ [])))),
  c.in_ok-push_if.ensures ∙ (ap (λ x. x ++ with_on c.in-Some.item.on []) c.each.invariant.1 ∙ sym (part_behind c.each.yielded c.in-Some.item)),
)
