use Rattle.std.proofs.Common.{[], ◌++◌, ◌∙◌, sym, ap}
use Rattle.lv_parser.specs.declared.tree.CondTree.TheVariants.{And}
use Rattle.lv_parser.specs.Trees.{with_on, gathered}
use Rattle.lv_parser.proofs.Apart.{filter_behind}
use Rattle.lv_parser.proofs.sources.several.Goals as goal

pub returns : goal.returns
returns c = (
  c.in_ok-tables.ensures.0,
  c.all_of.ensures
      ∙ ap (gathered And) (c.in_ok-push_if.ensures ∙ (ap (λ x. x ++ with_on c.args.filter []) c.in_ok-tables.ensures.1 ∙ sym (filter_behind c.args.others c.args.filter))),
)
