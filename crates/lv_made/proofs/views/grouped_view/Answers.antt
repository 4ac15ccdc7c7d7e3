use Rattle.std.proofs.Common.{◌≡◌, List, true, length, sym, ap, ◌∙◌, subst}
use Rattle.std.specs.List.{AllByRecursion}
use Rattle.lv_schema.specs.declared.signed.SignedRow.{SignedRow}
use Rattle.lv_schema.specs.Applicable.{AreNetted}
use Rattle.lv_schema.specs.Differences.{summed_columns}
use Rattle.lv_group.specs.Gathered.{groups_among, has_tuples}
use Rattle.lv_made.proofs.views.grouped_view.Goals as goal

pub grouped-requires-clause-netted : goal.grouped-requires-clause-netted
grouped-requires-clause-netted c = subst (AreNetted (length (summed_columns c.args.def))) (sym (c.in_ok-groups.ensures.groups ∙ ap (groups_among c.args.def) c.in_ok-tuples.ensures)) c.requires.netted

pub grouped-requires-clause-tuples : goal.grouped-requires-clause-tuples
grouped-requires-clause-tuples c =
    subst (λ (groups : List SignedRow). AllByRecursion (λ g. has_tuples g ≡ true) groups) (sym (c.in_ok-groups.ensures.groups ∙ ap (groups_among c.args.def) c.in_ok-tuples.ensures)) c.requires.tuples
