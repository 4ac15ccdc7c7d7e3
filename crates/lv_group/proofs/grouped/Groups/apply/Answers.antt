use Rattle.std.proofs.Common.{◌++◌, filter, length, sym, ap, ◌∙◌, subst}
use Rattle.std.specs.List.{filter_map}
use Rattle.lv_schema.specs.Applicable.{AreNetted, ApplyToGroups}
use Rattle.lv_schema.specs.Differences.{summed_column}
use Rattle.lv_bags.proofs.AddedUp.{own_width}
use Rattle.lv_group.specs.Gathered.{Gathered, has_tuples, regrouped}
use Rattle.lv_group.proofs.Regroups.{both_have_sums, own_width_entries, regrouped_groups, regrouped_is}
use Rattle.lv_group.proofs.grouped.Groups.apply.Goals as goal

pub add_all-requires-clause-entries : goal.add_all-requires-clause-entries
add_all-requires-clause-entries c =
    let n = length (filter_map summed_column c.self.inside.items) in
    let groups = c.self.inside.groups.items in
    let netted : AreNetted n c.into_vec.result.items = subst (AreNetted n) (sym c.into_vec.ensures) (subst (λ (g : Gathered). AreNetted (length (filter_map summed_column g.items)) c.args.signed) (sym c.self.view_is) c.requires.netted) in
    own_width_entries n groups c.into_vec.result.items c.self.invariant (both_have_sums n groups c.into_vec.result.items c.self.invariant netted)

pub add_all-requires-clause-sums : goal.add_all-requires-clause-sums
add_all-requires-clause-sums c =
    let n = length (filter_map summed_column c.self.inside.items) in
    let groups = c.self.inside.groups.items in
    let netted : AreNetted n c.into_vec.result.items = subst (AreNetted n) (sym c.into_vec.ensures) (subst (λ (g : Gathered). AreNetted (length (filter_map summed_column g.items)) c.args.signed) (sym c.self.view_is) c.requires.netted) in
    own_width n (groups ++ c.into_vec.result.items) (both_have_sums n groups c.into_vec.result.items c.self.invariant netted)

pub invariant_of-self : goal.invariant_of-self
invariant_of-self c =
    let n = length (filter_map summed_column c.self.inside.items) in
    let groups = c.self.inside.groups.items in
    let netted : AreNetted n c.into_vec.result.items = subst (AreNetted n) (sym c.into_vec.ensures) (subst (λ (g : Gathered). AreNetted (length (filter_map summed_column g.items)) c.args.signed) (sym c.self.view_is) c.requires.netted) in
    regrouped_groups n (groups ++ c.into_vec.result.items) c.drop_empty.new.groups.items (both_have_sums n groups c.into_vec.result.items c.self.invariant netted)
    (c.drop_empty.ensures.groups ∙ ap (filter has_tuples) c.add_all.ensures.groups)

pub returns-clause-groups : goal.returns-clause-groups
returns-clause-groups c =
    let n = length (filter_map summed_column c.self.inside.items) in
    let groups = c.self.inside.groups.items in
    let signed = c.into_vec.result.items in
    let netted : AreNetted n signed = subst (AreNetted n) (sym c.into_vec.ensures) (subst (λ (g : Gathered). AreNetted (length (filter_map summed_column g.items)) c.args.signed) (sym c.self.view_is) c.requires.netted) in
    let apply : ApplyToGroups groups signed = subst (ApplyToGroups groups) (sym c.into_vec.ensures) (subst (λ (g : Gathered). ApplyToGroups g.groups c.args.signed) (sym c.self.view_is) c.requires.apply) in
    c.drop_empty.ensures.groups ∙ ap (filter has_tuples) c.add_all.ensures.groups
    ∙ regrouped_is n groups signed c.self.invariant netted apply
    ∙ ap (regrouped n groups) c.into_vec.ensures
    ∙ ap (λ (g : Gathered). regrouped (length (filter_map summed_column g.items)) g.groups c.args.signed) c.self.view_is
