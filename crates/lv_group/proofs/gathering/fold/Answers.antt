use Rattle.std.proofs.Common.{◌≡◌, ◌<◌, ◌^◌, map, length, sym, ap, ◌∙◌, subst, arith}
use Rattle.std.proofs.lemmas.List.{length-map}
use Rattle.std.proofs.lemmas.List.Sorted.{length_permutation}
use Rattle.std.specs.List.{filter_map}
use Rattle.lv_schema.specs.Differences.{summed_column}
use Rattle.lv_group.specs.Entries.{gathered}
use Rattle.lv_group.specs.Gathered.{AreGroups}
use Rattle.lv_group.proofs.Groupings.{entry, gathered_are}
use Rattle.lv_group.proofs.Regroups.{gathered_groups}
use Rattle.lv_group.proofs.gathering.fold.Goals as goal

pub returns-clause-groups : goal.returns-clause-groups
returns-clause-groups c =
    let view = c.args.view.now in
    let sums = c.deref.ensures.value ∙ c.in_ok-sums.ensures in
    let entries : c.in_ok-entries.entries.items ≡ map (entry view.groups) c.args.tuples.now =
    c.in_ok-entries.ensures ∙ λ i. map (entry (c.as_slice.ensures i)) (c.as_slice-2.ensures i) in
    gathered_are view c.args.tuples.now c.in_ok-entries.entries.items c.sort_unstable.new.self.items c.new.result.groups c.requires entries c.sort_unstable.ensures.permutation
    (c.new.ensures.groups ∙ c.in_ok-groups.ensures ∙ λ i. gathered (sums i) (c.deref-2.ensures.value i))

pub new-requires : goal.new-requires
new-requires c =
    let sorted = c.sort_unstable.new.self.items in
    let cols = c.in_ok-sums.sums.items in
    let sums : cols ≡ filter_map summed_column c.in_ok-copy-2.field-0 = c.in_ok-sums.ensures ∙ ap (filter_map summed_column) (sym c.in_ok-copy-2.ensures) in
    let made : c.in_ok-groups.groups.items ≡ gathered cols sorted = c.in_ok-groups.ensures ∙ λ i. gathered (c.deref.ensures.value i) (c.deref-2.ensures.value i) in
    let view = c.args.view.now in
    let entries : c.in_ok-entries.entries.items ≡ map (entry view.groups) c.args.tuples.now =
    c.in_ok-entries.ensures ∙ (λ i. map (entry (c.as_slice.ensures i)) (c.as_slice-2.ensures i)) in
    let few : length sorted < 2 ^ 64 =
    omega (arith, length_permutation c.in_ok-entries.entries.items sorted c.sort_unstable.ensures.permutation, ap length entries, length-map c.args.tuples.now (entry view.groups), c.len-tuples.ensures, c.len-tuples.type_inv) in
    subst (λ l. AreGroups (length l) c.in_ok-groups.groups.items) sums (subst (AreGroups (length cols)) (sym made) (gathered_groups cols sorted few))
