use Rattle.std.proofs.Common.{filter, List, ap, ◌∙◌, subst}
use Rattle.std.specs.List.Sorted.{IsPermutation}
use Rattle.lv_schema.specs.declared.signed.SignedRow.{SignedRow}
use Rattle.lv_schema.specs.Differences.{is_change}
use Rattle.lv_bags.specs.Bags.{width}
use Rattle.lv_bags.proofs.AddedUp.{sums_moved, own_width, netted_sorted}
use Rattle.lv_bags.proofs.netting.net.Goals as goal

pub tally-requires-clause-sums : goal.tally-requires-clause-sums
tally-requires-clause-sums c =
    let signed = c.args.signed in
    let sorted = c.sort_by_row.new.list.items in
    let moved = subst (λ (l : List SignedRow). IsPermutation l sorted) c.into_vec-entries.ensures c.sort_by_row.ensures.moved in
    own_width (width signed) sorted (sums_moved (width signed) signed sorted moved c.requires.sums)

pub returns : goal.returns
returns c =
    let signed = c.args.signed in
    let sorted = c.sort_by_row.new.list.items in
    let moved = subst (λ (l : List SignedRow). IsPermutation l sorted) c.into_vec-entries.ensures c.sort_by_row.ensures.moved in
    c.from_vec.ensures ∙ c.keep_changes.ensures ∙ ap (filter is_change) c.in_ok-out.ensures ∙ netted_sorted signed sorted moved c.requires.sums c.requires.counts
