use Rattle.std.proofs.Common.{◌≡◌, ◌≤◌, List, ◌++◌, refl, length, Some, slice_get, sym, ap, ◌∙◌, subst, arith}
use Rattle.std.proofs.lemmas.List.Sums.{prefix_len-le-length}
use Rattle.std.proofs.lemmas.Option.{slice_get_read}
use Rattle.std.specs.Ordering.{is_eq}
use Rattle.lv_group.specs.Entries.{AnEntry, group_of, entry_cmp, numbers_of, gathered}
use Rattle.lv_group.proofs.Runs.{Rises, Falls, falls, gather_step, rises_on, rises_from_sorted}
use Rattle.lv_group.proofs.gathering.gather.Goals as goal

pub loop-at-init : goal.loop-at-init
loop-at-init c = record {
  within = omega arith;
  all = ap (λ (l : List _). l ++ gathered c.args.sums.now c.args.entries.now) c.new-groups.ensures.items;
  rises = rises_from_sorted c.args.entries.now c.requires;
}

pub split_at-requires-in-loop-at : goal.split_at-requires-in-loop-at
split_at-requires-in-loop-at c =
    subst (λ n. n ≤ length c.split_at.result.1.now) (sym c.run_len-len.ensures) (prefix_len-le-length (λ (e : AnEntry). is_eq (entry_cmp c.index-rest-0.result e)) c.split_at.result.1.now)

-- the run at the front of the rest
front : (c : goal.In_ok-push) → Falls c.args.sums.now c.index-rest-0.result c.run_len-len.result c.split_at.result.1.now
front c =
    let es = c.split_at.result.1.now in
    let first : slice_get es 0 ≡ Some c.index-rest-0.result = slice_get_read es (length es) 0 c.index-rest-0.result refl (omega (arith, c.split_at.ensures.back_len)) c.index-rest-0.is in
    falls c.args.sums.now c.index-rest-0.result c.run_len-len.result es first (subst Rises (sym c.split_at.ensures.back) c.loop-at.invariant.rises) c.run_len-len.ensures

pub loop-at-smaller : goal.loop-at-smaller
loop-at-smaller c = omega (arith, (front c).some)

pub loop-at-preserved : goal.loop-at-preserved
loop-at-preserved c =
    let es = c.split_at.result.1.now in
    let n = c.run_len-len.result in
    let back = c.split_at.ensures.back in
    let made = c.in_ok-numbers_of.ensures ∙ ap (numbers_of c.args.sums.now (group_of c.index-rest-0.result)) c.split_at-in-loop-at.ensures.front in
    record {
      within = omega (arith, c.split_at.ensures.back_len, c.run_len-len.ensures, prefix_len-le-length (λ (e : AnEntry). is_eq (entry_cmp c.index-rest-0.result e)) es);
      all = gather_step c.args.sums.now c.args.entries.now es c.loop-at.at n c.index-rest-0.result c.loop-at.groups.items c.push.new.self.items c.in_ok-numbers_of.field-0 back (front c) made c.loop-at.invariant.all c.in_ok-push.ensures.items;
      rises = rises_on c.args.entries.now es c.loop-at.at n back (front c).rest;
    }
