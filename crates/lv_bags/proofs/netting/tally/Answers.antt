use Rattle.std.proofs.Common.{◌≡◌, ℕ, false, [], ◌∷◌, ◌++◌, length, sym, ap, ◌∙◌, subst, append_assoc}
use Rattle.std.specs.List.{AllByRecursion}
use Rattle.std.specs.Ordering.{is_gt}
use Rattle.lv_values.specs.Order.{row_cmp}
use Rattle.lv_schema.specs.declared.signed.SignedRow.{SignedRow}
use Rattle.lv_schema.proofs.ChangeLists.{ARow}
use Rattle.lv_bags.specs.Bags.{HaveSums, width}
use Rattle.lv_bags.specs.Tallies.{put, AtMost, IsEntry, Rising}
use Rattle.lv_bags.proofs.AddedUp.{tally_rises, tally_rows, tally_has_sums, tallied_last}
use Rattle.lv_bags.proofs.Placing.{climbs_from_sorted, most_before, one_of}
use Rattle.lv_bags.proofs.Tallies.{entries_of_width, tallied_more, tallied_rising}
use Rattle.lv_bags.proofs.netting.tally.Goals as goal

pub returns-then-rises : goal.returns-then-rises
returns-then-rises c =
    let sorted = c.args.sorted.items in
    sym (tallied_rising (width sorted) sorted (subst Rising c.deref.ensures.value (c.rises.ensures.rising c.if-rises.true)) (entries_of_width (width sorted) sorted c.requires.sums (subst (AllByRecursion (λ (s : SignedRow). IsEntry (length s.sums) s)) c.deref.ensures.value (c.rises.ensures.entries c.if-rises.true))))

pub put_last-requires-clause-rising : goal.put_last-requires-clause-rising
put_last-requires-clause-rising c =
    subst Rising (sym c.loop-s.invariant.out) (tally_rises (width c.args.sorted.items) c.loop-s.yielded)

pub put_last-requires-clause-most : goal.put_last-requires-clause-most
put_last-requires-clause-most c =
    let sorted = c.args.sorted.items in
    let s = c.in-Some.s in
    let all : c.loop-s.yielded ++ s ∷ c.next.new.self.rest.items ≡ sorted = ap (λ l. c.loop-s.yielded ++ l) (sym c.in-Some.ensures.steps.0) ∙ c.loop-s.invariant.all in
    subst (AtMost s.row) (sym c.loop-s.invariant.out)
    (tally_rows (λ (q : ARow). is_gt (row_cmp q s.row) ≡ false) (width sorted) c.loop-s.yielded
    (most_before sorted c.loop-s.yielded s c.next.new.self.rest.items all (climbs_from_sorted sorted c.requires.sorted)))

pub put_last-requires-clause-sums : goal.put_last-requires-clause-sums
put_last-requires-clause-sums c =
    let sorted = c.args.sorted.items in
    let s = c.in-Some.s in
    let all : c.loop-s.yielded ++ s ∷ c.next.new.self.rest.items ≡ sorted = ap (λ l. c.loop-s.yielded ++ l) (sym c.in-Some.ensures.steps.0) ∙ c.loop-s.invariant.all in
    let wide : length s.sums ≡ width sorted = one_of (λ (r : SignedRow). length r.sums ≡ width sorted) sorted c.loop-s.yielded s c.next.new.self.rest.items all c.requires.sums in
    subst (λ (m : ℕ). HaveSums m c.loop-s.out.items) (sym wide)
    (subst (HaveSums (width sorted)) (sym c.loop-s.invariant.out) (tally_has_sums (width sorted) c.loop-s.yielded))

pub loop-s-preserved : goal.loop-s-preserved
loop-s-preserved c =
    let sorted = c.args.sorted.items in
    let s = c.in-Some.s in
    let n = width sorted in
    let all : c.loop-s.yielded ++ s ∷ c.next.new.self.rest.items ≡ sorted = ap (λ l. c.loop-s.yielded ++ l) (sym c.in-Some.ensures.steps.0) ∙ c.loop-s.invariant.all in
    let wide : length s.sums ≡ n = one_of (λ (r : SignedRow). length r.sums ≡ n) sorted c.loop-s.yielded s c.next.new.self.rest.items all c.requires.sums in
    let entry : IsEntry n s = subst (λ (m : ℕ). IsEntry m s) wide c.is_entry.ensures in
    record {
      all = append_assoc c.loop-s.yielded (s ∷ []) c.next.new.self.rest.items ∙ all;
      out = c.in_ok-put_last.ensures ∙ ap (put s) c.loop-s.invariant.out ∙ sym (tallied_last n c.loop-s.yielded s ∙ tallied_more n s c.loop-s.yielded entry);
    }
