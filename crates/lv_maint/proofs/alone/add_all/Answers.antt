use Rattle.std.proofs.Common.{◌≡◌, ◌+◌, List, [], ◌++◌, length, take, sym, ap, subst, arith}
use Rattle.std.proofs.lemmas.List.{take_all}
use Rattle.lv_schema.specs.declared.signed.SignedRow.{SignedRow}
use Rattle.lv_join.specs.Ties.{seen}
use Rattle.lv_maint.specs.Alone.{came, went}
use Rattle.lv_maint.specs.Runs.{AddsUpTo}
use Rattle.lv_maint.proofs.Runs.{nothing_stands}
use Rattle.lv_maint.proofs.alone.add_all.Goals as goal

pub loop-place-init : goal.loop-place-init
loop-place-init c =
    let e = c.args.entries.now in
    record {
      one = ap length c.in_ok-tuple.ensures;
      kept = subst (λ (l : List SignedRow). AddsUpTo (length e.sums.now) l []) (sym c.requires) (nothing_stands (length e.sums.now));
    }

pub loop-place-preserved : goal.loop-place-preserved
loop-place-preserved c =
    let e = c.args.entries.now in
    let place = c.loop-place.place in
    record {
      one = c.add_gained.ensures.one;
      kept = c.in_ok-add_gained.ensures.kept (went e.keys.now e.sums.now c.args.cond.now (seen (take (place + 1) c.args.minus.now)))
          (c.in_ok-add_lost.ensures.kept (came e.keys.now e.sums.now c.args.cond.now (seen (take place c.args.plus.now))) c.loop-place.invariant.kept);
    }

pub returns : goal.returns
returns c =
    let e = c.args.entries.now in
    let end = c.loop-place.place in
    let minus : take end c.args.minus.now ≡ c.args.minus.now = take_all end c.args.minus.now (omega (arith, c.loop-place-test.false)) in
    let plus : take end c.args.plus.now ≡ c.args.plus.now = take_all end c.args.plus.now (omega (arith, c.loop-place-test.false)) in
    subst (AddsUpTo (length e.sums.now) c.loop-place.kept.items) (λ i. came e.keys.now e.sums.now c.args.cond.now (seen (plus i)) ++ went e.keys.now e.sums.now c.args.cond.now (seen (minus i)))
    c.loop-place.invariant.kept
