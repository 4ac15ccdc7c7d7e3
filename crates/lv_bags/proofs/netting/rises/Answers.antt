use Rattle.std.proofs.Common.{◌≡◌, ℕ, ◌-◌, ◌+◌, length, drop, sym, subst, arith}
use Rattle.std.specs.List.{AllByRecursion}
use Rattle.lv_schema.specs.declared.signed.SignedRow.{SignedRow}
use Rattle.lv_bags.specs.Tallies.{IsEntry, Rising}
use Rattle.lv_bags.proofs.Placing.{entry_on}
use Rattle.lv_bags.proofs.netting.rises.Goals as goal

pub loop-at-preserved : goal.loop-at-preserved
loop-at-preserved c =
    let list = c.args.list.now in
    let at = c.loop-at.at - 1 in
    let next : at + 1 ≡ c.loop-at.at = omega (arith, c.loop-at-test.true) in
    record {
      within = omega (arith, c.loop-at.invariant.within);
      rising = c.is_below_next.ensures c.if-not-is_below_next.false (subst (λ (n : ℕ). Rising (drop n list)) (sym next) c.loop-at.invariant.rising);
      entries = entry_on list at c.index-list-at.result (omega (arith, next, c.loop-at.invariant.within)) c.index-list-at.is (λ (s : SignedRow). IsEntry (length s.sums) s) c.is_entry.ensures (subst (λ (n : ℕ). AllByRecursion (λ (s : SignedRow). IsEntry (length s.sums) s) (drop n list)) (sym next) c.loop-at.invariant.entries);
    }
