use Rattle.std.proofs.Common.{◌≡◌, ◌-◌, ◌<◌, ℕ, suc, [], drop, filter, length, sym, subst, ◌∙◌, arith}
use Rattle.std.specs.Prelude.{None}
use Rattle.lv_delta.specs.Kept.{writes_key}
use Rattle.lv_delta.proofs.Searched.{last_found}
use Rattle.lv_delta.proofs.searching.last_writer.Goals as goal

pub returns-then-writes_key : goal.returns-then-writes_key
returns-then-writes_key c =
    let p = writes_key c.args.table.now c.args.key.now in
    let entries = c.args.entries.now in
    let at = c.loop-at.at in
    let some : 0 < at = c.loop-at-test.true in
    let next : at ≡ suc (at - 1) = omega arith in
    let lt : at - 1 < length entries = omega (arith, c.loop-at.invariant.within) in
    sym (last_found p None entries (at - 1) c.index-entries-at.result lt c.index-entries-at.is (sym c.writes_key.ensures ∙ c.if-writes_key.true)
    (subst (λ (n : ℕ). filter p (drop n entries) ≡ []) next c.loop-at.invariant.none))
