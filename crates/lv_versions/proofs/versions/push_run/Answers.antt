use Rattle.std.proofs.Common.{◌+◌, ◌++◌, ◌∷◌, [], length, length-append, drop, sym, ap, ◌∙◌, arith}
use Rattle.std.proofs.lemmas.List.{append-nil, at_drop_all}
use Rattle.lv_shelf.proofs.Cutting.{got_within}
use Rattle.lv_versions.specs.Versions.{state_at}
use Rattle.lv_versions.proofs.Finding.{seen, shown_step}
use Rattle.lv_versions.proofs.versions.push_run.Goals as goal

pub loop-i-preserved : goal.loop-i-preserved
loop-i-preserved g c =
    let n = c.args.n in
    let i = c.loop-i.i in
    let run = c.args.run.now in
    let v = c.get.result.now in
    let within = got_within run i v c.get.ensures in
    let more = shown_step n i (seen c.loop-i.rows.items) v run within c.get.ensures in
    let shown = ap length (shown_step n i [] v run within c.get.ensures) in
    let both = length-append (state_at n (v ∷ [])) (state_at n (drop (i + 1) run)) in
    record {
      rows = ap (λ l. l ++ state_at n (drop (i + 1) run)) c.push_shown.ensures.pushed ∙ more ∙ c.loop-i.invariant.rows;
      cost = omega (arith, c.push_shown.ensures.cost, c.loop-i.invariant.cost, shown, both);
      len = omega (arith, c.push_shown.ensures.len, c.loop-i.invariant.len);
      capacity = c.push_shown.ensures.capacity ∙ c.loop-i.invariant.capacity;
    }

pub returns-clause-pushed : goal.returns-clause-pushed
returns-clause-pushed g c =
    let rows = seen c.loop-i.rows.items in
    let none = at_drop_all (state_at c.args.n) c.args.run.now c.loop-i.i (omega (arith, c.loop-i-test.false, c.len-i-end.ensures)) in
    sym (append-nil rows) ∙ sym (ap (λ l. rows ++ l) none) ∙ c.loop-i.invariant.rows

pub returns-clause-cost : goal.returns-clause-cost
returns-clause-cost g c =
    let none = ap length (at_drop_all (state_at c.args.n) c.args.run.now c.loop-i.i (omega (arith, c.loop-i-test.false, c.len-i-end.ensures))) in
    omega (arith, none, c.loop-i.invariant.cost)
