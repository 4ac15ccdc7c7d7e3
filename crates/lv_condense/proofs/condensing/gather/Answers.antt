use Rattle.std.proofs.Common.{List, ◌++◌, [], refl, ap, ◌∙◌, arith}
use Rattle.std.specs.List.{cons_option}
use Rattle.lv_values.specs.declared.value.Value.{Value}
use Rattle.lv_condense.specs.Touches.{by_key, gained_in, lost_in}
use Rattle.lv_condense.proofs.Runs.{ascends_from, Falls, gather_step, rises_on, run_falls}
use Rattle.lv_condense.proofs.condensing.gather.Given as given
use Rattle.lv_condense.proofs.condensing.gather.Goals as goal

pub loop-at-init : goal.loop-at-init
loop-at-init g c = record {
  within = omega arith;
  lost = ap (λ (l : List (List Value)). l ++ by_key lost_in c.args.touches.now) c.in_ok-net.ensures.lost;
  gained = ap (λ (l : List (List Value)). l ++ by_key gained_in c.args.touches.now) c.in_ok-net.ensures.gained;
  rises = c.requires.rises;
}

pub first_run-len-requires-clause-ascend : goal.first_run-len-requires-clause-ascend
first_run-len-requires-clause-ascend g c = λ up. ascends_from c.args.touches.now c.split_at.result.1.now c.loop-at.at c.split_at.ensures.back (c.requires.ascend up)

pub split_at-requires-in-loop-at : goal.split_at-requires-in-loop-at
split_at-requires-in-loop-at g c =
    (run_falls c.args.touches.now c.split_at.result.1.now c.first_run-len.result c.loop-at.at c.split_at.ensures.back (omega (arith, c.split_at.ensures.back_len)) c.loop-at.invariant.rises c.first_run-len.ensures).within

pub push_run-requires : goal.push_run-requires
push_run-requires g c κs =
    let f = run_falls c.args.touches.now c.split_at.result.1.now c.first_run-len.result c.loop-at.at c.split_at.ensures.back (omega (arith, c.split_at.ensures.back_len)) c.loop-at.invariant.rises c.first_run-len.ensures in
    let some = f.some in
    ((refl, tt), omega (arith, c.split_at-in-loop-at.ensures.front_len, some))

-- the run at the front of the rest
front : (g : given.Over) (c : goal.In_ok-push_run g) → Falls c.first_run-len.result c.split_at.result.1.now
front g c = run_falls c.args.touches.now c.split_at.result.1.now c.first_run-len.result c.loop-at.at c.split_at.ensures.back (omega (arith, c.split_at.ensures.back_len)) c.loop-at.invariant.rises c.first_run-len.ensures

pub loop-at-smaller : goal.loop-at-smaller
loop-at-smaller g c = let some = (front g c).some in omega (arith, some)

pub loop-at-preserved : goal.loop-at-preserved
loop-at-preserved g c =
    let es = c.split_at.result.1.now in
    let n = c.first_run-len.result in
    let back = c.split_at.ensures.back in
    let within = (front g c).within in
    record {
      within = omega (arith, c.split_at.ensures.back_len, within);
      lost = gather_step lost_in c.args.touches.now es c.loop-at.at n (g.G.Gathers.net c.loop-at.net).minus (g.G.Gathers.net c.push_run.new.net).minus back (front g c) c.loop-at.invariant.lost
          (c.in_ok-push_run.ensures.lost ∙ ap (λ r. (g.G.Gathers.net c.loop-at.net).minus ++ cons_option (lost_in r) []) c.split_at-in-loop-at.ensures.front);
      gained = gather_step gained_in c.args.touches.now es c.loop-at.at n (g.G.Gathers.net c.loop-at.net).plus (g.G.Gathers.net c.push_run.new.net).plus back (front g c) c.loop-at.invariant.gained
          (c.in_ok-push_run.ensures.gained ∙ ap (λ r. (g.G.Gathers.net c.loop-at.net).plus ++ cons_option (gained_in r) []) c.split_at-in-loop-at.ensures.front);
      rises = rises_on c.args.touches.now es c.loop-at.at n back (front g c).rest;
    }
