use Rattle.std.proofs.Common.{◌+◌, List, length, filter, map, refl, sym, ap, ◌∙◌, length-append, arith}
use Rattle.lv_reach.specs.declared.rows.AliasRow.{AliasRow}
use Rattle.lv_reach.specs.Reach.{agree, of_alias}
use Rattle.lv_reach.specs.Walk.{put_all, rows_below}
use Rattle.lv_reach.proofs.Questioning.{ask_next, put_append, put_at}
use Rattle.lv_reach.proofs.Walking.{below, below_next, fails_below, one_at}
use Rattle.lv_reach.proofs.walk.visit.Goals as goal

pub ask_alias-requires-clause-at : goal.ask_alias-requires-clause-at
ask_alias-requires-clause-at g c =
    let rows = g.S.OldRows.rows c.args.source.now in
    let a = one_at c.args.near.now c.args.at c.requires.at in
    let more = filter (agree c.args.links.now a.0) (rows_below rows c.loop-alias.alias) in
    below c.loop-alias.near c.args.at a.0 (put_at more c.args.near.now c.loop-alias.near c.args.at a.0 (c.loop-alias.invariant.near a.0 a.1) a.1)

pub returns-in_err-ask_alias-clause-most : goal.returns-in_err-ask_alias-clause-most
returns-in_err-ask_alias-clause-most g c = λ a at.
    let rows = g.S.OldRows.rows c.args.source.now in
    let more = filter (agree c.args.links.now a) (rows_below rows c.loop-alias.alias) in
    let here = put_at more c.args.near.now c.loop-alias.near c.args.at a (c.loop-alias.invariant.near a at) at in
    fails_below rows (agree c.args.links.now a) c.loop-alias.alias c.args.count c.args.steps.now c.loop-alias.steps c.ask_alias.new.steps c.loop-alias-test.true (c.loop-alias.invariant.most a at) (c.ask_alias.ensures.most a here)

pub loop-alias-preserved : goal.loop-alias-preserved
loop-alias-preserved g c =
    let links = c.args.links.now in
    let rows = g.S.OldRows.rows c.args.source.now in
    let n = c.loop-alias.alias in
    record {
      asked = λ a at.
          let here = put_at (filter (agree links a) (rows_below rows n)) c.args.near.now c.loop-alias.near c.args.at a (c.loop-alias.invariant.near a at) at in
          ask_next links a n (n + 1) c.args.asked.now c.loop-alias.asked c.ask_alias.new.asked refl (c.loop-alias.invariant.asked a at) (c.in_ok-ask_alias.ensures.asked a here);
      near = λ a at.
          let more = filter (agree links a) (rows_below rows n) in
          let most = filter (agree links a) (map (of_alias n) (rows n)) in
          let here = put_at more c.args.near.now c.loop-alias.near c.args.at a (c.loop-alias.invariant.near a at) at in
          c.in_ok-ask_alias.ensures.near a here ∙ ap (put_all most) (c.loop-alias.invariant.near a at) ∙ sym (put_append more most c.args.near.now)
          ∙ ap (λ l. put_all l c.args.near.now) (sym (below_next rows (agree links a) n (n + 1) refl));
      answered = c.in_ok-ask_alias.ensures.answered;
      cost = omega (arith, c.loop-alias.invariant.cost, c.in_ok-ask_alias.ensures.cost);
      most = λ a at.
          let more = filter (agree links a) (rows_below rows n) in
          let here = put_at more c.args.near.now c.loop-alias.near c.args.at a (c.loop-alias.invariant.near a at) at in
          let long = ap (λ (l : List AliasRow). length l) (below_next rows (agree links a) n (n + 1) refl) ∙ length-append more (filter (agree links a) (map (of_alias n) (rows n))) in
          omega (arith, c.loop-alias.invariant.most a at, c.ask_alias.ensures.most a here, long);
    }
