use Rattle.std.proofs.Common.{[], sym, ap, ◌∙◌}
use Rattle.lv_reach.specs.Reach.{with_old}
use Rattle.lv_reach.specs.Walk.{put_all}
use Rattle.lv_reach.proofs.Walking.{changed_rows_are, found_is, reach_is, walk_starts}
use Rattle.lv_reach.proofs.walk.reach_of.Goals as goal

pub walk-requires-clause-starts : goal.walk-requires-clause-starts
walk-requires-clause-starts g c =
    let rows = g.S.OldRows.rows c.args.source.now in
    let parts = c.args.parts.now in
    walk_starts c.args.links.now (with_old rows parts) c.put_all.new.self
    (c.in_ok-put_all.ensures ∙ (λ i. put_all (c.in_ok-changed_rows.ensures i) (c.new-near.ensures i)) ∙ ap (λ l. put_all l []) (sym (changed_rows_are rows parts)))

pub returns-clause-reach : goal.returns-clause-reach
returns-clause-reach g c =
    reach_is c.args.links.now (g.S.OldRows.rows c.args.source.now) c.args.parts.now c.put_all.new.self c.walk.new.near c.in_ok-far.far
    (c.in_ok-put_all.ensures ∙ (λ i. put_all (c.in_ok-changed_rows.ensures i) (c.new-near.ensures i))) c.in_ok-walk.ensures.walked c.in_ok-far.ensures

pub returns-clause-found : goal.returns-clause-found
returns-clause-found g c =
    found_is c.args.links.now (g.S.OldRows.rows c.args.source.now) c.args.parts.now c.put_all.new.self c.walk.new.near c.len-changed.result
    (c.in_ok-put_all.ensures ∙ (λ i. put_all (c.in_ok-changed_rows.ensures i) (c.new-near.ensures i))) c.in_ok-walk.ensures.walked c.len-changed.ensures.len
