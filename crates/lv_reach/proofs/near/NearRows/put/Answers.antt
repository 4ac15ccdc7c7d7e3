use Rattle.std.proofs.Common.{ap, ◌∙◌}
use Rattle.lv_schema.specs.Once.{are_apart}
use Rattle.lv_reach.specs.Reach.{alike}
use Rattle.lv_reach.specs.Walk.{put_behind}
use Rattle.lv_reach.proofs.Walking.{apart_behind, eq_alike, put_is}
use Rattle.lv_reach.proofs.near.NearRows.put.Goals as goal

pub returns-clause-put : goal.returns-clause-put
returns-clause-put c = c.in_ok-insert.ensures.keys ∙ put_is _ eq_alike c.args.row c.self.inside.rows.keys ∙ ap (put_behind c.args.row) c.self.view_is

pub invariant_of-self-2 : goal.invariant_of-self-2
invariant_of-self-2 c = ap (are_apart alike) (c.in_ok-insert.ensures.keys ∙ put_is _ eq_alike c.args.row c.self.inside.rows.keys) ∙ apart_behind c.args.row c.self.inside.rows.keys c.self.invariant
