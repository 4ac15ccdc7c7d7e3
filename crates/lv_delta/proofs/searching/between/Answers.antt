use Rattle.std.proofs.Common.{◌∙◌, ap, filter}
use Rattle.lv_delta.specs.Kept.{is_up_to}
use Rattle.lv_delta.proofs.Searched.{between_is}
use Rattle.lv_delta.proofs.searching.between.Goals as goal

pub returns : goal.returns
returns c =
    c.split_at.ensures.front
    ∙ c.up_to.ensures.front
    ∙ ap (filter (is_up_to c.args.hi)) c.above-rest.ensures.entries
    ∙ between_is c.args.lo c.args.hi c.args.entries.now
