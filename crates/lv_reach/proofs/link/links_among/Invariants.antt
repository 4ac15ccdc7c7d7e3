use Rattle.std.proofs.Common.{◌≡◌, take}
use Rattle.std.specs.List.{filter_map}
use Rattle.lv_reach.specs.Links.{link_of}
use Rattle.lv_reach.proofs.link.links_among.Given as goal

abbrev pub invariant-loop-cond : goal.invariant-loop-cond
invariant-loop-cond l = l.links ≡ filter_map link_of (take l.cond-index l.conds)
