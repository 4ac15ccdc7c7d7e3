use Rattle.std.proofs.Common.{sym, ap, ◌∙◌}
use Rattle.std.specs.List.{filter_map}
use Rattle.lv_reach.specs.Links.{link_of, links_of}
use Rattle.lv_reach.proofs.LinkLaws.{links-And}
use Rattle.lv_reach.proofs.link.links_of.Goals as goal

pub returns-in-And : goal.returns-in-And
returns-in-And c =
    rw (sym (ap (filter_map link_of) c.as_slice.ensures ∙ sym (links-And c.in-And.parts) ∙ ap links_of (sym c.in-And.is))) c.links_among.ensures
