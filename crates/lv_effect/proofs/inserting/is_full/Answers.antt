use Rattle.std.proofs.Common.{sym, ◌∙◌}
use Rattle.lv_effect.proofs.MostRows.{has_room}
use Rattle.lv_effect.proofs.inserting.is_full.Goals as goal

pub returns-else-could_fill-clause-full : goal.returns-else-could_fill-clause-full
returns-else-could_fill-clause-full g c =
    sym (has_room c.args.table.now c.args.base.now.versions c.args.n c.args.own.now.list c.args.most c.args.more c.requires.most (sym c.could_fill.ensures ∙ c.if-could_fill.false))
