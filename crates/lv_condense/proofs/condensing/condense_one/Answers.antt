use Rattle.std.proofs.Common.{[], ◌∷◌}
use Rattle.lv_condense.specs.Touches.{by_key, gained_in, lost_in}
use Rattle.lv_condense.proofs.NetByKey.{whole, whole_net}
use Rattle.lv_condense.proofs.condensing.condense_one.Goals as goal

pub returns-clause-condensed : goal.returns-clause-condensed
returns-clause-condensed g c =
    whole g.G.Gathers.net c.gather.result c.args.table.now (c.args.touch.now ∷ []) c.from_ref.result.now (λ i. by_key lost_in (c.from_ref.ensures.value i)) (λ i. by_key gained_in (c.from_ref.ensures.value i)) c.gather.ensures.lost c.gather.ensures.gained

pub returns-clause-net : goal.returns-clause-net
returns-clause-net g c =
    whole_net g.G.Gathers.net c.gather.result c.args.table.now (c.args.touch.now ∷ [])
    (whole g.G.Gathers.net c.gather.result c.args.table.now (c.args.touch.now ∷ []) c.from_ref.result.now (λ i. by_key lost_in (c.from_ref.ensures.value i)) (λ i. by_key gained_in (c.from_ref.ensures.value i)) c.gather.ensures.lost c.gather.ensures.gained)
