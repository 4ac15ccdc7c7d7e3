use Rattle.lv_plain.specs.Legal.{begun}
use Rattle.lv_order.proofs.Counting.{places_from}
use Rattle.lv_order.proofs.laws.places_after_events.Goals as goal

pub returns : goal.returns
returns c = λ rules w es. places_from rules (begun rules w) es
