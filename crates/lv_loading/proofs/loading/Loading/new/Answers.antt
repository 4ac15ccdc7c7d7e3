use Rattle.std.proofs.Common.{[], ap, map}
use Rattle.lv_schema.specs.Catalog.{Catalog}
use Rattle.lv_base.specs.Bases.{kept_of}
use Rattle.lv_loading.specs.Taking.{kept_in}
use Rattle.lv_loading.proofs.Opened.{loads_nothing}
use Rattle.lv_loading.proofs.loading.Loading.new.Goals as goal

pub invariant_of-result : goal.invariant_of-result
invariant_of-result c =
    let made = c.new-2.ensures in (
      [],
      loads_nothing (kept_in (record { schema = c.new.result; base = c.new-2.result; upkeep = c.new-3.result })) (ap (λ (s : Catalog). s.tables) c.new.ensures) (ap (λ (s : Catalog). s.views) c.new.ensures)
          (λ i. record { tables = map kept_of (made.tables i); entries = made.entries i; number = made.number i; pruned = made.pruned i }) c.new-3.ensures,
    )

pub returns : goal.returns
returns c =
    let made = c.new-2.ensures in
    loads_nothing (kept_in (record { schema = c.new.result; base = c.new-2.result; upkeep = c.new-3.result })) (ap (λ (s : Catalog). s.tables) c.new.ensures) (ap (λ (s : Catalog). s.views) c.new.ensures)
    (λ i. record { tables = map kept_of (made.tables i); entries = made.entries i; number = made.number i; pruned = made.pruned i }) c.new-3.ensures
