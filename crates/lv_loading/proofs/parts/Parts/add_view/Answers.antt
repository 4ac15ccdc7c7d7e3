use Rattle.std.proofs.Common.{sym, subst}
use Rattle.lv_schema.specs.Catalog.{Catalog}
use Rattle.lv_schema.specs.Bound.{IsBoundView}
use Rattle.lv_loading.proofs.parts.Parts.add_view.Goals as goal

pub add_view-requires-2-clause-bound : goal.add_view-requires-2-clause-bound
add_view-requires-2-clause-bound c = subst (λ (s : Catalog). IsBoundView s.tables s.views c.args.def) (sym c.in_ok-reserve.ensures.reserved) c.requires.bound
