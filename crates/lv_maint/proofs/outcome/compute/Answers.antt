use Rattle.std.proofs.Common.{sym, subst}
use Rattle.lv_maint.specs.Inputs.{AreOfTables}
use Rattle.lv_maint.proofs.Balance.{of_tables}
use Rattle.lv_maint.proofs.outcome.compute.Goals as goal

pub difference-requires : goal.difference-requires
difference-requires c = subst AreOfTables (sym c.parts.ensures.parts) (of_tables c.args.input.def c.args.input.parts c.parts.ensures.fit)
