use Rattle.std.proofs.Common.{List, sym, subst}
use Rattle.lv_schema.specs.declared.action.Action.{Action}
use Rattle.lv_base.specs.Bases.{CanCommit}
use Rattle.lv_base.proofs.base.Base.prepare.Goals as goal

pub prepare_moved-requires : goal.prepare_moved-requires
prepare_moved-requires c = subst (λ (actions : List Action). CanCommit c.args.self.now actions) (sym c.in_ok-copies.ensures) c.requires
