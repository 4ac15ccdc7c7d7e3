use Rattle.std.proofs.Common.{ℕ, List, Option, subst}
use Rattle.std.specs.Prelude.{IfOk}
use Rattle.lv_schema.specs.declared.rec.Rec.{Rec}
use Rattle.lv_recover.specs.Reopened.{IsMadeOf}
use Rattle.lv_recover.proofs.opening.load.Goals as goal

pub returns-in-Ok-clause-made : goal.returns-in-Ok-clause-made
returns-in-Ok-clause-made g c =
    subst (λ (told : Option (List ℕ)). IfOk c.finish.result (λ e. (recs : List Rec) × IsMadeOf g.D.Disk.seen g.D.Disk.may_leave told recs e)) c.read_all.ensures.bytes c.finish.ensures.made
