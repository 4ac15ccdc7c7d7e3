use Rattle.std.proofs.Common.{◌≡◌, ◌∙◌}
use Rattle.std.proofs.lemmas.Result.{IfOk-weaker}
use Rattle.lv_schema.specs.Tasks.{pending_tasks}
use Rattle.lv_upkeep.specs.Kept.{tasks_in}
use Rattle.lv_store.specs.Kept.{kept, store_of}
use Rattle.lv_store.proofs.store.Store.tasks.Goals as goal

pub returns : goal.returns
returns c = λ w is.
    IfOk-weaker c.tasks.result (λ list. list ≡ tasks_in c.args.self.now.upkeep.kept) (λ list. list ≡ pending_tasks w)
    (λ list e. e ∙ c.upkeep_is_told_from_what_is_kept.ensures.tasks w (kept w.upkeep.journal (store_of c.args.self.now)) is) c.tasks.ensures
