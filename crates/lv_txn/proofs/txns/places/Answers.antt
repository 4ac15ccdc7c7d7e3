use Rattle.std.proofs.Common.{◌∷◌, ◌++◌, [], List, ap, ◌∙◌}
use Rattle.std.specs.Prelude.{Option, None}
use Rattle.std.proofs.lemmas.List.{replicate-append-replicate}
use Rattle.lv_txn.specs.Kept.{TransactionKept}
use Rattle.lv_txn.proofs.txns.places.Goals as goal

pub loop-preserved : goal.loop-preserved
loop-preserved c =
    c.in_ok-push.ensures.added
    ∙ ap (λ (l : List (Option TransactionKept)). l ++ None ∷ []) c.loop.invariant
    ∙ replicate-append-replicate c.loop.counter 1 None
