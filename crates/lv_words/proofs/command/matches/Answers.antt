use Rattle.std.proofs.Common.{ap, map, ◌≡◌, true, IfOk, subst}
use Rattle.std.proofs.lemmas.Result.{IfOk-weaker}
use Rattle.clap.specs.Simple.{App, app_of, is_simple, matches_of}
use Rattle.clap.specs.Faults.{fault_of, is_simple_and_free}
use Rattle.clap.specs.Kinds.{FailsBy}
use Rattle.clap.specs.Matches.{found_of}
use Rattle.clap.specs.Walk.{rows_of}
use Rattle.lv_words.proofs.command.matches.Goals as goal

pub returns-clause-kinds : goal.returns-clause-kinds
returns-clause-kinds c =
    subst (λ (a : App). FailsBy (fault_of a (map (λ w. w.now) c.args.words.now)) c.try_get_matches_from.result) c.in_ok-line.ensures
    (c.try_get_matches_from.ensures.kinds (ap is_simple_and_free c.in_ok-line.ensures))

pub returns-clause-rows : goal.returns-clause-rows
returns-clause-rows c =
    let simple : is_simple (app_of c.in_ok-line.line) ≡ true = ap is_simple c.in_ok-line.ensures in
    subst (λ (a : App). IfOk c.try_get_matches_from.result (λ m. rows_of (found_of m) ≡ matches_of a (map (λ w. w.now) c.args.words.now))) c.in_ok-line.ensures
    (IfOk-weaker c.try_get_matches_from.result _ _ (λ m h. (h simple).0) c.try_get_matches_from.ensures.matches)
