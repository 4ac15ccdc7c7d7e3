use Rattle.std.proofs.Common.{rules, ◌≡◌, ◌∙◌, ap, sym, map, true}
use Rattle.std.specs.List.{list_all}
use Rattle.lv_words.specs.Line.{is_fit}
use Rattle.lv_words.proofs.Reading.{accepted_is_said, refused_is_said, unfit_is_refused}
use Rattle.lv_words.proofs.words.read_words.Goals as goal

pub returns-then-not-are_fit-clause-refused : goal.returns-then-not-are_fit-clause-refused
returns-then-not-are_fit-clause-refused c = λ _. unfit_is_refused c.args.words.now (sym c.are_fit.ensures ∙ search rules)

pub returns-in-Ok-clause-accepted : goal.returns-in-Ok-clause-accepted
returns-in-Ok-clause-accepted c =
    let fit : list_all is_fit c.args.words.now ≡ true = sym c.are_fit.ensures ∙ search rules in
    accepted_is_said (map (λ w. w.now) c.as_slice.result.now) c.args.words.now c.read.result
    (ap (map (λ w. w.now)) c.as_slice.ensures.value ∙ c.in-Ok.ensures) fit c.read.ensures.accepted

pub returns-in-Ok-clause-refused : goal.returns-in-Ok-clause-refused
returns-in-Ok-clause-refused c = λ e.
    let fit : list_all is_fit c.args.words.now ≡ true = sym c.are_fit.ensures ∙ search rules in
    refused_is_said (map (λ w. w.now) c.as_slice.result.now) c.args.words.now
    (ap (map (λ w. w.now)) c.as_slice.ensures.value ∙ c.in-Ok.ensures) fit (c.read.ensures.refused e)
