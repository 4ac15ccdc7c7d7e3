use Rattle.lv_trials.proofs.claims.a_step_that_is_given_up_is_fetched_again.Given as goal

abbrev pub ghosts-is_fetched_again_there : goal.ghosts-is_fetched_again_there
ghosts-is_fetched_again_there g a = record { name = a.blank.name; parts = a.blank.parts }
