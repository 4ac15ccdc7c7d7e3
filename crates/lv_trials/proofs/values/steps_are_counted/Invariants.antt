use Rattle.lv_trials.proofs.values.steps_are_counted.Given as goal

abbrev pub ghosts-ticked_twice : goal.ghosts-ticked_twice
ghosts-ticked_twice a = record { name = a.blank.name; parts = a.blank.parts }
