use Rattle.lv_runner.proofs.opening.open_and_run.Given as goal

abbrev pub ghosts-run_on : goal.ghosts-run_on
ghosts-run_on a b = record { name = b.blank.name; parts = b.blank.parts }
