use Rattle.lv_loading.proofs.commits.may_commit.Given as goal

abbrev pub ghosts-can_act : goal.ghosts-can_act
ghosts-can_act a = record { name = a.blank.name; parts = a.blank.parts }
