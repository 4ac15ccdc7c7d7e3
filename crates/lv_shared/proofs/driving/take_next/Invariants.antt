use Rattle.lv_shared.proofs.driving.take_next.Given as goal

-- the call names a ledger of its own
abbrev pub ghosts-take : goal.ghosts-take
ghosts-take g a = record { name = a.blank.name; parts = a.blank.parts }
