use Rattle.mc_card_tests.proofs.machines.table.goes.Given as goal

abbrev pub ghosts-wrong_at : goal.ghosts-wrong_at
ghosts-wrong_at a = record { name = a.blank.name; parts = a.blank.parts }
