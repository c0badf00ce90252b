use Rattle.mc_card_tests.proofs.managers.tests.pieces_and_room.Given as goal

abbrev pub ghosts-first_missing : goal.ghosts-first_missing
ghosts-first_missing g a = record { name = a.blank.name; parts = a.blank.parts }
