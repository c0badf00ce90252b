use Rattle.mc_card_tests.proofs.stores.heap.stands_after.Given as goal

abbrev pub ghosts-left_by : goal.ghosts-left_by
ghosts-left_by a = record { name = a.blank.name; parts = a.blank.parts }
