use Rattle.mc_card_tests.proofs.stores.heap.words_after.Given as goal

abbrev pub ghosts-played : goal.ghosts-played
ghosts-played a = record { name = a.blank.name; parts = a.blank.parts }
