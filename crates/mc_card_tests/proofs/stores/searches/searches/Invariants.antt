use Rattle.mc_card_tests.proofs.stores.searches.searches.Given as goal

abbrev pub ghosts-reads_over : goal.ghosts-reads_over
ghosts-reads_over a = record { name = a.blank.name; parts = a.blank.parts }
