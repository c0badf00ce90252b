use Rattle.mc_card_tests.proofs.stores.migrations.stopped_migrations.Given as goal

abbrev pub ghosts-first_stops : goal.ghosts-first_stops
ghosts-first_stops g a = record { name = a.blank.name; parts = a.blank.parts }
