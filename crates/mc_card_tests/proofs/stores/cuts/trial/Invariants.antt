use Rattle.mc_card_tests.proofs.stores.cuts.trial.Given as goal

abbrev pub ghosts-try_case : goal.ghosts-try_case
ghosts-try_case a = record { name = a.blank.name; parts = a.blank.parts }
