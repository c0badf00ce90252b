use Rattle.mc_text_tests.proofs.sweeps.tests.swept.Given as goal

abbrev pub ghosts-counted : goal.ghosts-counted
ghosts-counted a = record { name = a.blank.name; parts = a.blank.parts }
