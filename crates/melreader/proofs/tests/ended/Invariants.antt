use Rattle.melreader.proofs.tests.ended.Given as goal

abbrev pub ghosts-over : goal.ghosts-over
ghosts-over a = record { name = a.blank.name; parts = a.blank.parts }
