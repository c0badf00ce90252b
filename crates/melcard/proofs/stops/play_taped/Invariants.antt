use Rattle.melcard.proofs.stops.play_taped.Given as goal

abbrev pub ghosts-over_tape : goal.ghosts-over_tape
ghosts-over_tape a = record { name = a.blank.name; parts = a.blank.parts }
