use Rattle.mc_card_tests.proofs.machines.table.ended.Given as goal

abbrev pub ghosts-lone : goal.ghosts-lone
ghosts-lone a = record { name = a.blank.name; parts = a.blank.parts }
