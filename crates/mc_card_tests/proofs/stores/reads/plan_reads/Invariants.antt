use Rattle.mc_card_tests.proofs.stores.reads.plan_reads.Given as goal

abbrev pub ghosts-plans_over : goal.ghosts-plans_over
ghosts-plans_over a = record { name = a.blank.name; parts = a.blank.parts }
