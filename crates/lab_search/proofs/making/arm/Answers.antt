use Rattle.lab_search.proofs.making.arm.Goals as goal

pub returns-in-Cut-clause-steady : goal.returns-in-Cut-clause-steady
returns-in-Cut-clause-steady g c counts s at steady fails = (c.arm_cut.ensures.plays s 0 at steady fails).steady
