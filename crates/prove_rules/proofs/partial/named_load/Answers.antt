use Rattle.prove_rules.proofs.partial.named_load.Goals as goal

pub returns-in-Some-clause-load : goal.returns-in-Some-clause-load
returns-in-Some-clause-load c = (c.in-Some.found.aid, c.in-Some.is)
