use Rattle.prove_scenes.proofs.working.prim_work.Goals as goal

pub returns-in-Lookup : goal.returns-in-Lookup
returns-in-Lookup c = rw c.in-Lookup.is (c.search.ensures c.args.args.now)
