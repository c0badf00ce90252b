use Rattle.prove_scenes.proofs.coarse_rows.prim_coarse_shape.Goals as goal

pub returns-in-DelegatorAid : goal.returns-in-DelegatorAid
returns-in-DelegatorAid c = λ k. rw c.in-DelegatorAid.is (c.reports.ensures c.args.args.now k)
