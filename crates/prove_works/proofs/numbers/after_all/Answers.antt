use Rattle.prove_works.proofs.NumberLemmas.{two_after, pair_is}
use Rattle.prove_works.proofs.numbers.after_all.Goals as goal

pub returns-in-Some : goal.returns-in-Some
returns-in-Some c =
    pair_is _ _ _ _ (two_after c.args.n c.greatest-most.result c.in-Some.low c.greatest-most.ensures c.in-Some.ensures.1) c.greatest-most.ensures
