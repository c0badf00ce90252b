use Rattle.prove_facts.specs.model_prove.specs.Steps as steps
use Rattle.prove_spots.specs.Grounds.{spot_of}
use Rattle.prove_works.proofs.SpotLemmas.{alone}
use Rattle.prove_works.proofs.coarse.pushing.Goals as goal

pub returns-in_ok-one-in-Some : goal.returns-in_ok-one-in-Some
returns-in_ok-one-in-Some c s a =
    alone (spot_of s a) c.in_ok-one-in-Some.field-0.items c.in-Some.after (steps.pushed (steps.any_bytes c.args.n) (spot_of s a c.args.spot.now))
    c.in_ok-one-in-Some.ensures ((rw c.in-Some.is at c.in_ok-after.ensures) s a)
