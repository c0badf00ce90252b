use Rattle.prove_facts.specs.model_prove.specs.Steps as steps
use Rattle.prove_spots.specs.Grounds.{spot_of}
use Rattle.prove_works.proofs.SpotLemmas.{changed_by}
use Rattle.prove_works.proofs.searched.lowered.Goals as goal

pub returns : goal.returns
returns c s a =
    changed_by (λ p. steps.lowered c.args.dt p) s a (spot_of s a c.lowered.new.self) c.in_ok-after.after c.args.spot.now (c.in_ok-lowered.ensures s a) c.in_ok-after.ensures
