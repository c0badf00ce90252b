use Rattle.std.proofs.Common.{ℕ, map, length, ◌-◌, ap, arith}
use Rattle.prove_facts.specs.model_prove.specs.Steps as steps
use Rattle.prove_facts.specs.Sets.{set_of}
use Rattle.prove_spots.specs.Grounds.{spot_of}
use Rattle.prove_spots.proofs.SpotLemmas.{done_from}
use Rattle.prove_spots.proofs.spot.Spot.replaced.Goals as goal

pub returns : goal.returns
returns c =
    let old = c.args.self.now in
    let ss = map set_of c.args.values.now in
    done_from c.written.result c.written.new.self old old (steps.written c.saturating_sub.result ss) (steps.written (old.dt - length c.args.values.now) ss)
    (λ s a. ap (λ (n : ℕ). steps.written n ss (spot_of s a old)) (omega arith)) c.written.ensures
