use Rattle.std.proofs.Common.{Bool, sym, ap}
use Rattle.prove_facts.specs.model_prove.specs.Steps as steps
use Rattle.prove_spots.specs.Grounds.{spot_of}
use Rattle.prove_spots.proofs.SpotLemmas.{done_from}
use Rattle.prove_spots.proofs.spot.Spot.called_if.Goals as goal

pub returns : goal.returns
returns c =
    let old = c.args.self.now in
    done_from c.called.result c.called.new.self old old (steps.called c.args.to) (steps.called_if c.args.taken c.args.to)
    (λ s a. ap (λ (b : Bool). steps.called_if b c.args.to (spot_of s a old)) (sym c.if-not-taken.false)) c.called.ensures
