use Rattle.std.proofs.Common.{◌∙◌, ap}
use Rattle.prove_facts.specs.model_prove.specs.Steps as steps
use Rattle.prove_spots.specs.Grounds.{spot_of}
use Rattle.prove_works.specs.Numbers.{flags_of}
use Rattle.prove_works.proofs.SpotLemmas.{one_more}
use Rattle.prove_works.proofs.worked.add_lowered.Goals as goal

pub returns : goal.returns
returns c s a =
    one_more (spot_of s a) c.args.spots.now.items c.push.new.list.items c.lowered.new.self
    (steps.lowered c.args.dt (steps.flagged c.args.carries (flags_of c.args.c c.args.z) (spot_of s a c.args.spot)))
    c.in_ok-push.ensures
    (c.in_ok-lowered.ensures s a ∙ ap (λ (p : steps.Spot). steps.lowered c.args.dt p) (c.flagged.ensures s a))
