use Rattle.std.specs.Prelude.{[], ◌∷◌, ◌++◌, map}
use Rattle.std.proofs.Common.{◌∙◌, ap}
use Rattle.prove_facts.specs.model_prove.specs.Steps as steps
use Rattle.prove_spots.specs.Grounds.{spot_of}
use Rattle.prove_works.specs.Numbers.{flags_of}
use Rattle.prove_works.proofs.worked.add_worked.Goals as goal

pub returns-in_ok-add_lowered-in-Some : goal.returns-in_ok-add_lowered-in-Some
returns-in_ok-add_lowered-in-Some c e s a =
    c.in_ok-add_lowered-in-Some.ensures s a
    ∙ ap (λ (p : steps.Spot). map (spot_of s a) c.args.spots.now.items ++ steps.lowered c.args.dt (steps.flagged c.args.digitwise.now.carries (flags_of c.args.way.now.c c.args.way.now.z) p) ∷ [])
    ((rw c.in-Some.is at c.in_ok-after.ensures) s a)
