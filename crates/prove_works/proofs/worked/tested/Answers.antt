use Rattle.std.proofs.Common.{◌∙◌, ap}
use Rattle.prove_facts.specs.model_prove.specs.Compares.{Compare}
use Rattle.prove_facts.specs.model_prove.specs.Steps as steps
use Rattle.prove_scenes.specs.Works.{digitwise_value}
use Rattle.prove_spots.specs.Grounds.{spot_of}
use Rattle.prove_works.specs.Numbers.{flags_of}
use Rattle.prove_works.specs.Rows.{narrowed_spot}
use Rattle.prove_works.proofs.worked.tested.Goals as goal

pub returns-in_ok-compared-in-Some : goal.returns-in_ok-compared-in-Some
returns-in_ok-compared-in-Some c s a =
    c.in_ok-compared-in-Some.ensures s a
    ∙ ap (λ (k : Compare). narrowed_spot c.args.facts k (spot_of s a c.args.spot.now))
    (c.in-Some.ensures
    ∙ ap (λ (k : Compare). steps.compare_after (digitwise_value c.args.digitwise.now) (flags_of c.args.way.now.c c.args.way.now.z) k) c.last.ensures)
